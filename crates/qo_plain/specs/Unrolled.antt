-- For a law alone. What goes over objects to a bounded depth, said without a bound: each is what its step says of itself.
use Rattle.std.specs.Prelude.{◌≡◌, ℕ, suc, Bool, true, false, ◌||◌, [], ◌∷◌, ◌++◌, codes, Option, Some, None}
use Rattle.std.specs.List.{flat_map}
use Rattle.std.specs.Option.{option_map_or}
use Rattle.qo_model.specs.Board.{Board, is_pending}
use Rattle.qo_model.specs.Clocks.{clocks_below, fed_by}
use Rattle.qo_model.specs.Devices.{bridge_of, bus_above, bus_of, buses_of, depth_of, is_going, kids_of}
use Rattle.qo_model.specs.Paths.{attached, is_of}
use Rattle.qo_model.specs.Reset.{below, post}
use Rattle.qo_model.specs.Unplug.{each, unrealize, unrealized_bus, unrealized_device}
use Rattle.qo_sound_devices.specs.SoundDevices.{SoundDevices}
use Rattle.qo_sound_clocks.specs.SoundClocks.{SoundClocks}

-- how many bridges stand above a bus, by those above the bus that its bridge is on
abbrev pub depth_under : (ℕ → ℕ) → Option ℕ → ℕ
depth_under depth None = 0
depth_under depth (Some above) = suc (depth above)

-- whether a removal is pending of a bridge, or of one above the bus that it is on
abbrev pub going_under : Board → (ℕ → Bool) → Option ℕ → Bool
going_under b going None = false
going_under b going (Some d) = is_pending b d || option_map_or going (bus_of b d) false

-- how objects of b are unrealized: of a device the kids of each of its buses and then the bus, bus after bus, and last the device itself
pub record Unrealizes (b : Board) : Type 0 where
  pub step : ℕ → Board → Board
  pub is : (d : ℕ) (c : Board)
      → step d c ≡ unrealized_device d (each (λ m. λ e. unrealized_bus m (each step (kids_of b m) e)) (buses_of b d) c)
  pub whole : (d : ℕ) → unrealize b d ≡ step d b

-- on a board that is sound as far as devices go, and as far as its clocks go
pub record UnrolledLaw : Type 0 where
  -- a reset goes over all that is below each of the reset children of an object, and then over the object
  pub post : (b : Board) → SoundDevices b → (o : ℕ) → post b o ≡ flat_map (post b) (below b o) ++ o ∷ []
  -- below a clock are the clocks that go by it, each followed by those below it
  pub clocks : (b : Board) → SoundClocks b → (c : ℕ) → clocks_below b c ≡ flat_map (λ n. n ∷ clocks_below b n) (fed_by b c)
  -- above an attached bus stand the bridge whose bus it is, if it is one's, and those above the bus that this is on
  pub depth : (b : Board) → SoundDevices b → (q : ℕ) → is_of b (codes "bus") q ≡ true → attached b q ≡ true
      → depth_of b q ≡ depth_under (depth_of b) (bus_above b q)
  pub going : (b : Board) → SoundDevices b → (q : ℕ) → is_of b (codes "bus") q ≡ true → attached b q ≡ true
      → is_going b q ≡ going_under b (is_going b) (bridge_of b q)
  -- a device is unrealized with all that is below it
  pub unrealized : (b : Board) → SoundDevices b → Unrealizes b
