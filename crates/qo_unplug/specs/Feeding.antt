-- For proofs alone. Which clocks go by those of devices that are unrealized, and which devices may be detached.
use Rattle.std.specs.Prelude.{◌≡◌, ℕ, zero, suc, true, Some}
use Rattle.qo_model.specs.Board.{Board}
use Rattle.qo_model.specs.Clocks.{source_of}
use Rattle.qo_model.specs.Depth.{among}
use Rattle.qo_model.specs.Devices.{buses_of, clock_of, kids_of}
use Rattle.qo_heap.specs.Objects.{Objects}
use Rattle.qo_clocks.specs.Kept.{PeriodsKept}
use Rattle.qo_sound_devices.specs.SoundDevices.{SoundDevices}
use Rattle.qo_sound_devices.specs.SoundPlaces.{stands}
use Rattle.qo_sound_clocks.specs.SoundClocks.{SoundClocks}
use Rattle.qo_sound_bounds.specs.SoundSources.{SoundSources}

-- no clock goes by a clock; nor by that of a device
abbrev pub IsNoSource : ℕ → Board → Type 0
IsNoSource k c = (n : ℕ) → source_of c n ≡ Some k → ⊥

abbrev pub FeedsNone : ℕ → Board → Type 0
FeedsNone d c = (k : ℕ) → clock_of c d ≡ Some k → IsNoSource k c

-- a clock is that of a kid of a bus of a device
pub record IsKidsClock (b : Board) (d n : ℕ) : Type 0 where
  pub bus : ℕ
  pub kid : ℕ
  pub its : among (buses_of b d) bus ≡ true
  pub on : among (kids_of b bus) kid ≡ true
  pub clock : clock_of b kid ≡ Some n

-- who goes by the clock of a device is such a clock
abbrev pub FeedsKids : Board → ℕ → Type 0
FeedsKids b d = (c n : ℕ) → clock_of b d ≡ Some c → source_of b n ≡ Some c → IsKidsClock b d n

-- so it is of a device and of all that is below it, which a depth reaches; of the kids of a bus; and of those of its buses
abbrev pub FeedsWithin : Board → ℕ → ℕ → Type 0
FeedsWithin b zero d = ⊥
FeedsWithin b (suc n) d = FeedsKids b d × ((m k : ℕ) → among (buses_of b d) m ≡ true → among (kids_of b m) k ≡ true → FeedsWithin b n k)

abbrev pub BusFeeds : Board → ℕ → ℕ → Type 0
BusFeeds b levels m = (k : ℕ) → among (kids_of b m) k ≡ true → FeedsWithin b levels k

abbrev pub BusesFeed : Board → ℕ → ℕ → Type 0
BusesFeed b levels d = (m : ℕ) → among (buses_of b d) m ≡ true → BusFeeds b levels m

-- a device stands on a board whose devices and clocks are sound, and the periods that its heap keeps are right
pub record MayDetach (b : Board) (d : ℕ) (v : Objects) : Type 0 where
  pub devices : SoundDevices b
  pub clocks : SoundClocks b
  pub sources : SoundSources b
  pub stood : stands b d ≡ true
  pub kept : PeriodsKept v
