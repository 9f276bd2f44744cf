-- A pin changes nothing that is read of devices.
use Rattle.std.proofs.Common.{◌≡◌, refl, ap, ℕ, false, List, Option}
use Rattle.qo_model.proofs.Common.{option_map_or, TypeId, Board, kind_of, bus_of, clock_of, is_realized, is_of, pin, is_a}
use Rattle.qo_sound_devices.specs.SoundPlaces.{child_entries, stands}

module _ (b : Board) (d : ℕ) where
  pub pin-stands : (x : ℕ) → stands (pin b d) x ≡ stands b x
  unfolding pin
  pin-stands x = refl

  pub pin-bus : (x : ℕ) → bus_of (pin b d) x ≡ bus_of b x
  unfolding pin
  pin-bus x = refl

  pub pin-children : (x : ℕ) → child_entries (pin b d) x ≡ child_entries b x
  unfolding pin
  pin-children x = refl

  pub pin-kind : (x : ℕ) → kind_of (pin b d) x ≡ kind_of b x
  unfolding pin
  pin-kind x = refl

  pub pin-of : (name : List ℕ) (x : ℕ) → is_of (pin b d) name x ≡ is_of b name x
  pin-of name x = ap (λ (o : Option TypeId). option_map_or (λ (t : TypeId). is_a t name) o false) (pin-kind x)

  pub pin-realized : (x : ℕ) → is_realized (pin b d) x ≡ is_realized b x
  unfolding pin
  pin-realized x = refl

  pub pin-clock : (x : ℕ) → clock_of (pin b d) x ≡ clock_of b x
  unfolding pin
  pin-clock x = refl
