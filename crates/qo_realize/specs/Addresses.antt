-- For a law alone. The address of a device is the one at which the guest finds it.
use Rattle.std.specs.Prelude.{◌≡◌, ℕ, true, Some}
use Rattle.qo_buses.specs.Addresses.{addressed}
use Rattle.qo_model.specs.Board.{Board}
use Rattle.qo_sound_devices.specs.SoundPlaces.{stands}
use Rattle.qo_realize.specs.Guest.{address_of}
use Rattle.qo_realize.specs.SoundBoard.{SoundBoard}

-- on a sound board, of a device that stands in a container
abbrev pub AddressLaw : Type 0
AddressLaw = (b : Board) → SoundBoard b → (d : ℕ) → stands b d ≡ true → addressed b (address_of b d) ≡ Some d
