-- For a law alone. How a device that has no buses is taken out, step by step.
use Rattle.std.specs.Prelude.{◌≡◌, ℕ, true, [], Some}
use Rattle.qo_model.specs.Board.{Board}
use Rattle.qo_model.specs.Devices.{buses_of}
use Rattle.qo_model.specs.Paths.{parent_of}
use Rattle.qo_model.specs.Release.{pin, unpin}
use Rattle.qo_model.specs.Unplug.{detach, is_child_slot, left_bus, let_go_where, unrealized_device}
use Rattle.qo_sound_devices.specs.SoundDevices.{SoundDevices}
use Rattle.qo_sound_devices.specs.SoundPlaces.{stands}

-- it is held meanwhile: it is unrealized, leaves its bus, and then its parent lets go the child slot that names it
abbrev pub DetachedLaw : Type 0
DetachedLaw =
    (b : Board) → SoundDevices b → (d p : ℕ) → stands b d ≡ true → buses_of b d ≡ [] → parent_of b d ≡ Some p
    → detach b d ≡ unpin (let_go_where (is_child_slot d) p (left_bus d (unrealized_device d (pin b d)))) d
