-- For a law alone. What the soundness of phases says of objects.
use Rattle.std.specs.Prelude.{◌≡◌, ℕ, true, nat_eq, List, [], ◌∷◌, Some}
use Rattle.std.specs.List.{IsDistinct}
use Rattle.qo_values.specs.declared.births.TheConstants.{MEMORY_BUS_BIRTH, ROOT_BUS_BIRTH}
use Rattle.qo_model.specs.Board.{Board}
use Rattle.qo_model.specs.Depth.{among}
use Rattle.qo_model.specs.Devices.{first_bus, found_at}
use Rattle.qo_model.specs.Reset.{post}
use Rattle.qo_sound_devices.specs.SoundDevices.{SoundDevices}
use Rattle.qo_sound_devices.specs.SoundPlaces.{stands}
use Rattle.qo_sound_phases.specs.Phases.{IsInTurn, phases_of, stage_of}
use Rattle.qo_sound_phases.specs.PhasesKept.{may_reset}
use Rattle.qo_sound_phases.specs.SoundPhases.{SoundPhases, stage_now}

-- on a board that is sound so
pub record PhasesSayLaw : Type 0 where
  -- the phases of every birth are in turn: enter, hold, exit, and so on
  pub in_turn : (b : Board) → SoundPhases b → (n : ℕ) → IsInTurn (phases_of n b.notes)
  -- a phase goes to no object twice
  pub once : (b : Board) → SoundDevices b → (n : ℕ) → IsDistinct nat_eq (post b n)
  -- an object that may be held in reset is held by its notes where a hold is on it or above it, and nowhere else
  pub in_reset : (b : Board) → SoundDevices b → SoundPhases b → (n : ℕ) → may_reset b n ≡ true → stage_of n b.notes ≡ Some (stage_now b n)
  -- who is found by slots from a bus of the machine down stands in its place; and the first bus of who stands may be held in reset
  pub addressed : (b : Board) → SoundDevices b → SoundPhases b → (bus : ℕ) (slots : List ℕ) (d : ℕ)
      → among (ROOT_BUS_BIRTH ∷ MEMORY_BUS_BIRTH ∷ []) bus ≡ true → found_at b bus slots ≡ Some d → stands b d ≡ true
  pub first_bus : (b : Board) → SoundDevices b → (d m : ℕ) → stands b d ≡ true → first_bus b d ≡ Some m → may_reset b m ≡ true
