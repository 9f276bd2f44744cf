-- When the phases of a board are sound: each object that a reset reaches is where its holds say (docs/devel/reset.rst, "Multi-phase mechanism").
use Rattle.std.specs.Prelude.{◌≡◌, ℕ, ◌<◌, true, is_some, codes, if◌then◌else◌, [], ◌∷◌, Some}
use Rattle.std.specs.List.{AllByRecursion}
use Rattle.qo_values.specs.declared.births.TheConstants.{MACHINE_BIRTH, MEMORY_BUS_BIRTH, ROOT_BUS_BIRTH}
use Rattle.qo_values.specs.declared.kinds.TypeId.TheVariants.{Machine}
use Rattle.qo_model.specs.Board.{Board, kind_of}
use Rattle.qo_model.specs.Paths.{is_of}
use Rattle.qo_model.specs.Reset.{is_not_in_reset}
use Rattle.qo_sound_devices.specs.SoundPlaces.{HasOwner, stands}
use Rattle.qo_sound_phases.specs.Phases.{Stage, held, out, stage_of}

-- what the reset of the whole board reaches: the machine, the devices that stand in their places, and the buses of both
pub data IsReached (b : Board) (n : ℕ) : Type 0 where
  machine : n ≡ MACHINE_BIRTH → IsReached b n
  device : stands b n ≡ true → IsReached b n
  bus : is_of b (codes "bus") n ≡ true → HasOwner b n → IsReached b n

-- where the holds on it and above it say that an object is
abbrev pub stage_now : Board → ℕ → Stage
stage_now b n = if is_not_in_reset b n then out else held

-- there is one machine
abbrev pub LoneMachine : Board → Type 0
LoneMachine b = (n : ℕ) → kind_of b n ≡ Some Machine → n ≡ MACHINE_BIRTH

-- the phases are sound
pub record SoundPhases (b : Board) : Type 0 where
  -- those of every birth are in turn, and who is not born is in no reset
  pub in_turn : (n : ℕ) → is_some (stage_of n b.notes) ≡ true
  pub unborn : (n : ℕ) → b.born < n → stage_of n b.notes ≡ Some out
  -- what a reset reaches is in its reset where a hold is on it or above it, and nowhere else; and holds are on nothing else
  pub reached : (n : ℕ) → IsReached b n → stage_of n b.notes ≡ Some (stage_now b n)
  pub holds : AllByRecursion (IsReached b) b.holds
  -- the machine's buses are such: they are buses
  pub buses : AllByRecursion (IsReached b) (ROOT_BUS_BIRTH ∷ MEMORY_BUS_BIRTH ∷ [])
  -- no other object is a machine
  pub lone : LoneMachine b
