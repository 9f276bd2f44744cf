-- The phases of a reset, as they are noted (docs/devel/reset.rst, "Multi-phase mechanism").
use Rattle.std.specs.Prelude.{◌≡◌, ℕ, ◌==◌, if◌then◌else◌, List, [], ◌∷◌, ◌++◌, filter_map, Option, Some, None}
use Rattle.qo_values.specs.declared.kinds.Act.{Act}
use Rattle.qo_values.specs.declared.kinds.Act.TheVariants.{Enter, Wake, Hold, Exit}
use Rattle.qo_values.specs.declared.kinds.ResetKind.{ResetKind}
use Rattle.qo_values.specs.Kinds.{entering}
use Rattle.qo_model.specs.declared.notes.Deed.{Deed}
use Rattle.qo_model.specs.declared.notes.Deed.TheVariants.{Did}
use Rattle.qo_model.specs.declared.notes.Note.{Note}

-- what was done, if it is a phase
abbrev pub phase_of : Deed → Option Act
phase_of (Did Enter) = Some Enter
phase_of (Did Wake) = Some Wake
phase_of (Did Hold) = Some Hold
phase_of (Did Exit) = Some Exit
phase_of deed = None

abbrev pub phase_in : ℕ → Note → Option Act
phase_in n x = if x.birth == n then phase_of x.deed else None

-- the phases noted of n, in order
abbrev pub phases_of : ℕ → List Note → List Act
phases_of n notes = filter_map (phase_in n) notes

-- resets of these types, one after another: a round each
abbrev pub rounds : List ResetKind → List Act
rounds [] = []
rounds (kind ∷ kinds) = entering kind ∷ Hold ∷ Exit ∷ rounds kinds

-- phases are in turn: they are the beginning of resets, one after another
pub record IsInTurn (acts : List Act) : Type 0 where
  pub kinds : List ResetKind
  pub to_come : List Act
  pub in_turn : acts ++ to_come ≡ rounds kinds

-- where an object is in its resets: in none, entered, or held
pub data Stage : Type 0 where
  out : Stage
  entered : Stage
  held : Stage

-- where a phase leads, if it is in turn
abbrev pub passed : Stage → Act → Option Stage
passed out Enter = Some entered
passed out Wake = Some entered
passed entered Hold = Some held
passed held Exit = Some out
passed stage act = None

abbrev pub passed_all : Stage → List Act → Option Stage
passed_all stage [] = Some stage
passed_all stage (act ∷ acts) = elim (passed stage act) [ None ↦ None | Some next ↦ passed_all next acts ]

-- where n is by its notes; none where its phases were not in turn
abbrev pub stage_of : ℕ → List Note → Option Stage
stage_of n notes = passed_all out (phases_of n notes)
