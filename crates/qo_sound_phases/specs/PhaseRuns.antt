-- Runs of a board by steps that the machine makes, and the phases over them.
use Rattle.std.specs.Prelude.{ℕ, Bool, true, false, if◌then◌else◌, List, [], ◌∷◌}
use Rattle.qo_model.specs.Board.{Board}
use Rattle.qo_model.specs.Depth.{among}
use Rattle.qo_model.specs.Opening.{opening_board}
use Rattle.qo_model.specs.Reset.{pulse}
use Rattle.qo_sound_devices.specs.DeviceRuns.{DeviceStep, acts, holds, releases, stepped}
use Rattle.qo_sound_devices.specs.SoundDevices.{SoundDevices}
use Rattle.qo_sound_phases.specs.Phases.{IsInTurn, phases_of}
use Rattle.qo_sound_phases.specs.PhasesKept.{may_reset}
use Rattle.qo_sound_phases.specs.SoundPhases.{SoundPhases}
use Rattle.qo_values.specs.declared.kinds.ResetKind.{ResetKind}

-- a step: one as devices have it; or an object is held in reset and let go at once
pub data PhaseStep : Type 0 where
  goes : DeviceStep → PhaseStep
  pulses : ℕ → ResetKind → PhaseStep

-- whether a machine makes a step of devices: it holds what may be held in reset, lets go where a hold is, and makes no act by itself
abbrev pub is_made : Board → DeviceStep → Bool
is_made b (acts act n period) = false
is_made b (holds n kind) = may_reset b n
is_made b (releases n) = among b.holds n
is_made b step = true

-- the board after a step; one that no machine makes leaves it
abbrev pub phase_stepped : Board → PhaseStep → Board
phase_stepped b (goes step) = if is_made b step then stepped b step else b
phase_stepped b (pulses n kind) = if may_reset b n then pulse b n kind else b

-- and after some, in order
abbrev pub after_phase_steps : Board → List PhaseStep → Board
after_phase_steps b [] = b
after_phase_steps b (step ∷ steps) = after_phase_steps (phase_stepped b step) steps

-- a board that is sound as far as devices and phases go
pub record SoundResets (b : Board) : Type 0 where
  pub devices : SoundDevices b
  pub phases : SoundPhases b

-- each step keeps it so, and so it is after any steps of the opening board: over every run the phases of each birth are in turn
pub record PhaseRunsLaw : Type 0 where
  pub step : (b : Board) (step : PhaseStep) → SoundResets b → SoundResets (phase_stepped b step)
  pub run : (steps : List PhaseStep) → SoundResets (after_phase_steps opening_board steps)
  pub in_turn : (steps : List PhaseStep) (n : ℕ) → IsInTurn (phases_of n (after_phase_steps opening_board steps).notes)
