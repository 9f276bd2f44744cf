-- For a law alone. Runs of a board: commands on objects, devices that come and go, what the guest answers, acts, holds and resets.
use Rattle.std.specs.Prelude.{ℕ, Bool, if◌then◌else◌, List, [], ◌∷◌}
use Rattle.qo_values.specs.declared.kinds.Act.{Act}
use Rattle.qo_values.specs.declared.kinds.TypeId.{TypeId}
use Rattle.qo_model.specs.Board.{Board, is_pending}
use Rattle.qo_model.specs.Clocks.{acted}
use Rattle.qo_model.specs.FinalNotesRuns.{Change, changed}
use Rattle.qo_model.specs.Hotplug.{asked, completed, refused, reset_whole}
use Rattle.qo_model.specs.Plug.{Wanted, cut_attempt, plug}
use Rattle.qo_model.specs.Reset.{after_hold, released}
use Rattle.qo_values.specs.declared.kinds.ResetKind.{ResetKind}

-- a step: a command on objects; a device is added, or the attempt is cut; its removal is asked for, and the guest refuses it or lets it go; a notice is read;
-- an object acts, is held, and no longer; the whole board is reset; the events are sent
pub data DeviceStep : Type 0 where
  commands : Change → DeviceStep
  adds : Wanted → DeviceStep
  cuts : TypeId → ℕ → Bool → DeviceStep
  asks : List ℕ → DeviceStep
  refuses : ℕ → DeviceStep
  lets_go : ℕ → DeviceStep
  reads : DeviceStep
  acts : Act → ℕ → ℕ → DeviceStep
  holds : ℕ → ResetKind → DeviceStep
  releases : ℕ → DeviceStep
  resets : DeviceStep
  sends : DeviceStep

-- the first notice is read, if there is one
abbrev pub notice_read : Board → Board
notice_read b = elim b.notices [ [] ↦ b | notice ∷ others ↦ record b { notices = others } ]

-- the board after a step; a device is let go only where its removal is pending
abbrev pub stepped : Board → DeviceStep → Board
stepped b (commands change) = changed b change
stepped b (adds a) = (plug b a).board
stepped b (cuts t i joined) = cut_attempt b t i joined
stepped b (asks id) = (asked b id).board
stepped b (refuses d) = refused b d
stepped b (lets_go d) = if is_pending b d then completed b d else b
stepped b reads = notice_read b
stepped b (acts act n period) = acted act n period b
stepped b (holds n kind) = after_hold b n kind
stepped b (releases n) = released b n
stepped b resets = reset_whole b
stepped b sends = record b { events = [] }

-- and after some, in order
abbrev pub after_steps : Board → List DeviceStep → Board
after_steps b [] = b
after_steps b (step ∷ steps) = after_steps (stepped b step) steps
