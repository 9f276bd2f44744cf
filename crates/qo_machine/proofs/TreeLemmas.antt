-- Steps keep the tree of the board sound.
use Rattle.std.proofs.Common.{ℕ, Bool, List, refl}
use Rattle.qo_values.specs.declared.births.TheConstants.{MACHINE_BIRTH}
use Rattle.qo_values.specs.declared.kinds.ResetKind.{ResetKind}
use Rattle.qo_values.specs.declared.kinds.ResetKind.TheVariants.{Cold, Wakeup}
use Rattle.qo_model.proofs.CycleLemmas.{cycle_lem}
use Rattle.qo_model.proofs.OpeningLemmas.{opening_sound}
use Rattle.qo_model.proofs.TreeLemmas.{frame_lem}
use Rattle.qo_model.specs.Board.{Board, Ring}
use Rattle.qo_model.specs.Clocks.{div_of, mul_of}
use Rattle.qo_model.specs.Reset.{after_hold, pulse}
use Rattle.qo_model.specs.SoundGraph.{graph_of}
use Rattle.qo_commands.specs.Commands.{without_events}
use Rattle.qo_realize.specs.Chardevs.{with_rings}
use Rattle.qo_realize.specs.Registers.{pushed}
use Rattle.qo_realize.specs.Time.{at_time, with_running}
use Rattle.qo_realize.proofs.GoodBoardLemmas.{opening-good}
use Rattle.qo_realize.proofs.RegisterWriteLemmas.{written-all}
use Rattle.qo_realize.proofs.SoundRunLemmas.{opening-run}
use Rattle.qo_sound.proofs.TreeKeptLemmas.{sound_kept_lem}
use Rattle.qo_sound.specs.TreeKept.{SoundTree}
use Rattle.qo_sound_devices.specs.SoundDevices.{SoundDevices}
use Rattle.qo_sound_devices.proofs.DevicesLawLemmas.{devices_kept_lem}
use Rattle.qo_sound_clocks.specs.ClockRuns.{SoundRun}
use Rattle.qo_sound_clocks.proofs.RegisterLemmas.{registers_kept_lem}
use Rattle.qo_sound_devices.proofs.EqualObjectLemmas.{asked-tree}
use Rattle.qo_machine.proofs.AddressLemmas.{polled-tree, refused-tree}
use Rattle.qo_machine.proofs.BoardLemmas.{board_commands}
use Rattle.qo_machine.proofs.ClocksLemmas.{run_commands}
use Rattle.qo_machine.proofs.DevicesLemmas.{devices_commands}
use Rattle.qo_sound_clocks.proofs.WriteLawLemmas.{writes_keep_lem}
use Rattle.qo_machine.proofs.PreservationLemmas.{any-rings, KeepsBoard, KeepsCommands, keeps_commands, run_keeps, step_keeps}
use Rattle.qo_realize.specs.SoundBoard.{SoundBoard}
use Rattle.qo_machine.specs.Laws.{HeldInRuns, KeptInRuns, SoundInRuns}
use Rattle.qo_machine.specs.Runs.{state_after}
use Rattle.qo_machine.specs.Machine.{opening}

-- the time and whether it goes on are no matter to the tree, nor are the rings
timed-tree : (b : Board) (now : ℕ) → SoundTree b → SoundTree (at_time now b)
unfolding graph_of
timed-tree b now h = (frame_lem.graph b (at_time now b) refl h.0, frame_lem.aliases b (at_time now b) refl h.1)

switched-tree : (b : Board) (on : Bool) → SoundTree b → SoundTree (with_running on b)
unfolding graph_of
switched-tree b on h = (frame_lem.graph b (with_running on b) refl h.0, frame_lem.aliases b (with_running on b) refl h.1)

ringed-tree : (b : Board) (rings : List Ring) → SoundTree b → SoundTree (with_rings rings b)
unfolding graph_of
ringed-tree b rings h = (frame_lem.graph b (with_rings rings b) refl h.0, frame_lem.aliases b (with_rings rings b) refl h.1)

-- a hold and a hold less
pulsed-tree : (b : Board) (m : ℕ) (kind : ResetKind) → SoundTree b → SoundTree (pulse b m kind)
unfolding pulse
pulsed-tree b m kind h = sound_kept_lem.released_so (after_hold b m kind) m (sound_kept_lem.held_so b m kind h)

-- changes and attempts keep the tree sound
pub tree_kept : KeepsBoard SoundTree
tree_kept =
    record {
      change = λ b change h. sound_kept_lem.change b change h;
      set = λ b d c period fits is h. writes_keep_lem.set_tree b d c period is h;
      multiplied = λ b d c mul fits is h. writes_keep_lem.scaled_tree b d c mul (div_of b c) is h;
      divided = λ b d c div fits is h. writes_keep_lem.scaled_tree b d c (mul_of b c) div is h;
      attempt = λ b t h. (sound_kept_lem.attempt b t h.0, sound_kept_lem.attempt_aliases b t h.1);
      plugged = λ b a h. sound_kept_lem.plugged b a h;
      cut = λ b t i joined h. sound_kept_lem.cut b t i joined h;
      asked = λ b id h. asked-tree b id h;
      completed = λ b at d is pending h. sound_kept_lem.detached b d h;
      refused = λ b d h. refused-tree b d h;
      polled = λ b h. polled-tree b h;
      written = λ b d reg value c there is h.
          written-all SoundTree b d reg value (λ registers e so. registers_kept_lem.tree b d registers h) (λ x n id q. ringed-tree x (pushed n x id).rings q)
          (λ x m on q. pulsed-tree x m Cold q) c is;
      rings = any-rings SoundTree (λ b rings h. ringed-tree b rings h);
      timed = λ b now on low h. timed-tree b now h;
      switched = λ b on h. switched-tree b on h;
      held_so = λ b n kind is home deep h. sound_kept_lem.held_so b n kind h;
      released_so = λ b n is held h. sound_kept_lem.released_so b n h;
      reset = λ b h. sound_kept_lem.reset b h;
      wakes = λ b h. pulsed-tree b MACHINE_BIRTH Wakeup h;
    }

-- the tree has no part in the events
pub tree_free : (b : Board) → SoundTree b → SoundTree (without_events b)
unfolding graph_of
tree_free b h = (frame_lem.graph b (without_events b) refl h.0, frame_lem.aliases b (without_events b) refl h.1)

tree_commands : KeepsCommands SoundTree
tree_commands = keeps_commands SoundTree tree_kept tree_free

kept_in_runs : (P : Board → Type 0) → KeepsCommands P → P opening.board → KeptInRuns P
kept_in_runs P k first = record { step = λ s i cs h. step_keeps P k s i cs h; run = λ turns. run_keeps P k opening turns first }

pub sound_in_runs : SoundInRuns
sound_in_runs =
    record {
      tree = kept_in_runs SoundTree tree_commands (opening_sound.graph, opening_sound.aliases);
      devices = kept_in_runs SoundDevices devices_commands devices_kept_lem.opening;
      clocks = kept_in_runs SoundRun run_commands opening-run;
      whole = kept_in_runs SoundBoard board_commands opening-good;
    }

pub held_in_runs : HeldInRuns
held_in_runs turns n there apart = cycle_lem (state_after opening turns).board (sound_in_runs.tree.run turns).0 n there apart
