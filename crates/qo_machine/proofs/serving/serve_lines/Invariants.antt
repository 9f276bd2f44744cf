-- The lines passed over are served.
use Rattle.std.proofs.Common.{◌≡◌, take}
use Rattle.qo_listen.specs.Ears.{AllOpen, ears}
use Rattle.qo_listen.specs.contracts.listeners.BoxDynListenerListener.TheImpl.{ghosts}
use Rattle.qo_machine.specs.Between.{IsWired}
use Rattle.qo_machine.specs.Listening.{ServesTold}
use Rattle.qo_machine.specs.Machine.{IsIn, State, by_line}
use Rattle.qo_machine.specs.Sending.{AreToLanes}
use Rattle.qo_machine.proofs.serving.serve_lines.Given as goal

abbrev pub invariant-loop-line : goal.invariant-loop-line
invariant-loop-line g l =
    record {
      moment : l.outbox.at ≡ l.fn.at;
      served : (s : State) → IsIn s l.fn.machine
          → ServesTold (by_line l.fn.at) s (take l.line-index l.lines) l.outbox.outs l.machine (ears (ghosts g.dyn-1) l.fn.listeners.all.items)
          (ears (ghosts g.dyn-1) l.listeners.all.items);
      listening : AllOpen (ears (ghosts g.dyn-1) l.listeners.all.items);
      lanes : AreToLanes l.outbox.outs;
      lasts : l.machine.out_of_memory ≡ l.fn.machine.out_of_memory;
      wired : IsWired l.machine;
    }
