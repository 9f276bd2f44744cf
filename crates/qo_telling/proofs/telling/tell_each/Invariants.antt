-- The notes passed over were told.
use Rattle.std.proofs.Common.{take}
use Rattle.qo_listen.specs.Ears.{AllHeard, AllOpen, ears}
use Rattle.qo_listen.specs.contracts.listeners.BoxDynListenerListener.TheImpl.{ghosts}
use Rattle.qo_telling.proofs.telling.tell_each.Given as goal

abbrev pub invariant-loop-note : goal.invariant-loop-note
invariant-loop-note g l =
    record {
      told : AllHeard (take l.note-index l.notes) (ears (ghosts g.dyn-1) l.fn.listeners.all.items) (ears (ghosts g.dyn-1) l.listeners.all.items);
      listening : AllOpen (ears (ghosts g.dyn-1) l.listeners.all.items);
    }
