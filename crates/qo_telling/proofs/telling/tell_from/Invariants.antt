-- The new notes up to a place were told.
use Rattle.std.proofs.Common.{◌-◌, ◌≤◌, List, take}
use Rattle.qo_model.specs.Board.{Board as Tree}
use Rattle.qo_model.specs.declared.notes.Note.{Note as NoteView}
use Rattle.qo_listen.specs.Ears.{AllHeard, AllOpen, ears}
use Rattle.qo_listen.specs.contracts.listeners.BoxDynListenerListener.TheImpl.{ghosts}
use Rattle.qo_realize.specs.Representation.{Stands}
use Rattle.qo_telling.specs.Telling.{IsNew}
use Rattle.qo_telling.proofs.telling.tell_from.Given as goal

abbrev pub decreases-loop-at : goal.decreases-loop-at
decreases-loop-at g l = l.total - l.at

abbrev pub invariant-loop-at : goal.invariant-loop-at
invariant-loop-at g l =
    record {
      later : l.from ≤ l.at;
      told : (b : Tree) (more : List NoteView) → Stands b l.board → IsNew b l.from more
          → AllHeard (take (l.at - l.from) more) (ears (ghosts g.dyn-1) l.fn.listeners.all.items) (ears (ghosts g.dyn-1) l.listeners.all.items);
      listening : AllOpen (ears (ghosts g.dyn-1) l.listeners.all.items);
    }
