-- One note more.
use Rattle.std.proofs.Common.{List, subst, arith}
use Rattle.std.proofs.lemmas.List.{take_all}
use Rattle.qo_heap.proofs.HeapLemmas.{on-err}
use Rattle.qo_model.specs.declared.notes.Note.{Note}
use Rattle.qo_listen.specs.Ears.{AllHeard, ears}
use Rattle.qo_listen.specs.contracts.listeners.BoxDynListenerListener.TheImpl.{ghosts}
use Rattle.qo_telling.proofs.EarsLemmas.{all-none, all-free, one-clear, one-front, one-more}
use Rattle.qo_telling.proofs.telling.tell_each.Goals as goal

pub loop-note-init : goal.loop-note-init
loop-note-init g c = record { told = all-none (ears (ghosts g.dyn-1) c.args.listeners.now.all.items); listening = c.requires }

pub loop-note-preserved : goal.loop-note-preserved
loop-note-preserved g c =
    let first = ears (ghosts g.dyn-1) c.args.listeners.now.all.items in
    let before = ears (ghosts g.dyn-1) c.loop-note.listeners.all.items in
    let now = ears (ghosts g.dyn-1) c.tell.new.self.all.items in
    record {
      told = one-more c.args.notes.now c.loop-note.note-index _ first before now (omega arith) c.loop-note.invariant.told c.in_ok-tell.ensures.told;
      listening = all-free _ before now c.in_ok-tell.ensures.told c.loop-note.invariant.listening;
    }

pub returns-clause-told : goal.returns-clause-told
returns-clause-told g c =
    subst
    (λ (l : List Note). AllHeard l (ears (ghosts g.dyn-1) c.args.listeners.now.all.items) (ears (ghosts g.dyn-1) c.loop-note.listeners.all.items))
    (take_all c.loop-note.note-index c.args.notes.now (omega arith)) c.loop-note.invariant.told

pub returns-in_err-tell-clause-left : goal.returns-in_err-tell-clause-left
returns-in_err-tell-clause-left g c =
    on-err c.from_residual.result
    (one-front c.args.notes.now c.loop-note.note-index _ (ears (ghosts g.dyn-1) c.args.listeners.now.all.items)
    (ears (ghosts g.dyn-1) c.loop-note.listeners.all.items) (ears (ghosts g.dyn-1) c.tell.new.self.all.items) (omega arith) c.loop-note.invariant.told
    c.in_err-tell.ensures.left)

pub returns-in_err-tell-clause-listening : goal.returns-in_err-tell-clause-listening
returns-in_err-tell-clause-listening g c =
    one-clear _ (ears (ghosts g.dyn-1) c.loop-note.listeners.all.items) (ears (ghosts g.dyn-1) c.tell.new.self.all.items) c.in_err-tell.ensures.left
    c.loop-note.invariant.listening
