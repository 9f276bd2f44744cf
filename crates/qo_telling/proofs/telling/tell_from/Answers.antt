-- One reading more.
use Rattle.std.proofs.Common.{◌∙◌, arith, refl}
use Rattle.qo_heap.proofs.HeapLemmas.{on-err}
use Rattle.qo_listen.specs.Ears.{ears}
use Rattle.qo_listen.specs.contracts.listeners.BoxDynListenerListener.TheImpl.{ghosts}
use Rattle.qo_telling.proofs.EarsLemmas.{fronts-at}
use Rattle.qo_telling.proofs.NotesLemmas.{all-told, more-front, more-told, none-yet}
use Rattle.qo_telling.proofs.telling.tell_from.Goals as goal

pub loop-at-init : goal.loop-at-init
loop-at-init g c =
    let first = ears (ghosts g.dyn-1) c.args.listeners.now.all.items in
    record { later = omega arith; told = λ b more stands new. none-yet b c.args.from more new first first; listening = c.requires }

pub loop-at-preserved : goal.loop-at-preserved
loop-at-preserved g c =
    let first = ears (ghosts g.dyn-1) c.args.listeners.now.all.items in
    let before = ears (ghosts g.dyn-1) c.loop-at.listeners.all.items in
    let now = ears (ghosts g.dyn-1) c.tell_each.new.listeners.all.items in
    record {
      later = omega (arith, c.loop-at.invariant.later);
      told = λ b more stands new.
          more-told b c.args.from more new first before c.loop-at.at _ c.notes_total-total.result c.loop-at.invariant.later
          (c.notes_total-total.ensures.told b stands) (omega arith) (omega arith) c.deref.result.now
          (c.deref.ensures.value ∙ c.in_ok-notes.ensures.told b stands) now (c.loop-at.invariant.told b more stands new) c.in_ok-tell_each.ensures.told;
      listening = c.tell_each.ensures.listening;
    }

pub returns-in_err-notes-clause-left : goal.returns-in_err-notes-clause-left
returns-in_err-notes-clause-left g c = λ b more stands new.
    on-err c.from_residual.result
    (fronts-at _ more (ears (ghosts g.dyn-1) c.args.listeners.now.all.items) (ears (ghosts g.dyn-1) c.loop-at.listeners.all.items)
    (c.loop-at.invariant.told b more stands new))

pub returns-in_err-tell_each-clause-left : goal.returns-in_err-tell_each-clause-left
returns-in_err-tell_each-clause-left g c = λ b more stands new.
    let first = ears (ghosts g.dyn-1) c.args.listeners.now.all.items in
    let before = ears (ghosts g.dyn-1) c.loop-at.listeners.all.items in
    let now = ears (ghosts g.dyn-1) c.tell_each.new.listeners.all.items in
    on-err c.from_residual-in_err-tell_each.result
    (more-front b c.args.from more new first before c.loop-at.at _ c.notes_total-total.result c.loop-at.invariant.later
    (c.notes_total-total.ensures.told b stands) (omega arith) refl c.deref.result.now
    (c.deref.ensures.value ∙ c.in_ok-notes.ensures.told b stands) now (c.loop-at.invariant.told b more stands new) c.in_err-tell_each.ensures.left)

pub returns-clause-told : goal.returns-clause-told
returns-clause-told g c = λ b more stands new.
    all-told b c.args.from more new (ears (ghosts g.dyn-1) c.args.listeners.now.all.items) (ears (ghosts g.dyn-1) c.loop-at.listeners.all.items)
    c.loop-at.at c.notes_total-total.result (c.notes_total-total.ensures.told b stands) (omega arith) (c.loop-at.invariant.told b more stands new)
