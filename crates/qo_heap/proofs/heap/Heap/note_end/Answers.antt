use Rattle.std.proofs.Common.{sym, ap}
use Rattle.qo_heap.specs.Log.{Log}
use Rattle.qo_heap.proofs.EndLemmas.{noted-none, heap-note-step, heap-note-all}
use Rattle.qo_heap.proofs.heap.Heap.note_end.Goals as goal

pub loop-place-init : goal.loop-place-init
loop-place-init c = ap (λ (log : Log). record c.args.self.now { log = log }) (sym (noted-none c.args.self.now.log))

pub loop-place-preserved : goal.loop-place-preserved
loop-place-preserved c =
    heap-note-step c.args.birth c.ancestry-ancestry.result.now c.loop-place.place _ c.args.self.now c.loop-place.self c.note_final.new.self
    c.loop-place-test.true c.loop-place.invariant c.note_final.ensures

pub returns : goal.returns
returns c =
    heap-note-all c.args.birth c.args.kind c.ancestry-ancestry.result.now c.loop-place.place c.args.self.now c.loop-place.self c.loop-place.auto.place-end
    c.loop-place-test.false c.ancestry-ancestry.ensures c.loop-place.invariant
