use Rattle.std.proofs.Common.{sym}
use Rattle.qo_values.specs.declared.kinds.Act.TheVariants.{Pre, Update}
use Rattle.qo_heap.specs.Acts.{Acts}
use Rattle.qo_heap.specs.Moments.{Timely}
use Rattle.qo_heap.proofs.ActsLemmas.{acts-live}
use Rattle.qo_heap.proofs.HeapLemmas.{parent-live}
use Rattle.qo_clocks.proofs.SpreadLemmas.{acted-acts, acted-timely, may-act}
use Rattle.qo_clocks.proofs.spread.call_back.Goals as goal

pub act-requires-clause-live : goal.act-requires-clause-live
act-requires-clause-live g c = parent-live c.args.heap.now c.reveal_invariant.ensures c.args.c.birth c.in-Some.device (sym c.in-Some.ensures.parent)

pub act-requires-clause-timely : goal.act-requires-clause-timely
act-requires-clause-timely g c = may-act Pre c.args.heap.now c.in-Some.device.birth c.requires

pub act-requires-2-clause-live : goal.act-requires-2-clause-live
act-requires-2-clause-live g c =
    let acts : Acts c.args.heap.now c.act.new.self = rw c.act.ensures.now (acted-acts Pre c.in-Some.device.birth c.args.before c.args.heap.now) in
    rw (acts-live c.args.heap.now c.act.new.self acts c.in-Some.device)
    (parent-live c.args.heap.now c.reveal_invariant.ensures c.args.c.birth c.in-Some.device (sym c.in-Some.ensures.parent))

pub act-requires-2-clause-timely : goal.act-requires-2-clause-timely
act-requires-2-clause-timely g c =
    let all : Timely c.act.new.self = rw c.act.ensures.now (acted-timely Pre c.in-Some.device.birth c.args.before c.args.heap.now c.requires) in
    may-act Update c.act.new.self c.in-Some.device.birth all
