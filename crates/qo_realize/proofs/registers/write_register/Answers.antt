-- The body that was written is what the board has.
use Rattle.qo_realize.proofs.RegisterLemmas.{has-written, put-book, put-kept, put-live, put-none}
use Rattle.qo_realize.proofs.CountedLemmas.{body-counts}
use Rattle.qo_realize.proofs.PeriodLemmas.{body-periods}
use Rattle.qo_realize.proofs.registers.write_register.Goals as goal

pub returns-clause-written : goal.returns-clause-written
returns-clause-written g c = λ b s fit.
    has-written b c.args.heap.now s c.args.dev c.body_mut.result.now c.write.new.self c.args.reg c.args.value c.requires.live c.body_mut.ensures.body
    c.has_ring-ring.result c.time-time.result c.device_period-period.result (c.has_ring-ring.ensures b s) c.time-time.ensures
    (c.device_period-period.ensures.period b s fit) c.write.result c.write.ensures.written

pub returns-clause-book : goal.returns-clause-book
returns-clause-book g c =
    put-book c.args.heap.now c.reveal_invariant.ensures c.args.dev c.body_mut.result.now c.write.new.self c.requires.live c.body_mut.ensures.body
    c.write.ensures.kept

pub returns-clause-live : goal.returns-clause-live
returns-clause-live g c = put-live c.args.heap.now c.args.dev c.write.new.self c.requires.live

pub returns-clause-absent : goal.returns-clause-absent
returns-clause-absent g c =
    put-none c.args.heap.now c.reveal_invariant.ensures c.args.dev c.body_mut.result.now c.write.new.self c.requires.live c.body_mut.ensures.body c.write.result
    c.write.ensures.absent

pub returns-clause-kept : goal.returns-clause-kept
returns-clause-kept g c =
    put-kept c.args.heap.now c.args.dev c.body_mut.result.now c.write.new.self c.requires.live c.body_mut.ensures.body c.write.ensures.kept

pub returns-clause-counts : goal.returns-clause-counts
returns-clause-counts g c = λ holds kept. body-counts c.args.dev.birth c.write.new.self holds c.args.heap.now kept

pub returns-clause-periods : goal.returns-clause-periods
returns-clause-periods g c = body-periods c.args.dev.birth c.write.new.self c.args.heap.now
