-- The board after the write, and after what it does beside.
use Rattle.qo_realize.proofs.RegisterLemmas.{was-written}
use Rattle.qo_properties.proofs.KeptLemmas.{before-then}
use Rattle.qo_realize.proofs.registers.write_through.Goals as goal

pub returns-clause-written : goal.returns-clause-written
returns-clause-written g c = λ b h fit.
    was-written b c.args.dev.birth c.args.reg c.args.value c.in_ok-effect.effect c.args.resets.now.births c.do_beside.new.resets.births c.args.rings.now
    c.do_beside.new.rings c.write_register.new.heap c.do_beside.new.heap h.held.1 h.rings_are (c.in_ok-effect.ensures.written b h.held.0 fit)
    c.do_beside.ensures.shown

pub returns-clause-book : goal.returns-clause-book
returns-clause-book g c = λ out h. c.do_beside.ensures.book out (c.write_register.ensures.book out h)

pub returns-clause-kept : goal.returns-clause-kept
returns-clause-kept g c =
    before-then c.args.heap.now c.write_register.new.heap c.do_beside.new.heap c.write_register.ensures.kept c.do_beside.ensures.kept

pub do_beside-requires-clause-counts : goal.do_beside-requires-clause-counts
do_beside-requires-clause-counts g c = c.write_register.ensures.counts c.args.resets.now.births c.requires.counts

pub returns-in_err-effect-clause-counts : goal.returns-in_err-effect-clause-counts
returns-in_err-effect-clause-counts g c = c.write_register.ensures.counts c.args.resets.now.births c.requires.counts

pub returns-clause-periods : goal.returns-clause-periods
returns-clause-periods g c = λ kept. c.do_beside.ensures.periods (c.write_register.ensures.periods kept)
