-- No timer is ahead of the time, so it may stop.
use Rattle.qo_values.specs.declared.kinds.Act.TheVariants.{Unrealize}
use Rattle.qo_clocks.proofs.SpreadLemmas.{may-act}
use Rattle.qo_unplug.proofs.EndingLemmas.{undoes-act}
use Rattle.qo_unplug.proofs.KeptLemmas.{kept-act}
use Rattle.qo_unplug.proofs.ending.act.Goals as goal

pub act-requires-clause-timely : goal.act-requires-clause-timely
act-requires-clause-timely g c = may-act Unrealize c.args.heap.now c.args.o.birth c.requires.timely

pub returns-clause-undoes : goal.returns-clause-undoes
returns-clause-undoes g c = λ held asked. undoes-act c.args.heap.now c.act.new.self c.args.o.birth c.args.period c.act.ensures.now held asked

pub returns-clause-kept : goal.returns-clause-kept
returns-clause-kept g c = kept-act c.args.heap.now c.act.new.self c.args.o.birth c.args.period c.act.ensures.now
