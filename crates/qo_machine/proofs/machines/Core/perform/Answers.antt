-- A query leaves the lines.
use Rattle.qo_heap.proofs.HeapLemmas.{on-err}
use Rattle.qo_machine.proofs.WiredLemmas.{left_answered}
use Rattle.qo_machine.proofs.machines.Core.perform.Goals as goal

pub returns-in-Query-clause-left : goal.returns-in-Query-clause-left
returns-in-Query-clause-left g c = left_answered c.answer.result c.args.self.now.board c.args.self.now.lines c.answer.ensures.touched c.requires.wired

pub returns-in-Query-clause-same : goal.returns-in-Query-clause-same
returns-in-Query-clause-same g c = on-err c.answer.result c.requires.wired
