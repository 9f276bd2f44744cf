use Rattle.std.proofs.Common.{sym}
use Rattle.qo_reset.specs.Phases.{births_of}
use Rattle.qo_reset.proofs.BoardLemmas.{shows-released}
use Rattle.qo_reset.proofs.CountLemmas.{acts-kept}
use Rattle.qo_reset.proofs.phases.released_phases.Goals as goal

pub returns-clause-shown : goal.returns-clause-shown
returns-clause-shown g c = λ b s left. rw (c.phase.ensures.phase, sym left) (shows-released c.args.root.birth b c.args.heap.now s)

pub returns-clause-counts : goal.returns-clause-counts
returns-clause-counts g c =
    acts-kept c.args.heap.now c.phase.new.heap (births_of c.args.holds.now) c.phase.ensures.acts c.phase.ensures.still c.requires.counts
