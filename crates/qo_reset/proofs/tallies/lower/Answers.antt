use Rattle.qo_reset.specs.declared.turns.Tally.TheVariants.{Lower}
use Rattle.qo_reset.proofs.CountLemmas.{kept-lowered}
use Rattle.qo_reset.proofs.LiveLemmas.{shows-tallied}
use Rattle.qo_reset.proofs.tallies.lower.Goals as goal

pub returns-clause-counts : goal.returns-clause-counts
returns-clause-counts g c = λ holds kept some. rw c.tally_below.ensures.now (kept-lowered c.args.heap.now holds c.args.root.birth kept some)

pub returns-clause-shown : goal.returns-clause-shown
returns-clause-shown g c = λ b s. rw c.tally_below.ensures.now (shows-tallied Lower c.args.root.birth b c.args.heap.now s)
