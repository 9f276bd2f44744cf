use Rattle.qo_reset.specs.declared.turns.Tally.TheVariants.{Raise}
use Rattle.qo_reset.proofs.CountLemmas.{kept-raised}
use Rattle.qo_reset.proofs.LiveLemmas.{shows-tallied}
use Rattle.qo_reset.proofs.tallies.raise.Goals as goal

pub returns-clause-counts : goal.returns-clause-counts
returns-clause-counts g c = λ holds kept room. rw c.tally_below.ensures.now (kept-raised c.args.heap.now holds c.args.root.birth kept room)

pub returns-clause-shown : goal.returns-clause-shown
returns-clause-shown g c = λ b s. rw c.tally_below.ensures.now (shows-tallied Raise c.args.root.birth b c.args.heap.now s)
