use Rattle.qo_replies.specs.Events.{event_line}
use Rattle.qo_replies.proofs.events.push_reset.Goals as goal

pub returns-then-guest : goal.returns-then-guest
unfolding event_line
returns-then-guest c = rw c.if-guest.true c.push_caused.ensures

pub returns-else-guest : goal.returns-else-guest
unfolding event_line
returns-else-guest c = rw c.if-guest.false c.push_caused-else-guest.ensures
