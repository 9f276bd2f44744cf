use Rattle.std.proofs.Common.{append_assoc, refl}
use Rattle.qo_replies.proofs.ascii.push_pair.Goals as goal

pub returns : goal.returns
returns c = rw (c.in_ok-push_unit-2.ensures, c.in_ok-push_unit.ensures, append_assoc) refl
