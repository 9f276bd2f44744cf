-- Nothing is left, which is read.
use Rattle.std.proofs.Common.{is_some, ap, sym, ◌∙◌}
use Rattle.qo_chardev.proofs.PartLemmas.{none_left}
use Rattle.qo_chardev.proofs.parts.is_base64.Goals as goal

pub returns : goal.returns
returns c = sym (c.loop-rest.invariant ∙ ap is_some (none_left c.loop-rest.rest.now c.loop-rest-test.ensures))
