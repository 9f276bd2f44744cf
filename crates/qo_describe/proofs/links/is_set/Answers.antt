-- By the type of the object.
use Rattle.std.proofs.Common.{◌∙◌}
use Rattle.qo_describe.proofs.ValueLemmas.{set-by}
use Rattle.qo_describe.proofs.links.is_set.Goals as goal

pub returns : goal.returns
returns g c = λ b s. c.is_written.ensures ∙ set-by b c.args.heap.now s c.args.o.birth c.args.name.now c.kind.result c.kind.ensures.kind
