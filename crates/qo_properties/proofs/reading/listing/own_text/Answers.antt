-- The text of a plain slot is by the object's type, and that of a child by the child's.
use Rattle.std.proofs.Common.{◌∙◌}
use Rattle.qo_properties.proofs.ListLemmas.{own-child, own-plain}
use Rattle.qo_properties.proofs.reading.listing.own_text.Goals as goal

pub returns-in-Plain : goal.returns-in-Plain
returns-in-Plain g c = λ b s.
    c.plain_text.ensures
    ∙ own-plain b c.args.heap.now s c.args.o.birth c.args.name.now c.kind.result c.kind.ensures.kind c.args.what.now c.in-Plain.field-0 c.in-Plain.is

pub returns-in-Child : goal.returns-in-Child
returns-in-Child g c = λ b s.
    own-child b c.args.heap.now s c.args.o.birth c.args.name.now c.in-Child.child c.kind-in-Child.result c.kind-in-Child.ensures.kind c.args.what.now
    c.in-Child.is
