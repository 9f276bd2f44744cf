use Rattle.qo_values.specs.TypeTexts.{text_of}
use Rattle.std.proofs.Common.{refl}
use Rattle.qo_replies.proofs.PropertyLemmas.{written_more}
use Rattle.qo_replies.proofs.properties.PropertyList.push.Goals as goal

pub returns : goal.returns
returns c =
    λ rows h.
    written_more rows (c.args.name.now, text_of c.args.ty) c.args.self.now _ h (rw (← c.self.view_is) c.in_ok-push_property.ensures.bytes)
    (rw (← c.self.view_is) c.in_ok-push_property.ensures.spelled) refl
