use Rattle.std.proofs.Common.{◌∙◌, ◌∷◌, ◌++◌, [], ap}
use Rattle.qo_replies.proofs.PropertyLemmas.{closed}
use Rattle.qo_replies.proofs.properties.PropertyList.into_text.Goals as goal

pub returns : goal.returns
returns c =
    λ rows h.
    rw (closed rows h.spelled, c.from_string.ensures, c.in_ok-push_str.ensures.bytes) (ap (λ t. t ++ 93 ∷ []) (ap (λ l. l.text) c.self.view_is ∙ h.text))
