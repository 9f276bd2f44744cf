-- No device without an id, and no object without a parent.
use Rattle.std.proofs.Common.{◌≡◌, ◌==◌, ◌&&◌, ◌∙◌, ℕ, List, true, false, not, ap, length, rules}
use Rattle.qo_model.specs.Objects.{detached}
use Rattle.qo_model.specs.declared.detached.Detached.{Detached}
use Rattle.qo_describe.proofs.ValueLemmas.{and-no, and-yes, as-many}
use Rattle.qo_describe.proofs.describing.is_plain.Goals as goal

pub returns-then-has_anonymous : goal.returns-then-has_anonymous
returns-then-has_anonymous g c = λ b s.
    let some : c.has_anonymous.result ≡ true = search rules in
    and-no (length (detached b) == 0) _ (c.has_anonymous.ensures b s ∙ ap not some)

pub returns : goal.returns
returns g c = λ b s.
    let none : c.has_anonymous.result ≡ false = search rules in
    c.is_empty.ensures ∙ ap (λ (l : List Detached). length l == 0) (c.as_slice.ensures.value ∙ c.in_ok-list.ensures b s) ∙ as-many b
    ∙ and-yes (length (detached b) == 0) _ (c.has_anonymous.ensures b s ∙ ap not none)
