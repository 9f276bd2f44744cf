-- The container, or none.
use Rattle.std.proofs.Common.{◌≡◌, ◌==◌, ◌∙◌, ℕ, ap, length, sym}
use Rattle.qo_model.specs.Paths.{children_of}
use Rattle.qo_values.specs.declared.births.TheConstants.{ANONYMOUS_BIRTH}
use Rattle.qo_describe.proofs.ItemLemmas.{entries-gone, no-children}
use Rattle.qo_describe.proofs.describing.has_anonymous.Goals as goal

pub returns-in-Some : goal.returns-in-Some
returns-in-Some g c = λ b s. ap (λ (n : ℕ). length (children_of b n) == 0) (sym c.in-Some.ensures.born) ∙ c.has_children.ensures b s

pub returns-in-None : goal.returns-in-None
returns-in-None g c = λ b s. no-children b ANONYMOUS_BIRTH (entries-gone b c.args.heap.now s ANONYMOUS_BIRTH c.in-None.ensures.none)
