-- Below a bus that is there the list is whole, and one that is not there is no bus.
use Rattle.std.proofs.Common.{◌≡◌, ◌∙◌, ◌++◌, ◌+◌, ap, subst, ℕ, List, codes, arith}
use Rattle.std.specs.Prelude.{OnOk}
use Rattle.qo_model.specs.Reset.{post}
use Rattle.qo_layout.specs.Numbering.{births_of}
use Rattle.qo_layout.proofs.NumberingLemmas.{absent-none, listed-whole}
use Rattle.qo_layout.proofs.numbering.list_bus.Goals as goal

pub returns-in_default-clause-listed : goal.returns-in_default-clause-listed
returns-in_default-clause-listed g c = λ b s shape is. absurd (absent-none b c.args.heap.now s (codes "bus") c.args.birth c.in_default.ensures.none is)

pub returns-clause-listed : goal.returns-clause-listed
returns-clause-listed g c = λ b s shape is.
    subst (λ (ns : List ℕ). OnOk c.list_below.result (births_of c.list_below.new.objects.items ≡ births_of c.args.objects.now.items ++ ns))
    (listed-whole b c.args.heap.now s (c.live.result + 1) c.in-Some.bus.birth (omega (arith, c.live.ensures)) ∙ ap (post b) c.in-Some.ensures.born)
    (c.list_below.ensures.listed b s shape)
