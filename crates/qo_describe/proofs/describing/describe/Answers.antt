-- The description, where the board has one.
use Rattle.std.proofs.Common.{◌≡◌, ◌==◌, ◌∙◌, Some, true, false, not, ap, sym, rules}
use Rattle.qo_describe.proofs.ValueLemmas.{told-not, told-odd, told-so}
use Rattle.qo_describe.proofs.describing.describe.Goals as goal

pub returns-then-pending : goal.returns-then-pending
returns-then-pending g c = λ b s beside.
    let goes : c.args.pending ≡ true = search rules in
    told-not b (beside.pending ∙ ap not goes)

pub returns-then-not-plain : goal.returns-then-not-plain
returns-then-not-plain g c = λ b s beside.
    let other : c.in_ok-plain.plain ≡ false = search rules in
    let stays : c.args.pending ≡ false = search rules in
    told-odd b (beside.pending ∙ ap not stays) (sym (c.in_ok-plain.ensures b s) ∙ other)

pub returns : goal.returns
returns g c = λ b s beside.
    let plain : c.in_ok-plain.plain ≡ true = search rules in
    let stays : c.args.pending ≡ false = search rules in
    ap Some (c.in_ok-told.ensures b s beside.rings) ∙ told-so b (beside.pending ∙ ap not stays) (sym (c.in_ok-plain.ensures b s) ∙ plain)
