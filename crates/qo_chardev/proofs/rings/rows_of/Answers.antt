-- A ring more.
use Rattle.std.proofs.Common.{◌≡◌, ◌+◌, ◌++◌, ◌∙◌, List, ℕ, [], ◌∷◌, ap, drop, map, refl, sym, append_assoc, append-nil, arith}
use Rattle.std.proofs.Math.ListN.{drop_of_length-le}
use Rattle.std.proofs.lemmas.List.{drop_more}
use Rattle.qo_model.specs.Board.{Ring}
use Rattle.qo_chardev.proofs.RingsLemmas.{row}
use Rattle.qo_chardev.proofs.rings.rows_of.Goals as goal

pub loop-ring-init : goal.loop-ring-init
loop-ring-init c = rw c.new-rows.ensures.items refl

pub loop-ring-preserved : goal.loop-ring-preserved
loop-ring-preserved c =
    let all = c.args.rings.now in
    let i = c.loop-ring.ring-index in
    let r : Ring = c.ring-item.result in
    let old = c.loop-ring.rows.items in
    let here : drop i all ≡ r ∷ drop (i + 1) all = drop_more all i r (omega arith) ∙ ap (λ (x : Ring). x ∷ drop (i + 1) all) (sym c.ring-item.is) in
    let left : List (List ℕ × ℕ) = map row (drop (i + 1) all) in
    ap (λ (l : List (List ℕ × ℕ)). l ++ left) (c.in_ok-push.ensures.items ∙ ap (λ (x : List ℕ × ℕ). old ++ x ∷ []) c.in_ok-row.ensures)
    ∙ append_assoc old (row r ∷ []) left ∙ sym (ap (λ (l : List Ring). old ++ map row l) here) ∙ c.loop-ring.invariant

pub returns : goal.returns
returns c =
    let all = c.args.rings.now in
    let none : drop c.loop-ring.ring-index all ≡ [] = drop_of_length-le all (omega arith) in
    sym (append-nil c.loop-ring.rows.items) ∙ sym (ap (λ (l : List Ring). c.loop-ring.rows.items ++ map row l) none) ∙ c.loop-ring.invariant
