-- A ring more.
use Rattle.std.proofs.Common.{◌≡◌, ◌+◌, ◌++◌, ◌∙◌, List, ℕ, [], ◌∷◌, ap, drop, map, refl, sym, append_assoc, append-nil, arith}
use Rattle.std.proofs.Math.ListN.{drop_of_length-le}
use Rattle.std.proofs.lemmas.List.{drop_more}
use Rattle.serde_json.specs.Data.{Data, array}
use Rattle.serde_json.specs.View.{items_of, view}
use Rattle.serde_json.proofs.Views.{view-Array}
use Rattle.qo_describe.specs.Beside.{pair_data}
use Rattle.qo_describe.proofs.rings.ring_list.Goals as goal

pub loop-ring-init : goal.loop-ring-init
loop-ring-init c = rw c.new-values.ensures.items refl

pub loop-ring-preserved : goal.loop-ring-preserved
loop-ring-preserved c =
    let all = c.args.rings.now in
    let i = c.loop-ring.ring-index in
    let r : List ℕ × ℕ = c.ring-item.result in
    let here : drop i all ≡ r ∷ drop (i + 1) all = drop_more all i r (omega arith) ∙ ap (λ (x : List ℕ × ℕ). x ∷ drop (i + 1) all) (sym c.ring-item.is) in
    let left : List Data = map pair_data (drop (i + 1) all) in
    ap (λ (l : List Data). l ++ left) c.in_ok-push_ring.ensures ∙ append_assoc (map view c.loop-ring.values.items) (pair_data r ∷ []) left
    ∙ sym (ap (λ (l : List (List ℕ × ℕ)). map view c.loop-ring.values.items ++ map pair_data l) here) ∙ c.loop-ring.invariant

pub returns : goal.returns
returns c =
    let all = c.args.rings.now in
    let none : drop c.loop-ring.ring-index all ≡ [] = drop_of_length-le all (omega arith) in
    view-Array c.loop-ring.values
    ∙ ap (λ (l : List Data). array (items_of l))
    (sym (append-nil (map view c.loop-ring.values.items))
    ∙ sym (ap (λ (l : List (List ℕ × ℕ)). map view c.loop-ring.values.items ++ map pair_data l) none) ∙ c.loop-ring.invariant)
