-- A list that grows at its end, under the grammar's loops.
use Rattle.std.proofs.Common.{◌≡◌, List, [], ◌∷◌, ◌++◌, Bor, ℕ, Option, Some, None, Vec, Global, refl, ap, ◌∙◌, rules}
use Rattle.json.specs.Token.{Token}
use Rattle.json.specs.Json.{parse_map}
use Rattle.serde_json.specs.Data.{Data, Items, no_items, item, Members, no_members, member, array, object}
use Rattle.qo_json.specs.View.{view, items_view, members_view}
use Rattle.qo_json.proofs.MemberLemmas.{Member}
use Rattle.qo_json.specs.declared.values.Json.{Json, Array, Object, the_lemmas}

pub view-Array : (v : Vec Json Global) → view (Array v) ≡ array (items_view v.items)
view-Array v = search (rules, the_lemmas)

pub view-Object : (v : Vec (Bor (List ℕ) × Json) Global) → view (Object v) ≡ object (members_view v.items)
view-Object v = search (rules, the_lemmas)

abbrev pub items_before : List Json → Items → Items
items_before [] rest = rest
items_before (v ∷ vs) rest = item (view v) (items_before vs rest)

pub items_before-no_items : (vs : List Json) → items_before vs no_items ≡ items_view vs
items_before-no_items [] = refl
items_before-no_items (v ∷ vs) = ap (item (view v)) (items_before-no_items vs)

pub items_push : (vs : List Json) (v : Json) (rest : Items) → items_before vs (item (view v) rest) ≡ items_before (vs ++ v ∷ []) rest
items_push [] v rest = refl
items_push (w ∷ vs) v rest = ap (item (view w)) (items_push vs v rest)

pub one_more_item : (vs : List Json) (v : Json) (r : Option (Items × List Token))
    → parse_map (items_before vs) (parse_map (item (view v)) r) ≡ parse_map (items_before (vs ++ v ∷ [])) r
one_more_item vs v None = refl
one_more_item vs v (Some p) = ap (λ ds. Some (ds, p.1)) (items_push vs v p.0)

pub none_before : (r : Option (Items × List Token)) → r ≡ parse_map (λ a. a) r
none_before None = refl
none_before (Some p) = refl

-- ---- the same of members

abbrev pub members_before : List Member → Members → Members
members_before [] rest = rest
members_before (m ∷ ms) rest = member m.0.now (view m.1) (members_before ms rest)

pub members_before-no_members : (ms : List Member) → members_before ms no_members ≡ members_view ms
members_before-no_members [] = refl
members_before-no_members (m ∷ ms) = ap (member m.0.now (view m.1)) (members_before-no_members ms)

pub members_push : (ms : List Member) (m : Member) (rest : Members) → members_before ms (member m.0.now (view m.1) rest) ≡ members_before (ms ++ m ∷ []) rest
members_push [] m rest = refl
members_push (n ∷ ms) m rest = ap (member n.0.now (view n.1)) (members_push ms m rest)

-- ---- one more, which is what is left first

pub item_on : (all : Items) (found grown : List Json) (v : Json) (d : Data) (left : Items) → all ≡ items_before found (item d left)
    → view v ≡ d → grown ≡ found ++ v ∷ [] → all ≡ items_before grown left
item_on all found grown v d left was is more = was ∙ rw (← is, items_push found v left, more) refl

pub member_on : (all : Members) (found grown : List Member) (m : Member) (name : List ℕ) (d : Data) (left : Members)
    → all ≡ members_before found (member name d left) → m.0.now ≡ name → view m.1 ≡ d → grown ≡ found ++ m ∷ []
    → all ≡ members_before grown left
member_on all found grown m name d left was named is more = was ∙ rw (← named, ← is, members_push found m left, more) refl
