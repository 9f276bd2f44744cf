-- Children and births: on a board without plain values, after a search, and by the order of births.
use Rattle.std.proofs.Common.{◌≡◌, refl, ap, ap₂, ℕ, ◌<◌, Bool, true, false, List, [], ◌∷◌, map, ◌==◌, eqb, find, arith}
use Rattle.qo_model.proofs.Common.{cons_option, AllByRecursion, option_map_or, Board, Record, Slot, plain, child, strong, weak, alias, among, Leads, births, child_of, children_in, children_of, graph_of, without_value, without_values}
use Rattle.std.proofs.lemmas.Bool.{eqb-true}
use Rattle.qo_model.proofs.DepthLemmas.{Leads-up}

-- what is among numbers above n is above n
pub among-above : (n m : ℕ) (xs : List ℕ) → AllByRecursion (λ x. n < x) xs → among xs m ≡ true → n < m
among-above n m [] h e = cc
among-above n m (x ∷ xs) h e = go (eqb m x) refl (among-above n m xs h.1)
  where
    go : (t : Bool) → eqb m x ≡ t → (among xs m ≡ true → n < m) → n < m
    go true p rest = let is : m ≡ x = eqb-true m x p in let above : n < x = h.0 in omega arith
    go false p rest = rest (rw p at e)

-- the children of n among records
abbrev pub children_at : List Record → ℕ → List ℕ
children_at rs n = children_in (option_map_or (λ (r : Record). r.slots) (find (λ r. r.birth == n) rs) [])

-- the births among records
abbrev pub births_at : List Record → List ℕ
births_at rs = map (λ (r : Record). r.birth) rs

-- without plain values the births and the children stay
pub births-graph_of : (b : Board) → births (graph_of b) ≡ births b
unfolding graph_of
births-graph_of b = go b.records
  where
    go : (rs : List Record) → map (λ (r : Record). r.birth) (map without_values rs) ≡ map (λ (r : Record). r.birth) rs
    go [] = refl
    go (r ∷ rs) = ap (λ (ns : List ℕ). r.birth ∷ ns) (go rs)

pub child_of-without_value : (s : Slot) → child_of (without_value s) ≡ child_of s
child_of-without_value (plain v) = refl
child_of-without_value (child n) = refl
child_of-without_value (strong t target) = refl
child_of-without_value (weak t target) = refl
child_of-without_value (alias n name) = refl

children_in-without_values : (slots : List (List ℕ × Slot)) → children_in (map (λ (s : List ℕ × Slot). (s.0, without_value s.1)) slots) ≡ children_in slots
children_in-without_values [] = refl
children_in-without_values (s ∷ slots) = ap₂ cons_option (child_of-without_value s.1) (children_in-without_values slots)

children_at-without_values : (rs : List Record) (n : ℕ) → children_at (map without_values rs) n ≡ children_at rs n
children_at-without_values [] n = refl
children_at-without_values (r ∷ rs) n = go (r.birth == n) refl (children_at-without_values rs n)
  where
    go : (t : Bool) → (r.birth == n) ≡ t → children_at (map without_values rs) n ≡ children_at rs n
        → children_at (map without_values (r ∷ rs)) n ≡ children_at (r ∷ rs) n
    go true p rest = rw p (children_in-without_values r.slots)
    go false p rest = rw p rest

pub children_of-graph_of : (b : Board) (n : ℕ) → children_of (graph_of b) n ≡ children_of b n
unfolding graph_of
children_of-graph_of b n = children_at-without_values b.records n

-- each child was born after its parent
unfoldable pub HasLater : Record → Type 0
HasLater r = AllByRecursion (λ c. r.birth < c) (children_in r.slots)

later : (rs : List Record) → AllByRecursion HasLater rs → (n m : ℕ) → among (children_at rs n) m ≡ true → n < m
unfolding HasLater
later [] h n m e = cc
later (r ∷ rs) h n m e = go (r.birth == n) refl (later rs h.1 n m)
  where
    go : (t : Bool) → (r.birth == n) ≡ t → (among (children_at rs n) m ≡ true → n < m) → n < m
    go true p rest =
        let is : r.birth ≡ n = eqb-true r.birth n p in
        let above : r.birth < m = among-above r.birth m (children_in r.slots) h.0 (rw p at e) in
        omega arith
    go false p rest = rest (rw p at e)

-- where each child was born after its parent, no object is below itself
pub none_round-from_later : (b : Board) → AllByRecursion HasLater b.records → (n : ℕ) → ¬ (Leads (children_of (graph_of b)) n n)
none_round-from_later b h n l =
    let up : n < n = Leads-up (children_of (graph_of b)) (λ k m e. later b.records h k m (rw children_of-graph_of at e)) l in
    absurd (omega arith)
