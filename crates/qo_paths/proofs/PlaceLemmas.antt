-- The way up: places of objects, what is attached, and the steps of a canonical path.
use Rattle.std.proofs.Common.{◌≡◌, refl, ap, sym, ◌∙◌, ℕ, suc, ◌+◌, ◌<◌, Bool, true, false, List, [], ◌∷◌, ◌++◌, length, eqb, Option, Some, None, find, option_map, append_assoc, arith}
use Rattle.std.specs.Option.{option_and_then, option_map_or}
use Rattle.std.specs.List.{position_or_len}
use Rattle.std.proofs.lemmas.List.Folds.{find_at}
use Rattle.std.proofs.lemmas.Bool.{eqb-true, eq-eqb}
use Rattle.qo_slots.specs.declared.keys.Key.{Key}
use Rattle.qo_heap.specs.Rows.{row_at}
use Rattle.qo_object.specs.Slots.{Named, names_child}
use Rattle.qo_object.specs.Content.{Content, is_parent}
use Rattle.qo_model.specs.Board.{Board}
use Rattle.qo_model.specs.Depth.{by_depth}
use Rattle.qo_model.specs.Paths as paths
use Rattle.qo_model.specs.Paths.{attached, attached_turn, path_down_to, path_turn, place_of}
use Rattle.qo_heap.specs.Objects.{IsHeap, Objects, content_of, slots_of, parent_of}
use Rattle.qo_heap.specs.Board.{Shows}
use Rattle.qo_heap.proofs.PlacesLemmas.{row-at-place}
use Rattle.qo_heap.proofs.BoardReads.{place_under, shows-place, shows-size}
use Rattle.qo_paths.specs.Parts.{path_up}
use Rattle.qo_paths.proofs.DepthSteps.{left_at, depth-all, depth-turn}

-- the row that a search finds is that of its birth
found-row : (v : Objects) → IsHeap v → (p : Key × Content → Bool) (row : Key × Content) → find p v.rows ≡ Some row → row_at v.rows row.0.birth ≡ Some row
found-row v good p row found = row-at-place 0 v.born v.rows (position_or_len p v.rows) row good.rising (sym (find_at p v.rows) ∙ found)

-- an object without a parent has no place
pub place-none : (b : Board) (v : Objects) → Shows b v → (n : ℕ) → parent_of v n ≡ None → place_of b n ≡ None
place-none b v s n is = shows-place b v s n ∙ go (find (λ (row : Key × Content). is_parent n row.1) v.rows) is
  where
    go : (o : Option (Key × Content)) → option_map (λ (row : Key × Content). row.0) o ≡ None → option_and_then (place_under n) o ≡ None
    go None q = refl
    go (Some row) q = cc

-- the place of an object under its parent
pub place-is : (b : Board) (v : Objects) → Shows b v → IsHeap v → (n : ℕ) (key : Key) → parent_of v n ≡ Some key → (o : Option Named)
    → o ≡ find (λ (t : Named). names_child n t.1) (slots_of v key.birth) → place_of b n ≡ option_map (λ (t : Named). (key.birth, t.0)) o
place-is b v s good n key is o there = shows-place b v s n ∙ go (find (λ (row : Key × Content). is_parent n row.1) v.rows) refl is
  where
    go : (r : Option (Key × Content)) → find (λ (row : Key × Content). is_parent n row.1) v.rows ≡ r → option_map (λ (row : Key × Content). row.0) r ≡ Some key
        → option_and_then (place_under n) r ≡ option_map (λ (t : Named). (key.birth, t.0)) o
    go None e q = cc
    go (Some row) e q =
        let same : row.0 ≡ key = cc q in
        let here : content_of v row.0.birth ≡ Some row.1 = rw (found-row v good (λ (r : Key × Content). is_parent n r.1) row e) refl in
        let slots : slots_of v key.birth ≡ row.1.slots =
        ap (λ (k : Key). slots_of v k.birth) (sym same) ∙ ap (λ (c : Option Content). option_map_or (λ (d : Content). d.slots) c []) here in
        rw (there, slots) (ap (λ (k : Key). option_map (λ (t : Named). (k.birth, t.0)) (find (λ (t : Named). names_child n t.1) row.1.slots)) same)

-- a turn is one of as many as there are objects, and one more
pub within : (turn live size : ℕ) → turn < live + 1 → live ≡ size → turn < size + 1
within turn live size below same = omega arith

-- a test of a birth
pub is-one : (n : ℕ) → n ≡ 1 → eqb n 1 ≡ true
is-one n e = eq-eqb n 1 e

pub not-one : (n : ℕ) → (n ≡ 1 → ⊥) → eqb n 1 ≡ false
not-one n other = go (eqb n 1) refl
  where
    go : (t : Bool) → eqb n 1 ≡ t → t ≡ false
    go false e = refl
    go true e = absurd (other (eqb-true n 1 e))

-- whether what is left of the way leads to birth 1
abbrev pub attached_from : Board → ℕ → ℕ → ℕ → Bool
attached_from b size i n = left_at (attached_turn b) (λ _. false) size i n

pub attached-all : (b : Board) (v : Objects) → Shows b v → (n : ℕ) → attached_from b (length v.rows) 0 n ≡ attached b n
unfolding attached
attached-all b v s n =
    depth-all (attached_turn b) (λ _. false) (length v.rows) n ∙ ap (λ (k : ℕ). by_depth (attached_turn b) (λ _. false) (suc k) n) (sym (shows-size b v s))

pub attached-root : (b : Board) (size i n : ℕ) → i < size + 1 → eqb n 1 ≡ true → attached_from b size i n ≡ true
attached-root b size i n below is = depth-turn (attached_turn b) (λ _. false) size i n below ∙ rw (is, attached_turn) refl

pub attached-none : (b : Board) (size i n : ℕ) → i < size + 1 → eqb n 1 ≡ false → place_of b n ≡ None → attached_from b size i n ≡ false
attached-none b size i n below is none = depth-turn (attached_turn b) (λ _. false) size i n below ∙ rw (is, attached_turn, none) refl

pub attached-up : (b : Board) (size i n m : ℕ) → i < size + 1 → eqb n 1 ≡ false → paths.parent_of b n ≡ Some m
    → attached_from b size i n ≡ attached_from b size (i + 1) m
attached-up b size i n m below is up = depth-turn (attached_turn b) (λ _. false) size i n below ∙ rw (is, attached_turn) (go (place_of b n) up)
  where
    go : (o : Option (ℕ × List ℕ)) → option_map (λ (p : ℕ × List ℕ). p.0) o ≡ Some m
        → elim o as (λ _. Bool) [ None ↦ false | Some p ↦ attached_from b size (i + 1) p.0 ] ≡ attached_from b size (i + 1) m
    go None q = cc
    go (Some p) q = let same : p.0 ≡ m = cc q in ap (attached_from b size (i + 1)) same

-- the names of a way up, with one more
pub path_up-more : (names : List (List ℕ)) (name : List ℕ) → path_up (names ++ name ∷ []) ≡ (47 ∷ name) ++ path_up names
path_up-more [] name = sym (append-nil (47 ∷ name))
  where
    append-nil : (xs : List ℕ) → xs ++ [] ≡ xs
    append-nil [] = refl
    append-nil (x ∷ xs) = ap (λ (ys : List ℕ). x ∷ ys) (append-nil xs)
path_up-more (first ∷ names) name =
    ap (λ (front : List ℕ). front ++ 47 ∷ first) (path_up-more names name) ∙ append_assoc (47 ∷ name) (path_up names) (47 ∷ first)

-- the steps that are left of the way, before those that were taken
abbrev pub steps_from : Board → ℕ → ℕ → ℕ → Option (List ℕ)
steps_from b size i n = left_at (path_turn b) (λ _. None) size i n

abbrev pub steps_with : Board → ℕ → ℕ → ℕ → List (List ℕ) → Option (List ℕ)
steps_with b size i n names = option_map (λ (above : List ℕ). above ++ path_up names) (steps_from b size i n)

pub steps-all : (b : Board) (v : Objects) → Shows b v → (n : ℕ) → steps_with b (length v.rows) 0 n [] ≡ path_down_to b n
unfolding path_down_to
steps-all b v s n =
    go (steps_from b (length v.rows) 0 n) ∙ depth-all (path_turn b) (λ _. None) (length v.rows) n
    ∙ ap (λ (k : ℕ). by_depth (path_turn b) (λ _. None) (suc k) n) (sym (shows-size b v s))
  where
    append-nil : (xs : List ℕ) → xs ++ [] ≡ xs
    append-nil [] = refl
    append-nil (x ∷ xs) = ap (λ (ys : List ℕ). x ∷ ys) (append-nil xs)

    go : (o : Option (List ℕ)) → option_map (λ (above : List ℕ). above ++ []) o ≡ o
    go None = refl
    go (Some above) = ap Some (append-nil above)

-- what is left, at birth 1, without a parent, and at a parent
root-left : (b : Board) (size i n : ℕ) → i < size + 1 → eqb n 1 ≡ true → steps_from b size i n ≡ Some []
root-left b size i n below is = depth-turn (path_turn b) (λ _. None) size i n below ∙ rw (is, path_turn) refl

none-left : (b : Board) (size i n : ℕ) → i < size + 1 → eqb n 1 ≡ false → place_of b n ≡ None → steps_from b size i n ≡ None
none-left b size i n below is none = depth-turn (path_turn b) (λ _. None) size i n below ∙ rw (is, path_turn, none) refl

up-left : (b : Board) (size i n : ℕ) (p : ℕ × List ℕ) → i < size + 1 → eqb n 1 ≡ false → place_of b n ≡ Some p
    → steps_from b size i n ≡ option_map (λ (above : List ℕ). above ++ 47 ∷ p.1) (steps_from b size (i + 1) p.0)
up-left b size i n p below is up = depth-turn (path_turn b) (λ _. None) size i n below ∙ rw (is, path_turn, up) refl

pub steps-root : (b : Board) (size i n : ℕ) (names : List (List ℕ)) → i < size + 1 → eqb n 1 ≡ true → steps_with b size i n names ≡ Some (path_up names)
steps-root b size i n names below is = ap (option_map (λ (above : List ℕ). above ++ path_up names)) (root-left b size i n below is)

pub steps-none : (b : Board) (size i n : ℕ) (names : List (List ℕ)) → i < size + 1 → eqb n 1 ≡ false → place_of b n ≡ None → steps_with b size i n names ≡ None
steps-none b size i n names below is none = ap (option_map (λ (above : List ℕ). above ++ path_up names)) (none-left b size i n below is none)

pub steps-up : (b : Board) (size i n : ℕ) (names : List (List ℕ)) (p : ℕ × List ℕ) → i < size + 1 → eqb n 1 ≡ false → place_of b n ≡ Some p
    → steps_with b size i n names ≡ steps_with b size (i + 1) p.0 (names ++ p.1 ∷ [])
steps-up b size i n names p below is up =
    ap (option_map (λ (above : List ℕ). above ++ path_up names)) (up-left b size i n p below is up) ∙ go (steps_from b size (i + 1) p.0)
  where
    go : (o : Option (List ℕ)) → option_map (λ (above : List ℕ). above ++ path_up names) (option_map (λ (above : List ℕ). above ++ 47 ∷ p.1) o)
        ≡ option_map (λ (above : List ℕ). above ++ path_up (names ++ p.1 ∷ [])) o
    go None = refl
    go (Some above) = ap Some (append_assoc above (47 ∷ p.1) (path_up names) ∙ ap (λ (rest : List ℕ). above ++ rest) (sym (path_up-more names p.1)))
