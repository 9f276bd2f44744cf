-- Who is there, where one object of the heap is changed or ends.
use Rattle.std.proofs.Common.{◌≡◌, refl, ap, subst, ◌∙◌, ℕ, Bool, true, false, eqb, List, [], ◌∷◌, map, slice_get, Option, Some, None, option_map, IfSome, IsSomeAnd, arith}
use Rattle.std.specs.Option.{option_and_then}
use Rattle.std.proofs.lemmas.Bool.{eqb-true}
use Rattle.qo_values.proofs.ListLemmas.{all-at}
use Rattle.qo_slots.specs.declared.keys.Key.{Key}
use Rattle.qo_heap.specs.Rows.{IsLive, edit, object_at, row_at, without}
use Rattle.qo_object.specs.Slots.{Named, target_of}
use Rattle.qo_object.specs.Content.{Content, named_at, forgotten}
use Rattle.qo_heap.specs.Objects.{IsHeap, Objects, content_of, with_edit, ended, forgets}
use Rattle.qo_heap.proofs.HeapLemmas.{each-names, linked-at}

-- what a slot names is there
named-has : (P : Key → Type 0) (o : Option Named) (key : Key) → IfSome o (λ (s : Named). IfSome (target_of s.1) P)
    → option_and_then target_of (option_map (λ (s : Named). s.1) o) ≡ Some key → P key
named-has P None key has e = cc
named-has P (Some s) key has e = subst (λ (t : Option Key). IfSome t P) e has

pub named-live : (v : Objects) → IsHeap v → (n i : ℕ) (c : Content) → content_of v n ≡ Some c → (key : Key) → named_at c i ≡ Some key → IsLive v.rows key
named-live v good n i c there key e =
    named-has (IsLive v.rows) (slice_get c.slots i) key (all-at (λ (s : Named). IfSome (target_of s.1) (IsLive v.rows)) c.slots i
    (each-names (IsLive v.rows) c.slots (linked-at v good n c there))) e

-- a heap with a slot let go, with a pin more, with a pin less

-- objects by birth

object-edited : (n : ℕ) (f : Content → Content) (rows : List (Key × Content)) → object_at (edit n f rows) n ≡ option_map f (object_at rows n)
object-edited n f [] = refl
object-edited n f (row ∷ rows) = go (eqb row.0.birth n) refl (object-edited n f rows)
  where
    go : (b : Bool) → eqb row.0.birth n ≡ b → object_at (edit n f rows) n ≡ option_map f (object_at rows n)
        → object_at (edit n f (row ∷ rows)) n ≡ option_map f (object_at (row ∷ rows) n)
    go true is rest = rw (is, is) refl
    go false is rest = rw (is, is) rest

pub content-edited : (v : Objects) (n : ℕ) (f : Content → Content) → content_of (with_edit n f v) n ≡ option_map f (content_of v n)
content-edited v n f = object-edited n f v.rows

object-other : (n m : ℕ) (f : Content → Content) → eqb m n ≡ false → (rows : List (Key × Content)) → object_at (edit n f rows) m ≡ object_at rows m
object-other n m f other [] = refl
object-other n m f other (row ∷ rows) = go (eqb row.0.birth n) refl (eqb row.0.birth m) refl (object-other n m f other rows)
  where
    go : (b : Bool) → eqb row.0.birth n ≡ b → (d : Bool) → eqb row.0.birth m ≡ d → object_at (edit n f rows) m ≡ object_at rows m
        → object_at (edit n f (row ∷ rows)) m ≡ object_at (row ∷ rows) m
    go true is true at rest =
        absurd (let same : row.0.birth ≡ n = eqb-true row.0.birth n is in let both : row.0.birth ≡ m = eqb-true row.0.birth m at in grind arith)
    go true is false at rest = rw (is, at) rest
    go false is true at rest = rw (is, at) refl
    go false is false at rest = rw (is, at) rest

pub content-other : (v : Objects) (n m : ℕ) (f : Content → Content) → eqb m n ≡ false → content_of (with_edit n f v) m ≡ content_of v m
content-other v n m f other = object-other n m f other v.rows

-- after an end

object-gone : (n : ℕ) (rows : List (Key × Content)) → object_at (map (forgets n) (without n rows)) n ≡ None
object-gone n [] = refl
object-gone n (row ∷ rows) = go (eqb row.0.birth n) refl (object-gone n rows)
  where
    go : (b : Bool) → eqb row.0.birth n ≡ b → object_at (map (forgets n) (without n rows)) n ≡ None
        → object_at (map (forgets n) (without n (row ∷ rows))) n ≡ None
    go true is rest = rw is rest
    go false is rest = rw (is, is) rest

pub content-gone : (v : Objects) (n : ℕ) (x : Content) → content_of (ended n x v) n ≡ None
content-gone v n x = object-gone n v.rows

-- the row of another
row-left : (n m : ℕ) → eqb m n ≡ false → (rows : List (Key × Content)) → row_at (map (forgets n) (without n rows)) m ≡ option_map (forgets n) (row_at rows m)
row-left n m other [] = refl
row-left n m other (row ∷ rows) = go (eqb row.0.birth n) refl (eqb row.0.birth m) refl (row-left n m other rows)
  where
    go : (b : Bool) → eqb row.0.birth n ≡ b → (d : Bool) → eqb row.0.birth m ≡ d → row_at (map (forgets n) (without n rows)) m
        ≡ option_map (forgets n) (row_at rows m) → row_at (map (forgets n) (without n (row ∷ rows))) m ≡ option_map (forgets n) (row_at (row ∷ rows) m)
    go true is true at rest =
        absurd (let same : row.0.birth ≡ n = eqb-true row.0.birth n is in let both : row.0.birth ≡ m = eqb-true row.0.birth m at in grind arith)
    go true is false at rest = rw (is, at) rest
    go false is true at rest = rw (is, at) refl
    go false is false at rest = rw (is, at) rest

pub content-left : (v : Objects) (n m : ℕ) (x : Content) → eqb m n ≡ false → content_of (ended n x v) m ≡ option_map (forgotten n) (content_of v m)
content-left v n m x other = ap (option_map (λ (row : Key × Content). row.1)) (row-left n m other v.rows) ∙ go (row_at v.rows m)
  where
    go : (o : Option (Key × Content))
        → option_map (λ (row : Key × Content). row.1) (option_map (forgets n) o) ≡ option_map (forgotten n) (option_map (λ (row : Key × Content). row.1) o)
    go None = refl
    go (Some row) = refl

-- what a name that is live names
pub live-content : (v : Objects) (key : Key) → IsLive v.rows key → (c : Content) × (content_of v key.birth ≡ Some c)
live-content v key live = go (row_at v.rows key.birth) live
  where
    go : (o : Option (Key × Content)) → IsSomeAnd o (λ row. row.0.index ≡ key.index) → (c : Content) × (option_map (λ (row : Key × Content). row.1) o ≡ Some c)
    go None none = absurd none
    go (Some row) some = (row.1, refl)
