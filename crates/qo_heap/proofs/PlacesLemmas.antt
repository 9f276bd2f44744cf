-- Lists by place, and rows by place and by birth.
use Rattle.std.proofs.Common.{◌≡◌, refl, ap, sym, subst, ◌∙◌, ℕ, zero, suc, ◌+◌, ◌<◌, ◌≤◌, Bool, true, false, cond, ◌||◌, List, [], ◌∷◌, length, drop, eqb, Option, Some, None, find, option_map, slice_get, position, nat_lt, IfSome, arith}
use Rattle.std.specs.Option.{option_map_or}
use Rattle.std.proofs.lemmas.Bool.Decides.{nat_tests}
use Rattle.std.specs.List.{list_any, position_or_len}
use Rattle.std.proofs.Math.ListN.{drop_of_length-le}
use Rattle.qo_slots.specs.declared.keys.Key.{Key}
use Rattle.qo_heap.specs.Rows.{IsLive, Rises, births, row_at, object_at}

module _ {X : Type 0} where
  -- a search goes on after a member that does not pass
  pub find-drop : (p : X → Bool) (i : ℕ) (xs : List X) → option_map_or p (slice_get xs i) false ≡ false → find p (drop i xs) ≡ find p (drop (suc i) xs)
  find-drop p i [] none = drop-nil i
    where
      drop-nil : (i : ℕ) → find p (drop i []) ≡ find p (drop (suc i) [])
      drop-nil zero = refl
      drop-nil (suc i) = refl
  find-drop p zero (x ∷ xs) none = rw none refl
  find-drop p (suc i) (x ∷ xs) none = find-drop p i xs none

  pub find-here : (p : X → Bool) (i : ℕ) (xs : List X) → option_map_or p (slice_get xs i) false ≡ true → find p (drop i xs) ≡ slice_get xs i
  find-here p i [] here = cc
  find-here p zero (x ∷ xs) here = rw here refl
  find-here p (suc i) (x ∷ xs) here = find-here p i xs here

  pub find-past : (p : X → Bool) (xs : List X) → find p (drop (length xs) xs) ≡ slice_get xs (length xs)
  find-past p [] = refl
  find-past p (x ∷ xs) = find-past p xs

  -- the same, counted by one more
  pub find-from : (p : X → Bool) (i : ℕ) (xs : List X) → option_map_or p (slice_get xs i) false ≡ false → find p (drop i xs) ≡ find p (drop (i + 1) xs)
  find-from p i xs none = let next : suc i ≡ i + 1 = omega arith in find-drop p i xs none ∙ ap (λ (n : ℕ). find p (drop n xs)) next

  -- whether any passes from a place on: the one there passes, or one after it, or there is none left
  any-drop : (p : X → Bool) (i : ℕ) (xs : List X) → list_any p (drop i xs) ≡ (option_map_or p (slice_get xs i) false || list_any p (drop (suc i) xs))
  any-drop p zero [] = refl
  any-drop p (suc i) [] = refl
  any-drop p zero (x ∷ xs) = refl
  any-drop p (suc i) (x ∷ xs) = any-drop p i xs

  pub any-here : (p : X → Bool) (i : ℕ) (xs : List X) → option_map_or p (slice_get xs i) false ≡ true → list_any p (drop i xs) ≡ true
  any-here p i xs here = any-drop p i xs ∙ ap (λ (t : Bool). t || list_any p (drop (suc i) xs)) here

  pub any-from : (p : X → Bool) (i : ℕ) (xs : List X) → option_map_or p (slice_get xs i) false ≡ false → list_any p (drop i xs) ≡ list_any p (drop (i + 1) xs)
  any-from p i xs none =
      let next : suc i ≡ i + 1 = omega arith in
      any-drop p i xs ∙ ap (λ (t : Bool). t || list_any p (drop (suc i) xs)) none ∙ ap (λ (n : ℕ). list_any p (drop n xs)) next

  pub any-past : (p : X → Bool) (i : ℕ) (xs : List X) → length xs ≤ i → list_any p (drop i xs) ≡ false
  any-past p i xs past = ap (list_any p) (drop_of_length-le xs past)

  -- a place before the end has a member, and so has one that is found
  pub slice_get-some : (xs : List X) (i : ℕ) → i < length xs → (x : X) × (slice_get xs i ≡ Some x)
  slice_get-some [] i below = absurd (omega arith)
  slice_get-some (x ∷ xs) zero below = (x, refl)
  slice_get-some (x ∷ xs) (suc i) below = slice_get-some xs i (omega arith)

  position-some : (p : X → Bool) (xs : List X) (i : ℕ) → position p xs ≡ Some i → (x : X) × (slice_get xs i ≡ Some x)
  position-some p xs i there = go (nat_lt (position_or_len p xs) (length xs)) refl there
    where
      go : (b : Bool) → nat_lt (position_or_len p xs) (length xs) ≡ b → cond b (Some (position_or_len p xs)) None ≡ Some i → (x : X) × (slice_get xs i ≡ Some x)
      go true lt is = let same : position_or_len p xs ≡ i = cc is in slice_get-some xs i (grind (arith, nat_tests))
      go false lt is = cc

-- what a view that is there says of itself
some-at : {V W : Type 0} (f : V → W) (h : V → ℕ) (o : Option V) (w : W) (i : ℕ) → option_map f o ≡ Some w → IfSome o (λ v. h v ≡ i)
    → option_map h o ≡ Some i
some-at f h None w i there at = cc
some-at f h (Some v) w i there at = ap Some at

-- a view of the member at a place found says the place
pub placed-at : {V X : Type 0} (f : V → X) (h : V → ℕ) (p : X → Bool) (xs : List X) (i : ℕ) (o : Option V) → position p xs ≡ Some i
    → option_map f o ≡ slice_get xs i → IfSome o (λ v. h v ≡ i) → option_map h o ≡ position p xs
placed-at f h p xs i o there is at = let (x, some) = position-some p xs i there in some-at f h o x i (is ∙ some) at ∙ sym there

module _ {T : Type 0} where
  -- along rising births a later row has a higher birth
  later-above : (above last : ℕ) (rows : List (Key × T)) (i : ℕ) (row : Key × T) → Rises above (births rows) last → slice_get rows i ≡ Some row
      → above < row.0.birth
  later-above above last [] i row rises there = cc
  later-above above last (r ∷ rows) zero row rises there =
      let same : r ≡ row = cc there in subst (λ (x : Key × T). above < x.0.birth) same rises.0
  later-above above last (r ∷ rows) (suc i) row rises there =
      let up : above < r.0.birth = rises.0 in
      let more : r.0.birth < row.0.birth = later-above r.0.birth last rows i row rises.1 there in
      omega arith

  -- the row at a place is that of its birth, and its name is live
  pub row-at-place : (above last : ℕ) (rows : List (Key × T)) (i : ℕ) (row : Key × T) → Rises above (births rows) last → slice_get rows i ≡ Some row
      → row_at rows row.0.birth ≡ Some row
  row-at-place above last [] i row rises there = cc
  row-at-place above last (r ∷ rows) zero row rises there =
      let same : r ≡ row = cc there in
      let here : eqb r.0.birth row.0.birth ≡ true = rw same (grind arith) in
      rw here (ap Some same)
  row-at-place above last (r ∷ rows) (suc i) row rises there =
      let more : r.0.birth < row.0.birth = later-above r.0.birth last rows i row rises.1 there in
      let other : eqb r.0.birth row.0.birth ≡ false = grind arith in
      rw other (row-at-place r.0.birth last rows i row rises.1 there)

  pub live-at-place : (above last : ℕ) (rows : List (Key × T)) (i : ℕ) (row : Key × T) → Rises above (births rows) last → slice_get rows i ≡ Some row
      → IsLive rows row.0
  live-at-place above last rows i row rises there = rw (row-at-place above last rows i row rises there) refl

  -- the row whose name stands at a place
  pub at-key : (rows : List (Key × T)) (i : ℕ) (key : Key) → option_map (λ (row : Key × T). row.0) (slice_get rows i) ≡ Some key
      → (v : T) × (slice_get rows i ≡ Some (key, v))
  at-key rows i key e = go (slice_get rows i) e
    where
      go : (o : Option (Key × T)) → option_map (λ (row : Key × T). row.0) o ≡ Some key → (v : T) × (o ≡ Some (key, v))
      go None none = cc
      go (Some row) some = let same : row.0 ≡ key = cc some in (row.1, ap (λ (k : Key). Some (k, row.1)) same)

  no-key : (o : Option (Key × T)) → option_map (λ (row : Key × T). row.0) o ≡ None → o ≡ None
  no-key None none = refl
  no-key (Some row) none = cc

  pub past-last : (rows : List (Key × T)) (i : ℕ) → option_map (λ (row : Key × T). row.0) (slice_get rows i) ≡ None → slice_get rows i ≡ None
  past-last rows i none = no-key (slice_get rows i) none

  -- what stands at a place with its name, by its birth
  pub object-at-place : (last : ℕ) (rows : List (Key × T)) (i : ℕ) (key : Key) (v : T) → Rises 0 (births rows) last → slice_get rows i ≡ Some (key, v)
      → object_at rows key.birth ≡ Some v
  object-at-place last rows i key v rises there = rw (row-at-place 0 last rows i (key, v) rises there) refl

  pub key-live : (last : ℕ) (rows : List (Key × T)) (i : ℕ) (key : Key) → Rises 0 (births rows) last
      → option_map (λ (row : Key × T). row.0) (slice_get rows i) ≡ Some key → IsLive rows key
  key-live last rows i key rises named =
      let (v, there) = at-key rows i key named in
      live-at-place 0 last rows i (key, v) rises there
