-- The ends of a path: from birth 1, and from each attached object.
use Rattle.std.proofs.Common.{◌≡◌, refl, ap, ◌∙◌, ℕ, zero, suc, ◌+◌, ◌<◌, ◌≤◌, Bool, true, false, cond, List, [], ◌∷◌, filter, length, drop, slice_get, eqb, Option, Some, None, find, option_map, is_some, arith}
use Rattle.std.proofs.Math.ListN.{drop_of_length-le}
use Rattle.std.specs.Prelude.{filter_map, ok_or}
use Rattle.std.specs.Option.{option_and_then, option_map_or}
use Rattle.std.specs.List.{cons_option}
use Rattle.std.specs.Str.{bytes_eq}
use Rattle.qo_slots.specs.declared.keys.Key.{Key}
use Rattle.qo_heap.specs.Rows.{Rises, births, object_at}
use Rattle.qo_object.specs.Content.{Content}
use Rattle.qo_object.specs.BoardObject.{birth_of}
use Rattle.qo_values.specs.declared.kinds.TypeId.{TypeId}
use Rattle.qo_model.specs.Board.{Board, Record, Slot, kind_of, record_of, target_of}
use Rattle.qo_model.specs.Types.{is_a}
use Rattle.qo_model.specs.Paths.{attached, components, ends, is_absolute, is_of, next_of, only_of, resolve, the_one, several, walk}
use Rattle.qo_heap.specs.Objects.{Objects, content_of}
use Rattle.qo_heap.specs.Board.{Shows}
use Rattle.qo_heap.proofs.SearchLemmas.{later-none}
use Rattle.qo_heap.proofs.BoardReads.{shows-births, shows-kind, shows-record}
use Rattle.qo_paths.specs.Answers.{end_from, shown_resolution}
use Rattle.qo_paths.specs.declared.errors.PathError.TheVariants.{NotFound}

-- the object of birth 1

pub root-none : (rows : List (Key × Content)) → option_map (λ (row : Key × Content). row.0) (slice_get rows 0) ≡ None → object_at rows 1 ≡ None
root-none [] e = refl
root-none (row ∷ rows) e = cc

pub root-later : (last : ℕ) (rows : List (Key × Content)) (key : Key) → Rises 0 (births rows) last
    → option_map (λ (row : Key × Content). row.0) (slice_get rows 0) ≡ Some key → eqb key.birth 1 ≡ false → object_at rows 1 ≡ None
root-later last [] key rises e other = cc
root-later last (row ∷ rows) key rises e other =
    let same : row.0 ≡ key = cc e in
    let differs : eqb row.0.birth 1 ≡ false = rw same other in
    let up : 0 < row.0.birth = rises.0 in
    let above : 1 < row.0.birth = grind arith in
    rw differs (later-none 1 row.0.birth last rows (omega arith) rises.1)

-- where an object is not there, no path leads from it to an object of a type
pub end-none : (b : Board) (v : Objects) → Shows b v → (n : ℕ) (parts : List (List ℕ)) (wanted : List ℕ) → content_of v n ≡ None
    → option_and_then (only_of b wanted) (walk b n parts) ≡ None
end-none b v s n [] wanted gone =
    let away : record_of b n ≡ None = shows-record b v s n ∙ rw gone refl in
    rw away refl
end-none b v s n (part ∷ parts) wanted gone =
    let away : record_of b n ≡ None = shows-record b v s n ∙ rw gone refl in
    let nowhere : next_of b n part ≡ None = ap (λ (o : Option Record). option_and_then target_of
    (option_map (λ (t : List ℕ × Slot). t.1) (find (λ (t : List ℕ × Slot). bytes_eq t.0 part) (option_map_or (λ (r : Record). r.slots) o [])))) away in
    rw (nowhere, walk) refl

-- a path from birth 1
told-one : (o : Option Key) → shown_resolution (ok_or o NotFound) ≡ the_one (cons_option (birth_of o) [])
told-one None = refl
told-one (Some key) = refl

pub told-absolute : (b : Board) (path wanted : List ℕ) → is_absolute path ≡ true → (o : Option Key)
    → birth_of o ≡ option_and_then (only_of b wanted) (walk b 1 (components path)) → shown_resolution (ok_or o NotFound) ≡ resolve b path wanted
told-absolute b path wanted is o e = told-one o ∙ rw (is, e) refl

-- a partial path: its ends from the objects from a place on
abbrev pub ends_after : Board → List ℕ → List ℕ → List (Key × Content) → ℕ → List ℕ
ends_after b path wanted rows place = filter_map (λ (row : Key × Content). end_from b path wanted row.0.birth) (drop place rows)

ends-from : (b : Board) (path wanted : List ℕ) (rows : List (Key × Content))
    → filter_map (λ (n : ℕ). option_and_then (only_of b wanted) (walk b n (components path))) (filter (attached b) (births rows))
    ≡ filter_map (λ (row : Key × Content). end_from b path wanted row.0.birth) rows
ends-from b path wanted [] = refl
ends-from b path wanted (row ∷ rows) = go (attached b row.0.birth) refl (ends-from b path wanted rows)
  where
    go : (t : Bool) → attached b row.0.birth ≡ t → filter_map (λ (n : ℕ). option_and_then (only_of b wanted) (walk b n (components path)))
        (filter (attached b) (births rows)) ≡ filter_map (λ (r : Key × Content). end_from b path wanted r.0.birth) rows
        → filter_map (λ (n : ℕ). option_and_then (only_of b wanted) (walk b n (components path))) (filter (attached b) (births (row ∷ rows)))
        ≡ filter_map (λ (r : Key × Content). end_from b path wanted r.0.birth) (row ∷ rows)
    go true is rest = rw is (ap (cons_option (option_and_then (only_of b wanted) (walk b row.0.birth (components path)))) rest)
    go false is rest = rw is rest

pub ends-all : (b : Board) (v : Objects) → Shows b v → (path wanted : List ℕ) → is_absolute path ≡ false
    → ends b path wanted ≡ ends_after b path wanted v.rows 0
ends-all b v s path wanted is = rw (is, shows-births b v s) (ends-from b path wanted v.rows)

-- what the rows from a place on give: first what the row at the place gives, if anything
module _ {X Y : Type 0} (f : X → Option Y) where
  given-first : (xs : List X) (i : ℕ) → filter_map f (drop i xs) ≡ cons_option (option_and_then f (slice_get xs i)) (filter_map f (drop (suc i) xs))
  given-first [] zero = refl
  given-first [] (suc i) = refl
  given-first (x ∷ xs) zero = refl
  given-first (x ∷ xs) (suc i) = given-first xs i

  pub given-drop : (xs : List X) (i : ℕ) → filter_map f (drop i xs) ≡ cons_option (option_and_then f (slice_get xs i)) (filter_map f (drop (i + 1) xs))
  given-drop xs i = let next : suc i ≡ i + 1 = omega arith in
      given-first xs i ∙ ap (λ (k : ℕ). cons_option (option_and_then f (slice_get xs i)) (filter_map f (drop k xs))) next

  pub given-past : (xs : List X) (i : ℕ) → length xs ≤ i → filter_map f (drop i xs) ≡ []
  given-past xs i past = ap (filter_map f) (drop_of_length-le xs past)

-- an object is given where it is of the wanted type
pub only-is : (b : Board) (v : Objects) → Shows b v → (n : ℕ) (kind : TypeId) (wanted : List ℕ) (t : Bool)
    → option_map (λ (c : Content). c.kind) (content_of v n) ≡ Some kind → is_a kind wanted ≡ t → only_of b wanted n ≡ cond t (Some n) None
only-is b v s n kind wanted t is e =
    let shown : kind_of b n ≡ Some kind = shows-kind b v s n ∙ is in
    let of : is_of b wanted n ≡ t = ap (λ (o : Option TypeId). option_map_or (λ (k : TypeId). is_a k wanted) o false) shown ∙ e in
    ap (λ (d : Bool). cond d (Some n) None) of

-- an end beside one that was found before
pub told-several : (b : Board) (path wanted : List ℕ) (before : Option Key) (end : ℕ) (rest : List ℕ) → is_some before ≡ true
    → ends b path wanted ≡ cons_option (birth_of before) (end ∷ rest) → several ≡ resolve b path wanted
told-several b path wanted None end rest is e = cc
told-several b path wanted (Some key) end rest is e = rw e refl

-- nothing was found before
pub none-before : (before : Option Key) (rest : List ℕ) → is_some before ≡ false → cons_option (birth_of before) rest ≡ rest
none-before None rest is = refl
none-before (Some key) rest is = cc
