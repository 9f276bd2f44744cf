-- Where a name goes among members, and what stands there after.
use Rattle.std.proofs.Common.{◌≡◌, ℕ, suc, ◌+◌, ◌<◌, ◌≤◌, List, [], ◌∷◌, ◌++◌, length, drop, get_or, insert, set, Bor, Ordering, Less, Equal, Greater, Result}
use Rattle.std.proofs.Common.{Ok, Err, refl, sym, ap, ◌∙◌, arith}
use Rattle.std.proofs.Math.Seq.{drop-length, take-length}
use Rattle.std.specs.Cmp.Lexicographic.{slice_cmp}
use Rattle.std.specs.Ordering.{match_ordering, nat_cmp}
use Rattle.serde_json.specs.Data.{member, put}
use Rattle.qo_json.specs.Places.{one_further, place_of}
use Rattle.qo_json.specs.View.{view, members_view}
use Rattle.qo_json.specs.declared.values.Json.{Json}
use Rattle.qo_json.proofs.MemberLemmas.{Member}

-- ---- the scan

-- a place, in a list that has so many members more before
abbrev pub further : ℕ → Result ℕ ℕ → Result ℕ ℕ
further n (Ok at) = Ok (n + at)
further n (Err at) = Err (n + at)

-- the place is that among those left, so much further
abbrev pub IsFurther : List ℕ → List Member → ℕ → Type 0
IsFurther name all n = place_of name all ≡ further n (place_of name (drop n all))

-- ---- what stands there after

one_ok : (r : Result ℕ ℕ) (i : ℕ) → one_further r ≡ Ok i → (j : ℕ) × (i ≡ suc j) × (r ≡ Ok j)
one_ok (Ok j) i e = (j, cc, refl)
one_ok (Err j) i e = absurd (cc)

one_err : (r : Result ℕ ℕ) (i : ℕ) → one_further r ≡ Err i → (j : ℕ) × (i ≡ suc j) × (r ≡ Err j)
one_err (Ok j) i e = absurd (cc)
one_err (Err j) i e = (j, cc, refl)

module _ (name : List ℕ) (v : Json) where
  -- a value in the place of another
  abbrev Replaced : List Member → ℕ → Type 0
  Replaced ms i = (i < length ms) × ((d : Member) → members_view (set ms i ((get_or ms i d).0, v)) ≡ put name (view v) (members_view ms))

  replaced_at : (o : Ordering) (m : Member) (ms : List Member) (i : ℕ) → slice_cmp nat_cmp name m.0.now ≡ o
      → match_ordering o (Err 0) (Ok 0) (one_further (place_of name ms)) ≡ Ok i → ((j : ℕ) → place_of name ms ≡ Ok j → Replaced ms j)
      → Replaced (m ∷ ms) i
  replaced_at Less m ms i o e later = absurd (cc)
  replaced_at Equal m ms i o e later = let first : i ≡ 0 = cc in rw first (omega arith, λ d. rw o refl)
  replaced_at Greater m ms i o e later =
      let j = one_ok (place_of name ms) i e in
      let then = later j.0 j.2 in
      rw j.1 (omega (arith, then.0), λ d. rw o (ap (member m.0.now (view m.1)) (then.1 d)))

  pub replaced : (ms : List Member) (i : ℕ) → place_of name ms ≡ Ok i → Replaced ms i
  replaced [] i e = absurd (cc)
  replaced (m ∷ ms) i e = replaced_at (slice_cmp nat_cmp name m.0.now) m ms i refl e (replaced ms)

module _ (k : Bor (List ℕ)) (v : Json) where
  -- a member more
  abbrev Inserted : List Member → ℕ → Type 0
  Inserted ms i = (i ≤ length ms) × (members_view (insert ms i (k, v)) ≡ put k.now (view v) (members_view ms))

  inserted_at : (o : Ordering) (m : Member) (ms : List Member) (i : ℕ) → slice_cmp nat_cmp k.now m.0.now ≡ o
      → match_ordering o (Err 0) (Ok 0) (one_further (place_of k.now ms)) ≡ Err i → ((j : ℕ) → place_of k.now ms ≡ Err j → Inserted ms j)
      → Inserted (m ∷ ms) i
  inserted_at Less m ms i o e later = let first : i ≡ 0 = cc in rw first (omega arith, rw o refl)
  inserted_at Equal m ms i o e later = absurd (cc)
  inserted_at Greater m ms i o e later =
      let j = one_err (place_of k.now ms) i e in
      let then = later j.0 j.2 in
      rw j.1 (omega (arith, then.0), rw o (ap (member m.0.now (view m.1)) then.1))

  pub inserted : (ms : List Member) (i : ℕ) → place_of k.now ms ≡ Err i → Inserted ms i
  inserted [] i e = let first : i ≡ 0 = cc in rw first (omega arith, refl)
  inserted (m ∷ ms) i e = inserted_at (slice_cmp nat_cmp k.now m.0.now) m ms i refl e (inserted ms)

  -- a member after all others
  pub pushed : (ms : List Member) (i : ℕ) → place_of k.now ms ≡ Err i → i ≡ length ms
      → members_view (ms ++ (k, v) ∷ []) ≡ put k.now (view v) (members_view ms)
  pushed ms i e last =
      let same : insert ms (length ms) (k, v) ≡ ms ++ (k, v) ∷ [] = rw (take-length ms, drop-length ms) refl in
      ap members_view (sym same) ∙ (inserted ms (length ms) (e ∙ ap Err last)).1
