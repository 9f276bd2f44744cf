-- How often a claim is held: as often as it is due to the objects of the board.
use Rattle.std.proofs.Common.{◌≡◌, refl, ap, ap₂, sym, subst, ◌∙◌, ℕ, ◌+◌, ◌<◌, Bool, true, false, cond, ◌&&◌, ◌||◌, ◌==◌, List, [], ◌∷◌, map, sum_by, count_by, nat_lt, Option, Some, None, option_map, find, arith}
use Rattle.std.specs.List.{AllByRecursion, list_any}
use Rattle.std.specs.Option.{option_map_or}
use Rattle.std.proofs.lemmas.Bool.{eq-eqb}
use Rattle.std.proofs.lemmas.Bool.Decides.{nat_tests}
use Rattle.std.proofs.lemmas.List.Sums.{sum_by-cons}
use Rattle.qo_values.proofs.ListLemmas.{all-imply}
use Rattle.qo_claims.specs.declared.claims.Claimed.{Claimed}
use Rattle.qo_claims.specs.declared.claims.Claimed.TheVariants as on
use Rattle.qo_kinds.specs.Bodies.{kept_of}
use Rattle.qo_kinds.specs.declared.kept_set.KeptSet.{KeptSet}
use Rattle.qo_slots.specs.declared.keys.Key.{Key}
use Rattle.qo_object.specs.Content.{Content}
use Rattle.qo_model.specs.Board.{Board, Record}
use Rattle.qo_model.specs.Devices.{is_realized}
use Rattle.qo_model.specs.Paths.{births}
use Rattle.qo_model.specs.SoundGraph.{Rises}
use Rattle.qo_heap.specs.Board.{Shows, record_of}
use Rattle.qo_heap.specs.Book.{IsBook, claim_eq, counted, kept_times, one, owned}
use Rattle.qo_heap.specs.Objects.{Objects}
use Rattle.qo_heap.proofs.BoardReads.{shows-births}
use Rattle.qo_unplug.specs.RealizedClaims.{KeepsDue, due_if}

-- whether a sum is 0

either : (n m : ℕ) → nat_lt 0 (n + m) ≡ (nat_lt 0 n || nat_lt 0 m)
either n m = go (nat_lt 0 n) refl (nat_lt 0 m) refl (nat_lt 0 (n + m)) refl
  where
    go : (a : Bool) → nat_lt 0 n ≡ a → (b : Bool) → nat_lt 0 m ≡ b → (c : Bool) → nat_lt 0 (n + m) ≡ c → c ≡ (a || b)
    go true p b q true r = refl
    go true p b q false r = absurd (grind (arith, nat_tests))
    go false p true q true r = refl
    go false p true q false r = absurd (grind (arith, nat_tests))
    go false p false q true r = absurd (grind (arith, nat_tests))
    go false p false q false r = refl

once : (t : Bool) → nat_lt 0 (cond t 1 0) ≡ t
once true = refl
once false = refl

module _ {X : Type 0} (p : X → Bool) where
  -- an element passes exactly where the sum of the weights is not 0, where those that pass have a weight
  any-summed : (weight : X → ℕ) (xs : List X) → AllByRecursion (λ x. nat_lt 0 (weight x) ≡ p x) xs → nat_lt 0 (sum_by weight xs) ≡ list_any p xs
  any-summed weight [] weighs = refl
  any-summed weight (x ∷ xs) weighs =
      ap (nat_lt 0) (sum_by-cons weight x xs) ∙ either (weight x) (sum_by weight xs)
      ∙ ap₂ (λ (a b : Bool). a || b) weighs.0 (any-summed weight xs weighs.1)

  pub any-counted : (xs : List X) → list_any p xs ≡ nat_lt 0 (count_by p xs)
  any-counted xs = sym (any-summed (λ x. cond (p x) 1 0) xs (each xs))
    where
      each : (ys : List X) → AllByRecursion (λ x. nat_lt 0 (cond (p x) 1 0) ≡ p x) ys
      each [] = tt
      each (y ∷ ys) = (once (p y), each ys)

-- where the births of a list rise, each element is found by its own

module _ {X : Type 0} (key : X → ℕ) where
  abbrev pub IsFoundIn : List X → X → Type 0
  IsFoundIn xs x = find (λ y. key y == key x) xs ≡ Some x

  found-further : (x : X) (xs ys : List X) → AllByRecursion (λ m. key x < m) (map key ys) → AllByRecursion (IsFoundIn xs) ys
      → AllByRecursion (IsFoundIn (x ∷ xs)) ys
  found-further x xs [] above all = tt
  found-further x xs (y ∷ ys) above all =
      let low : key x < key y = above.0 in
      let other : (key x == key y) ≡ false = grind arith in
      (rw other all.0, found-further x xs ys above.1 all.1)

  pub found-each : (xs : List X) → Rises (map key xs) → AllByRecursion (IsFoundIn xs) xs
  found-each [] up = tt
  found-each (x ∷ xs) up = (rw (eq-eqb (key x) (key x) refl) refl, found-further x xs xs up.0 (found-each xs up.1))

-- whether a claim is the one that there is; whether it is among those of a body

abbrev pub claims : Claimed → Option Claimed → Bool
claims x o = option_map_or (claim_eq x) o false

abbrev pub keeps : Claimed → KeptSet → Bool
keeps x k = claims x k.slot || (claims x k.ring || (claims x k.backend || claims x k.range))

one-claims : (x : Claimed) (o : Option Claimed) → nat_lt 0 (one x o) ≡ claims x o
one-claims x None = refl
one-claims x (Some y) = once (claim_eq x y)

-- a sum of two is not 0 where one of them is not
both-tested : (n m : ℕ) (a b : Bool) → nat_lt 0 n ≡ a → nat_lt 0 m ≡ b → nat_lt 0 (n + m) ≡ (a || b)
both-tested n m a b p q = either n m ∙ ap₂ (λ (t u : Bool). t || u) p q

times-keeps : (x : Claimed) (k : KeptSet) → nat_lt 0 (kept_times x k) ≡ keeps x k
times-keeps x k =
    both-tested (one x k.slot) (one x k.ring + (one x k.backend + one x k.range)) (claims x k.slot)
    (claims x k.ring || (claims x k.backend || claims x k.range)) (one-claims x k.slot)
    (both-tested (one x k.ring) (one x k.backend + one x k.range) (claims x k.ring) (claims x k.backend || claims x k.range) (one-claims x k.ring)
    (both-tested (one x k.backend) (one x k.range) (claims x k.backend) (claims x k.range) (one-claims x k.backend) (one-claims x k.range)))

due-keeps : (x : Claimed) (due : ℕ → KeptSet) (lit : Bool) (n : ℕ) → nat_lt 0 (kept_times x (due_if due lit n)) ≡ (lit && keeps x (due n))
due-keeps x due true n = times-keeps x (due n)
due-keeps x due false n = refl

module _ (due : ℕ → KeptSet) (b : Board) where
  -- how often a claim is due to an object, and whether it is
  abbrev due_times : Claimed → Record → ℕ
  due_times x r = kept_times x (due_if due (is_realized b r.birth) r.birth) + one x (option_map on.Device r.device_id)

  abbrev pub is_due : Claimed → Record → Bool
  is_due x r = is_realized b r.birth && keeps x (due r.birth) || claims x (option_map on.Device r.device_id)

  is-due : (x : Claimed) (r : Record) → nat_lt 0 (due_times x r) ≡ is_due x r
  is-due x r =
      both-tested (kept_times x (due_if due (is_realized b r.birth) r.birth)) (one x (option_map on.Device r.device_id))
      (is_realized b r.birth && keeps x (due r.birth)) (claims x (option_map on.Device r.device_id)) (due-keeps x due (is_realized b r.birth) r.birth)
      (one-claims x (option_map on.Device r.device_id))

  -- a row keeps what is due to it
  abbrev KeepsIt : Key × Content → Type 0
  KeepsIt row = kept_of row.1.body ≡ due_if due (is_realized b row.0.birth) row.0.birth

  owned-due : (x : Claimed) (rows : List (Key × Content)) → AllByRecursion KeepsIt rows → sum_by (owned x) rows ≡ sum_by (due_times x) (map record_of rows)
  owned-due x [] all = refl
  owned-due x (row ∷ rows) all =
      let here : owned x row ≡ due_times x (record_of row) =
      ap (λ (k : KeptSet). kept_times x k + one x (option_map on.Device row.1.device_id)) all.0 in
      omega (arith, here, owned-due x rows all.1, sum_by-cons (owned x) row rows, sum_by-cons (due_times x) (record_of row) (map record_of rows))

  module _ (v : Objects) (shows : Shows b v) (rising : Rises (births b)) (kept : KeepsDue due b v) where
    keep-all : AllByRecursion KeepsIt v.rows
    keep-all =
        all-imply (IsFoundIn (λ (row : Key × Content). row.0.birth) v.rows) KeepsIt
        (λ row found.
        kept row.0.birth (kept_of row.1.body)
        (ap (λ (o : Option (Key × Content)). option_map (λ (c : Content). kept_of c.body) (option_map (λ (x : Key × Content). x.1) o)) found))
        v.rows
        (found-each (λ (row : Key × Content). row.0.birth) v.rows (subst Rises (shows-births b v shows) rising))

    -- a claim is held exactly where it is due to an object
    pub counted-due : IsBook [] v → (x : Claimed) (test : Record → Bool) → AllByRecursion (λ (r : Record). is_due x r ≡ test r) b.records
        → nat_lt 0 (counted x v.claims) ≡ list_any test b.records
    counted-due book x test tests =
        let sums : sum_by (owned x) v.rows ≡ sum_by (due_times x) b.records =
        owned-due x v.rows keep-all ∙ ap (sum_by (due_times x)) (sym shows.records) in
        let all : counted x v.claims ≡ sum_by (due_times x) b.records = omega (arith, book x, sums) in
        ap (nat_lt 0) all
        ∙ any-summed test (due_times x) b.records
        (all-imply (λ (r : Record). is_due x r ≡ test r) (λ (r : Record). nat_lt 0 (due_times x r) ≡ test r) (λ r is. is-due x r ∙ is) b.records tests)
