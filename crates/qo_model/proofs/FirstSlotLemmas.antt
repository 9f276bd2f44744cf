-- The first slot of a name, and what a change of one slot leaves of what is read by names.
use Rattle.std.proofs.Common.{◌≡◌, refl, ap, subst, sym, ◌∙◌, ℕ, zero, suc, ◌+◌, Bool, true, false, List, [], ◌∷◌, find, slice_get, Option, Some, None, option_map, option_and_then, arith}
use Rattle.qo_model.proofs.Common.{option_map_or, bytes_eq, Record, Slot, changed_at, index_from, is_named}
use Rattle.std.proofs.lemmas.Option.{same_Some}
use Rattle.std.proofs.lemmas.Slice.Eq.{bytes_eq-Decides}

-- the slots of an object, where it is there, and the one of a name
abbrev pub slots_in : Option Record → List (List ℕ × Slot)
slots_in o = option_map_or (λ (r : Record). r.slots) o []

abbrev pub named_in : List ℕ → List (List ℕ × Slot) → Option Slot
named_in name slots = option_map (λ (s : List ℕ × Slot). s.1) (find (λ s. bytes_eq s.0 name) slots)

-- where a search finds a slot

pub record Found (p : List ℕ × Slot → Bool) (slots : List (List ℕ × Slot)) (j : ℕ) : Type 0 where
  pub entry : List ℕ × Slot
  pub at : slice_get slots j ≡ Some entry
  pub passes : p entry ≡ true

pub found-from : (p : List ℕ × Slot → Bool) (i j : ℕ) (slots : List (List ℕ × Slot)) → index_from p i slots ≡ Some j → (k : ℕ) × ((j ≡ k + i) × Found p slots k)
found-from p i j [] e = cc
found-from p i j (s ∷ slots) e = go (p s) refl (found-from p (suc i) j slots)
  where
    go : (t : Bool) → p s ≡ t → (index_from p (suc i) slots ≡ Some j → (k : ℕ) × ((j ≡ k + suc i) × Found p slots k))
        → (k : ℕ) × ((j ≡ k + i) × Found p (s ∷ slots) k)
    go true q rest = let is : i ≡ j = same_Some i j (rw q at e) in (0, (omega (arith, is), record { entry = s; at = refl; passes = q }))
    go false q rest =
        let (k, (is, found)) = rest (rw q at e) in
        (suc k, (omega (arith, is), record { entry = found.entry; at = found.at; passes = found.passes }))

pub found-at : (p : List ℕ × Slot → Bool) (j : ℕ) (slots : List (List ℕ × Slot)) → index_from p 0 slots ≡ Some j → Found p slots j
found-at p j slots e =
    let (k, (is, found)) = found-from p 0 j slots e in
    let same : j ≡ k = omega (arith, is) in
    subst (λ (m : ℕ). Found p slots m) (sym same) found

-- what holds of a name at the head, and of a tail passes on where the head has another, holds at the first place of that name
pub by-first : (name : List ℕ) (P : ℕ → List (List ℕ × Slot) → Type 0)
    → ((s : List ℕ × Slot) (slots : List (List ℕ × Slot)) → is_named name s ≡ true → P zero (s ∷ slots))
    → ((s : List ℕ × Slot) (slots : List (List ℕ × Slot)) (m : ℕ) → is_named name s ≡ false → P m slots → P (suc m) (s ∷ slots))
    → (slots : List (List ℕ × Slot)) (k j i : ℕ) → index_from (is_named name) k slots ≡ Some j → j ≡ i + k → P i slots
by-first name P here further [] k j i e is = cc
by-first name P here further (s ∷ slots) k j i e is = go (is_named name s) refl i is (by-first name P here further slots (suc k) j)
  where
    go : (t : Bool) → is_named name s ≡ t → (m : ℕ) → j ≡ m + k → ((n : ℕ) → index_from (is_named name) (suc k) slots ≡ Some j → j ≡ n + suc k → P n slots)
        → P m (s ∷ slots)
    go true p zero q rest = here s slots p
    go true p (suc m) q rest = absurd (let same : k ≡ j = same_Some k j (rw p at e) in omega (arith, same, q))
    go false p zero q rest =
        let (n, (far, found)) = found-from (is_named name) (suc k) j slots (rw p at e) in
        absurd (omega (arith, far, q))
    go false p (suc m) q rest = further s slots m p (rest m (rw p at e) (omega (arith, q)))

-- the first slot of a name
pub first-found : (name : List ℕ) (slots : List (List ℕ × Slot)) (k j i : ℕ) → index_from (is_named name) k slots ≡ Some j → j ≡ i + k
    → slice_get slots i ≡ find (λ s. bytes_eq s.0 name) slots
first-found name slots k j i e is =
    by-first name (λ m xs. slice_get xs m ≡ find (λ s. bytes_eq s.0 name) xs) (λ s xs p. rw p refl) (λ s xs m p same. rw p same) slots k j i e is

pub none-found : (name : List ℕ) (slots : List (List ℕ × Slot)) (k : ℕ) → index_from (is_named name) k slots ≡ None → named_in name slots ≡ None
none-found name [] k e = refl
none-found name (s ∷ slots) k e = go (is_named name s) refl (none-found name slots (suc k))
  where
    go : (t : Bool) → is_named name s ≡ t → (index_from (is_named name) (suc k) slots ≡ None → named_in name slots ≡ None) → named_in name (s ∷ slots) ≡ None
    go true p rest = absurd (let clash : Some k ≡ None = rw p at e in cc)
    go false p rest = rw p (rest (rw p at e))

-- one slot is changed, in nothing that is read
pub named-changed : {A : Type 0} (f : Slot → Option A) (g : Slot → Slot) → ((s : Slot) → f (g s) ≡ f s)
    → (name : List ℕ) (i : ℕ) (slots : List (List ℕ × Slot))
    → option_and_then f (named_in name (changed_at g i slots)) ≡ option_and_then f (named_in name slots)
named-changed f g same name i [] = refl
named-changed f g same name zero (s ∷ slots) = go (bytes_eq s.0 name) refl
  where
    go : (t : Bool) → bytes_eq s.0 name ≡ t → option_and_then f (named_in name ((s.0, g s.1) ∷ slots)) ≡ option_and_then f (named_in name (s ∷ slots))
    go true p = rw p (same s.1)
    go false p = rw p refl
named-changed f g same name (suc i) (s ∷ slots) = go (bytes_eq s.0 name) refl (named-changed f g same name i slots)
  where
    go : (t : Bool) → bytes_eq s.0 name ≡ t → option_and_then f (named_in name (changed_at g i slots)) ≡ option_and_then f (named_in name slots)
        → option_and_then f (named_in name (s ∷ changed_at g i slots)) ≡ option_and_then f (named_in name (s ∷ slots))
    go true p rest = rw p refl
    go false p rest = rw p rest

-- of another name
pub named-other : (g : Slot → Slot) (name : List ℕ) (i : ℕ) (slots : List (List ℕ × Slot)) (s : List ℕ × Slot) → slice_get slots i ≡ Some s
    → bytes_eq s.0 name ≡ false → named_in name (changed_at g i slots) ≡ named_in name slots
named-other g name i [] s e apart = refl
named-other g name zero (x ∷ slots) s e apart =
    let other : bytes_eq x.0 name ≡ false = ap (λ (y : List ℕ × Slot). bytes_eq y.0 name) (same_Some x s e) ∙ apart in rw other refl
named-other g name (suc i) (x ∷ slots) s e apart = go (bytes_eq x.0 name) refl (named-other g name i slots s e apart)
  where
    go : (t : Bool) → bytes_eq x.0 name ≡ t → named_in name (changed_at g i slots) ≡ named_in name slots
        → named_in name (x ∷ changed_at g i slots) ≡ named_in name (x ∷ slots)
    go true p rest = rw p refl
    go false p rest = rw p rest

pub other-name : (name own : List ℕ) → bytes_eq name own ≡ false → (s : List ℕ × Slot) → is_named name s ≡ true → bytes_eq s.0 own ≡ false
other-name name own apart s e = subst (λ (x : List ℕ). bytes_eq x own ≡ false) (sym ((bytes_eq-Decides s.0 name).0 e)) apart

-- the first of a name
pub first-changed : (g : Slot → Slot) (name : List ℕ) (slots : List (List ℕ × Slot)) (k j i : ℕ) → index_from (is_named name) k slots ≡ Some j
    → j ≡ i + k → named_in name (changed_at g i slots) ≡ option_map g (named_in name slots)
first-changed g name slots k j i e is =
    by-first name (λ m xs. named_in name (changed_at g m xs) ≡ option_map g (named_in name xs)) (λ s xs p. rw p refl) (λ s xs m p same. rw p same) slots k j i e
    is
