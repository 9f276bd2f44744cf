-- Slots by place.
use Rattle.std.proofs.Common.{◌≡◌, ℕ, zero, suc, ◌+◌, ◌≤◌, ◌<◌, nat_lt, Bool, true, false, not, cond, ◌||◌, ◌==◌, List, [], ◌∷◌, position, slice_set, get_or, length, remove, Some, None, is_some, count_by, refl, sym, ap, ap₂, ◌∙◌, arith}
use Rattle.std.proofs.lemmas.List.Sums.{sum_by-cons}
use Rattle.std.specs.List.{list_any, position_or_len}
use Rattle.std.specs.Option.{option_and_then}
use Rattle.qo_slots.specs.declared.keys.Key.{Key}
use Rattle.qo_object.specs.declared.slots.Slot.{Slot}
use Rattle.qo_object.specs.declared.slots.Slot.TheVariants.{Plain, Child, Link, Alias}
use Rattle.qo_object.specs.Slots.{Named, slot_in, child_of, unlinked, names_weakly, forgotten_in, changed_at, let_go_at, each_changed}

-- a child that is let go is removed
pub child-gone : (slots : List Named) (i : ℕ) (key : Key) → option_and_then child_of (slot_in slots i) ≡ Some key → remove slots i ≡ let_go_at i slots
child-gone [] i key found = cc
child-gone ((name, Plain val) ∷ slots) zero key found = cc
child-gone ((name, Child other) ∷ slots) zero key found = refl
child-gone ((name, Link ty strong target) ∷ slots) zero key found = cc
child-gone ((name, Alias other property) ∷ slots) zero key found = cc
child-gone (s ∷ slots) (suc i) key found = ap (λ ss. s ∷ ss) (child-gone slots i key found)

-- anything else that is let go stays, a link without its target
pub link-emptied : (slots : List Named) (i : ℕ) → option_and_then child_of (slot_in slots i) ≡ None → changed_at unlinked i slots ≡ let_go_at i slots
link-emptied [] i none = refl
link-emptied ((name, Plain val) ∷ slots) zero none = refl
link-emptied ((name, Child other) ∷ slots) zero none = cc
link-emptied ((name, Link ty strong target) ∷ slots) zero none = refl
link-emptied ((name, Alias other property) ∷ slots) zero none = refl
link-emptied (s ∷ slots) (suc i) none = ap (λ ss. s ∷ ss) (link-emptied slots i none)

-- a slot that is let go leaves no more slots, and one that is changed as many
pub length-let_go : (i : ℕ) (slots : List Named) → length (let_go_at i slots) ≤ length slots
length-let_go i [] = omega arith
length-let_go zero ((name, Plain val) ∷ slots) = omega arith
length-let_go zero ((name, Child other) ∷ slots) = omega arith
length-let_go zero ((name, Link ty strong target) ∷ slots) = omega arith
length-let_go zero ((name, Alias other property) ∷ slots) = omega arith
length-let_go (suc i) (s ∷ slots) = omega (arith, length-let_go i slots)

pub length-changed : (change : Slot → Slot) (i : ℕ) (slots : List Named) → length (changed_at change i slots) ≡ length slots
length-changed change i [] = refl
length-changed change zero (s ∷ slots) = refl
length-changed change (suc i) (s ∷ slots) = ap suc (length-changed change i slots)

-- the first so many slots are changed
abbrev pub first_changed : (Slot → Slot) → ℕ → List Named → List Named
first_changed change i [] = []
first_changed change zero slots = slots
first_changed change (suc i) (s ∷ slots) = (s.0, change s.1) ∷ first_changed change i slots

pub first-none : (change : Slot → Slot) (slots : List Named) → first_changed change 0 slots ≡ slots
first-none change [] = refl
first-none change (s ∷ slots) = refl

pub first-more : (change : Slot → Slot) (i : ℕ) (slots : List Named) → changed_at change i (first_changed change i slots) ≡ first_changed change (i + 1) slots
first-more change i slots = by (i + 1) (omega arith) slots
  where
    by : (j : ℕ) → j ≡ suc i → (ss : List Named) → changed_at change i (first_changed change i ss) ≡ first_changed change j ss
    by j next ss = rw next (next-turn i ss)
      where
        next-turn : (k : ℕ) (ts : List Named) → changed_at change k (first_changed change k ts) ≡ first_changed change (suc k) ts
        next-turn k [] = refl
        next-turn zero (t ∷ ts) = rw (first-none change ts) refl
        next-turn (suc k) (t ∷ ts) = ap (λ us. (t.0, change t.1) ∷ us) (next-turn k ts)

pub first-all : (change : Slot → Slot) (slots : List Named) → first_changed change (length slots) slots ≡ each_changed change slots
first-all change [] = refl
first-all change (s ∷ slots) = ap (λ us. (s.0, change s.1) ∷ us) (first-all change slots)

pub length-first : (change : Slot → Slot) (i : ℕ) (slots : List Named) → length (first_changed change i slots) ≡ length slots
length-first change i [] = refl
length-first change zero (s ∷ slots) = refl
length-first change (suc i) (s ∷ slots) = ap suc (length-first change i slots)

-- a number is below another where both are one more
step : (n m : ℕ) → nat_lt (1 + n) (suc m) ≡ nat_lt n m
step n m = grind arith

low : (m : ℕ) → nat_lt 0 (suc m) ≡ true
low m = grind arith

-- there is a place exactly where there is one that passes
pub found-any : {X : Type 0} (test : X → Bool) (xs : List X) → is_some (position test xs) ≡ list_any test xs
found-any {X} test xs = told (nat_lt (position_or_len test xs) (length xs)) (position_or_len test xs) ∙ below xs
  where
    told : (b : Bool) (n : ℕ) → is_some (cond b (Some n) None) ≡ b
    told true n = refl
    told false n = refl

    below : (ys : List X) → nat_lt (position_or_len test ys) (length ys) ≡ list_any test ys
    below [] = refl
    below (y ∷ ys) = by (test y) (below ys)
      where
        by : (b : Bool) → nat_lt (position_or_len test ys) (length ys) ≡ list_any test ys
            → nat_lt (cond (not b) (1 + position_or_len test ys) 0) (suc (length ys)) ≡ b || list_any test ys
        by true rest = low (length ys)
        by false rest = step (position_or_len test ys) (length ys) ∙ rest

-- none passes exactly where none is counted
pub none-counted : {X : Type 0} (test : X → Bool) (xs : List X) → not (list_any test xs) ≡ (count_by test xs == 0)
none-counted test [] = refl
none-counted test (x ∷ xs) = rw (sum_by-cons (λ y. cond {A = ℕ} (test y) 1 0) x xs) (by (test x) (none-counted test xs))
  where
    some : (n : ℕ) → false ≡ (1 + n == 0)
    some n = grind arith

    none : (n : ℕ) → (n == 0) ≡ (0 + n == 0)
    none n = grind arith

    by : (b : Bool) → not (list_any test xs) ≡ (count_by test xs == 0) → not (b || list_any test xs) ≡ (cond {A = ℕ} b 1 0 + count_by test xs == 0)
    by true rest = some (count_by test xs)
    by false rest = rest ∙ none (count_by test xs)

-- where no weak link names the object of a birth, nothing is emptied
kept-slot : (birth : ℕ) (s : Slot) → names_weakly birth s ≡ false → forgotten_in birth s ≡ s
kept-slot birth (Plain val) not_so = refl
kept-slot birth (Child key) not_so = refl
kept-slot birth (Link ty true target) not_so = refl
kept-slot birth (Link ty false None) not_so = refl
kept-slot birth (Link ty false (Some key)) not_so = rw not_so refl
kept-slot birth (Alias key property) not_so = refl

both-false : (a b : Bool) → a || b ≡ false → (a ≡ false) × (b ≡ false)
both-false true b none = cc
both-false false b none = (refl, none)

pub none-forgotten : (birth : ℕ) (slots : List Named) → list_any (λ (s : Named). names_weakly birth s.1) slots ≡ false
    → each_changed (forgotten_in birth) slots ≡ slots
none-forgotten birth [] none = refl
none-forgotten birth (s ∷ slots) none =
    let both = both-false (names_weakly birth s.1) (list_any (λ (t : Named). names_weakly birth t.1) slots) none in
    ap₂ (λ (what : Slot) (ss : List Named). (s.0, what) ∷ ss) (kept-slot birth s.1 both.0) (none-forgotten birth slots both.1)

-- a slot at a place that is there, and past the end
pub slot-there : (slots : List Named) (i : ℕ) (w : Named) → i < length slots → w ≡ get_or slots i w → slot_in slots i ≡ Some w.1
slot-there [] i w in_it is = absurd (omega (arith, in_it))
slot-there (s ∷ slots) zero w in_it is = ap (λ (x : Named). Some x.1) (sym is)
slot-there (s ∷ slots) (suc i) w in_it is = slot-there slots i w (omega (arith, in_it)) is

pub slot-past : (slots : List Named) (i : ℕ) → length slots ≤ i → slot_in slots i ≡ None
slot-past [] i past = refl
slot-past (s ∷ slots) zero past = absurd (omega (arith, past))
slot-past (s ∷ slots) (suc i) past = slot-past slots i (omega (arith, past))

-- a slot that is changed where it stands, and past the end
pub changed-there : (change : Slot → Slot) (slots : List Named) (i : ℕ) (w : Named) (now : Slot) → i < length slots → w ≡ get_or slots i w → now ≡ change w.1
    → slice_set slots i (w.0, now) ≡ changed_at change i slots
changed-there change [] i w now in_it is changed = absurd (omega (arith, in_it))
changed-there change (s ∷ slots) zero w now in_it is changed = rw (changed, is) refl
changed-there change (s ∷ slots) (suc i) w now in_it is changed = ap (λ ss. s ∷ ss) (changed-there change slots i w now (omega (arith, in_it)) is changed)

pub changed-past : (change : Slot → Slot) (slots : List Named) (i : ℕ) → length slots ≤ i → slots ≡ changed_at change i slots
changed-past change [] i past = refl
changed-past change (s ∷ slots) zero past = absurd (omega (arith, past))
changed-past change (s ∷ slots) (suc i) past = ap (λ ss. s ∷ ss) (changed-past change slots i (omega (arith, past)))
