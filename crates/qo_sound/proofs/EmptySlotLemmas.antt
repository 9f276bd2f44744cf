-- Slots of which those before a place hold nothing, as in an object that is being finalized.
use Rattle.std.proofs.Common.{◌≡◌, refl, ap, sym, subst, ◌∙◌, ℕ, zero, suc, Bool, true, false, ◌==◌, List, [], ◌∷◌, slice_get, sum_by, Option, Some, None, option_map, arith}
use Rattle.qo_model.proofs.Common.{⊤, option_map_or, Board, Record, Slot, plain, child, strong, weak, alias, record_of, slots_at, slot_at, holds_it, edited, without_hold, with_dropped, drop_slot, next_index, forgotten_in, forgotten, finish}
use Rattle.std.proofs.lemmas.Bool.{eqb-true, eq-eqb}
use Rattle.std.proofs.lemmas.List.Sums.{sum_by-cons}
use Rattle.std.proofs.lemmas.Option.{same_Some}
use Rattle.qo_model.specs.Board.{referent}
use Rattle.qo_model.proofs.EditLemmas.{held-forgotten, StandsAt, stands-at}
use Rattle.qo_model.proofs.StepLemmas.{drop-record, finish-record, finish-gone, found-birth, one_of}
use Rattle.qo_sound.proofs.SlotLemmas.{each_slot}

-- the slots before a place hold nothing
abbrev pub EmptyBefore : ℕ → List (List ℕ × Slot) → Type 0
EmptyBefore zero slots = ⊤
EmptyBefore (suc i) [] = ⊤
EmptyBefore (suc i) (s ∷ slots) = (referent s.1 ≡ None) × EmptyBefore i slots

pub empty-dropped : (j i : ℕ) (slots : List (List ℕ × Slot)) → EmptyBefore j slots → EmptyBefore j (without_hold i slots)
empty-dropped zero i slots h = tt
empty-dropped (suc j) i [] h = tt
empty-dropped (suc j) zero ((name, plain v) ∷ slots) h = h
empty-dropped (suc j) zero ((name, child m) ∷ slots) h = absurd (let clash : Some m ≡ None = h.0 in cc)
empty-dropped (suc j) zero ((name, strong t target) ∷ slots) h = (refl, h.1)
empty-dropped (suc j) zero ((name, weak t target) ∷ slots) h = h
empty-dropped (suc j) zero ((name, alias m property) ∷ slots) h = h
empty-dropped (suc j) (suc i) (s ∷ slots) h = (h.0, empty-dropped j i slots h.1)

next-after : (s : Slot) (i : ℕ) → next_index s (suc i) ≡ suc (next_index s i)
next-after (plain v) i = refl
next-after (child m) i = refl
next-after (strong t target) i = refl
next-after (weak t target) i = refl
next-after (alias m property) i = refl

-- after a slot that was let go, those before the next place hold nothing
pub empty-next : (i : ℕ) (slots : List (List ℕ × Slot)) (s : List ℕ × Slot) → slice_get slots i ≡ Some s → EmptyBefore i slots
    → EmptyBefore (next_index s.1 i) (without_hold i slots)
empty-next i [] s e h = cc
empty-next zero (x ∷ slots) s e h = subst (λ (y : List ℕ × Slot). EmptyBefore (next_index y.1 zero) (without_hold zero (x ∷ slots))) (same_Some x s e) (go x)
  where
    go : (y : List ℕ × Slot) → EmptyBefore (next_index y.1 zero) (without_hold zero (y ∷ slots))
    go (name, plain v) = (refl, tt)
    go (name, child m) = tt
    go (name, strong t target) = (refl, tt)
    go (name, weak t target) = (refl, tt)
    go (name, alias m property) = (refl, tt)
empty-next (suc i) (x ∷ slots) s e h = subst (λ (j : ℕ). EmptyBefore j (x ∷ without_hold i slots)) (sym (next-after s.1 i)) (h.0, empty-next i slots s e h.1)

pub empty-each : (n j : ℕ) (slots : List (List ℕ × Slot)) → EmptyBefore j slots → EmptyBefore j (each_slot (forgotten_in n) slots)
empty-each n zero slots h = tt
empty-each n (suc j) [] h = tt
empty-each n (suc j) (s ∷ slots) h = (held-forgotten n s.1 ∙ h.0, empty-each n j slots h.1)

-- where the place is past the last slot, none of them holds anything
pub empty-all : (x i : ℕ) (slots : List (List ℕ × Slot)) → slice_get slots i ≡ None → EmptyBefore i slots → sum_by (one_of x) slots ≡ 0
empty-all x i [] e h = refl
empty-all x zero (s ∷ slots) e h = cc
empty-all x (suc i) (s ∷ slots) e h =
    let none : one_of x s ≡ 0 = rw (holds_it, h.0) refl in
    omega (arith, none, empty-all x i slots e h.1, sum_by-cons (one_of x) s slots)

-- the slots of an object on boards
pub empty-drop : (b : Board) (n i x j : ℕ) → EmptyBefore j (slots_at b x) → EmptyBefore j (slots_at (drop_slot b n i) x)
empty-drop b n i x j h =
    subst (λ (o : Option Record). EmptyBefore j (option_map_or (λ (r : Record). r.slots) o [])) (sym (drop-record b n i x)) (go (record_of b x) h)
  where
    at_record : (r : Record) (t : Bool) → (r.birth == n) ≡ t → EmptyBefore j r.slots → EmptyBefore j (edited n (with_dropped i) r).slots
    at_record r true p k = rw (edited, p) (empty-dropped j i r.slots k)
    at_record r false p k = rw (edited, p) k

    go : (o : Option Record) → EmptyBefore j (option_map_or (λ (r : Record). r.slots) o [])
        → EmptyBefore j (option_map_or (λ (r : Record). r.slots) (option_map (edited n (with_dropped i)) o) [])
    go None k = k
    go (Some r) k = at_record r (r.birth == n) refl k

pub empty-drop_next : (b : Board) (n i : ℕ) (s : Slot) → slot_at b n i ≡ Some s → EmptyBefore i (slots_at b n)
    → EmptyBefore (next_index s i) (slots_at (drop_slot b n i) n)
empty-drop_next b n i s e h =
    let at_place : StandsAt b n i s = stands-at b n i s e in
    let owner : Record = at_place.owner in
    let here : (owner.birth == n) ≡ true = eq-eqb owner.birth n (found-birth n b.records owner at_place.found) in
    let before : EmptyBefore i owner.slots = subst (λ (o : Option Record). EmptyBefore i (option_map_or (λ (r : Record). r.slots) o [])) at_place.found h in
    let slots : slots_at (drop_slot b n i) n ≡ without_hold i owner.slots = ap (λ (o : Option Record). option_map_or (λ (r : Record). r.slots) o [])
    (drop-record b n i n ∙ ap (option_map (edited n (with_dropped i))) at_place.found) ∙ rw (edited, here) refl in
    subst (EmptyBefore (next_index s i)) (sym slots) (subst (λ (y : Slot). EmptyBefore (next_index y i) (without_hold i owner.slots)) at_place.is
    (empty-next i owner.slots at_place.entry at_place.at before))

pub empty-finish : (b : Board) (n x j : ℕ) → EmptyBefore j (slots_at b x) → EmptyBefore j (slots_at (finish b n) x)
empty-finish b n x j h = go (x == n) refl
  where
    at_record : (o : Option Record) → EmptyBefore j (option_map_or (λ (r : Record). r.slots) o [])
        → EmptyBefore j (option_map_or (λ (r : Record). r.slots) (option_map (forgotten n) o) [])
    at_record None k = k
    at_record (Some r) k = empty-each n j r.slots k

    none : (k : ℕ) → EmptyBefore k []
    none zero = tt
    none (suc k) = tt

    go : (t : Bool) → (x == n) ≡ t → EmptyBefore j (slots_at (finish b n) x)
    go true p =
        let gone : record_of (finish b n) x ≡ None = ap (record_of (finish b n)) (eqb-true x n p) ∙ finish-gone b n in
        subst (λ (o : Option Record). EmptyBefore j (option_map_or (λ (r : Record). r.slots) o [])) (sym gone) (none j)
    go false p =
        subst (λ (o : Option Record). EmptyBefore j (option_map_or (λ (r : Record). r.slots) o [])) (sym (finish-record b n x p)) (at_record (record_of b x) h)
