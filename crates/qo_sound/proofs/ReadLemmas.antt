-- What is read of slots, by their names and of each alone, and what it stays through.
use Rattle.std.proofs.Common.{◌≡◌, refl, ℕ, List, [], Bool, false, Option, Some, None, option_map, ap, sym, subst, ◌∙◌, true, ◌==◌, slice_get}
use Rattle.qo_model.proofs.Common.{Val, Record, Slot, plain, child, strong, weak, alias, Board, record_of, slots_at, pointed, with_val, plain_in, strong_in, forgotten_in, drop_slot, edit, edited, with_dropped, without_hold, unseen, fitted}
use Rattle.std.proofs.lemmas.Bool.{eq-eqb, eqb-true}
use Rattle.qo_model.specs.Clocks.{weak_in}
use Rattle.qo_model.proofs.FirstSlotLemmas.{slots_in}
use Rattle.qo_model.proofs.StepLemmas.{drop-record, found-birth, found-edited}

-- an object's end empties weak links alone
pub plain-forgotten : (n : ℕ) (s : Slot) → plain_in (forgotten_in n s) ≡ plain_in s
plain-forgotten n (plain v) = refl
plain-forgotten n (child m) = refl
plain-forgotten n (strong t target) = refl
plain-forgotten n (weak t None) = refl
plain-forgotten n (weak t (Some m)) = refl
plain-forgotten n (alias m property) = refl

pub strong-forgotten : (n : ℕ) (s : Slot) → strong_in (forgotten_in n s) ≡ strong_in s
strong-forgotten n (plain v) = refl
strong-forgotten n (child m) = refl
strong-forgotten n (strong t target) = refl
strong-forgotten n (weak t None) = refl
strong-forgotten n (weak t (Some m)) = refl
strong-forgotten n (alias m property) = refl

-- so does what is seen no more
pub plain-unseen : (s : Slot) → plain_in (unseen s) ≡ plain_in s
plain-unseen (plain v) = refl
plain-unseen (child m) = refl
plain-unseen (strong t target) = refl
plain-unseen (weak t target) = refl
plain-unseen (alias m property) = refl

pub strong-unseen : (s : Slot) → strong_in (unseen s) ≡ strong_in s
strong-unseen (plain v) = refl
strong-unseen (child m) = refl
strong-unseen (strong t target) = refl
strong-unseen (weak t target) = refl
strong-unseen (alias m property) = refl

-- a link that is pointed is no plain value, and a plain value that is set is no link
pub plain-pointed : (m : ℕ) (s : Slot) → plain_in (pointed m s) ≡ plain_in s
plain-pointed m (plain v) = refl
plain-pointed m (child k) = refl
plain-pointed m (strong t target) = refl
plain-pointed m (weak t target) = refl
plain-pointed m (alias k property) = refl

pub plain-fitted : (c : Board) (m : ℕ) (s : Slot) → plain_in (fitted c m s) ≡ plain_in s
plain-fitted c m (plain v) = refl
plain-fitted c m (child k) = refl
plain-fitted c m (strong t None) = refl
plain-fitted c m (strong t (Some k)) = refl
plain-fitted c m (weak t None) = refl
plain-fitted c m (weak t (Some k)) = refl
plain-fitted c m (alias k property) = refl

pub weak-val : (v : Val) (s : Slot) → weak_in (with_val v s) ≡ weak_in s
weak-val v (plain w) = refl
weak-val v (child m) = refl
weak-val v (strong t target) = refl
weak-val v (weak t target) = refl
weak-val v (alias m property) = refl

-- a slot that is let go is let go of all that its object has
pub dropped-at : (c : Board) (n i : ℕ) (x : List ℕ × Slot) → slice_get (slots_at c n) i ≡ Some x → (r : Record) → record_of (drop_slot c n i) n ≡ Some r
    → without_hold i (slots_at c n) ≡ r.slots
dropped-at c n i x at r e = go (record_of c n) refl
  where
    go : (o : Option Record) → record_of c n ≡ o → without_hold i (slots_at c n) ≡ r.slots
    go None q = absurd (let clash : None ≡ Some x = sym (ap (λ (o : Option Record). slice_get (slots_in o) i) q) ∙ at in cc)
    go (Some y) q =
        let is : slots_in (option_map (edited n (with_dropped i)) (Some y)) ≡ r.slots =
        sym (ap (λ (o : Option Record). slots_in (option_map (edited n (with_dropped i)) o)) q) ∙ sym (ap slots_in (drop-record c n i n)) ∙ ap slots_in e in
        let own_birth : (y.birth == n) ≡ true = eq-eqb y.birth n (found-birth n c.records y q) in
        let slots : without_hold i y.slots ≡ r.slots = rw (edited, own_birth) at is in
        ap (λ (o : Option Record). without_hold i (slots_in o)) q ∙ slots

-- an edit of one object: what its slots have to do with those of before, where that is so of slots that stay
pub edit-slots : (R : List (List ℕ × Slot) → List (List ℕ × Slot) → Type 0) → ((slots : List (List ℕ × Slot)) → R slots slots) → (n : ℕ)
    (change : Record → Record) → ((r : Record) → (change r).birth ≡ r.birth) → (c : Board)
    → ((r : Record) → record_of c n ≡ Some r → R r.slots (change r).slots) → (x : ℕ) → R (slots_at c x) (slots_at (edit n change c) x)
edit-slots R stays n change same_birth c changes x = rw (found-edited n change same_birth x c.records) (go (record_of c x) refl)
  where
    at_record : (r : Record) → record_of c x ≡ Some r → (t : Bool) → (r.birth == n) ≡ t → R r.slots (edited n change r).slots
    at_record r e true p =
        let is : x ≡ n = sym (found-birth x c.records r e) ∙ eqb-true r.birth n p in
        rw (edited, p) (changes r (subst (λ (k : ℕ). record_of c k ≡ Some r) is e))
    at_record r e false p = rw (edited, p) (stays r.slots)

    go : (o : Option Record) → record_of c x ≡ o → R (slots_in o) (slots_in (option_map (edited n change) o))
    go None e = stays []
    go (Some r) e = at_record r e (r.birth == n) refl
