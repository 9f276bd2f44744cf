-- What a slot let go and the end of an object do to look-ups and to references.
use Rattle.std.proofs.Common.{eqb, ◌≡◌, refl, ap, ap₂, sym, ◌∙◌, ℕ, zero, suc, ◌<◌, ◌≤◌, Bool, true, false, cond, not, ◌&&◌, ◌==◌, List, [], ◌∷◌, map, filter, find, slice_get, sum_by, Option, Some, None, is_some, option_map, arith}
use Rattle.qo_model.proofs.Common.{option_map_or, Board, Record, Slot, plain, child, strong, weak, alias, record_of, is_live, slot_at, among, births, refs, refs_in, holds_it, edited, with_dropped, drop_slot, forgotten_in, forgotten, finish}
use Rattle.std.proofs.lemmas.Bool.{eqb-true, eq-eqb}
use Rattle.std.proofs.lemmas.Option.{same_Some}
use Rattle.std.proofs.lemmas.List.Sums.{sum_by-cons}
use Rattle.qo_model.specs.Board.{referent}
use Rattle.qo_model.proofs.EditLemmas.{sum-held, one_is, held-forgotten, sum-edit_le, sum-filter_le, left_of, sum-without_hold_le, StandsAt, stands-at}
use Rattle.qo_model.proofs.ReleaseLemmas.{found-within}

-- the record of x among records
abbrev pub found_at : ℕ → List Record → Option Record
found_at x rs = find (λ (r : Record). r.birth == x) rs

-- a record that is found has the birth
pub found-birth : (n : ℕ) (rs : List Record) (x : Record) → found_at n rs ≡ Some x → x.birth ≡ n
found-birth n [] x e = cc
found-birth n (r ∷ rs) x e = go (r.birth == n) refl (found-birth n rs x)
  where
    go : (t : Bool) → (r.birth == n) ≡ t → (found_at n rs ≡ Some x → x.birth ≡ n) → x.birth ≡ n
    go true p rest =
        let is : r ≡ x = same_Some r x (rw p at e) in
        ap (λ (y : Record). y.birth) (sym is) ∙ eqb-true r.birth n p
    go false p rest = rest (rw p at e)

-- an object is there exactly where its birth is among the births
pub found-among : (x : ℕ) (rs : List Record) → is_some (found_at x rs) ≡ among (map (λ (r : Record). r.birth) rs) x
found-among x [] = refl
found-among x (r ∷ rs) = go (r.birth == x) refl (found-among x rs)
  where
    flip : (r.birth == x) ≡ eqb x r.birth
    flip = grind arith

    go : (t : Bool) → (r.birth == x) ≡ t → is_some (found_at x rs) ≡ among (map (λ (y : Record). y.birth) rs) x
        → is_some (found_at x (r ∷ rs)) ≡ among (map (λ (y : Record). y.birth) (r ∷ rs)) x
    go true p rest = rw (p, sym flip ∙ p) refl
    go false p rest = rw (p, sym flip ∙ p) rest

pub live-among : (b : Board) (x : ℕ) → is_live b x ≡ among (births b) x
live-among b x = found-among x b.records

-- an edit that keeps births changes what is found, and nothing else
pub found-edited : (n : ℕ) (change : Record → Record) → ((r : Record) → (change r).birth ≡ r.birth) → (x : ℕ) (rs : List Record)
    → found_at x (map (edited n change) rs) ≡ option_map (edited n change) (found_at x rs)
found-edited n change same x [] = refl
found-edited n change same x (r ∷ rs) = go (r.birth == n) refl (r.birth == x) refl (found-edited n change same x rs)
  where
    go : (t : Bool) → (r.birth == n) ≡ t → (u : Bool) → (r.birth == x) ≡ u → found_at x (map (edited n change) rs)
        ≡ option_map (edited n change) (found_at x rs) → found_at x (map (edited n change) (r ∷ rs)) ≡ option_map (edited n change) (found_at x (r ∷ rs))
    go true p true q rest = let here : ((change r).birth == x) ≡ true = ap (λ (k : ℕ). k == x) (same r) ∙ q in rw (p, here, q, edited, p) refl
    go true p false q rest = let here : ((change r).birth == x) ≡ false = ap (λ (k : ℕ). k == x) (same r) ∙ q in rw (p, here, q) rest
    go false p true q rest = rw (p, q, edited, p) refl
    go false p false q rest = rw (p, q) rest

-- what an edit leaves of each object, it leaves of the one that is found
pub map-edited : {A : Type 0} (f : Record → A) (n : ℕ) (change : Record → Record) → ((r : Record) → f (change r) ≡ f r) → (o : Option Record)
    → option_map f (option_map (edited n change) o) ≡ option_map f o
map-edited f n change same None = refl
map-edited f n change same (Some r) = go (r.birth == n) refl
  where
    go : (t : Bool) → (r.birth == n) ≡ t → Some (f (edited n change r)) ≡ Some (f r)
    go true p = rw (edited, p) (ap Some (same r))
    go false p = rw (edited, p) refl

pub slots-edited : (n : ℕ) (change : Record → Record) → ((r : Record) → (change r).slots ≡ r.slots) → (o : Option Record)
    → option_map_or (λ (r : Record). r.slots) (option_map (edited n change) o) [] ≡ option_map_or (λ (r : Record). r.slots) o []
slots-edited n change same None = refl
slots-edited n change same (Some r) = go (r.birth == n) refl
  where
    go : (t : Bool) → (r.birth == n) ≡ t → (edited n change r).slots ≡ r.slots
    go true p = rw (edited, p) (same r)
    go false p = rw (edited, p) refl

pub drop-record : (b : Board) (n i x : ℕ) → record_of (drop_slot b n i) x ≡ option_map (edited n (with_dropped i)) (record_of b x)
unfolding drop_slot
drop-record b n i x = found-edited n (with_dropped i) (λ r. refl) x b.records

pub is_some-map : {A B : Type 0} (f : A → B) (o : Option A) → is_some (option_map f o) ≡ is_some o
is_some-map f None = refl
is_some-map f (Some x) = refl

-- a slot let go ends nobody
pub drop-live : (b : Board) (n i x : ℕ) → is_live (drop_slot b n i) x ≡ is_live b x
drop-live b n i x = ap is_some (drop-record b n i x) ∙ is_some-map (edited n (with_dropped i)) (record_of b x)

-- the records of the others
abbrev others : ℕ → List Record → List Record
others n rs = map (forgotten n) (filter (λ (r : Record). not (r.birth == n)) rs)

found-gone : (n : ℕ) (rs : List Record) → found_at n (others n rs) ≡ None
found-gone n [] = refl
found-gone n (r ∷ rs) = go (r.birth == n) refl (found-gone n rs)
  where
    go : (t : Bool) → (r.birth == n) ≡ t → found_at n (others n rs) ≡ None → found_at n (others n (r ∷ rs)) ≡ None
    go true p rest = rw p rest
    go false p rest = rw (p, p) rest

found-other : (n x : ℕ) → (x == n) ≡ false → (rs : List Record) → found_at x (others n rs) ≡ option_map (forgotten n) (found_at x rs)
found-other n x apart [] = refl
found-other n x apart (r ∷ rs) = go (r.birth == n) refl (r.birth == x) refl (found-other n x apart rs)
  where
    go : (t : Bool) → (r.birth == n) ≡ t → (u : Bool) → (r.birth == x) ≡ u → found_at x (others n rs) ≡ option_map (forgotten n) (found_at x rs)
        → found_at x (others n (r ∷ rs)) ≡ option_map (forgotten n) (found_at x (r ∷ rs))
    go true p true q rest =
        let here : r.birth ≡ n = eqb-true r.birth n p in
        let there : r.birth ≡ x = eqb-true r.birth x q in
        let same : (x == n) ≡ true = eq-eqb x n (sym there ∙ here) in
        absurd (let clash : true ≡ false = sym same ∙ apart in cc)
    go true p false q rest = rw (p, q) rest
    go false p true q rest = rw (p, q) refl
    go false p false q rest = rw (p, q) rest

-- after its end an object is not there, and the others are, without the weak links that named it
pub finish-gone : (b : Board) (n : ℕ) → record_of (finish b n) n ≡ None
unfolding finish
finish-gone b n = found-gone n b.records

pub finish-record : (b : Board) (n x : ℕ) → (x == n) ≡ false → record_of (finish b n) x ≡ option_map (forgotten n) (record_of b x)
unfolding finish
finish-record b n x apart = found-other n x apart b.records

pub finish-live : (b : Board) (n x : ℕ) → is_live (finish b n) x ≡ (not (x == n) && is_live b x)
finish-live b n x = go (x == n) refl
  where
    go : (t : Bool) → (x == n) ≡ t → is_live (finish b n) x ≡ (not t && is_live b x)
    go true p = rw (eqb-true x n p) (ap is_some (finish-gone b n))
    go false p = ap is_some (finish-record b n x p) ∙ is_some-map (forgotten n) (record_of b x)

-- births
pub drop-births : (b : Board) (n i : ℕ) → births (drop_slot b n i) ≡ births b
unfolding drop_slot
drop-births b n i = go b.records
  where
    one : (r : Record) (t : Bool) → (r.birth == n) ≡ t → (edited n (with_dropped i) r).birth ≡ r.birth
    one r true p = rw (edited, p) refl
    one r false p = rw (edited, p) refl

    go : (rs : List Record) → map (λ (r : Record). r.birth) (map (edited n (with_dropped i)) rs) ≡ map (λ (r : Record). r.birth) rs
    go [] = refl
    go (r ∷ rs) = ap₂ (λ (m : ℕ) (ns : List ℕ). m ∷ ns) (one r (r.birth == n) refl) (go rs)

pub finish-births : (b : Board) (n : ℕ) → births (finish b n) ≡ filter (λ (x : ℕ). not (x == n)) (births b)
unfolding finish
finish-births b n = go b.records
  where
    step : (r : Record) (rs : List Record) (t : Bool) → (r.birth == n) ≡ t
        → map (λ (y : Record). y.birth) (others n rs) ≡ filter (λ (x : ℕ). not (x == n)) (map (λ (y : Record). y.birth) rs)
        → map (λ (y : Record). y.birth) (others n (r ∷ rs)) ≡ filter (λ (x : ℕ). not (x == n)) (map (λ (y : Record). y.birth) (r ∷ rs))
    step r rs true p rest = rw p rest
    step r rs false p rest = rw p (ap (λ (ns : List ℕ). r.birth ∷ ns) rest)

    go : (rs : List Record) → map (λ (r : Record). r.birth) (others n rs) ≡ filter (λ (x : ℕ). not (x == n)) (map (λ (r : Record). r.birth) rs)
    go [] = refl
    go (r ∷ rs) = step r rs (r.birth == n) refl (go rs)

-- one for a slot that holds x, else zero
abbrev pub one_of : ℕ → List ℕ × Slot → ℕ
one_of x s = cond {A = ℕ} (holds_it x s.1) 1 0

left-of : (x : ℕ) (s : List ℕ × Slot) → left_of (one_of x) s ≤ one_of x s
left-of x (name, plain v) = omega arith
left-of x (name, child m) = omega arith
left-of x (name, strong t target) = omega arith
left-of x (name, weak t target) = omega arith
left-of x (name, alias m property) = omega arith

-- a slot let go, and an end, give no object a reference
pub drop-refs : (b : Board) (n i x : ℕ) → refs (drop_slot b n i) x ≤ refs b x
unfolding drop_slot
drop-refs b n i x = omega (arith, sum-edit_le (refs_in x) n (with_dropped i) (λ r. sum-without_hold_le (one_of x) (left-of x) i r.slots) b.records)

forgotten-refs : (n x : ℕ) (r : Record) → refs_in x (forgotten n r) ≤ refs_in x r
forgotten-refs n x r = omega (arith, sum-held (one_is x) (forgotten_in n) (held-forgotten n) r.slots)

pub finish-refs : (b : Board) (n x : ℕ) → refs (finish b n) x ≤ refs b x
unfolding finish
finish-refs b n x = omega (arith, sum-filter_le (refs_in x) (forgotten n) (λ (r : Record). not (r.birth == n)) (forgotten-refs n x) b.records)

-- what a slot holds has a reference
pub held-refs : (b : Board) (n i m : ℕ) (s : Slot) → slot_at b n i ≡ Some s → referent s ≡ Some m → 0 < refs b m
held-refs b n i m s e h =
    let at : StandsAt b n i s = stands-at b n i s e in
    let one : one_of m at.entry ≡ 1 = rw (at.is, holds_it, h, eq-eqb m m refl) refl in
    omega (arith, found-within (refs_in m) n b.records at.owner at.found, counted at.owner.slots i at.entry at.at, one)
  where
    counted : (slots : List (List ℕ × Slot)) (j : ℕ) (y : List ℕ × Slot) → slice_get slots j ≡ Some y → one_of m y ≤ sum_by (one_of m) slots
    counted [] j y q = cc
    counted (z ∷ slots) zero y q =
        let same : one_of m z ≡ one_of m y = ap (one_of m) (same_Some z y q) in
        omega (arith, sum_by-cons (one_of m) z slots, same)
    counted (z ∷ slots) (suc j) y q = omega (arith, sum_by-cons (one_of m) z slots, counted slots j y q)

-- so an object without references is not what a slot holds
pub unheld-apart : (b : Board) (x n i m : ℕ) (s : Slot) → refs b x ≡ 0 → slot_at b n i ≡ Some s → referent s ≡ Some m → m ≡ x → ⊥
unheld-apart b x n i m s none e h is =
    let some : 0 < refs b m = held-refs b n i m s e h in
    let same : refs b m ≡ refs b x = ap (refs b) is in
    absurd (omega arith)
