-- The law of release: one finalization is each slot let go, in order, and the end of the object, where what comes free is finalized by the same rule.
use Rattle.std.proofs.Common.{◌≡◌, refl, ap, sym, ◌∙◌, ℕ, zero, suc, ◌+◌, ◌<◌, ◌≤◌, Bool, true, false, not, ◌==◌, List, [], ◌∷◌, map, length, find, slice_get, sum_by, count_by, Option, Some, None, is_some, arith}
use Rattle.qo_model.proofs.Common.{Board, Record, Slot, plain, child, strong, weak, alias, slot_at, refs, without_hold, with_dropped, drop_slot, next_index, forgotten_in, forgotten, finish, holding, width, after, from_index, finalize_by, finalize_within, finalize}
use Rattle.std.proofs.lemmas.Option.{slice_get_within}
use Rattle.std.proofs.lemmas.List.Sums.{sum_by-cons}
use Rattle.qo_model.specs.Board.{referent}
use Rattle.qo_model.proofs.EditLemmas.{sum-held, one_some, held-forgotten, sum-edit_le, sum-edit_lt, sum-filter_le, left_of, sum-without_hold, sum-without_hold_le, one_held, left-held, one_slot, left-slot, length-sum, StandsAt, stands-at}

-- the two numbers of one record
abbrev pub holding_in : Record → ℕ
holding_in r = count_by (λ (s : List ℕ × Slot). is_some (referent s.1)) r.slots

abbrev pub width_in : Record → ℕ
width_in r = length r.slots

-- a slot let go raises neither number of its record
dropped-holding : (i : ℕ) (r : Record) → holding_in (with_dropped i r) ≤ holding_in r
dropped-holding i r = sum-without_hold_le one_held (λ s. omega (arith, left-held s)) i r.slots

dropped-width : (i : ℕ) (r : Record) → width_in (with_dropped i r) ≤ width_in r
dropped-width i r = omega (arith, sum-without_hold_le one_slot left-slot i r.slots, length-sum r.slots, length-sum (without_hold i r.slots))

-- where it held an object, its record holds one less
dropped-falls : (i : ℕ) (r : Record) (s : List ℕ × Slot) (m : ℕ) → slice_get r.slots i ≡ Some s → referent s.1 ≡ Some m
    → holding_in (with_dropped i r) < holding_in r
dropped-falls i r s m e h =
    let one : one_held s ≡ 1 = rw h refl in
    omega (arith, sum-without_hold one_held i r.slots s e, left-held s, one)

-- where it was a child slot, its record has a slot less
dropped-shorter : (i : ℕ) (r : Record) (s : List ℕ × Slot) (m : ℕ) → slice_get r.slots i ≡ Some s → s.1 ≡ child m → width_in (with_dropped i r) < width_in r
dropped-shorter i r s m e h =
    let none : left_of one_slot s ≡ 0 = rw (left_of, h) refl in
    omega (arith, sum-without_hold one_slot i r.slots s e, none, length-sum r.slots, length-sum (without_hold i r.slots))

-- a slot let go raises neither number of the board
pub drop-holding : (b : Board) (n i : ℕ) → holding (drop_slot b n i) ≤ holding b
unfolding drop_slot
drop-holding b n i = sum-edit_le holding_in n (with_dropped i) (dropped-holding i) b.records

pub drop-width : (b : Board) (n i : ℕ) → width (drop_slot b n i) ≤ width b
unfolding drop_slot
drop-width b n i = sum-edit_le width_in n (with_dropped i) (dropped-width i) b.records

-- where it held an object, the board holds less
pub drop-falls : (b : Board) (n i : ℕ) (s : Slot) (m : ℕ) → slot_at b n i ≡ Some s → referent s ≡ Some m → holding (drop_slot b n i) < holding b
unfolding drop_slot
drop-falls b n i s m e h =
    let at : StandsAt b n i s = stands-at b n i s e in
    sum-edit_lt holding_in n (with_dropped i) (dropped-holding i) b.records at.owner at.found (dropped-falls i at.owner at.entry m at.at (rw at.is h))

-- where it was a child slot, the board has fewer slots
pub drop-shorter : (b : Board) (n i m : ℕ) → slot_at b n i ≡ Some (child m) → width (drop_slot b n i) < width b
unfolding drop_slot
drop-shorter b n i m e =
    let at : StandsAt b n i (child m) = stands-at b n i (child m) e in
    sum-edit_lt width_in n (with_dropped i) (dropped-width i) b.records at.owner at.found (dropped-shorter i at.owner at.entry m at.at at.is)

-- the number of a record that is found is within the sum
pub found-within : (f : Record → ℕ) (n : ℕ) (rs : List Record) (x : Record) → find (λ (r : Record). r.birth == n) rs ≡ Some x → f x ≤ sum_by f rs
found-within f n [] x e = cc
found-within f n (r ∷ rs) x e = go (r.birth == n) refl (found-within f n rs x)
  where
    go : (t : Bool) → (r.birth == n) ≡ t → (find (λ (y : Record). y.birth == n) rs ≡ Some x → f x ≤ sum_by f rs) → f x ≤ sum_by f (r ∷ rs)
    go true p rest =
        let is : Some r ≡ Some x = rw p at e in
        let same : f r ≡ f x = grind arith in
        omega (arith, sum_by-cons f r rs, same)
    go false p rest = omega (arith, sum_by-cons f r rs, rest (rw p at e))

-- a slot stands at a place below the number of all slots
pub place-lt-width : (b : Board) (n i : ℕ) (s : Slot) → slot_at b n i ≡ Some s → i < width b
place-lt-width b n i s e =
    let at : StandsAt b n i s = stands-at b n i s e in
    omega (arith, slice_get_within at.owner.slots i at.entry at.at, found-within width_in n b.records at.owner at.found)

-- the weak links that name an object, emptied, change neither number of a record
kept-holding : (n : ℕ) (r : Record) → holding_in (forgotten n r) ≤ holding_in r
kept-holding n r = omega (arith, sum-held one_some (forgotten_in n) (held-forgotten n) r.slots)

kept-width : (n : ℕ) (r : Record) → width_in (forgotten n r) ≤ width_in r
kept-width n r = go r.slots
  where
    go : (slots : List (List ℕ × Slot)) → length {A = List ℕ × Slot} (map (λ (s : List ℕ × Slot). (s.0, forgotten_in n s.1)) slots) ≤ length slots
    go [] = omega arith
    go (s ∷ slots) = omega (arith, go slots)

-- the end of an object raises neither number of the board
pub finish-holding : (b : Board) (n : ℕ) → holding (finish b n) ≤ holding b
unfolding finish
finish-holding b n = sum-filter_le holding_in (forgotten n) (λ (r : Record). not (r.birth == n)) (kept-holding n) b.records

pub finish-width : (b : Board) (n : ℕ) → width (finish b n) ≤ width b
unfolding finish
finish-width b n = sum-filter_le width_in (forgotten n) (λ (r : Record). not (r.birth == n)) (kept-width n) b.records

-- a finalizer that raises neither number
pub record IsShrinking (f : Board → ℕ → Board) : Type 0 where
  pub holding_falls : (b : Board) (n : ℕ) → holding (f b n) ≤ holding b
  pub width_falls : (b : Board) (n : ℕ) → width (f b n) ≤ width b

-- two finalizers that agree on boards that hold less than c
pub record AgreeBelow (c : ℕ) (f g : Board → ℕ → Board) : Type 0 where
  pub agree : (b : Board) (n : ℕ) → holding b < c → f b n ≡ g b n

pub after-holding : (f : Board → ℕ → Board) → IsShrinking f → (b : Board) (o : Option ℕ) → holding (after f b o) ≤ holding b
after-holding f h b None = omega arith
after-holding f h b (Some m) = go (refs b m == 0) refl
  where
    go : (t : Bool) → (refs b m == 0) ≡ t → holding (after f b (Some m)) ≤ holding b
    go true p = rw (after, p) (h.holding_falls b m)
    go false p = rw (after, p) (omega arith)

pub after-width : (f : Board → ℕ → Board) → IsShrinking f → (b : Board) (o : Option ℕ) → width (after f b o) ≤ width b
after-width f h b None = omega arith
after-width f h b (Some m) = go (refs b m == 0) refl
  where
    go : (t : Bool) → (refs b m == 0) ≡ t → width (after f b (Some m)) ≤ width b
    go true p = rw (after, p) (h.width_falls b m)
    go false p = rw (after, p) (omega arith)

-- after a slot the places that are left are fewer
pub place-falls : (f : Board → ℕ → Board) → IsShrinking f → (b : Board) (n i : ℕ) (s : Slot) (k : ℕ) → slot_at b n i ≡ Some s → width b ≤ suc k + i
    → width (after f (drop_slot b n i) (referent s)) ≤ k + next_index s i
place-falls f h b n i (child m) k e room = omega (arith, after-width f h (drop_slot b n i) (Some m), drop-shorter b n i m e)
place-falls f h b n i (plain v) k e room = omega (arith, drop-width b n i)
place-falls f h b n i (strong t target) k e room = omega (arith, after-width f h (drop_slot b n i) target, drop-width b n i)
place-falls f h b n i (weak t target) k e room = omega (arith, drop-width b n i)
place-falls f h b n i (alias m property) k e room = omega (arith, drop-width b n i)

-- where no slot stands, nothing is let go, whatever the bound on places
pub from_index-none : (f : Board → ℕ → Board) (k : ℕ) (b : Board) (n i : ℕ) → slot_at b n i ≡ None → from_index f k b n i ≡ b
from_index-none f zero b n i e = refl
from_index-none f (suc k) b n i e = rw (from_index, e) refl

pub from_index-some : (f : Board → ℕ → Board) (k : ℕ) (b : Board) (n i : ℕ) (s : Slot) → slot_at b n i ≡ Some s
    → from_index f (suc k) b n i ≡ from_index f k (after f (drop_slot b n i) (referent s)) n (next_index s i)
from_index-some f k b n i s e = rw (from_index, e) refl

-- at a place that is no smaller than the number of all slots there is none
pub past-width : (b : Board) (n i : ℕ) → width b ≤ i → slot_at b n i ≡ None
past-width b n i room = go (slot_at b n i) refl
  where
    go : (o : Option Slot) → slot_at b n i ≡ o → slot_at b n i ≡ None
    go None p = p
    go (Some s) p = absurd (let within : i < width b = place-lt-width b n i s p in omega arith)

-- bounds on places that are enough give the same
pub enough_places : (f : Board → ℕ → Board) → IsShrinking f → (k l : ℕ) (b : Board) (n i : ℕ) → width b ≤ k + i → width b ≤ l + i
    → from_index f k b n i ≡ from_index f l b n i
enough_places f h zero l b n i room room' = sym (from_index-none f l b n i (past-width b n i (omega arith)))
enough_places f h (suc k) zero b n i room room' = from_index-none f (suc k) b n i (past-width b n i (omega arith))
enough_places f h (suc k) (suc l) b n i room room' = go (slot_at b n i) refl (enough_places f h k l)
  where
    go : (o : Option Slot) → slot_at b n i ≡ o → ((c : Board) (m j : ℕ) → width c ≤ k + j → width c ≤ l + j → from_index f k c m j ≡ from_index f l c m j)
        → from_index f (suc k) b n i ≡ from_index f (suc l) b n i
    go None p rest = from_index-none f (suc k) b n i p ∙ sym (from_index-none f (suc l) b n i p)
    go (Some s) p rest =
        from_index-some f k b n i s p
        ∙ rest (after f (drop_slot b n i) (referent s)) n (next_index s i) (place-falls f h b n i s k p room) (place-falls f h b n i s l p room')
        ∙ sym (from_index-some f l b n i s p)

-- the slots of an object that are let go raise neither number
pub from_index-holding : (f : Board → ℕ → Board) → IsShrinking f → (k : ℕ) (b : Board) (n i : ℕ) → holding (from_index f k b n i) ≤ holding b
from_index-holding f h zero b n i = omega arith
from_index-holding f h (suc k) b n i = go (slot_at b n i) refl (from_index-holding f h k)
  where
    go : (o : Option Slot) → slot_at b n i ≡ o → ((c : Board) (m j : ℕ) → holding (from_index f k c m j) ≤ holding c)
        → holding (from_index f (suc k) b n i) ≤ holding b
    go None p rest = rw (from_index-none f (suc k) b n i p) (omega arith)
    go (Some s) p rest =
        let c : Board = after f (drop_slot b n i) (referent s) in
        rw (from_index-some f k b n i s p) (omega (arith, rest c n (next_index s i), after-holding f h (drop_slot b n i) (referent s), drop-holding b n i))

pub from_index-width : (f : Board → ℕ → Board) → IsShrinking f → (k : ℕ) (b : Board) (n i : ℕ) → width (from_index f k b n i) ≤ width b
from_index-width f h zero b n i = omega arith
from_index-width f h (suc k) b n i = go (slot_at b n i) refl (from_index-width f h k)
  where
    go : (o : Option Slot) → slot_at b n i ≡ o → ((c : Board) (m j : ℕ) → width (from_index f k c m j) ≤ width c) → width (from_index f (suc k) b n i) ≤ width b
    go None p rest = rw (from_index-none f (suc k) b n i p) (omega arith)
    go (Some s) p rest =
        let c : Board = after f (drop_slot b n i) (referent s) in
        rw (from_index-some f k b n i s p) (omega (arith, rest c n (next_index s i), after-width f h (drop_slot b n i) (referent s), drop-width b n i))

finalize_by-shrinks : (f : Board → ℕ → Board) → IsShrinking f → IsShrinking (finalize_by f)
finalize_by-shrinks f h =
    record {
      holding_falls = λ b n. omega (arith, finish-holding (from_index f (width b) b n 0) n, from_index-holding f h (width b) b n 0);
      width_falls = λ b n. omega (arith, finish-width (from_index f (width b) b n 0) n, from_index-width f h (width b) b n 0);
    }

within-shrinks : (depth : ℕ) → IsShrinking (finalize_within depth)
unfolding finalize_within
within-shrinks zero = record { holding_falls = λ b n. omega arith; width_falls = λ b n. omega arith }
within-shrinks (suc depth) = finalize_by-shrinks (finalize_within depth) (within-shrinks depth)

-- a release raises neither number
pub finalize-shrinks : IsShrinking finalize
unfolding finalize
finalize-shrinks =
    record {
      holding_falls = λ b n. (within-shrinks (suc (holding b))).holding_falls b n;
      width_falls = λ b n. (within-shrinks (suc (holding b))).width_falls b n;
    }

-- after a slot that was let go, finalizers that agree below what the board held give the same
after-agree : (f g : Board → ℕ → Board) (c : ℕ) → AgreeBelow c f g → (b : Board) (n i : ℕ) (s : Slot) → slot_at b n i ≡ Some s → holding b ≤ c
    → after f (drop_slot b n i) (referent s) ≡ after g (drop_slot b n i) (referent s)
after-agree f g c h b n i s e few = go (referent s) refl
  where
    freed : (m : ℕ) → referent s ≡ Some m → (t : Bool) → (refs (drop_slot b n i) m == 0) ≡ t
        → after f (drop_slot b n i) (Some m) ≡ after g (drop_slot b n i) (Some m)
    freed m p true q = let falls : holding (drop_slot b n i) < holding b = drop-falls b n i s m e p in rw (after, q) (h.agree (drop_slot b n i) m (omega arith))
    freed m p false q = rw (after, q) refl

    go : (o : Option ℕ) → referent s ≡ o → after f (drop_slot b n i) o ≡ after g (drop_slot b n i) o
    go None p = refl
    go (Some m) p = freed m p (refs (drop_slot b n i) m == 0) refl

from_index-agree : (f g : Board → ℕ → Board) (c : ℕ) → IsShrinking f → AgreeBelow c f g → (k : ℕ) (b : Board) (n i : ℕ) → holding b ≤ c
    → from_index f k b n i ≡ from_index g k b n i
from_index-agree f g c shrinks h zero b n i few = refl
from_index-agree f g c shrinks h (suc k) b n i few = go (slot_at b n i) refl (from_index-agree f g c shrinks h k)
  where
    go : (o : Option Slot) → slot_at b n i ≡ o → ((d : Board) (m j : ℕ) → holding d ≤ c → from_index f k d m j ≡ from_index g k d m j)
        → from_index f (suc k) b n i ≡ from_index g (suc k) b n i
    go None p rest = from_index-none f (suc k) b n i p ∙ sym (from_index-none g (suc k) b n i p)
    go (Some s) p rest =
        let d : Board = after f (drop_slot b n i) (referent s) in
        let less : holding d ≤ c = omega (arith, after-holding f shrinks (drop_slot b n i) (referent s), drop-holding b n i) in
        from_index-some f k b n i s p
        ∙ rest d n (next_index s i) less
        ∙ ap (λ (x : Board). from_index g k x n (next_index s i)) (after-agree f g c h b n i s p few)
        ∙ sym (from_index-some g k b n i s p)

finalize_by-agree : (f g : Board → ℕ → Board) (c : ℕ) → IsShrinking f → AgreeBelow c f g → AgreeBelow (suc c) (finalize_by f) (finalize_by g)
finalize_by-agree f g c shrinks h =
    record { agree = λ b n few. ap (λ (x : Board). finish x n) (from_index-agree f g c shrinks h (width b) b n 0 (omega arith)) }

within-agree : (c k l : ℕ) → c ≤ k → c ≤ l → AgreeBelow c (finalize_within k) (finalize_within l)
unfolding finalize_within
within-agree zero k l few few' = record { agree = λ b n none. absurd (omega arith) }
within-agree (suc c) zero l few few' = absurd (omega arith)
within-agree (suc c) (suc k) zero few few' = absurd (omega arith)
within-agree (suc c) (suc k) (suc l) few few' =
    finalize_by-agree (finalize_within k) (finalize_within l) c (within-shrinks k) (within-agree c k l (omega arith) (omega arith))

-- a depth above what the board holds is enough
pub enough : (k : ℕ) (b : Board) (n : ℕ) → holding b < k → finalize_within k b n ≡ finalize b n
unfolding finalize
enough k b n room = (within-agree (suc (holding b)) k (suc (holding b)) (omega arith) (omega arith)).agree b n (omega arith)

-- one finalization by the same rule, on every board
pub finalize-is : (b : Board) (n : ℕ) → finalize b n ≡ finalize_by finalize b n
unfolding finalize finalize_within
finalize-is b n =
    let below : AgreeBelow (holding b) (finalize_within (holding b)) finalize = record { agree = λ c m few. enough (holding b) c m few } in
    (finalize_by-agree (finalize_within (holding b)) finalize (holding b) (within-shrinks (holding b)) below).agree b n (omega arith)

-- the slots of n from a place on are let go
abbrev pub slots_from : Board → ℕ → ℕ → Board
slots_from b n i = from_index finalize (width b) b n i

pub slots_from-none : (b : Board) (n i : ℕ) → slot_at b n i ≡ None → slots_from b n i ≡ b
slots_from-none b n i e = from_index-none finalize (width b) b n i e

-- a slot that stands is let go first
pub slots_from-some : (b : Board) (n i : ℕ) (s : Slot) → slot_at b n i ≡ Some s
    → slots_from b n i ≡ slots_from (after finalize (drop_slot b n i) (referent s)) n (next_index s i)
slots_from-some b n i s e =
    let c : Board = after finalize (drop_slot b n i) (referent s) in
    let j : ℕ = next_index s i in
    let one_more : slots_from b n i ≡ from_index finalize (suc (width b)) b n i =
    enough_places finalize finalize-shrinks (width b) (suc (width b)) b n i (omega arith) (omega arith) in
    let room : width c ≤ width b + j = place-falls finalize finalize-shrinks b n i s (width b) e (omega arith) in
    let as_many : from_index finalize (width b) c n j ≡ slots_from c n j =
    enough_places finalize finalize-shrinks (width b) (width c) c n j room (omega arith) in
    one_more ∙ from_index-some finalize (width b) b n i s e ∙ as_many

-- what is left of a finalization of n whose slots before a place were let go
abbrev pub end_of : Board → ℕ → ℕ → Board
end_of b n i = finish (slots_from b n i) n

pub end_of-first : (b : Board) (n : ℕ) → finalize b n ≡ end_of b n 0
end_of-first b n = finalize-is b n

-- after the last slot the object ends
pub end_of-none : (b : Board) (n i : ℕ) → slot_at b n i ≡ None → end_of b n i ≡ finish b n
end_of-none b n i e = ap (λ (c : Board). finish c n) (slots_from-none b n i e)

pub end_of-some : (b : Board) (n i : ℕ) (s : Slot) → slot_at b n i ≡ Some s
    → end_of b n i ≡ end_of (after finalize (drop_slot b n i) (referent s)) n (next_index s i)
end_of-some b n i s e = ap (λ (d : Board). finish d n) (slots_from-some b n i s e)
