-- The rules of release have one result, and this is what `finalize` gives.
use Rattle.std.proofs.Common.{◌≡◌, refl, ap, sym, subst, ◌∙◌, ℕ, zero, suc, ◌+◌, ◌<◌, ◌≤◌, Bool, true, false, ◌==◌, Option, Some, None, arith}
use Rattle.qo_model.proofs.Common.{Board, Slot, slot_at, refs, drop_slot, next_index, finish, holding, width, after, from_index, finalize, ReleaseLaw, Finalizes, SlotsFrom, all_slots, past, kept, freed}
use Rattle.std.proofs.lemmas.Bool.{eqb-true, eq-eqb}
use Rattle.std.proofs.lemmas.Option.{same_Some}
use Rattle.qo_model.specs.Board.{referent}
use Rattle.qo_model.proofs.ReleaseLemmas.{drop-holding, drop-falls, after-holding, place-falls, past-width, from_index-none, from_index-some, finalize-shrinks, finalize-is, slots_from, slots_from-none, slots_from-some}
use Rattle.qo_model.proofs.ReleaseInductionLemmas.{above-zero}

-- where what a slot held still has references, nothing follows
pub after-held : (c : Board) (o : Option ℕ) → ((m : ℕ) → o ≡ Some m → 0 < refs c m) → after finalize c o ≡ c
after-held c None h = refl
after-held c (Some m) h =
    let some : 0 < refs c m = h m refl in
    let not_none : (refs c m == 0) ≡ false = grind arith in
    rw (after, not_none) refl

pub after-free : (c : Board) (m : ℕ) → refs c m ≡ 0 → after finalize c (Some m) ≡ finalize c m
after-free c m none =
    let is_none : (refs c m == 0) ≡ true = eq-eqb (refs c m) 0 none in
    rw (after, is_none) refl

mutual
  pub finalizes-is : {b c : Board} {n : ℕ} → Finalizes b n c → finalize b n ≡ c
  finalizes-is (all_slots {b} {c} {n} s) = finalize-is b n ∙ ap (λ (d : Board). finish d n) (slots-are s)

  slots-are : {b c : Board} {n i : ℕ} → SlotsFrom b n i c → slots_from b n i ≡ c
  slots-are (past {b} {n} {i} e) = slots_from-none b n i e
  slots-are (kept {b} {c} {n} {i} {s} e h rest) =
      slots_from-some b n i s e ∙ ap (λ (d : Board). slots_from d n (next_index s i)) (after-held (drop_slot b n i) (referent s) h) ∙ slots-are rest
  slots-are (freed {b} {c} {d} {n} {i} {m} {s} e h none end rest) =
      slots_from-some b n i s e
      ∙ ap (λ (o : Option ℕ). slots_from (after finalize (drop_slot b n i) o) n (next_index s i)) h
      ∙ ap (λ (x : Board). slots_from x n (next_index s i)) (after-free (drop_slot b n i) m none ∙ finalizes-is end)
      ∙ slots-are rest

-- the rules lead to what `finalize` gives, on boards that hold less than c
abbrev ReachedBelow : ℕ → Type 0
ReachedBelow c = (b : Board) (n : ℕ) → holding b < c → Finalizes b n (finalize b n)

slots-reached : (c : ℕ) → ReachedBelow c → (k : ℕ) (b : Board) (n i : ℕ) → width b ≤ k + i → holding b ≤ c → SlotsFrom b n i (from_index finalize k b n i)
slots-reached c below zero b n i room few = past (past-width b n i (omega arith))
slots-reached c below (suc k) b n i room few = go (slot_at b n i) refl (slots-reached c below k)
  where
    turn : (s : Slot) → slot_at b n i ≡ Some s → (o : Option ℕ) → referent s ≡ o
        → SlotsFrom (after finalize (drop_slot b n i) o) n (next_index s i) (from_index finalize k (after finalize (drop_slot b n i) o) n (next_index s i))
        → SlotsFrom b n i (from_index finalize k (after finalize (drop_slot b n i) o) n (next_index s i))
    turn s e None q rest = kept e (λ m h. absurd (let clash : None ≡ Some m = sym q ∙ h in cc)) rest
    turn s e (Some m) q rest = choose (refs (drop_slot b n i) m == 0) refl
      where
        choose : (t : Bool) → (refs (drop_slot b n i) m == 0) ≡ t
            → SlotsFrom b n i (from_index finalize k (after finalize (drop_slot b n i) (Some m)) n (next_index s i))
        choose true free =
            let falls : holding (drop_slot b n i) < holding b = drop-falls b n i s m e q in
            rw (after, free) (freed e q (eqb-true (refs (drop_slot b n i) m) 0 free) (below (drop_slot b n i) m (omega arith)) (rw (after, free) at rest))
        choose false held_on =
            rw (after, held_on)
            (kept e (λ l h. subst (λ x. 0 < refs (drop_slot b n i) x) (same_Some m l (sym q ∙ h)) (above-zero (refs (drop_slot b n i) m) held_on))
            (rw (after, held_on) at rest))

    go : (o : Option Slot) → slot_at b n i ≡ o → ((d : Board) (m j : ℕ) → width d ≤ k + j → holding d ≤ c → SlotsFrom d m j (from_index finalize k d m j))
        → SlotsFrom b n i (from_index finalize (suc k) b n i)
    go None e rest = rw (from_index-none finalize (suc k) b n i e) (past e)
    go (Some s) e rest =
        let d : Board = after finalize (drop_slot b n i) (referent s) in
        let less : holding d ≤ c = omega (arith, after-holding finalize finalize-shrinks (drop_slot b n i) (referent s), drop-holding b n i) in
        rw (from_index-some finalize k b n i s e)
        (turn s e (referent s) refl (rest d n (next_index s i) (place-falls finalize finalize-shrinks b n i s k e room) less))

reached-below : (c : ℕ) → ReachedBelow c
reached-below zero b n few = absurd (omega arith)
reached-below (suc c) b n few = rw (finalize-is b n) (all_slots (slots-reached c (reached-below c) (width b) b n 0 (omega arith) (omega arith)))

pub finalizes : (b : Board) (n : ℕ) → Finalizes b n (finalize b n)
finalizes b n = reached-below (suc (holding b)) b n (omega arith)

pub release_lem : ReleaseLaw
release_lem = record { one_rule = finalize-is; reached = finalizes; only = λ b c n f. finalizes-is f }
