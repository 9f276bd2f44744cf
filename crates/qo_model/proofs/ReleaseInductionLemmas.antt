-- Release induction: what each turn of the work keeps, a release keeps.
use Rattle.std.proofs.Common.{◌≡◌, refl, sym, subst, ◌∙◌, ℕ, zero, suc, ◌+◌, ◌<◌, ◌≤◌, Bool, true, false, ◌==◌, List, ◌∷◌, Option, Some, None, arith}
use Rattle.qo_model.proofs.Common.{Board, Slot, slot_at, refs, drop_slot, next_index, finish, holding, width, after, from_index, finalize, KeepsRelease, Keeps}
use Rattle.std.proofs.lemmas.Bool.{eqb-true}
use Rattle.std.proofs.lemmas.Option.{same_Some}
use Rattle.qo_model.specs.Board.{referent}
use Rattle.qo_model.proofs.ReleaseLemmas.{drop-holding, drop-falls, after-holding, place-falls, past-width, from_index-none, from_index-some, finalize-shrinks, finalize-is}

-- a number that is not 0
pub above-zero : (k : ℕ) → (k == 0) ≡ false → 0 < k
above-zero k e = grind arith

module _ (P : List (ℕ × ℕ) → Board → Type 0) (keeps : KeepsRelease P) where
  -- P is kept by releases on boards that hold less than c
  abbrev KeepsBelow : ℕ → Type 0
  KeepsBelow c = (b : Board) (n : ℕ) (work : List (ℕ × ℕ)) → holding b < c → P ((n, 0) ∷ work) b → P work (finalize b n)

  -- one slot is let go, with all that follows
  turn : (c : ℕ) → KeepsBelow c → (b : Board) (n i : ℕ) (work : List (ℕ × ℕ)) (s : Slot) → slot_at b n i ≡ Some s → holding b ≤ c → P ((n, i) ∷ work) b
      → P ((n, next_index s i) ∷ work) (after finalize (drop_slot b n i) (referent s))
  turn c below b n i work s e few p = go (referent s) refl
    where
      choose : (m : ℕ) → referent s ≡ Some m → (t : Bool) → (refs (drop_slot b n i) m == 0) ≡ t
          → P ((n, next_index s i) ∷ work) (after finalize (drop_slot b n i) (Some m))
      choose m q true free =
          let falls : holding (drop_slot b n i) < holding b = drop-falls b n i s m e q in
          rw (after, free) (below (drop_slot b n i) m ((n, next_index s i) ∷ work) (omega arith)
          (keeps.freed b n i work s m p e q (eqb-true (refs (drop_slot b n i) m) 0 free)))
      choose m q false held_on =
          rw (after, held_on) (keeps.kept b n i work s p e
          (λ k h. subst (λ x. 0 < refs (drop_slot b n i) x) (same_Some m k (sym q ∙ h)) (above-zero (refs (drop_slot b n i) m) held_on)))

      go : (o : Option ℕ) → referent s ≡ o → P ((n, next_index s i) ∷ work) (after finalize (drop_slot b n i) o)
      go None q = keeps.kept b n i work s p e (λ m h. absurd (let clash : None ≡ Some m = sym q ∙ h in cc))
      go (Some m) q = choose m q (refs (drop_slot b n i) m == 0) refl

  -- the slots that are left, and the end
  places : (c : ℕ) → KeepsBelow c → (k : ℕ) (b : Board) (n i : ℕ) (work : List (ℕ × ℕ)) → width b ≤ k + i → holding b ≤ c → P ((n, i) ∷ work) b
      → P work (finish (from_index finalize k b n i) n)
  places c below zero b n i work room few p = keeps.ended b n i work p (past-width b n i (omega arith))
  places c below (suc k) b n i work room few p = go (slot_at b n i) refl (places c below k)
    where
      go : (o : Option Slot) → slot_at b n i ≡ o → ((d : Board) (m j : ℕ) (rest : List (ℕ × ℕ)) → width d ≤ k + j → holding d ≤ c → P ((m, j) ∷ rest) d
          → P rest (finish (from_index finalize k d m j) m)) → P work (finish (from_index finalize (suc k) b n i) n)
      go None e rest = rw (from_index-none finalize (suc k) b n i e) (keeps.ended b n i work p e)
      go (Some s) e rest =
          let d : Board = after finalize (drop_slot b n i) (referent s) in
          let less : holding d ≤ c = omega (arith, after-holding finalize finalize-shrinks (drop_slot b n i) (referent s), drop-holding b n i) in
          rw (from_index-some finalize k b n i s e)
          (rest d n (next_index s i) work (place-falls finalize finalize-shrinks b n i s k e room) less (turn c below b n i work s e few p))

  below : (c : ℕ) → KeepsBelow c
  below zero b n work few p = absurd (omega arith)
  below (suc c) b n work few p = rw (finalize-is b n) (places c (below c) (width b) b n 0 work (omega arith) (omega arith) p)

  pub release_keeps : Keeps P
  release_keeps b n work p = below (suc (holding b)) b n work (omega arith) p

-- what follows a slot that was let go keeps P, where P holds of what is next: what it held, as the front of the work, where this is free, and else the work
-- alone
pub after_keeps : (P : List (ℕ × ℕ) → Board → Type 0) → KeepsRelease P → (c : Board) (o : Option ℕ) (work : List (ℕ × ℕ))
    → ((m : ℕ) → o ≡ Some m → refs c m ≡ 0 → P ((m, 0) ∷ work) c) → (((m : ℕ) → o ≡ Some m → 0 < refs c m) → P work c) → P work (after finalize c o)
after_keeps P keeps c None work free held_on = held_on (λ m e. absurd (let clash : None ≡ Some m = e in cc))
after_keeps P keeps c (Some m) work free held_on = go (refs c m == 0) refl
  where
    go : (t : Bool) → (refs c m == 0) ≡ t → P work (after finalize c (Some m))
    go true p = rw (after, p) (release_keeps P keeps c m work (free m refl (eqb-true (refs c m) 0 p)))
    go false p = rw (after, p) (held_on (λ k e. subst (λ x. 0 < refs c x) (same_Some m k e) (above-zero (refs c m) p)))
