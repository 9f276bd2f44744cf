-- Releases: what follows a slot or a pin that is let go.
use Rattle.std.proofs.Common.{nat_eq, ◌≡◌, refl, ℕ, ◌≤◌, Bool, true, false, ◌==◌, List, [], ◌∷◌, Option, Some, None, arith}
use Rattle.qo_model.proofs.Common.{AllByRecursion, list_any, Board, Slot, slot_at, refs, after, drop_slot, finalize, finish, let_go, pin, unpin, without_pin, KeepsRelease}
use Rattle.std.proofs.lemmas.Bool.{eqb-true}
use Rattle.qo_values.proofs.ListLemmas.{all-imply}
use Rattle.qo_model.specs.Board.{referent}
use Rattle.qo_model.proofs.ReleaseInductionLemmas.{release_keeps}
use Rattle.qo_model.proofs.StepLemmas.{drop-refs, finish-refs}
use Rattle.qo_sound.proofs.DetachmentStepsLemmas.{KeepsEnds}
use Rattle.qo_steps.specs.Steps.{HasSlot}

-- the end of an object that nothing refers to keeps P
abbrev pub KeepsFinish : (Board → Type 0) → Type 0
KeepsFinish P = (n : ℕ) (c : Board) → refs c n ≡ 0 → P c → P (finish c n)

-- the release of an object that nothing refers to keeps P
abbrev pub KeepsReleases : (Board → Type 0) → Type 0
KeepsReleases P = (n : ℕ) (c : Board) → refs c n ≡ 0 → P c → P (finalize c n)

-- a release, of P that reads the work that is left: where P holds of no work it holds of a free object as all the work, and each turn keeps it
pub release-by : (P : List (ℕ × ℕ) → Board → Type 0) → ((n : ℕ) (c : Board) → refs c n ≡ 0 → P [] c → P ((n, 0) ∷ []) c) → KeepsRelease P
    → KeepsReleases (P [])
release-by P begins turns n c free h = release_keeps P turns c n [] (begins n c free h)

-- a release, of any other P: slots are emptied, and objects end. To those of the work nothing refers, since no turn makes a reference
abbrev Unreferred : (Board → Type 0) → List (ℕ × ℕ) → Board → Type 0
Unreferred P work c = AllByRecursion (λ (w : ℕ × ℕ). refs c w.0 ≡ 0) work × P c

still-none : (c d : Board) → ((x : ℕ) → refs d x ≤ refs c x) → (work : List (ℕ × ℕ)) → AllByRecursion (λ (w : ℕ × ℕ). refs c w.0 ≡ 0) work
    → AllByRecursion (λ (w : ℕ × ℕ). refs d w.0 ≡ 0) work
still-none c d fewer work =
    all-imply (λ (w : ℕ × ℕ). refs c w.0 ≡ 0) (λ (w : ℕ × ℕ). refs d w.0 ≡ 0)
    (λ w none. let less = fewer w.0 in let zero : refs c w.0 ≡ 0 = none in omega (arith, less, zero)) work

pub release-each : (P : Board → Type 0) → ((n i : ℕ) (c : Board) → HasSlot c n i → P c → P (drop_slot c n i)) → KeepsFinish P → KeepsReleases P
release-each P empties finishes n c free h =
    (release-by (Unreferred P) (λ m d none k. ((none, tt), k.1))
    (record {
      ended = λ d m i work k e. (still-none d (finish d m) (finish-refs d m) work k.0.1, finishes m d k.0.0 k.1);
      freed = λ d m i work s x k e q none. (
        (none, still-none d (drop_slot d m i) (drop-refs d m i) ((m, i) ∷ work) k.0),
        empties m i d (s, e) k.1,
      );
      kept = λ d m i work s k e held_on. (
        still-none d (drop_slot d m i) (drop-refs d m i) ((m, i) ∷ work) k.0,
        empties m i d (s, e) k.1,
      );
    }) n c free (tt, h)).1

-- what follows a slot or a pin that was let go
pub after-by : (P : Board → Type 0) → KeepsReleases P → KeepsEnds P
after-by P releases None c h = h
after-by P releases (Some m) c h = go (refs c m == 0) refl
  where
    go : (t : Bool) → (refs c m == 0) ≡ t → P (after finalize c (Some m))
    go true e = rw (after, e) (releases m c (eqb-true (refs c m) 0 e) h)
    go false e = rw (after, e) h

-- a pin more, and a pin less
abbrev pub KeepsPin : (Board → Type 0) → Type 0
KeepsPin P = (n : ℕ) (c : Board) → P c → P (pin c n)

abbrev pub KeepsUnpin : (Board → Type 0) → Type 0
KeepsUnpin P = (n : ℕ) (c : Board) → list_any (nat_eq n) c.pins ≡ true → P c → P (without_pin c n)

pub unpin-by : (P : Board → Type 0) → KeepsUnpin P → KeepsEnds P → (n : ℕ) (c : Board) → P c → P (unpin c n)
unfolding unpin
unpin-by P unpins ends n c h = go (list_any (nat_eq n) c.pins) refl
  where
    go : (u : Bool) → list_any (nat_eq n) c.pins ≡ u → P (unpin c n)
    go true e = rw (unpin, e) (ends (Some n) (without_pin c n) (unpins n c e h))
    go false e = rw (unpin, e) h

-- a slot is let go
pub let_go-by : (P : Board → Type 0) → KeepsEnds P → (n i : ℕ) (c : Board) → ((s : Slot) → slot_at c n i ≡ Some s → P (drop_slot c n i)) → P c
    → P (let_go c n i)
unfolding let_go
let_go-by P ends n i c drops h = go (slot_at c n i) refl
  where
    go : (o : Option Slot) → slot_at c n i ≡ o → P (let_go c n i)
    go None e = rw (let_go, e) h
    go (Some s) e = rw (let_go, e) (ends (referent s) _ (drops s e))
