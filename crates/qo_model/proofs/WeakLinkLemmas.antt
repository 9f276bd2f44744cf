-- A release keeps that weak links see only objects that are there.
use Rattle.std.proofs.Common.{nat_eq, ◌≡◌, refl, subst, ◌∙◌, ℕ, zero, suc, Bool, true, false, not, ◌&&◌, ◌==◌, List, [], ◌∷◌, map, filter, Option, Some, None}
use Rattle.qo_model.proofs.Common.{AllByRecursion, list_any, Board, Record, Slot, plain, child, strong, weak, alias, is_live, slot_at, edited, emptied, without_hold, with_dropped, drop_slot, forgotten_in, forgotten, finish, after, finalize, let_go, unpin, without_pin, WeakLinksLaw, KeepsRelease, SeesOnly, WeakLinksLive}
use Rattle.std.proofs.lemmas.Option.{same_Some}
use Rattle.qo_model.specs.Board.{referent}
use Rattle.qo_model.proofs.ReleaseInductionLemmas.{release_keeps, after_keeps}
use Rattle.qo_model.proofs.StepLemmas.{drop-live, finish-live}

-- the weak links of records see only what a test passes
abbrev SeeOnly : (ℕ → Bool) → List (List ℕ × Slot) → Type 0
SeeOnly there slots = AllByRecursion (λ (s : List ℕ × Slot). SeesOnly there s.1) slots

-- a slot let go sees no more
left-sees : (there : ℕ → Bool) (s left : Slot) → emptied s ≡ Some left → SeesOnly there s → SeesOnly there left
left-sees there (plain v) left e h = subst (SeesOnly there) (same_Some (plain v) left e) h
left-sees there (child m) left e h = absurd (let clash : None ≡ Some left = e in cc)
left-sees there (strong t target) left e h = subst (SeesOnly there) (same_Some (strong t None) left e) tt
left-sees there (weak t target) left e h = subst (SeesOnly there) (same_Some (weak t None) left e) tt
left-sees there (alias m property) left e h = subst (SeesOnly there) (same_Some (alias m property) left e) h

dropped-see : (there : ℕ → Bool) (i : ℕ) (slots : List (List ℕ × Slot)) → SeeOnly there slots → SeeOnly there (without_hold i slots)
dropped-see there i [] h = tt
dropped-see there zero (s ∷ slots) h = go (emptied s.1) refl
  where
    go : (o : Option Slot) → emptied s.1 ≡ o → SeeOnly there (without_hold zero (s ∷ slots))
    go None p = rw (without_hold, p) h.1
    go (Some left) p = rw (without_hold, p) (left-sees there s.1 left p h.0, h.1)
dropped-see there (suc i) (s ∷ slots) h = (h.0, dropped-see there i slots h.1)

-- where a test passes all but n that another passes, what sees only this, with its links to n emptied, sees only that
forgotten-sees : (there after : ℕ → Bool) (n : ℕ) → ((x : ℕ) → after x ≡ (not (x == n) && there x)) → (s : Slot) → SeesOnly there s
    → SeesOnly after (forgotten_in n s)
forgotten-sees there after n is (plain v) h = tt
forgotten-sees there after n is (child m) h = tt
forgotten-sees there after n is (strong t target) h = tt
forgotten-sees there after n is (weak t None) h = tt
forgotten-sees there after n is (weak t (Some m)) h = go (m == n) refl
  where
    go : (u : Bool) → (m == n) ≡ u → SeesOnly after (forgotten_in n (weak t (Some m)))
    go true p = rw (forgotten_in, p) tt
    go false p = rw (forgotten_in, p) (rw p at (is m) ∙ h)
forgotten-sees there after n is (alias m property) h = tt

forgotten-see : (there after : ℕ → Bool) (n : ℕ) → ((x : ℕ) → after x ≡ (not (x == n) && there x)) → (slots : List (List ℕ × Slot)) → SeeOnly there slots
    → SeeOnly after (map (λ (s : List ℕ × Slot). (s.0, forgotten_in n s.1)) slots)
forgotten-see there after n is [] h = tt
forgotten-see there after n is (s ∷ slots) h = (forgotten-sees there after n is s.1 h.0, forgotten-see there after n is slots h.1)

-- tests that agree
same-see : (there after : ℕ → Bool) → ((x : ℕ) → after x ≡ there x) → (s : Slot) → SeesOnly there s → SeesOnly after s
same-see there after is (plain v) h = tt
same-see there after is (child m) h = tt
same-see there after is (strong t target) h = tt
same-see there after is (weak t None) h = tt
same-see there after is (weak t (Some m)) h = is m ∙ h
same-see there after is (alias m property) h = tt

same-all : (there after : ℕ → Bool) → ((x : ℕ) → after x ≡ there x) → (slots : List (List ℕ × Slot)) → SeeOnly there slots → SeeOnly after slots
same-all there after is [] h = tt
same-all there after is (s ∷ slots) h = (same-see there after is s.1 h.0, same-all there after is slots h.1)

abbrev AllSee : (ℕ → Bool) → List Record → Type 0
AllSee there rs = AllByRecursion (λ (r : Record). AllByRecursion (λ (s : List ℕ × Slot). SeesOnly there s.1) r.slots) rs

all-drop : (there after : ℕ → Bool) → ((x : ℕ) → after x ≡ there x) → (n i : ℕ) (rs : List Record) → AllSee there rs
    → AllSee after (map (edited n (with_dropped i)) rs)
all-drop there after is n i [] h = tt
all-drop there after is n i (r ∷ rs) h = (go (r.birth == n) refl, all-drop there after is n i rs h.1)
  where
    go : (t : Bool) → (r.birth == n) ≡ t → SeeOnly after (edited n (with_dropped i) r).slots
    go true p = rw (edited, p) (dropped-see after i r.slots (same-all there after is r.slots h.0))
    go false p = rw (edited, p) (same-all there after is r.slots h.0)

all-finish : (there after : ℕ → Bool) (n : ℕ) → ((x : ℕ) → after x ≡ (not (x == n) && there x)) → (rs : List Record) → AllSee there rs
    → AllSee after (map (forgotten n) (filter (λ (r : Record). not (r.birth == n)) rs))
all-finish there after n is [] h = tt
all-finish there after n is (r ∷ rs) h = go (r.birth == n) refl (all-finish there after n is rs h.1)
  where
    go : (t : Bool) → (r.birth == n) ≡ t → AllSee after (map (forgotten n) (filter (λ (y : Record). not (y.birth == n)) rs))
        → AllSee after (map (forgotten n) (filter (λ (y : Record). not (y.birth == n)) (r ∷ rs)))
    go true p rest = rw p rest
    go false p rest = rw p (forgotten-see there after n is r.slots h.0, rest)

pub weak-drop : (b : Board) (n i : ℕ) → WeakLinksLive b → WeakLinksLive (drop_slot b n i)
unfolding drop_slot
weak-drop b n i h = all-drop (is_live b) (is_live (drop_slot b n i)) (drop-live b n i) n i b.records h

pub weak-finish : (b : Board) (n : ℕ) → WeakLinksLive b → WeakLinksLive (finish b n)
unfolding finish
weak-finish b n h = all-finish (is_live b) (is_live (finish b n)) n (finish-live b n) b.records h

weak-keeps : KeepsRelease (λ (work : List (ℕ × ℕ)) (c : Board). WeakLinksLive c)
weak-keeps =
    record {
      ended = λ c m j work h e. weak-finish c m h;
      freed = λ c m j work s k h e q free. weak-drop c m j h;
      kept = λ c m j work s h e held_on. weak-drop c m j h;
    }

release_weak : (b : Board) (n : ℕ) → WeakLinksLive b → WeakLinksLive (finalize b n)
release_weak b n h = release_keeps (λ (work : List (ℕ × ℕ)) (c : Board). WeakLinksLive c) weak-keeps b n [] h

after-weak : (c : Board) (o : Option ℕ) → WeakLinksLive c → WeakLinksLive (after finalize c o)
after-weak c o h = after_keeps (λ (work : List (ℕ × ℕ)) (d : Board). WeakLinksLive d) weak-keeps c o [] (λ m e free. h) (λ held_on. h)

let_go-weak : (b : Board) (owner i : ℕ) → WeakLinksLive b → WeakLinksLive (let_go b owner i)
unfolding let_go
let_go-weak b owner i h = go (slot_at b owner i) refl
  where
    go : (o : Option Slot) → slot_at b owner i ≡ o → WeakLinksLive (let_go b owner i)
    go None p = rw (let_go, p) h
    go (Some s) p = rw (let_go, p) (after-weak (drop_slot b owner i) (referent s) (weak-drop b owner i h))

unpin-weak : (b : Board) (n : ℕ) → WeakLinksLive b → WeakLinksLive (unpin b n)
unfolding unpin
unpin-weak b n h = go (list_any (nat_eq n) b.pins) refl
  where
    go : (t : Bool) → list_any (nat_eq n) b.pins ≡ t → WeakLinksLive (unpin b n)
    go false p = rw (unpin, p) h
    go true p = rw (unpin, p) (after-weak (without_pin b n) (Some n) h)

pub weak_links_lem : WeakLinksLaw
weak_links_lem = record { finalized = release_weak; slot_let_go = let_go-weak; unpinned = unpin-weak }
