-- A turn of the work of a release: what is left comes to the same, and what is so of a board and its work is so again.
use Rattle.std.proofs.Common.{◌≡◌, refl, ap, sym, subst, ◌∙◌, ℕ, zero, suc, ◌+◌, ◌<◌, ◌≤◌, Bool, true, false, not, ◌&&◌, ◌==◌, eqb, nat_eq, List, [], ◌∷◌, map, filter, slice_get, sum_by, Option, Some, None, is_some, IfSome, arith}
use Rattle.qo_model.proofs.Common.{AllByRecursion, IsDistinct, Board, Record, Slot, plain, child, strong, weak, alias, is_live, slot_at, target_of, StackLaw, births, refs, refs_in, holds_it, edited, emptied, without_hold, with_dropped, drop_slot, next_index, forgotten_in, forgotten, finish, after, finalize, rest, IsLinked, IsWork, Turns, StackTurn}
use Rattle.std.proofs.lemmas.Bool.{eqb-true, eq-eqb}
use Rattle.std.proofs.lemmas.List.Sums.{sum_by-cons}
use Rattle.std.proofs.lemmas.Option.{same_Some}
use Rattle.qo_values.proofs.ListLemmas.{all-at, all-imply, found-has}
use Rattle.qo_model.specs.Board.{referent}
use Rattle.qo_model.proofs.EditLemmas.{StandsAt, stands-at}
use Rattle.qo_model.proofs.ReleaseLemmas.{end_of, end_of-first, end_of-none, end_of-some}
use Rattle.qo_model.proofs.StepLemmas.{drop-births, drop-live, drop-refs, finish-births, finish-live, finish-refs, one_of, unheld-apart}

-- what follows a slot that was let go: nothing, or the end of what is free
pub after-kept : (c : Board) (o : Option ℕ) → ((m : ℕ) → o ≡ Some m → 0 < refs c m) → after finalize c o ≡ c
after-kept c None some = refl
after-kept c (Some m) some = go (refs c m == 0) refl
  where
    go : (t : Bool) → (refs c m == 0) ≡ t → after finalize c (Some m) ≡ c
    go true p = absurd (let none : refs c m ≡ 0 = eqb-true (refs c m) 0 p in let has : 0 < refs c m = some m refl in omega arith)
    go false p = rw (after, p) refl

pub after-freed : (c : Board) (o : Option ℕ) (m : ℕ) → o ≡ Some m → refs c m ≡ 0 → after finalize c o ≡ finalize c m
after-freed c o m e none = let free : (refs c m == 0) ≡ true = eq-eqb (refs c m) 0 none in rw (e, after, free) refl

-- the three equations
pub rest-ended : (b : Board) (n i : ℕ) (work : List (ℕ × ℕ)) → slot_at b n i ≡ None → rest b ((n, i) ∷ work) ≡ rest (finish b n) work
rest-ended b n i work e = ap (λ (c : Board). rest c work) (end_of-none b n i e)

pub rest-kept : (b : Board) (n i : ℕ) (work : List (ℕ × ℕ)) (s : Slot) → slot_at b n i ≡ Some s → ((m : ℕ) → referent s ≡ Some m → 0 < refs (drop_slot b n i) m)
    → rest b ((n, i) ∷ work) ≡ rest (drop_slot b n i) ((n, next_index s i) ∷ work)
rest-kept b n i work s e some =
    ap (λ (c : Board). rest c work)
    (end_of-some b n i s e ∙ ap (λ (c : Board). end_of c n (next_index s i)) (after-kept (drop_slot b n i) (referent s) some))

pub rest-freed : (b : Board) (n i : ℕ) (work : List (ℕ × ℕ)) (s : Slot) (m : ℕ) → slot_at b n i ≡ Some s → referent s ≡ Some m → refs (drop_slot b n i) m ≡ 0
    → rest b ((n, i) ∷ work) ≡ rest (drop_slot b n i) ((m, 0) ∷ (n, next_index s i) ∷ work)
rest-freed b n i work s m e h none =
    ap (λ (c : Board). rest c work)
    (end_of-some b n i s e
    ∙ ap (λ (c : Board). end_of c n (next_index s i)) (after-freed (drop_slot b n i) (referent s) m h none ∙ end_of-first (drop_slot b n i) m))

-- what slots name passes a test
abbrev NamesIn : (ℕ → Bool) → Slot → Type 0
NamesIn there s = IfSome (target_of s) (λ m. there m ≡ true)

abbrev AllNameIn : (ℕ → Bool) → List (List ℕ × Slot) → Type 0
AllNameIn there slots = AllByRecursion (λ (s : List ℕ × Slot). IfSome (target_of s.1) (λ m. there m ≡ true)) slots

abbrev EachNamesIn : (ℕ → Bool) → List Record → Type 0
EachNamesIn there rs =
    AllByRecursion (λ (r : Record). AllByRecursion (λ (s : List ℕ × Slot). IfSome (target_of s.1) (λ m. there m ≡ true)) r.slots) rs

-- by a test that says the same
same-names : (there now : ℕ → Bool) → ((x : ℕ) → now x ≡ there x) → (o : Option ℕ) → IfSome o (λ m. there m ≡ true) → IfSome o (λ m. now m ≡ true)
same-names there now is None h = tt
same-names there now is (Some m) h = is m ∙ h

same-slots : (there now : ℕ → Bool) → ((x : ℕ) → now x ≡ there x) → (slots : List (List ℕ × Slot)) → AllNameIn there slots → AllNameIn now slots
same-slots there now is [] h = tt
same-slots there now is (s ∷ slots) h = (same-names there now is (target_of s.1) h.0, same-slots there now is slots h.1)

-- a slot let go names no more
left-names : (there : ℕ → Bool) (s left : Slot) → emptied s ≡ Some left → NamesIn there s → NamesIn there left
left-names there (plain v) left e h = subst (NamesIn there) (same_Some (plain v) left e) h
left-names there (child m) left e h = absurd (let clash : None ≡ Some left = e in cc)
left-names there (strong t target) left e h = subst (NamesIn there) (same_Some (strong t None) left e) tt
left-names there (weak t target) left e h = subst (NamesIn there) (same_Some (weak t None) left e) tt
left-names there (alias m property) left e h = subst (NamesIn there) (same_Some (alias m property) left e) h

dropped-name : (there : ℕ → Bool) (i : ℕ) (slots : List (List ℕ × Slot)) → AllNameIn there slots → AllNameIn there (without_hold i slots)
dropped-name there i [] h = tt
dropped-name there zero (s ∷ slots) h = go (emptied s.1) refl
  where
    go : (o : Option Slot) → emptied s.1 ≡ o → AllNameIn there (without_hold zero (s ∷ slots))
    go None p = rw (without_hold, p) h.1
    go (Some left) p = rw (without_hold, p) (left-names there s.1 left p h.0, h.1)
dropped-name there (suc i) (s ∷ slots) h = (h.0, dropped-name there i slots h.1)

each-drop : (there now : ℕ → Bool) → ((x : ℕ) → now x ≡ there x) → (n i : ℕ) (rs : List Record) → EachNamesIn there rs
    → EachNamesIn now (map (edited n (with_dropped i)) rs)
each-drop there now is n i [] h = tt
each-drop there now is n i (r ∷ rs) h = (go (r.birth == n) refl, each-drop there now is n i rs h.1)
  where
    go : (t : Bool) → (r.birth == n) ≡ t → AllNameIn now (edited n (with_dropped i) r).slots
    go true p = rw (edited, p) (dropped-name now i r.slots (same-slots there now is r.slots h.0))
    go false p = rw (edited, p) (same-slots there now is r.slots h.0)

-- where nothing holds n, what slots name without the weak links to n is another
other-names : (there now : ℕ → Bool) (n : ℕ) → ((x : ℕ) → now x ≡ (not (x == n) && there x)) → (s : Slot) → holds_it n s ≡ false → NamesIn there s
    → NamesIn now (forgotten_in n s)
other-names there now n is (plain v) e h = tt
other-names there now n is (child m) e h = rw (is m, e) h
other-names there now n is (strong t None) e h = tt
other-names there now n is (strong t (Some m)) e h = rw (is m, e) h
other-names there now n is (weak t None) e h = tt
other-names there now n is (weak t (Some m)) e h = go (m == n) refl
  where
    go : (u : Bool) → (m == n) ≡ u → NamesIn now (forgotten_in n (weak t (Some m)))
    go true p = rw (forgotten_in, p) tt
    go false p = rw (forgotten_in, p) (rw (is m, p) h)
other-names there now n is (alias m property) e h = tt

not-held : (n : ℕ) (s : List ℕ × Slot) → one_of n s ≡ 0 → holds_it n s.1 ≡ false
not-held n s e = go (holds_it n s.1) refl
  where
    go : (t : Bool) → holds_it n s.1 ≡ t → holds_it n s.1 ≡ false
    go true p = absurd (let one : one_of n s ≡ 1 = rw p refl in omega arith)
    go false p = p

other-slots : (there now : ℕ → Bool) (n : ℕ) → ((x : ℕ) → now x ≡ (not (x == n) && there x)) → (slots : List (List ℕ × Slot)) → sum_by (one_of n) slots ≡ 0
    → AllNameIn there slots → AllNameIn now (map (λ (s : List ℕ × Slot). (s.0, forgotten_in n s.1)) slots)
other-slots there now n is [] none h = tt
other-slots there now n is (s ∷ slots) none h =
    let here : one_of n s ≡ 0 = omega (arith, sum_by-cons (one_of n) s slots) in
    let later : sum_by (one_of n) slots ≡ 0 = omega (arith, sum_by-cons (one_of n) s slots) in
    (other-names there now n is s.1 (not-held n s here) h.0, other-slots there now n is slots later h.1)

each-finish : (there now : ℕ → Bool) (n : ℕ) → ((x : ℕ) → now x ≡ (not (x == n) && there x)) → (rs : List Record) → sum_by (refs_in n) rs ≡ 0
    → EachNamesIn there rs → EachNamesIn now (map (forgotten n) (filter (λ (r : Record). not (r.birth == n)) rs))
each-finish there now n is [] none h = tt
each-finish there now n is (r ∷ rs) none h =
    let here : refs_in n r ≡ 0 = omega (arith, sum_by-cons (refs_in n) r rs) in
    let later : sum_by (refs_in n) rs ≡ 0 = omega (arith, sum_by-cons (refs_in n) r rs) in
    go here (r.birth == n) refl (each-finish there now n is rs later h.1)
  where
    go : refs_in n r ≡ 0 → (t : Bool) → (r.birth == n) ≡ t
        → EachNamesIn now (map (forgotten n) (filter (λ (y : Record). not (y.birth == n)) rs))
        → EachNamesIn now (map (forgotten n) (filter (λ (y : Record). not (y.birth == n)) (r ∷ rs)))
    go here true p later = rw p later
    go here false p later = rw p (other-slots there now n is r.slots here h.0, later)

-- some of different numbers
apart-filter : (keep : ℕ → Bool) (n : ℕ) (xs : List ℕ) → AllByRecursion (λ x. nat_eq n x ≡ false) xs → AllByRecursion (λ x. nat_eq n x ≡ false) (filter keep xs)
apart-filter keep n [] h = tt
apart-filter keep n (x ∷ xs) h = go (keep x) refl (apart-filter keep n xs h.1)
  where
    go : (t : Bool) → keep x ≡ t → AllByRecursion (λ y. nat_eq n y ≡ false) (filter keep xs)
        → AllByRecursion (λ y. nat_eq n y ≡ false) (filter keep (x ∷ xs))
    go true p rest = rw p (h.0, rest)
    go false p rest = rw p rest

distinct-filter : (keep : ℕ → Bool) (xs : List ℕ) → IsDistinct nat_eq xs → IsDistinct nat_eq (filter keep xs)
unfolding IsDistinct
distinct-filter keep [] h = tt
distinct-filter keep (x ∷ xs) h = go (keep x) refl (distinct-filter keep xs h.1)
  where
    go : (t : Bool) → keep x ≡ t → IsDistinct nat_eq (filter keep xs) → IsDistinct nat_eq (filter keep (x ∷ xs))
    go true p rest = rw p (apart-filter keep x xs h.0, rest)
    go false p rest = rw p rest

-- the board is such a board again
pub linked-drop : (b : Board) (n i : ℕ) → IsLinked b → IsLinked (drop_slot b n i)
unfolding drop_slot
linked-drop b n i h =
    record {
      differ = subst (λ (ns : List ℕ). IsDistinct nat_eq ns) (sym (drop-births b n i)) h.differ;
      named = each-drop (is_live b) (is_live (drop_slot b n i)) (drop-live b n i) n i b.records h.named;
    }

pub linked-finish : (b : Board) (n : ℕ) → refs b n ≡ 0 → IsLinked b → IsLinked (finish b n)
unfolding finish
linked-finish b n none h =
    record {
      differ =
          subst (λ (ns : List ℕ). IsDistinct nat_eq ns) (sym (finish-births b n)) (distinct-filter (λ (x : ℕ). not (x == n)) (births b) h.differ);
      named = each-finish (is_live b) (is_live (finish b n)) n (finish-live b n) b.records (omega (arith, none)) h.named;
    }

-- what a slot holds is there
held-target : (s : Slot) (m : ℕ) → referent s ≡ Some m → target_of s ≡ Some m
held-target (plain v) m e = cc
held-target (child k) m e = e
held-target (strong t target) m e = e
held-target (weak t target) m e = cc
held-target (alias k property) m e = cc

pub held-there : (b : Board) (n i m : ℕ) (s : Slot) → IsLinked b → slot_at b n i ≡ Some s → referent s ≡ Some m → is_live b m ≡ true
held-there b n i m s h e holds =
    let at : StandsAt b n i s = stands-at b n i s e in
    let slots : AllNameIn (is_live b) at.owner.slots =
    found-has (λ (r : Record). AllNameIn (is_live b) r.slots) (λ (r : Record). r.birth == n) b.records at.owner h.named at.found in
    let one : IfSome (slice_get at.owner.slots i) (λ (x : List ℕ × Slot). NamesIn (is_live b) x.1) =
    all-at (λ (x : List ℕ × Slot). NamesIn (is_live b) x.1) at.owner.slots i slots in
    let here : NamesIn (is_live b) at.entry.1 =
    subst (λ (o : Option (List ℕ × Slot)). IfSome o (λ (x : List ℕ × Slot). NamesIn (is_live b) x.1)) at.at one in
    let named : target_of at.entry.1 ≡ Some m = ap target_of at.is ∙ held-target s m holds in
    subst (λ (o : Option ℕ). IfSome o (λ k. is_live b k ≡ true)) named here

-- the work is such work again
abbrev objects : List (ℕ × ℕ) → List ℕ
objects work = map (λ (p : ℕ × ℕ). p.0) work

free-drop : (b : Board) (n i : ℕ) (work : List (ℕ × ℕ)) → AllByRecursion (λ (p : ℕ × ℕ). refs b p.0 ≡ 0) work
    → AllByRecursion (λ (p : ℕ × ℕ). refs (drop_slot b n i) p.0 ≡ 0) work
free-drop b n i work h =
    all-imply (λ (p : ℕ × ℕ). refs b p.0 ≡ 0) (λ (p : ℕ × ℕ). refs (drop_slot b n i) p.0 ≡ 0) (λ p none. omega (arith, drop-refs b n i p.0, none)) work h

live-drop : (b : Board) (n i : ℕ) (work : List (ℕ × ℕ)) → AllByRecursion (λ (p : ℕ × ℕ). is_live b p.0 ≡ true) work
    → AllByRecursion (λ (p : ℕ × ℕ). is_live (drop_slot b n i) p.0 ≡ true) work
live-drop b n i work h =
    all-imply (λ (p : ℕ × ℕ). is_live b p.0 ≡ true) (λ (p : ℕ × ℕ). is_live (drop_slot b n i) p.0 ≡ true) (λ p there. drop-live b n i p.0 ∙ there) work h

work-drop : (b : Board) (n i j : ℕ) (work : List (ℕ × ℕ)) → IsWork b ((n, i) ∷ work) → IsWork (drop_slot b n i) ((n, j) ∷ work)
work-drop b n i j work w = record { differ = w.differ; live = live-drop b n i ((n, j) ∷ work) w.live; free = free-drop b n i ((n, j) ∷ work) w.free }

-- what a slot holds is none of the work
apart-work : (b : Board) (n i m : ℕ) (s : Slot) → slot_at b n i ≡ Some s → referent s ≡ Some m → (work : List (ℕ × ℕ))
    → AllByRecursion (λ (p : ℕ × ℕ). refs b p.0 ≡ 0) work → AllByRecursion (λ x. nat_eq m x ≡ false) (objects work)
apart-work b n i m s e h [] free = tt
apart-work b n i m s e h (p ∷ work) free = (go (nat_eq m p.0) refl, apart-work b n i m s e h work free.1)
  where
    go : (t : Bool) → nat_eq m p.0 ≡ t → nat_eq m p.0 ≡ false
    go true is = absurd (unheld-apart b p.0 n i m s free.0 e h (eqb-true m p.0 is))
    go false is = is

work-freed : (b : Board) (n i j m : ℕ) (s : Slot) (work : List (ℕ × ℕ)) → IsLinked b → IsWork b ((n, i) ∷ work) → slot_at b n i ≡ Some s → referent s ≡ Some m
    → refs (drop_slot b n i) m ≡ 0 → IsWork (drop_slot b n i) ((m, 0) ∷ (n, j) ∷ work)
unfolding IsDistinct
work-freed b n i j m s work linked w e h none =
    let more : IsWork (drop_slot b n i) ((n, j) ∷ work) = work-drop b n i j work w in
    record {
      differ = (apart-work b n i m s e h ((n, j) ∷ work) w.free, more.differ);
      live = (drop-live b n i m ∙ held-there b n i m s linked e h, more.live);
      free = (none, more.free);
    }

-- the others of the work, after the end of the first
work-others : (b : Board) (n : ℕ) (work : List (ℕ × ℕ)) → AllByRecursion (λ x. nat_eq n x ≡ false) (objects work)
    → AllByRecursion (λ (p : ℕ × ℕ). is_live b p.0 ≡ true) work → AllByRecursion (λ (p : ℕ × ℕ). is_live (finish b n) p.0 ≡ true) work
work-others b n [] apart live = tt
work-others b n (p ∷ work) apart live =
    let other : (p.0 == n) ≡ false = flip n p.0 apart.0 in
    (finish-live b n p.0 ∙ rw (other, live.0) refl, work-others b n work apart.1 live.1)
  where
    flip : (x y : ℕ) → nat_eq x y ≡ false → (y == x) ≡ false
    flip x y e = grind (arith, e)

work-finish : (b : Board) (n i : ℕ) (work : List (ℕ × ℕ)) → IsWork b ((n, i) ∷ work) → IsWork (finish b n) work
unfolding IsDistinct
work-finish b n i work w =
    record {
      differ = w.differ.1;
      live = work-others b n work w.differ.0 w.live.1;
      free =
          all-imply (λ (p : ℕ × ℕ). refs b p.0 ≡ 0) (λ (p : ℕ × ℕ). refs (finish b n) p.0 ≡ 0)
          (λ p none. omega (arith, finish-refs b n p.0, none)) work w.free.1;
    }

-- one turn
pub stack_lem : StackLaw
stack_lem b n i work linked w =
    record {
      ended = λ e.
          record { same = rest-ended b n i work e; linked = linked-finish b n w.free.0 linked; left = work-finish b n i work w };
      freed = λ s m e h none.
          record {
            same = rest-freed b n i work s m e h none;
            linked = linked-drop b n i linked;
            left = work-freed b n i (next_index s i) m s work linked w e h none;
          };
      kept = λ s e some.
          record { same = rest-kept b n i work s e some; linked = linked-drop b n i linked; left = work-drop b n i (next_index s i) work w };
    }
