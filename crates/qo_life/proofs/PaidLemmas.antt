-- The steps of a release, and what they are paid by.
use Rattle.std.proofs.Common.{◌≡◌, refl, ap, sym, subst, ◌∙◌, ℕ, suc, ◌+◌, ◌*◌, ◌<◌, ◌≤◌, Bool, true, false, not, ◌==◌, cond, List, [], ◌∷◌, map, filter, length, sum_by, count_by, Option, Some, None, is_some, arith}
use Rattle.std.specs.Prelude.{filter_map, if◌then◌else◌}
use Rattle.std.specs.List.{AllByRecursion}
use Rattle.std.proofs.lemmas.List.Sums.{sum_by-cons}
use Rattle.qo_slots.specs.declared.keys.Key.{Key}
use Rattle.qo_heap.specs.Rows.{IsLive}
use Rattle.qo_heap.specs.Board.{Shows, record_of}
use Rattle.qo_heap.specs.Objects.{IsHeap, Objects, pins_of, targets, with_edit}
use Rattle.qo_heap.proofs.BoardEdits.{shows-drop_slot, shows-without_pin}
use Rattle.qo_heap.proofs.BoardReads.{shows-live_key}
use Rattle.qo_model.specs.Board.{Board, Record, Slot, plain, child, strong, weak, alias, is_live}
use Rattle.qo_model.specs.Release.{drop_slot, finalize, finish, forgotten, forgotten_in}
use Rattle.qo_model.specs.Release as release
use Rattle.qo_model.specs.ReleaseBound.{is_weak, names_weakly, release_bound, weak_in, weak_links}
use Rattle.qo_model.specs.ReleaseInduction.{SeesOnly, WeakLinksLive}
use Rattle.qo_model.proofs.BoundLemmas.{bound_lem}
use Rattle.qo_object.specs.declared.slots.Slot as O
use Rattle.qo_object.specs.declared.slots.Slot.TheVariants.{Plain, Child, Link, Alias}
use Rattle.qo_object.specs.Content.{Content, dropped_at}
use Rattle.qo_object.specs.Content as content
use Rattle.qo_object.specs.Slots.{Named, target_of, weak_target}
use Rattle.qo_object.specs.Slots as object
use Rattle.qo_object.specs.BoardObject.{shown_slot, shown_slots}
use Rattle.qo_life.specs.Life.{Goes}
use Rattle.qo_heap.specs.WeakEnds.{weak_ends as weak_ends_on, weak_ends_in}
use Rattle.qo_life.specs.Work.{weak_ends, worth}
use Rattle.qo_life.proofs.TreeLemmas.{goes-shows}

-- An end takes the weak links that name the object, and its own.

abbrev one_weak : List ℕ × Slot → ℕ
one_weak s = cond {A = ℕ} (is_weak s.1) 1 0

abbrev one_names : ℕ → List ℕ × Slot → ℕ
one_names n s = cond {A = ℕ} (names_weakly n s.1) 1 0

weak-forgotten : (n : ℕ) (name : List ℕ) (s : Slot) → one_weak (name, forgotten_in n s) + one_names n (name, s) ≡ one_weak (name, s)
weak-forgotten n name (plain v) = refl
weak-forgotten n name (child m) = refl
weak-forgotten n name (strong t target) = refl
weak-forgotten n name (weak t None) = refl
weak-forgotten n name (weak t (Some m)) = go (m == n) refl
  where
    go : (u : Bool) → (m == n) ≡ u → one_weak (name, forgotten_in n (weak t (Some m))) + one_names n (name, weak t (Some m)) ≡ one_weak (name, weak t (Some m))
    go true p = rw p refl
    go false p = rw p refl
weak-forgotten n name (alias m property) = refl

weak-left : (n : ℕ) (slots : List (List ℕ × Slot))
    → sum_by one_weak (map {B = List ℕ × Slot} (λ (s : List ℕ × Slot). (s.0, forgotten_in n s.1)) slots) + sum_by (one_names n) slots ≡ sum_by one_weak slots
weak-left n [] = refl
weak-left n (s ∷ slots) =
    omega (
      arith,
      weak-left n slots,
      weak-forgotten n s.0 s.1,
      sum_by-cons one_weak s slots,
      sum_by-cons one_weak (s.0, forgotten_in n s.1) (map {B = List ℕ × Slot} (λ (x : List ℕ × Slot). (x.0, forgotten_in n x.1)) slots),
      sum_by-cons (one_names n) s slots,
    )

abbrev ends_in : ℕ → Record → ℕ
ends_in n r = if r.birth == n then weak_in r else count_by (λ (s : List ℕ × Slot). names_weakly n s.1) r.slots

weak-gone : (n : ℕ) (rs : List Record)
    → sum_by weak_in (map (forgotten n) (filter (λ (r : Record). not (r.birth == n)) rs)) + sum_by (ends_in n) rs ≡ sum_by weak_in rs
weak-gone n [] = refl
weak-gone n (r ∷ rs) = go (r.birth == n) refl (weak-gone n rs)
  where
    go : (t : Bool) → (r.birth == n) ≡ t
        → sum_by weak_in (map (forgotten n) (filter (λ (y : Record). not (y.birth == n)) rs)) + sum_by (ends_in n) rs ≡ sum_by weak_in rs
        → sum_by weak_in (map (forgotten n) (filter (λ (y : Record). not (y.birth == n)) (r ∷ rs))) + sum_by (ends_in n) (r ∷ rs) ≡ sum_by weak_in (r ∷ rs)
    go true p rest =
        let own : ends_in n r ≡ weak_in r = rw p refl in
        let out : filter (λ (y : Record). not (y.birth == n)) (r ∷ rs) ≡ filter (λ (y : Record). not (y.birth == n)) rs = rw p refl in
        omega (
          arith,
          rest,
          own,
          ap (λ (l : List Record). sum_by weak_in (map (forgotten n) l)) out,
          sum_by-cons weak_in r rs,
          sum_by-cons (ends_in n) r rs,
        )
    go false p rest =
        let other : ends_in n r ≡ count_by (λ (s : List ℕ × Slot). names_weakly n s.1) r.slots = rw p refl in
        let here : weak_in (forgotten n r) + count_by (λ (s : List ℕ × Slot). names_weakly n s.1) r.slots ≡ weak_in r = weak-left n r.slots in
        let on : filter (λ (y : Record). not (y.birth == n)) (r ∷ rs) ≡ r ∷ filter (λ (y : Record). not (y.birth == n)) rs = rw p refl in
        omega (
          arith,
          rest,
          other,
          here,
          ap (λ (l : List Record). sum_by weak_in (map (forgotten n) l)) on,
          sum_by-cons weak_in r rs,
          sum_by-cons (ends_in n) r rs,
          sum_by-cons weak_in (forgotten n r) (map (forgotten n) (filter (λ (y : Record). not (y.birth == n)) rs)),
        )

pub finish-weak : (b : Board) (n : ℕ) → weak_links (finish b n) + weak_ends b n ≡ weak_links b
unfolding finish
finish-weak b n = weak-gone n b.records

-- They are as many on the heap.

one-weak : (s : O.Slot) → is_weak (shown_slot s) ≡ is_some (weak_target s)
one-weak (Plain val) = refl
one-weak (Child key) = refl
one-weak (Link ty true target) = refl
one-weak (Link ty false None) = refl
one-weak (Link ty false (Some key)) = refl
one-weak (Alias key property) = refl

one-named : (n : ℕ) (s : O.Slot) → names_weakly n (shown_slot s) ≡ object.names_weakly n s
one-named n (Plain val) = refl
one-named n (Child key) = refl
one-named n (Link ty true target) = refl
one-named n (Link ty false None) = refl
one-named n (Link ty false (Some key)) = refl
one-named n (Alias key property) = refl

slots-shown : (f : Slot → Bool) (g : O.Slot → Bool) → ((s : O.Slot) → f (shown_slot s) ≡ g s) → (slots : List Named)
    → count_by (λ (s : List ℕ × Slot). f s.1) (shown_slots slots) ≡ count_by (λ (s : Named). g s.1) slots
slots-shown f g same [] = refl
slots-shown f g same (s ∷ slots) =
    omega (
      arith,
      slots-shown f g same slots,
      sum_by-cons (λ (t : List ℕ × Slot). cond {A = ℕ} (f t.1) 1 0) (s.0, shown_slot s.1) (shown_slots slots),
      sum_by-cons (λ (t : Named). cond {A = ℕ} (g t.1) 1 0) s slots,
      ap (λ (b : Bool). cond {A = ℕ} b 1 0) (same s.1),
    )

row-shown : (n : ℕ) (row : Key × Content) → ends_in n (record_of row)
    ≡ (if row.0.birth == n then count_by (λ (s : Named). is_some (weak_target s.1)) row.1.slots
    else count_by (λ (s : Named). object.names_weakly n s.1) row.1.slots)
row-shown n row = go (row.0.birth == n)
  where
    go : (t : Bool) → (if t then weak_in (record_of row) else count_by (λ (s : List ℕ × Slot). names_weakly n s.1) (record_of row).slots)
        ≡ (if t then count_by (λ (s : Named). is_some (weak_target s.1)) row.1.slots else count_by (λ (s : Named). object.names_weakly n s.1) row.1.slots)
    go true = slots-shown is_weak (λ s. is_some (weak_target s)) one-weak row.1.slots
    go false = slots-shown (names_weakly n) (object.names_weakly n) (one-named n) row.1.slots

pub weak-shown : (n : ℕ) (rows : List (Key × Content)) → sum_by (ends_in n) (map record_of rows) ≡ weak_ends_on n rows
weak-shown n [] = refl
weak-shown n (row ∷ rows) =
    omega (
      arith,
      weak-shown n rows,
      row-shown n row,
      sum_by-cons (ends_in n) (record_of row) (map record_of rows),
      sum_by-cons (weak_ends_in n) row rows,
    )

-- What is paid on a board of a heap.

pub worth-same : (b c : Board) → b.records ≡ c.records → worth b ≡ worth c
worth-same b c same = ap (λ (rs : List Record). 8 * sum_by (λ (r : Record). suc (length r.slots)) rs + 4 * sum_by weak_in rs) same

-- Each weak link of a heap that is not empty names an object that is there.

module _ (v : Objects) (there : ℕ → Bool) (lives : (key : Key) → IsLive v.rows key → there key.birth ≡ true) where
  slots-live : (slots : List Named) → AllByRecursion (IsLive v.rows) (filter_map (λ (s : Named). target_of s.1) slots)
      → AllByRecursion (λ (s : List ℕ × Slot). SeesOnly there s.1) (shown_slots slots)
  slots-live [] all = tt
  slots-live ((name, Plain val) ∷ slots) all = (tt, slots-live slots all)
  slots-live ((name, Child key) ∷ slots) all = (tt, slots-live slots all.1)
  slots-live ((name, Link ty true None) ∷ slots) all = (tt, slots-live slots all)
  slots-live ((name, Link ty true (Some key)) ∷ slots) all = (tt, slots-live slots all.1)
  slots-live ((name, Link ty false None) ∷ slots) all = (tt, slots-live slots all)
  slots-live ((name, Link ty false (Some key)) ∷ slots) all = (lives key all.0, slots-live slots all.1)
  slots-live ((name, Alias key property) ∷ slots) all = (tt, slots-live slots all)

  rows-live : (rows : List (Key × Content)) → AllByRecursion (λ (row : Key × Content). AllByRecursion (IsLive v.rows) (targets row.1)) rows
      → AllByRecursion (λ (r : Record). AllByRecursion (λ (s : List ℕ × Slot). SeesOnly there s.1) r.slots) (map record_of rows)
  rows-live [] all = tt
  rows-live (row ∷ rows) all = (slots-live row.1.slots all.0, rows-live rows all.1)

weak-live : (b : Board) (v : Objects) → Shows b v → IsHeap v → WeakLinksLive b
weak-live b v s good =
    subst (λ (rs : List Record). AllByRecursion (λ (r : Record). AllByRecursion (λ (t : List ℕ × Slot). SeesOnly (is_live b) t.1) r.slots) rs) (sym s.records)
    (rows-live v (is_live b) (shows-live_key b v s) v.rows good.linked)

-- What a finalization paid is within the bound of a release, with seven steps to spare.

pub ends-within : (v w : Objects) (n was after spent : ℕ) → IsHeap v → Goes (λ b. finalize b n) v w → after ≡ was + 1
    → ((b c : Board) → Shows b v → Shows c w → spent + worth c ≤ after + worth b) → (b c : Board) → Shows b v → Shows c w
    → spent + 7 ≤ was + release_bound b c
ends-within v w n was after spent good goes one paid b c s t =
    let last : Shows (finalize b n) w = goes-shows (λ x. finalize x n) v w goes b s in
    let same : (finalize b n).records ≡ c.records = last.records ∙ sym t.records in
    let bounds : release_bound b (finalize b n) ≡ release_bound b c =
    bound-same b (finalize b n) c same in
    omega (arith, one, paid b c s t, bound_lem.within b n (weak-live b v s good), worth-same (finalize b n) c same, bounds)
  where
    bound-same : (b c d : Board) → c.records ≡ d.records → release_bound b c ≡ release_bound b d
    bound-same b c d same = ap (λ (rs : List Record). release_bound b (record c { records = rs })) same

pub held-within : (b c : Board) (was spent : ℕ) → spent ≡ was + 1 → spent + 7 ≤ was + release_bound b c
held-within b c was spent one = omega (arith, one)

pub none-within : (b c : Board) (was : ℕ) → was + 7 ≤ was + release_bound b c
none-within b c was = omega arith

pub past-within : (b c : Board) (was spent : ℕ) → spent ≡ was + 1 → spent ≤ was + release_bound b c
past-within b c was spent one = omega (arith, one)

-- a slot let go before raises no bound
pub slot-within : (v u w : Objects) (n i was a e spent : ℕ) → u ≡ with_edit n (dropped_at i) v → a ≡ was + 1 → e ≤ a + 4
    → ((b c : Board) → Shows b u → Shows c w → spent + 7 ≤ e + release_bound b c) → (b c : Board) → Shows b v → Shows c w → spent ≤ was + release_bound b c
slot-within v u w n i was a e spent is one few later b c s t =
    let here : Shows (drop_slot b n i) u = subst (Shows (drop_slot b n i)) (sym is) (shows-drop_slot b v s n i) in
    omega (arith, one, few, later (drop_slot b n i) c here t, bound_lem.dropped b c n i)

-- nor does a pin less
pub pin-within : (v u w : Objects) (n was e spent : ℕ) → IsHeap v → 0 < pins_of v n → u ≡ with_edit n content.without_pin v → e ≡ was + 1
    → ((b c : Board) → Shows b u → Shows c w → spent + 7 ≤ e + release_bound b c) → (b c : Board) → Shows b v → Shows c w → spent ≤ was + release_bound b c
pin-within v u w n was e spent good some is one later b c s t =
    let here : Shows (release.without_pin b n) u = subst (Shows (release.without_pin b n)) (sym is) (shows-without_pin b v s good n some) in
    omega (arith, one, later (release.without_pin b n) c here t)

-- nor does nothing at all
pub hold-within : (v w : Objects) (was spent : ℕ) → ((b c : Board) → Shows b v → Shows c w → spent + 7 ≤ was + release_bound b c)
    → (b c : Board) → Shows b v → Shows c w → spent ≤ was + release_bound b c
hold-within v w was spent later b c s t = omega (arith, later b c s t)
