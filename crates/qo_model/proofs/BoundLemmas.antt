-- How much a release does.
use Rattle.std.proofs.Common.{◌≡◌, refl, ap, sym, ◌∙◌, ℕ, suc, ◌+◌, ◌-◌, ◌*◌, ◌<◌, ◌≤◌, Bool, true, false, not, ◌==◌, cond, List, [], ◌∷◌, map, filter, find, length, slice_get, subst, sum_by, count_by, Option, Some, None, is_some, arith}
use Rattle.qo_model.proofs.Common.{Board, Record, Slot, plain, child, strong, weak, alias, is_live, slot_at, edited, emptied, without_hold, with_dropped, drop_slot, next_index, forgotten, forgotten_in, finish, finalize, BoundLaw, ended, is_lost, is_weak, left_in, left_of_all, lost_in, names_weakly, objects_and_slots, release_bound, slots_ended, weak_ended, weak_links, weak_names, WeakLinksLive, seen_in, thinned}
use Rattle.std.proofs.lemmas.Bool.{eqb-true, eq-eqb}
use Rattle.std.proofs.lemmas.List.Sums.{sum_by-cons}
use Rattle.std.proofs.lemmas.Option.{same_Some, slice_get_within}
use Rattle.qo_model.specs.ReleaseBound.{place_in, weak_in}
use Rattle.qo_model.proofs.EditLemmas.{StandsAt, stands-at, sum-edit_le, left_of, sum-without_hold, sum-without_hold_le, one_slot, left-slot, length-sum}
use Rattle.qo_model.proofs.SparesLemmas.{filter-map, spares_lem}
use Rattle.qo_model.proofs.StepLemmas.{found-birth}

-- two sums, of which one is nowhere more
sum-less : (f g : Record → ℕ) (h : Record → Record) → ((r : Record) → g (h r) ≤ f r) → (rs : List Record) → sum_by g (map h rs) ≤ sum_by f rs
sum-less f g h less [] = omega arith
sum-less f g h less (r ∷ rs) = omega (arith, sum_by-cons g (h r) (map h rs), sum_by-cons f r rs, less r, sum-less f g h less rs)

-- and less at one that is found
sum-falls : (f g : Record → ℕ) (h : Record → Record) → ((r : Record) → g (h r) ≤ f r) → (n : ℕ) (rs : List Record) (x : Record)
    → find (λ (r : Record). r.birth == n) rs ≡ Some x → suc (g (h x)) ≤ f x → suc (sum_by g (map h rs)) ≤ sum_by f rs
sum-falls f g h less n [] x e falls = cc
sum-falls f g h less n (r ∷ rs) x e falls = go (r.birth == n) refl (sum-falls f g h less n rs x)
  where
    go : (t : Bool) → (r.birth == n) ≡ t
        → (find (λ (y : Record). y.birth == n) rs ≡ Some x → suc (g (h x)) ≤ f x → suc (sum_by g (map h rs)) ≤ sum_by f rs)
        → suc (sum_by g (map h (r ∷ rs))) ≤ sum_by f (r ∷ rs)
    go true p rest =
        let is : r ≡ x = same_Some r x (rw p at e) in
        let here : suc (g (h r)) ≤ f r = subst (λ (y : Record). suc (g (h y)) ≤ f y) (sym is) falls in
        omega (arith, sum_by-cons g (h r) (map h rs), sum_by-cons f r rs, here, sum-less f g h less rs)
    go false p rest = omega (arith, sum_by-cons g (h r) (map h rs), sum_by-cons f r rs, less r, rest (rw p at e) falls)

-- and over those that are not n
sum-others : (f g : Record → ℕ) (h : Record → Record) (n : ℕ) → ((r : Record) → (r.birth == n) ≡ false → g (h r) ≤ f r) → (rs : List Record)
    → sum_by g (map h (filter (λ (r : Record). not (r.birth == n)) rs)) ≤ sum_by f rs
sum-others f g h n less [] = omega arith
sum-others f g h n less (r ∷ rs) = go (r.birth == n) refl (sum-others f g h n less rs)
  where
    go : (t : Bool) → (r.birth == n) ≡ t → sum_by g (map h (filter (λ (y : Record). not (y.birth == n)) rs)) ≤ sum_by f rs
        → sum_by g (map h (filter (λ (y : Record). not (y.birth == n)) (r ∷ rs))) ≤ sum_by f (r ∷ rs)
    go true p rest = rw p (omega (arith, sum_by-cons f r rs))
    go false p rest =
        rw p (omega (arith, sum_by-cons f r rs, sum_by-cons g (h r) (map h (filter (λ (y : Record). not (y.birth == n)) rs)), less r p))

-- and over those that are not n, where n is there and counts for something
sum-without : (f g : Record → ℕ) (h : Record → Record) (n : ℕ) → ((r : Record) → (r.birth == n) ≡ false → g (h r) ≤ f r) → ((r : Record) → 1 ≤ f r)
    → (rs : List Record) → is_some (find (λ (r : Record). r.birth == n) rs) ≡ true
    → suc (sum_by g (map h (filter (λ (r : Record). not (r.birth == n)) rs))) ≤ sum_by f rs
sum-without f g h n less some [] e = cc
sum-without f g h n less some (r ∷ rs) e = go (r.birth == n) refl (sum-without f g h n less some rs)
  where
    none : (qs : List Record) → sum_by g (map h (filter (λ (q : Record). not (q.birth == n)) qs)) ≤ sum_by f qs
    none qs = sum-others f g h n less qs

    go : (t : Bool) → (r.birth == n) ≡ t
        → (is_some (find (λ (y : Record). y.birth == n) rs) ≡ true → suc (sum_by g (map h (filter (λ (y : Record). not (y.birth == n)) rs))) ≤ sum_by f rs)
        → suc (sum_by g (map h (filter (λ (y : Record). not (y.birth == n)) (r ∷ rs)))) ≤ sum_by f (r ∷ rs)
    go true p rest = rw p (omega (arith, sum_by-cons f r rs, some r, none rs))
    go false p rest =
        rw p (omega (
          arith,
          sum_by-cons f r rs,
          sum_by-cons g (h r) (map h (filter (λ (y : Record). not (y.birth == n)) rs)),
          less r p,
          rest (rw p at e),
        ))

-- a sum over some and over the others
sum-split : (f : Record → ℕ) (p : Record → Bool) (rs : List Record) → sum_by f rs ≡ sum_by f (filter p rs) + sum_by f (filter (λ r. not (p r)) rs)
sum-split f p [] = refl
sum-split f p (r ∷ rs) = go (p r) refl (sum-split f p rs)
  where
    go : (t : Bool) → p r ≡ t → sum_by f rs ≡ sum_by f (filter p rs) + sum_by f (filter (λ y. not (p y)) rs)
        → sum_by f (r ∷ rs) ≡ sum_by f (filter p (r ∷ rs)) + sum_by f (filter (λ y. not (p y)) (r ∷ rs))
    go true q rest = rw q (omega (arith, rest, sum_by-cons f r rs, sum_by-cons f r (filter p rs)))
    go false q rest = rw q (omega (arith, rest, sum_by-cons f r rs, sum_by-cons f r (filter (λ y. not (p y)) rs)))

sum-same : (f g : Record → ℕ) (h : Record → Record) → ((r : Record) → g (h r) ≡ f r) → (rs : List Record) → sum_by g (map h rs) ≡ sum_by f rs
sum-same f g h same [] = refl
sum-same f g h same (r ∷ rs) = omega (arith, sum_by-cons g (h r) (map h rs), sum_by-cons f r rs, same r, sum-same f g h same rs)

sum-id : (f g : Record → ℕ) → ((r : Record) → g r ≡ f r) → (rs : List Record) → sum_by g rs ≡ sum_by f rs
sum-id f g same [] = refl
sum-id f g same (r ∷ rs) = omega (arith, sum_by-cons g r rs, sum_by-cons f r rs, same r, sum-id f g same rs)

sum-suc : (f : Record → ℕ) (rs : List Record) → sum_by (λ r. suc (f r)) rs ≡ length rs + sum_by f rs
sum-suc f [] = refl
sum-suc f (r ∷ rs) = omega (arith, sum_by-cons (λ y. suc (f y)) r rs, sum_by-cons f r rs, sum-suc f rs)

-- lengths
length-mapped : (g : Slot → Slot) (slots : List (List ℕ × Slot)) → length {A = List ℕ × Slot} (map {B = List ℕ × Slot} (λ (s : List ℕ × Slot). (s.0, g s.1)) slots) ≡ length slots
length-mapped g [] = refl
length-mapped g (s ∷ slots) = omega (arith, length-mapped g slots)

dropped-length : (i : ℕ) (r : Record) → length (with_dropped i r).slots ≤ length r.slots
dropped-length i r = omega (arith, sum-without_hold_le one_slot left-slot i r.slots, length-sum r.slots, length-sum (without_hold i r.slots))

-- what is left of an object before and after a slot of n was let go
next-low : (s : Slot) (i : ℕ) → i ≤ next_index s i
next-low (plain v) i = omega arith
next-low (child m) i = omega arith
next-low (strong t target) i = omega arith
next-low (weak t target) i = omega arith
next-low (alias m property) i = omega arith

left-slot_le : (n i : ℕ) (work : List (ℕ × ℕ)) (s : Slot) (r : Record) → left_in ((n, next_index s i) ∷ work) (edited n (with_dropped i) r) ≤ left_in ((n, i) ∷ work) r
left-slot_le n i work s r = go (r.birth == n) refl (n == r.birth) refl
  where
    go : (t : Bool) → (r.birth == n) ≡ t → (u : Bool) → (n == r.birth) ≡ u
        → left_in ((n, next_index s i) ∷ work) (edited n (with_dropped i) r) ≤ left_in ((n, i) ∷ work) r
    go true p true q = rw (edited, p, q) (omega (arith, dropped-length i r, next-low s i))
    go true p false q = absurd (grind (arith, p, q))
    go false p true q = absurd (grind (arith, p, q))
    go false p false q = rw (edited, p, q) (omega arith)

-- at the one that the slot stands in
left-slot_lt : (s : Slot) (i : ℕ) (slots : List (List ℕ × Slot)) (x : List ℕ × Slot) → slice_get slots i ≡ Some x → x.1 ≡ s
    → suc (length (without_hold i slots) - next_index s i) ≤ length slots - i
left-slot_lt s i slots x e is = go s is (slice_get_within slots i x e)
  where
    all : (t : Slot) → x.1 ≡ t → left_of one_slot x ≡ left_of one_slot (x.0, t)
    all t q = ap (λ (y : Slot). left_of one_slot (x.0, y)) q

    go : (t : Slot) → x.1 ≡ t → i < length slots → suc (length (without_hold i slots) - next_index t i) ≤ length slots - i
    go (plain v) q within = omega (arith, within, sum-without_hold_le one_slot left-slot i slots, length-sum slots, length-sum (without_hold i slots))
    go (child m) q within =
        omega (arith, within, sum-without_hold one_slot i slots x e, all (child m) q, length-sum slots, length-sum (without_hold i slots))
    go (strong t target) q within = omega (arith, within, sum-without_hold_le one_slot left-slot i slots, length-sum slots, length-sum (without_hold i slots))
    go (weak t target) q within = omega (arith, within, sum-without_hold_le one_slot left-slot i slots, length-sum slots, length-sum (without_hold i slots))
    go (alias m property) q within = omega (arith, within, sum-without_hold_le one_slot left-slot i slots, length-sum slots, length-sum (without_hold i slots))

slot-falls : (b : Board) (n i : ℕ) (work : List (ℕ × ℕ)) (s : Slot) → slot_at b n i ≡ Some s
    → suc (left_of_all (drop_slot b n i) ((n, next_index s i) ∷ work)) ≤ left_of_all b ((n, i) ∷ work)
unfolding drop_slot
slot-falls b n i work s e =
    let at : StandsAt b n i s = stands-at b n i s e in
    sum-falls (left_in ((n, i) ∷ work)) (left_in ((n, next_index s i) ∷ work)) (edited n (with_dropped i)) (left-slot_le n i work s) n b.records at.owner at.found
    (here at (at.owner.birth == n) refl (n == at.owner.birth) refl)
  where
    here : (at : StandsAt b n i s) (t : Bool) → (at.owner.birth == n) ≡ t → (u : Bool) → (n == at.owner.birth) ≡ u
        → suc (left_in ((n, next_index s i) ∷ work) (edited n (with_dropped i) at.owner)) ≤ left_in ((n, i) ∷ work) at.owner
    here at true p true q = rw (edited, p, q) (omega (arith, left-slot_lt s i at.owner.slots at.entry at.at at.is))
    here at true p false q = absurd (grind (arith, p, q))
    here at false p u q =
        absurd (let is : true ≡ false = sym (eq-eqb at.owner.birth n (found-birth n b.records at.owner at.found)) ∙ p in cc)

end-falls : (b : Board) (n i : ℕ) (work : List (ℕ × ℕ)) → is_live b n ≡ true → suc (left_of_all (finish b n) work) ≤ left_of_all b ((n, i) ∷ work)
unfolding finish
end-falls b n i work live =
    sum-without (left_in ((n, i) ∷ work)) (left_in work) (forgotten n) n less (λ r. omega arith) b.records live
  where
    less : (r : Record) → (r.birth == n) ≡ false → left_in work (forgotten n r) ≤ left_in ((n, i) ∷ work) r
    less r p =
        let q : (n == r.birth) ≡ false = grind (arith, p) in
        rw q (omega (arith, length-mapped (forgotten_in n) r.slots))

freed-same : (b : Board) (n i m : ℕ) (work : List (ℕ × ℕ)) → place_in work m ≡ 0 → left_of_all b ((m, 0) ∷ work) ≡ left_of_all b work
freed-same b n i m work none = sum-id (left_in work) (left_in ((m, 0) ∷ work)) same b.records
  where
    same : (r : Record) → left_in ((m, 0) ∷ work) r ≡ left_in work r
    same r = go (m == r.birth) refl
      where
        go : (t : Bool) → (m == r.birth) ≡ t → left_in ((m, 0) ∷ work) r ≡ left_in work r
        go true p =
            let is : place_in work r.birth ≡ 0 = ap (place_in work) (sym (eqb-true m r.birth p)) ∙ none in
            rw p (ap (λ (k : ℕ). suc (length r.slots - k)) (sym is))
        go false p = rw p refl

first-is : (b : Board) (n : ℕ) → left_of_all b ((n, 0) ∷ []) ≡ objects_and_slots b
first-is b n = sum-id (λ (r : Record). suc (length r.slots)) (left_in ((n, 0) ∷ [])) same b.records
  where
    same : (r : Record) → left_in ((n, 0) ∷ []) r ≡ suc (length r.slots)
    same r = go (n == r.birth) refl
      where
        go : (t : Bool) → (n == r.birth) ≡ t → left_in ((n, 0) ∷ []) r ≡ suc (length r.slots)
        go true p = rw p (omega arith)
        go false p = rw p (omega arith)

last-is : (b : Board) → left_of_all b [] ≡ objects_and_slots b
last-is b = sum-id (λ (r : Record). suc (length r.slots)) (left_in []) (λ r. omega arith) b.records

filter-in : (q : Record → Bool) (r : Record) (rs : List Record) → q r ≡ true → filter q (r ∷ rs) ≡ r ∷ filter q rs
filter-in q r rs e = rw e refl

filter-out : (q : Record → Bool) (r : Record) (rs : List Record) → q r ≡ false → filter q (r ∷ rs) ≡ filter q rs
filter-out q r rs e = rw e refl

-- weak links
abbrev one_weak : List ℕ × Slot → ℕ
one_weak s = cond {A = ℕ} (is_weak s.1) 1 0

abbrev one_lost : (ℕ → Bool) → List ℕ × Slot → ℕ
one_lost there s = cond {A = ℕ} (is_lost there s.1) 1 0

left-weak : (s : List ℕ × Slot) → left_of one_weak s ≤ one_weak s
left-weak (name, plain v) = omega arith
left-weak (name, child m) = omega arith
left-weak (name, strong t target) = omega arith
left-weak (name, weak t target) = omega arith
left-weak (name, alias m property) = omega arith

weak-slot : (b : Board) (n i : ℕ) → weak_links (drop_slot b n i) ≤ weak_links b
unfolding drop_slot
weak-slot b n i = sum-edit_le weak_in n (with_dropped i) (λ r. sum-without_hold_le one_weak left-weak i r.slots) b.records

abbrev one_names : ℕ → List ℕ × Slot → ℕ
one_names n s = cond {A = ℕ} (names_weakly n s.1) 1 0

weak-forgotten : (n : ℕ) (name : List ℕ) (s : Slot) → one_weak (name, forgotten_in n s) + one_names n (name, s) ≡ one_weak (name, s)
weak-forgotten n name (plain v) = refl
weak-forgotten n name (child m) = refl
weak-forgotten n name (strong t target) = refl
weak-forgotten n name (weak t None) = refl
weak-forgotten n name (weak t (Some m)) = go (m == n) refl
  where
    go : (u : Bool) → (m == n) ≡ u → one_weak (name, forgotten_in n (weak t (Some m))) + one_names n (name, weak t (Some m)) ≡ one_weak (name, weak t (Some m))
    go true p = rw p refl
    go false p = rw p refl
weak-forgotten n name (alias m property) = refl

weak-left : (n : ℕ) (slots : List (List ℕ × Slot))
    → sum_by one_weak (map {B = List ℕ × Slot} (λ (s : List ℕ × Slot). (s.0, forgotten_in n s.1)) slots) + sum_by (one_names n) slots ≡ sum_by one_weak slots
weak-left n [] = refl
weak-left n (s ∷ slots) =
    omega (
      arith,
      weak-left n slots,
      weak-forgotten n s.0 s.1,
      sum_by-cons one_weak s slots,
      sum_by-cons one_weak (s.0, forgotten_in n s.1) (map {B = List ℕ × Slot} (λ (x : List ℕ × Slot). (x.0, forgotten_in n x.1)) slots),
      sum_by-cons (one_names n) s slots,
    )

abbrev names_in : ℕ → Record → ℕ
names_in n r = count_by (λ (s : List ℕ × Slot). names_weakly n s.1) r.slots

weak-gone : (n : ℕ) (rs : List Record)
    → sum_by weak_in (map (forgotten n) (filter (λ (r : Record). not (r.birth == n)) rs)) + sum_by (names_in n) rs ≤ sum_by weak_in rs
weak-gone n [] = omega arith
weak-gone n (r ∷ rs) = go (r.birth == n) refl (weak-gone n rs)
  where
    here : weak_in (forgotten n r) + names_in n r ≡ weak_in r
    here = weak-left n r.slots

    go : (t : Bool) → (r.birth == n) ≡ t
        → sum_by weak_in (map (forgotten n) (filter (λ (y : Record). not (y.birth == n)) rs)) + sum_by (names_in n) rs ≤ sum_by weak_in rs
        → sum_by weak_in (map (forgotten n) (filter (λ (y : Record). not (y.birth == n)) (r ∷ rs))) + sum_by (names_in n) (r ∷ rs) ≤ sum_by weak_in (r ∷ rs)
    go true p rest =
        let out : filter (λ (y : Record). not (y.birth == n)) (r ∷ rs) ≡ filter (λ (y : Record). not (y.birth == n)) rs =
        filter-out (λ (y : Record). not (y.birth == n)) r rs (ap not p) in
        let same : sum_by weak_in (map (forgotten n) (filter (λ (y : Record). not (y.birth == n)) (r ∷ rs)))
        ≡ sum_by weak_in (map (forgotten n) (filter (λ (y : Record). not (y.birth == n)) rs)) =
        ap (λ (l : List Record). sum_by weak_in (map (forgotten n) l)) out in
        omega (arith, rest, here, same, sum_by-cons (names_in n) r rs, sum_by-cons weak_in r rs)
    go false p rest =
        let in_it : filter (λ (y : Record). not (y.birth == n)) (r ∷ rs) ≡ r ∷ filter (λ (y : Record). not (y.birth == n)) rs =
        filter-in (λ (y : Record). not (y.birth == n)) r rs (ap not p) in
        let same : sum_by weak_in (map (forgotten n) (filter (λ (y : Record). not (y.birth == n)) (r ∷ rs)))
        ≡ sum_by weak_in (map (forgotten n) (r ∷ filter (λ (y : Record). not (y.birth == n)) rs)) =
        ap (λ (l : List Record). sum_by weak_in (map (forgotten n) l)) in_it in
        omega (
          arith,
          rest,
          here,
          same,
          sum_by-cons weak_in (forgotten n r) (map (forgotten n) (filter (λ (y : Record). not (y.birth == n)) rs)),
          sum_by-cons (names_in n) r rs,
          sum_by-cons weak_in r rs,
        )

weak-end : (b : Board) (n : ℕ) → weak_links (finish b n) + weak_names b n ≤ weak_links b
unfolding finish
weak-end b n = weak-gone n b.records

weak-seen : (there : ℕ → Bool) (name : List ℕ) (s : Slot) → one_weak (name, s) ≡ one_weak (name, seen_in there s) + one_lost there (name, s)
weak-seen there name (plain v) = refl
weak-seen there name (child m) = refl
weak-seen there name (strong t target) = refl
weak-seen there name (weak t None) = refl
weak-seen there name (weak t (Some m)) = go (there m) refl
  where
    go : (u : Bool) → there m ≡ u → one_weak (name, weak t (Some m)) ≡ one_weak (name, seen_in there (weak t (Some m))) + one_lost there (name, weak t (Some m))
    go true p = rw p refl
    go false p = rw p refl
weak-seen there name (alias m property) = refl

weak-thinned : (there : ℕ → Bool) (slots : List (List ℕ × Slot))
    → sum_by one_weak slots ≡ sum_by one_weak (map {B = List ℕ × Slot} (λ (s : List ℕ × Slot). (s.0, seen_in there s.1)) slots) + sum_by (one_lost there) slots
weak-thinned there [] = refl
weak-thinned there (s ∷ slots) =
    omega (
      arith,
      weak-thinned there slots,
      weak-seen there s.0 s.1,
      sum_by-cons one_weak s slots,
      sum_by-cons one_weak (s.0, seen_in there s.1) (map {B = List ℕ × Slot} (λ (x : List ℕ × Slot). (x.0, seen_in there x.1)) slots),
      sum_by-cons (one_lost there) s slots,
    )

weak-parts : (there : ℕ → Bool) (rs : List Record)
    → sum_by weak_in rs ≡ sum_by weak_in (map (thinned there) (filter (λ (r : Record). there r.birth) rs)) + sum_by (lost_in there) rs
weak-parts there [] = refl
weak-parts there (r ∷ rs) = go (there r.birth) refl (weak-parts there rs)
  where
    go : (t : Bool) → there r.birth ≡ t
        → sum_by weak_in rs ≡ sum_by weak_in (map (thinned there) (filter (λ (y : Record). there y.birth) rs)) + sum_by (lost_in there) rs
        → sum_by weak_in (r ∷ rs) ≡ sum_by weak_in (map (thinned there) (filter (λ (y : Record). there y.birth) (r ∷ rs))) + sum_by (lost_in there) (r ∷ rs)
    go true p rest =
        let here : lost_in there r ≡ sum_by (one_lost there) r.slots = rw p refl in
        let both : sum_by weak_in (r ∷ rs)
        ≡ sum_by weak_in (map (thinned there) (r ∷ filter (λ (y : Record). there y.birth) rs)) + sum_by (lost_in there) (r ∷ rs) =
        omega (
          arith,
          rest,
          here,
          weak-thinned there r.slots,
          sum_by-cons weak_in r rs,
          sum_by-cons weak_in (thinned there r) (map (thinned there) (filter (λ (y : Record). there y.birth) rs)),
          sum_by-cons (lost_in there) r rs,
        ) in
        both ∙ ap (λ (l : List Record). sum_by weak_in (map (thinned there) l) + sum_by (lost_in there) (r ∷ rs))
        (sym (filter-in (λ (y : Record). there y.birth) r rs p))
    go false p rest =
        let here : lost_in there r ≡ weak_in r = rw p refl in
        let both : sum_by weak_in (r ∷ rs)
        ≡ sum_by weak_in (map (thinned there) (filter (λ (y : Record). there y.birth) rs)) + sum_by (lost_in there) (r ∷ rs) =
        omega (arith, rest, here, sum_by-cons weak_in r rs, sum_by-cons (lost_in there) r rs) in
        both ∙ ap (λ (l : List Record). sum_by weak_in (map (thinned there) l) + sum_by (lost_in there) (r ∷ rs))
        (sym (filter-out (λ (y : Record). there y.birth) r rs p))

all-parts : (there : ℕ → Bool) (rs : List Record) → sum_by (λ (r : Record). suc (length r.slots)) rs
    ≡ sum_by (λ (r : Record). suc (length r.slots)) (map (thinned there) (filter (λ (r : Record). there r.birth) rs))
    + (length (filter (λ (r : Record). not (there r.birth)) rs) + sum_by (λ (r : Record). length r.slots) (filter (λ (r : Record). not (there r.birth)) rs))
all-parts there rs =
    omega (
      arith,
      sum-split (λ (r : Record). suc (length r.slots)) (λ (r : Record). there r.birth) rs,
      sum-same (λ (r : Record). suc (length r.slots)) (λ (r : Record). suc (length r.slots)) (thinned there) (λ r. ap suc (length-mapped (seen_in there) r.slots))
          (filter (λ (r : Record). there r.birth) rs),
      sum-suc (λ (r : Record). length r.slots) (filter (λ (r : Record). not (there r.birth)) rs),
    )

-- a slot let go before: who ends is the same, with no more slots and weak links
edited-birth : (n i : ℕ) (r : Record) → (edited n (with_dropped i) r).birth ≡ r.birth
edited-birth n i r = go (r.birth == n) refl
  where
    go : (t : Bool) → (r.birth == n) ≡ t → (edited n (with_dropped i) r).birth ≡ r.birth
    go true e = rw (edited, e) refl
    go false e = rw (edited, e) refl

length-mapped_all : (f : Record → Record) (rs : List Record) → length (map f rs) ≡ length rs
length-mapped_all f [] = refl
length-mapped_all f (r ∷ rs) = omega (arith, length-mapped_all f rs)

left-lost : (there : ℕ → Bool) (s : List ℕ × Slot) → left_of (one_lost there) s ≤ one_lost there s
left-lost there (name, plain v) = omega arith
left-lost there (name, child m) = omega arith
left-lost there (name, strong t target) = omega arith
left-lost there (name, weak t target) = omega arith
left-lost there (name, alias m property) = omega arith

lost-dropped : (there : ℕ → Bool) (i : ℕ) (r : Record) → lost_in there (with_dropped i r) ≤ lost_in there r
lost-dropped there i r = go (there r.birth) refl
  where
    go : (t : Bool) → there r.birth ≡ t → lost_in there (with_dropped i r) ≤ lost_in there r
    go true e = rw e (sum-without_hold_le (one_lost there) (left-lost there) i r.slots)
    go false e = rw e (sum-without_hold_le one_weak left-weak i r.slots)

bound-dropped : (b c : Board) (n i : ℕ) → release_bound (drop_slot b n i) c ≤ release_bound b c
unfolding drop_slot
bound-dropped b c n i =
    let gone : List Record = filter (λ (r : Record). not (is_live c r.birth)) b.records in
    let swap : filter (λ (r : Record). not (is_live c r.birth)) (map (edited n (with_dropped i)) b.records) ≡ map (edited n (with_dropped i)) gone =
    filter-map (λ (r : Record). not (is_live c r.birth)) (edited n (with_dropped i))
    (λ r. ap (λ (x : ℕ). not (is_live c x)) (edited-birth n i r)) b.records in
    let objects : length (filter (λ (r : Record). not (is_live c r.birth)) (map (edited n (with_dropped i)) b.records)) ≡ length gone =
    ap (λ (l : List Record). length l) swap ∙ length-mapped_all (edited n (with_dropped i)) gone in
    let same : sum_by (λ (r : Record). length r.slots) (filter (λ (r : Record). not (is_live c r.birth)) (map (edited n (with_dropped i)) b.records))
    ≡ sum_by (λ (r : Record). length r.slots) (map (edited n (with_dropped i)) gone) = ap (λ (l : List Record). sum_by (λ (r : Record). length r.slots) l) swap in
    let slots : sum_by (λ (r : Record). length r.slots) (map (edited n (with_dropped i)) gone) ≤ sum_by (λ (r : Record). length r.slots) gone =
    sum-edit_le (λ (r : Record). length r.slots) n (with_dropped i) (λ r. dropped-length i r) gone in
    let weak_ends : sum_by (lost_in (is_live c)) (map (edited n (with_dropped i)) b.records) ≤ sum_by (lost_in (is_live c)) b.records =
    sum-edit_le (lost_in (is_live c)) n (with_dropped i) (lost-dropped (is_live c) i) b.records in
    omega (arith, objects, same, slots, weak_ends)

all-of : (b : Board) (n : ℕ) → WeakLinksLive b
    → objects_and_slots b ≡ objects_and_slots (finalize b n) + (length (ended b (finalize b n)) + slots_ended b (finalize b n))
all-of b n live =
    all-parts (is_live (finalize b n)) b.records
    ∙ ap (λ (rs : List Record). sum_by (λ (r : Record). suc (length r.slots)) rs
    + (length (filter (λ (r : Record). not (is_live (finalize b n) r.birth)) b.records)
    + sum_by (λ (r : Record). length r.slots) (filter (λ (r : Record). not (is_live (finalize b n) r.birth)) b.records)))
    (sym (spares_lem b n live))

weak-of : (b : Board) (n : ℕ) → WeakLinksLive b → weak_links b ≡ weak_links (finalize b n) + weak_ended b (finalize b n)
weak-of b n live =
    weak-parts (is_live (finalize b n)) b.records
    ∙ ap (λ (rs : List Record). sum_by weak_in rs + sum_by (lost_in (is_live (finalize b n))) b.records) (sym (spares_lem b n live))

bound-within : (b : Board) (n : ℕ) → WeakLinksLive b
    → 8 * objects_and_slots b + 4 * weak_links b + 8 ≤ 8 * objects_and_slots (finalize b n) + 4 * weak_links (finalize b n) + release_bound b (finalize b n)
bound-within b n live = omega (arith, all-of b n live, weak-of b n live)

pub bound_lem : BoundLaw
bound_lem =
    record {
      first = first-is;
      last = last-is;
      after_end = end-falls;
      after_slot = slot-falls;
      after_freed = freed-same;
      weak_slot = weak-slot;
      weak_end = weak-end;
      within = bound-within;
      dropped = bound-dropped;
      all = all-of;
      weak_all = weak-of;
    }
