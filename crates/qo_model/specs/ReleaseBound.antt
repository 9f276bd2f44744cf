-- For a law alone. How much a release does: what it ends, and what is left to do as it goes on.
use Rattle.std.specs.Prelude.{◌≡◌, ℕ, suc, ◌+◌, ◌-◌, ◌*◌, ◌≤◌, Bool, true, false, not, ◌==◌, if◌then◌else◌, List, [], ◌∷◌, length, filter, sum_by, count_by, None, Some}
use Rattle.qo_model.specs.Board.{Board, Record, Slot, weak, is_live, slot_at, referent}
use Rattle.qo_model.specs.References.{refs}
use Rattle.qo_model.specs.Release.{drop_slot, next_index, finish, finalize}
use Rattle.qo_model.specs.ReleaseInduction.{WeakLinksLive}

-- the objects of a board that are not on another, and how many slots they have
abbrev pub ended : Board → Board → List Record
ended b c = filter (λ (r : Record). not (is_live c r.birth)) b.records

abbrev pub slots_ended : Board → Board → ℕ
slots_ended b c = sum_by (λ (r : Record). length r.slots) (ended b c)

-- whether a slot is a weak link that is not empty, and whether it is one whose target does not pass
abbrev pub is_weak : Slot → Bool
is_weak (weak t (Some m)) = true
is_weak s = false

abbrev pub is_lost : (ℕ → Bool) → Slot → Bool
is_lost there (weak t (Some m)) = not (there m)
is_lost there s = false

-- the weak links of an object that are not empty; and those whose owner or target does not pass
abbrev pub weak_in : Record → ℕ
weak_in r = count_by (λ (s : List ℕ × Slot). is_weak s.1) r.slots

abbrev pub lost_in : (ℕ → Bool) → Record → ℕ
lost_in there r = if there r.birth then count_by (λ (s : List ℕ × Slot). is_lost there s.1) r.slots else weak_in r

-- whether a slot is a weak link that names n, and how many of all slots are
abbrev pub names_weakly : ℕ → Slot → Bool
names_weakly n (weak t (Some m)) = m == n
names_weakly n s = false

abbrev pub weak_names : Board → ℕ → ℕ
weak_names b n = sum_by (λ (r : Record). count_by (λ (s : List ℕ × Slot). names_weakly n s.1) r.slots) b.records

-- of a board: its objects with their slots, its weak links that are not empty, and those whose owner or target is not on another
abbrev pub objects_and_slots : Board → ℕ
objects_and_slots b = sum_by (λ (r : Record). suc (length r.slots)) b.records

abbrev pub weak_links : Board → ℕ
weak_links b = sum_by weak_in b.records

abbrev pub weak_ended : Board → Board → ℕ
weak_ended b c = sum_by (lost_in (is_live c)) b.records

-- the most steps of a release
abbrev pub release_bound : Board → Board → ℕ
release_bound b c = 8 * (length (ended b c) + slots_ended b c + weak_ended b c + 1)

-- the place of an object in the work, and what is left to do of each and of all
abbrev pub place_in : List (ℕ × ℕ) → ℕ → ℕ
place_in [] n = 0
place_in (p ∷ work) n = if p.0 == n then p.1 else place_in work n

abbrev pub left_in : List (ℕ × ℕ) → Record → ℕ
left_in work r = suc (length r.slots - place_in work r.birth)

abbrev pub left_of_all : Board → List (ℕ × ℕ) → ℕ
left_of_all b work = sum_by (left_in work) b.records

-- how much is left after each turn, and how much a release did in all
pub record BoundLaw : Type 0 where
  -- before the first turn all objects and slots are left, and after the last those that are still there
  pub first : (b : Board) (n : ℕ) → left_of_all b ((n, 0) ∷ []) ≡ objects_and_slots b
  pub last : (b : Board) → left_of_all b [] ≡ objects_and_slots b
  -- each turn leaves less
  pub after_end : (b : Board) (n i : ℕ) (work : List (ℕ × ℕ)) → is_live b n ≡ true → suc (left_of_all (finish b n) work) ≤ left_of_all b ((n, i) ∷ work)
  pub after_slot : (b : Board) (n i : ℕ) (work : List (ℕ × ℕ)) (s : Slot) → slot_at b n i ≡ Some s
      → suc (left_of_all (drop_slot b n i) ((n, next_index s i) ∷ work)) ≤ left_of_all b ((n, i) ∷ work)
  pub after_freed : (b : Board) (n i m : ℕ) (work : List (ℕ × ℕ)) → place_in work m ≡ 0 → left_of_all b ((m, 0) ∷ work) ≡ left_of_all b work
  -- and no turn makes a weak link; an end takes those that name the object
  pub weak_end : (b : Board) (n : ℕ) → weak_links (finish b n) + weak_names b n ≤ weak_links b
  pub weak_slot : (b : Board) (n i : ℕ) → weak_links (drop_slot b n i) ≤ weak_links b
  -- what a release took away is what ended, and the weak links to it or from it
  pub all : (b : Board) (n : ℕ) → WeakLinksLive b → objects_and_slots b ≡ objects_and_slots (finalize b n) + (length (ended b (finalize b n)) + slots_ended b (finalize b n))
  pub weak_all : (b : Board) (n : ℕ) → WeakLinksLive b → weak_links b ≡ weak_links (finalize b n) + weak_ended b (finalize b n)
  -- so steps that are paid by this, eight for an object or a slot and four for a weak link, are within the bound, with eight to spare
  pub within : (b : Board) (n : ℕ) → WeakLinksLive b
      → 8 * objects_and_slots b + 4 * weak_links b + 8 ≤ 8 * objects_and_slots (finalize b n) + 4 * weak_links (finalize b n) + release_bound b (finalize b n)
  -- and a slot let go before raises no bound
  pub dropped : (b c : Board) (n i : ℕ) → release_bound (drop_slot b n i) c ≤ release_bound b c
