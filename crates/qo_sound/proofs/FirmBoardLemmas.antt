-- What of a board's soundness speaks of no reference and no pin: what it is, and that it is kept by a slot let go, by an end, and by a link that is pointed.
use Rattle.std.proofs.Common.{◌≡◌, refl, ap, sym, subst, ◌∙◌, ℕ, ◌<◌, ◌≤◌, Bool, true, false, ◌==◌, List, [], ◌∷◌, map, filter, sum_by, count_by, slice_get, Option, Some, None, is_some, option_map, arith}
use Rattle.qo_model.proofs.Common.{⊤, AllByRecursion, IsDistinct, option_map_or, bytes_eq, type_name, TypeId, Val, Board, Record, Slot, plain, child, strong, weak, alias, record_of, kind_of, slot_at, with_changed, with_val, among, leads, Leads, one, more, births, child_of, is_child, children_in, children_of, edit, edited, emptied, with_dropped, drop_slot, Rises, is_a, unseen}
use Rattle.qo_model.specs.declared.notes.Note.{Note}
use Rattle.std.proofs.lemmas.Bool.{eqb-true}
use Rattle.std.proofs.lemmas.Option.{same_Some}
use Rattle.std.proofs.Math.Path.{fun_ext}
use Rattle.qo_model.proofs.EditLemmas.{sum-edit_le, sum-without_hold_le}
use Rattle.qo_model.proofs.GraphLemmas.{births_at}
use Rattle.qo_model.proofs.StepLemmas.{found-edited, found-birth, map-edited}
use Rattle.qo_sound.proofs.RecordLemmas.{all-filter, all-edited}
use Rattle.qo_values.proofs.ListLemmas.{all-imply}
use Rattle.qo_sound.proofs.SlotLemmas.{names_in, distinct-dropped, names-changed, all-dropped, all-changed, children-dropped, children-changed, sum-changed_same, one_child, left-child, one_child-same}

-- the target of a link is there and of the link's type, where `kinds` says the type of each object that is there
abbrev pub FitsKind : (ℕ → Option TypeId) → TypeId → Option ℕ → Type 0
FitsKind kinds t None = ⊤
FitsKind kinds t (Some n) = option_map_or (λ (k : TypeId). is_a k (type_name t)) (kinds n) false ≡ true

-- what a slot that is no alias names is there, and a link's target is of its type
abbrev pub Linked : (ℕ → Option TypeId) → Slot → Type 0
Linked kinds (plain v) = ⊤
Linked kinds (child n) = is_some (kinds n) ≡ true
Linked kinds (strong t target) = FitsKind kinds t target
Linked kinds (weak t target) = FitsKind kinds t target
Linked kinds (alias n name) = ⊤

abbrev pub AllLinked : (ℕ → Option TypeId) → List Record → Type 0
AllLinked kinds rs = AllByRecursion (λ (r : Record). AllByRecursion (λ (s : List ℕ × Slot). Linked kinds s.1) r.slots) rs

abbrev pub HasNames : Record → Type 0
HasNames r = IsDistinct bytes_eq (names_in r.slots)

-- how often x is a child
abbrev pub parents_in : ℕ → Record → ℕ
parents_in x r = count_by (λ (s : List ℕ × Slot). is_child x s.1) r.slots

abbrev pub parents_of : Board → ℕ → ℕ
parents_of b x = sum_by (parents_in x) b.records

pub record WellFormed (b : Board) : Type 0 where
  pub rising : Rises (births b)
  pub within : AllByRecursion (λ n. n ≤ b.born) (births b)
  pub begun : 8 ≤ b.born
  pub named : AllByRecursion HasNames b.records
  pub linked : AllLinked (kind_of b) b.records
  pub one_parent : (x : ℕ) → parents_of b x ≤ 1
  pub none_round : (n : ℕ) → ¬ (Leads (children_of b) n n)

-- a board with the same objects and births
pub firm-beside : (b c : Board) → WellFormed b → WellFormed (record c { records = b.records; born = b.born })
firm-beside b c f =
    record {
      rising = f.rising;
      within = f.within;
      begun = f.begun;
      named = f.named;
      linked = f.linked;
      one_parent = f.one_parent;
      none_round = f.none_round;
    }

-- births that are taken, and notes
pub firm-born : (b : Board) (born : ℕ) (notes : List Note) → b.born ≤ born → WellFormed b → WellFormed (record b { born = born; notes = notes })
firm-born b born notes later f =
    record {
      rising = f.rising;
      within = all-imply (λ n. n ≤ b.born) (λ n. n ≤ born) (λ n k. omega (arith, k, later)) (births b) f.within;
      begun = let low : 8 ≤ b.born = f.begun in omega (arith, low, later);
      named = f.named;
      linked = f.linked;
      one_parent = f.one_parent;
      none_round = f.none_round;
    }

-- what leads nowhere else makes no other round
pub Leads-within : (next wide : ℕ → List ℕ) → ((n m : ℕ) → leads next n m ≡ true → leads wide n m ≡ true) → {n m : ℕ} → Leads next n m → Leads wide n m
Leads-within next wide is (one {n} {m} e) = one (is n m e)
Leads-within next wide is (more {n} {m} {k} e l) = more (is n m e) (Leads-within next wide is l)

-- fewer of births that rise
pub rises-filter : (p : ℕ → Bool) (ns : List ℕ) → Rises ns → Rises (filter p ns)
rises-filter p [] h = tt
rises-filter p (n ∷ ns) h = go (p n) refl (rises-filter p ns h.1)
  where
    go : (t : Bool) → p n ≡ t → Rises (filter p ns) → Rises (filter p (n ∷ ns))
    go true q rest = rw q (all-filter (λ m. n < m) p ns h.0, rest)
    go false q rest = rw q rest

-- an edit that keeps births and types
module _ (n : ℕ) (change : Record → Record) (same_birth : (r : Record) → (change r).birth ≡ r.birth) (same_kind : (r : Record) → (change r).kind ≡ r.kind) where
  pub edited-births : (rs : List Record) → births_at (map (edited n change) rs) ≡ births_at rs
  edited-births [] = refl
  edited-births (r ∷ rs) = go (r.birth == n) refl (edited-births rs)
    where
      go : (t : Bool) → (r.birth == n) ≡ t → births_at (map (edited n change) rs) ≡ births_at rs
          → births_at (map (edited n change) (r ∷ rs)) ≡ births_at (r ∷ rs)
      go true p rest = rw (edited, p, same_birth, rest) refl
      go false p rest = rw (edited, p, rest) refl

  pub edited-kind : (b : Board) (x : ℕ) → kind_of (edit n change b) x ≡ kind_of b x
  edited-kind b x =
      ap (option_map (λ (r : Record). r.kind)) (found-edited n change same_birth x b.records)
      ∙ map-edited (λ (r : Record). r.kind) n change same_kind (record_of b x)

  pub edited-kinds : (b : Board) → kind_of (edit n change b) ≡ kind_of b
  edited-kinds b = fun_ext (edited-kind b)

  -- the children of an edited board
  pub edited-leads : (b : Board)
      → ((r : Record) (y : ℕ) → record_of b n ≡ Some r → among (children_in (change r).slots) y ≡ true → among (children_in r.slots) y ≡ true) → (x y : ℕ)
      → leads (children_of (edit n change b)) x y ≡ true → leads (children_of b) x y ≡ true
  edited-leads b few x y e = go (record_of b x) refl (subst (λ (o : Option Record). among (children_in (option_map_or (λ (r : Record). r.slots) o [])) y ≡ true)
      (found-edited n change same_birth x b.records) e)
    where
      at_record : (r : Record) → record_of b x ≡ Some r → (t : Bool) → (r.birth == n) ≡ t → among (children_in (edited n change r).slots) y ≡ true
          → among (children_in r.slots) y ≡ true
      at_record r q true p k =
          let is : x ≡ n = sym (found-birth x b.records r q) ∙ eqb-true r.birth n p in
          few r y (subst (λ (z : ℕ). record_of b z ≡ Some r) is q) (rw (edited, p) at k)
      at_record r q false p k = rw (edited, p) at k

      go : (o : Option Record) → record_of b x ≡ o → among (children_in (option_map_or (λ (r : Record). r.slots) (option_map (edited n change) o) [])) y ≡ true
          → among (children_in (option_map_or (λ (r : Record). r.slots) o [])) y ≡ true
      go None q k = k
      go (Some r) q k = at_record r q (r.birth == n) refl k

  -- what is to be shown of an edit
  pub firm-edit : (b : Board) → WellFormed b → ((r : Record) → record_of b n ≡ Some r → HasNames r → HasNames (change r))
      → ((r : Record) → record_of b n ≡ Some r → AllByRecursion (λ (s : List ℕ × Slot). Linked (kind_of b) s.1) r.slots
      → AllByRecursion (λ (s : List ℕ × Slot). Linked (kind_of b) s.1) (change r).slots) → ((x : ℕ) (r : Record) → parents_in x (change r) ≤ parents_in x r)
      → ((r : Record) (y : ℕ) → record_of b n ≡ Some r → among (children_in (change r).slots) y ≡ true → among (children_in r.slots) y ≡ true)
      → WellFormed (edit n change b)
  firm-edit b h names links parents few =
      record {
        rising = subst Rises (sym (edited-births b.records)) h.rising;
        within = subst (AllByRecursion (λ m. m ≤ b.born)) (sym (edited-births b.records)) h.within;
        begun = h.begun;
        named = all-edited HasNames HasNames n change b.records h.rising (λ r p k. k) names h.named;
        linked =
            subst (λ (kinds : ℕ → Option TypeId). AllLinked kinds (map (edited n change) b.records)) (sym (edited-kinds b))
            (all-edited (λ (r : Record). AllByRecursion (λ (s : List ℕ × Slot). Linked (kind_of b) s.1) r.slots) (λ (r : Record).
            AllByRecursion (λ (s : List ℕ × Slot). Linked (kind_of b) s.1) r.slots) n change b.records h.rising (λ r p k. k) links h.linked);
        one_parent = λ x. omega (arith, sum-edit_le (parents_in x) n change (parents x) b.records, h.one_parent x);
        none_round = λ m l. h.none_round m (Leads-within (children_of (edit n change b)) (children_of b) (edited-leads b few) l);
      }

-- what is left of a slot that was let go names nothing new
pub left-linked : (kinds : ℕ → Option TypeId) (s left : Slot) → emptied s ≡ Some left → Linked kinds s → Linked kinds left
left-linked kinds (plain v) left e h = subst (Linked kinds) (same_Some (plain v) left e) h
left-linked kinds (child m) left e h = absurd (let clash : None ≡ Some left = e in cc)
left-linked kinds (strong t target) left e h = subst (Linked kinds) (same_Some (strong t None) left e) tt
left-linked kinds (weak t target) left e h = subst (Linked kinds) (same_Some (weak t None) left e) tt
left-linked kinds (alias m property) left e h = subst (Linked kinds) (same_Some (alias m property) left e) h

-- nor does a slot whose value is set, or whose target is seen no more
pub val-linked : (kinds : ℕ → Option TypeId) (v : Val) (s : Slot) → Linked kinds s → Linked kinds (with_val v s)
val-linked kinds v (plain w) h = tt
val-linked kinds v (child m) h = h
val-linked kinds v (strong t target) h = h
val-linked kinds v (weak t target) h = h
val-linked kinds v (alias m property) h = h

pub unseen-linked : (kinds : ℕ → Option TypeId) (s : Slot) → Linked kinds s → Linked kinds (unseen s)
unseen-linked kinds (plain v) h = tt
unseen-linked kinds (child m) h = h
unseen-linked kinds (strong t target) h = h
unseen-linked kinds (weak t target) h = tt
unseen-linked kinds (alias m property) h = h

pub firm-drop : (b : Board) (n i : ℕ) → WellFormed b → WellFormed (drop_slot b n i)
unfolding drop_slot
firm-drop b n i h =
    firm-edit n (with_dropped i) (λ r. refl) (λ r. refl) b h (λ r e k. distinct-dropped i r.slots k)
    (λ r e k. all-dropped (Linked (kind_of b)) (left-linked (kind_of b)) i r.slots k) (λ x r. sum-without_hold_le (one_child x) (left-child x) i r.slots)
    (λ r y e k. children-dropped y i r.slots k)

-- a slot of n is changed, and names the same child
pub firm-changed : (g : Slot → Slot) → ((s : Slot) → child_of (g s) ≡ child_of s) → (b : Board) (n i : ℕ)
    → ((s : Slot) → slot_at b n i ≡ Some s → Linked (kind_of b) s → Linked (kind_of b) (g s)) → WellFormed b → WellFormed (edit n (with_changed g i) b)
firm-changed g same b n i fits h =
    firm-edit n (with_changed g i) (λ r. refl) (λ r. refl) b h (λ r e k. subst (IsDistinct bytes_eq) (sym (names-changed g i r.slots)) k)
    (λ r e k. all-changed (Linked (kind_of b)) g i r.slots (λ s at_place old. fits s.1 (at_slot r e s at_place) old) k)
    (λ x r. omega (arith, sum-changed_same (one_child x) g (one_child-same g same x) i r.slots)) (λ r y e k. rw (children-changed g same i r.slots) at k)
  where
    at_slot : (r : Record) → record_of b n ≡ Some r → (s : List ℕ × Slot) → slice_get r.slots i ≡ Some s → slot_at b n i ≡ Some s.1
    at_slot r e s at_place = rw (e, at_place) refl
