-- The slots of a new object, filled with what was given.
use Rattle.std.proofs.Common.{◌≡◌, refl, ap, sym, ℕ, zero, suc, ◌<◌, ◌≤◌, Bool, true, false, eqb, List, [], ◌∷◌, map, length, get_or, set, IfSome, arith}
use Rattle.std.specs.List.{AllByRecursion, AllZip}
use Rattle.qo_slots.specs.declared.keys.Key.{Key}
use Rattle.qo_heap.specs.Rows.{edit}
use Rattle.qo_model.specs.Board as board
use Rattle.qo_model.specs.Objects.{Given, slot_given}
use Rattle.qo_object.specs.Content.{Content}
use Rattle.qo_object.specs.BoardObject.{shown_slots}
use Rattle.qo_object.specs.Slots.{Named}
use Rattle.qo_heap.specs.Objects.{Objects, with_edit}
use Rattle.qo_properties.specs.declared.adding.filling.InitialValue.{InitialValue}
use Rattle.qo_properties.specs.declared.adding.filling.InitialValue.TheVariants as fill
use Rattle.qo_properties.specs.Filling.{IsGiven, filled, filled_at, filled_with, spent, spent_at, target_in, value_alone, value_at}
use Rattle.qo_heap.proofs.HeapLemmas.{edit-nothing}
use Rattle.qo_clocks.proofs.LinkLemmas.{changed-nothing}
use Rattle.qo_properties.proofs.WriteLemmas.{some-live}

-- edits of one object

pub edit-twice : (n : ℕ) (f g h : Content → Content) → ((c : Content) → f (g c) ≡ h c) → (v : Objects) → with_edit n f (with_edit n g v) ≡ with_edit n h v
edit-twice n f g h same v = ap (λ (rows : List (Key × Content)). record v { rows = rows }) (go v.rows)
  where
    go : (rows : List (Key × Content)) → edit n f (edit n g rows) ≡ edit n h rows
    go [] = refl
    go (row ∷ rows) = by (eqb row.0.birth n) refl (go rows)
      where
        by : (t : Bool) → eqb row.0.birth n ≡ t → edit n f (edit n g rows) ≡ edit n h rows → edit n f (edit n g (row ∷ rows)) ≡ edit n h (row ∷ rows)
        by true is rest = rw (is, is) (λ j. (row.0, same row.1 j) ∷ rest j)
        by false is rest = rw (is, is) (ap (λ (l : List (Key × Content)). row ∷ l) rest)

-- filling nothing

pub fill-nothing : (n i : ℕ) (v : Objects) → v ≡ with_edit n (filled_at fill.Default i) v
fill-nothing n i v = sym (edit-nothing n (filled_at fill.Default i)
    (λ c. ap (λ (slots : List Named). record c { slots = slots }) (changed-nothing (filled_with fill.Default) (λ s. refl) i c.slots)) v)

-- the slots as they are given

pub filled-given : (b : board.Board) (props : List Given) (fs : List InitialValue) (slots : List Named) → AllZip (IsGiven b props) fs slots
    → shown_slots (filled fs slots) ≡ map (slot_given b props) (shown_slots slots)
filled-given b props [] [] all = refl
filled-given b props [] (s ∷ slots) all = absurd all
filled-given b props (f ∷ fs) [] all = absurd all
filled-given b props (f ∷ fs) (s ∷ slots) all = let here = all.0 in let rest = filled-given b props fs slots all.1 in λ j. (s.0, here j) ∷ rest j

-- targets stay where they are
pub all-live : (P Q : Key → Type 0) → ((key : Key) → P key → Q key) → (fs : List InitialValue)
    → AllByRecursion (λ (f : InitialValue). IfSome (target_in f) P) fs
    → AllByRecursion (λ (f : InitialValue). IfSome (target_in f) Q) fs
all-live P Q more [] all = tt
all-live P Q more (f ∷ fs) all = (some-live P Q more (target_in f) all.0, all-live P Q more fs all.1)

-- a plan at a place

pub value-past : (i : ℕ) (fs : List InitialValue) → length fs ≤ i → fill.Default ≡ value_at i fs
value-past i [] over = refl
value-past zero (f ∷ fs) over = absurd (omega arith)
value-past (suc i) (f ∷ fs) over = value-past i fs (omega arith)

pub spent-past : (i : ℕ) (fs : List InitialValue) → length fs ≤ i → fs ≡ spent_at i fs
spent-past i [] over = refl
spent-past zero (f ∷ fs) over = absurd (omega arith)
spent-past (suc i) (f ∷ fs) over = ap (λ (l : List InitialValue). f ∷ l) (spent-past i fs (omega arith))

pub value-here : (i : ℕ) (fs : List InitialValue) (d : InitialValue) → i < length fs → value_alone (get_or fs i d) ≡ value_at i fs
value-here i [] d below = absurd (omega arith)
value-here zero (f ∷ fs) d below = refl
value-here (suc i) (f ∷ fs) d below = value-here i fs d (omega arith)

pub spent-here : (i : ℕ) (fs : List InitialValue) (d : InitialValue) → i < length fs → set fs i (spent (get_or fs i d)) ≡ spent_at i fs
spent-here i [] d below = absurd (omega arith)
spent-here zero (f ∷ fs) d below = refl
spent-here (suc i) (f ∷ fs) d below = ap (λ (l : List InitialValue). f ∷ l) (spent-here i fs d (omega arith))
