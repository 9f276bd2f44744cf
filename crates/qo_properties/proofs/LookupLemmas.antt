-- The place of a child by its name, in slots of which no two have one name.
use Rattle.std.proofs.Common.{◌≡◌, refl, ap, sym, ◌∙◌, ℕ, suc, Bool, true, false, List, [], ◌∷◌, find, position, Option, Some, None, is_some}
use Rattle.std.specs.List.{AllByRecursion, IsDistinct}
use Rattle.std.specs.Str.{bytes_eq}
use Rattle.std.proofs.lemmas.Cmp.{nat_list_eq_equiv}
use Rattle.std.proofs.lemmas.Option.{same_Some}
use Rattle.qo_model.specs.Objects.{index_from, is_object_named}
use Rattle.qo_model.specs.Unplug.{is_named}
use Rattle.qo_object.specs.declared.slots.Slot.{Slot}
use Rattle.qo_object.specs.declared.slots.Slot.TheVariants.{Plain, Child, Link, Alias}
use Rattle.qo_object.specs.Slots.{Named, child_of, names_of}
use Rattle.qo_object.specs.BoardObject.{shown_slot, shown_slots}
use Rattle.qo_heap.proofs.SlotPlaces.{named-place}

module _ (name : List ℕ) where
  abbrev Has : Named → Bool
  Has s = bytes_eq name s.0

  flip : (n : List ℕ) (t : Bool) → bytes_eq name n ≡ t → bytes_eq n name ≡ t
  flip n t p = nat_list_eq_equiv.symm n name ∙ p

  -- a slot in which a child stands, and another one
  of-child : (n : List ℕ) (s : Slot) (t : Bool) → bytes_eq name n ≡ t → is_some (child_of s) ≡ true → is_object_named name (n, shown_slot s) ≡ t
  of-child n (Plain val) t p e = cc
  of-child n (Child key) t p e = flip n t p
  of-child n (Link ty true target) t p e = cc
  of-child n (Link ty false target) t p e = cc
  of-child n (Alias key property) t p e = cc

  of-other : (n : List ℕ) (s : Slot) → is_some (child_of s) ≡ false → is_object_named name (n, shown_slot s) ≡ false
  of-other n (Plain val) e = refl
  of-other n (Child key) e = cc
  of-other n (Link ty true target) e = refl
  of-other n (Link ty false target) e = refl
  of-other n (Alias key property) e = refl

  of-none : (n : List ℕ) (s : Slot) → bytes_eq name n ≡ false → is_object_named name (n, shown_slot s) ≡ false
  of-none n (Plain val) e = refl
  of-none n (Child key) e = flip n false e
  of-none n (Link ty true target) e = refl
  of-none n (Link ty false target) e = refl
  of-none n (Alias key property) e = refl

  -- no slot has the name
  pub child-absent : (k : ℕ) (slots : List Named) → find Has slots ≡ None → index_from (is_object_named name) k (shown_slots slots) ≡ None
  child-absent k [] e = refl
  child-absent k (s ∷ slots) e = go (Has s) refl (child-absent (suc k) slots)
    where
      go : (t : Bool) → Has s ≡ t → (find Has slots ≡ None → index_from (is_object_named name) (suc k) (shown_slots slots) ≡ None)
          → index_from (is_object_named name) k (shown_slots (s ∷ slots)) ≡ None
      go true p rest = absurd (let clash : Some s ≡ None = rw p at e in cc)
      go false p rest = let none : find Has slots ≡ None = rw p at e in rw (of-none s.0 s.1 p) (rest none)

  -- where each name of some slots differs from one that is the name
  absent : (n : List ℕ) (slots : List Named) → ((x : List ℕ) → bytes_eq n x ≡ false → bytes_eq name x ≡ false)
      → AllByRecursion (λ x. bytes_eq n x ≡ false) (names_of slots) → find Has slots ≡ None
  absent n [] same apart = refl
  absent n (s ∷ slots) same apart = let other : bytes_eq name s.0 ≡ false = same s.0 apart.0 in rw other (absent n slots same apart.1)

  -- the slot of the name has a child
  on-child : (k : ℕ) (slots : List Named) (n : List ℕ) (s : Slot) → find Has slots ≡ Some (n, s) → is_some (child_of s) ≡ true
      → index_from (is_object_named name) k (shown_slots slots) ≡ index_from (is_named name) k (shown_slots slots)
  on-child k [] n s e c = cc
  on-child k (x ∷ slots) n s e c = go (Has x) refl (on-child (suc k) slots n s)
    where
      go : (t : Bool) → Has x ≡ t
          → (find Has slots ≡ Some (n, s) → is_some (child_of s) ≡ true
          → index_from (is_object_named name) (suc k) (shown_slots slots) ≡ index_from (is_named name) (suc k) (shown_slots slots))
          → index_from (is_object_named name) k (shown_slots (x ∷ slots)) ≡ index_from (is_named name) k (shown_slots (x ∷ slots))
      go true p rest =
          let is : x ≡ (n, s) = same_Some x (n, s) (rw p at e) in
          let here : is_object_named name (x.0, shown_slot x.1) ≡ true = of-child x.0 x.1 true p (ap (λ (y : Named). is_some (child_of y.1)) is ∙ c) in
          let there : bytes_eq x.0 name ≡ true = flip x.0 true p in
          rw (here, there) refl
      go false p rest =
          let on : find Has slots ≡ Some (n, s) = rw p at e in
          let here : is_object_named name (x.0, shown_slot x.1) ≡ false = of-none x.0 x.1 p in
          let there : bytes_eq x.0 name ≡ false = flip x.0 false p in
          rw (here, there) (rest on c)

  pub child-place : (slots : List Named) (n : List ℕ) (s : Slot) → find Has slots ≡ Some (n, s) → is_some (child_of s) ≡ true
      → index_from (is_object_named name) 0 (shown_slots slots) ≡ position Has slots
  child-place slots n s e c = on-child 0 slots n s e c ∙ named-place name slots

  -- it has none
  pub child-other : (k : ℕ) (slots : List Named) (n : List ℕ) (s : Slot) → IsDistinct bytes_eq (names_of slots) → find Has slots ≡ Some (n, s)
      → is_some (child_of s) ≡ false → index_from (is_object_named name) k (shown_slots slots) ≡ None
  unfolding IsDistinct
  child-other k [] n s differ e c = cc
  child-other k (x ∷ slots) n s differ e c = go (Has x) refl (child-other (suc k) slots n s differ.1)
    where
      go : (t : Bool) → Has x ≡ t
          → (find Has slots ≡ Some (n, s) → is_some (child_of s) ≡ false → index_from (is_object_named name) (suc k) (shown_slots slots) ≡ None)
          → index_from (is_object_named name) k (shown_slots (x ∷ slots)) ≡ None
      go true p rest =
          let is : x ≡ (n, s) = same_Some x (n, s) (rw p at e) in
          let here : is_object_named name (x.0, shown_slot x.1) ≡ false = of-other x.0 x.1 (ap (λ (y : Named). is_some (child_of y.1)) is ∙ c) in
          rw here (child-absent (suc k) slots (absent x.0 slots (λ y other. nat_list_eq_equiv.congr name x.0 y p ∙ other) differ.0))
      go false p rest =
          let on : find Has slots ≡ Some (n, s) = rw p at e in
          let here : is_object_named name (x.0, shown_slot x.1) ≡ false = of-none x.0 x.1 p in
          rw here (rest on c)
