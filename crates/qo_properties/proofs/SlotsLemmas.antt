-- The slots of a new object, as they are planned.
use Rattle.std.proofs.Common.{◌≡◌, refl, ap, sym, subst, ◌∙◌, ℕ, ◌+◌, ◌<◌, ◌≤◌, ◌^◌, drop, get_or, true, false, not, List, [], ◌∷◌, ◌++◌, length, filter_map, Option, Some, None, IfSome, option_to_list, suc, arith}
use Rattle.std.specs.List.{AllByRecursion, IsDistinct, cons_option, list_all}
use Rattle.std.specs.Str.{bytes_eq}
use Rattle.std.proofs.lemmas.Cmp.{nat_list_eq_equiv}
use Rattle.std.proofs.lemmas.List.{drop_more}
use Rattle.qo_values.specs.declared.kinds.TypeId.{TypeId}
use Rattle.std.proofs.lemmas.Bool.{and_parts, not-true}
use Rattle.qo_slots.specs.declared.keys.Key.{Key}
use Rattle.qo_model.specs.Types.{slots_of}
use Rattle.qo_model.specs.declared.properties.Property.{Property}
use Rattle.qo_model.specs.declared.properties.PropertyRole.{PropertyRole}
use Rattle.qo_model.specs.declared.properties.PropertyRole.TheVariants as row
use Rattle.qo_object.specs.declared.slots.Slot.{Slot}
use Rattle.qo_object.specs.declared.slots.Slot.TheVariants.{Plain, Child, Link, Alias}
use Rattle.qo_object.specs.Slots.{Named, child_of, names_of, target_of}
use Rattle.qo_heap.proofs.HeapLemmas.{holds-cons}
use Rattle.qo_properties.specs.declared.adding.filling.InitialValue.{InitialValue}
use Rattle.qo_properties.specs.declared.adding.filling.InitialValue.TheVariants as fill
use Rattle.qo_properties.specs.Filling.{filled, filled_with, target_in}
use Rattle.qo_properties.specs.NewSlots.{new_slots, slot_begun}
use Rattle.qo_properties.proofs.NewSlotLemmas.{few-slots}
use Rattle.qo_properties.proofs.PlanningLemmas.{are_apart, fewer, new-apart}

-- filling changes no name, and adds no slot

filled-names : (fs : List InitialValue) (slots : List Named) → names_of (filled fs slots) ≡ names_of slots
filled-names [] slots = refl
filled-names (f ∷ fs) [] = refl
filled-names (f ∷ fs) (s ∷ slots) = ap (λ (l : List (List ℕ)). s.0 ∷ l) (filled-names fs slots)

filled-length : (fs : List InitialValue) (slots : List Named) → length (filled fs slots) ≡ length slots
filled-length [] slots = refl
filled-length (f ∷ fs) [] = refl
filled-length (f ∷ fs) (s ∷ slots) = ap (λ (n : ℕ). suc n) (filled-length fs slots)

distinct-from : (slots : List Named) → are_apart slots ≡ true → IsDistinct bytes_eq (names_of slots)
unfolding IsDistinct
distinct-from [] apart = tt
distinct-from (s ∷ slots) apart =
    let both = and_parts (list_all (λ (t : Named). not (bytes_eq t.0 s.0)) slots) (are_apart slots) apart in
    (others slots both.0, distinct-from slots both.1)
  where
    others : (ts : List Named) → list_all (λ (t : Named). not (bytes_eq t.0 s.0)) ts ≡ true
        → AllByRecursion (λ (name : List ℕ). bytes_eq s.0 name ≡ false) (names_of ts)
    others [] all = tt
    others (t ∷ ts) all =
        let two = and_parts (not (bytes_eq t.0 s.0)) (list_all (λ (u : Named). not (bytes_eq u.0 s.0)) ts) all in
        (nat_list_eq_equiv.symm s.0 t.0 ∙ not-true (bytes_eq t.0 s.0) two.0, others ts two.1)

new-differ : (fs : List InitialValue) (t : TypeId) → IsDistinct bytes_eq (names_of (filled fs (new_slots t)))
new-differ fs t = subst (IsDistinct bytes_eq) (sym (filled-names fs (new_slots t))) (distinct-from (new_slots t) (new-apart t))

new-few : (fs : List InitialValue) (t : TypeId) → length (filled fs (new_slots t)) ≤ 2 ^ 32
new-few fs t = omega (arith, filled-length fs (new_slots t), fewer (slot_begun t) (slots_of t), few-slots t)

-- what they name is what is planned

module _ (P : Key → Type 0) where
  named-in : (f : InitialValue) (s : Slot) → target_of s ≡ None → IfSome (target_in f) P → IfSome (target_of (filled_with f s)) P
  named-in fill.Default s none is = subst (λ (o : Option Key). IfSome o P) (sym none) tt
  named-in (fill.Value v) (Plain old) none is = tt
  named-in (fill.Value v) (Child key) none is = subst (λ (o : Option Key). IfSome o P) (sym none) tt
  named-in (fill.Value v) (Link ty strong target) none is = subst (λ (o : Option Key). IfSome o P) (sym none) tt
  named-in (fill.Value v) (Alias key name) none is = tt
  named-in (fill.Target key) (Plain old) none is = tt
  named-in (fill.Target key) (Child other) none is = subst (λ (o : Option Key). IfSome o P) (sym none) tt
  named-in (fill.Target key) (Link ty strong target) none is = is
  named-in (fill.Target key) (Alias other name) none is = tt

  filled-targets : (fs : List InitialValue) (slots : List Named) → AllByRecursion (λ (s : Named). target_of s.1 ≡ None) slots
      → AllByRecursion (λ (f : InitialValue). IfSome (target_in f) P) fs → AllByRecursion P (filter_map (λ (s : Named). target_of s.1) (filled fs slots))
  filled-targets [] [] none all = tt
  filled-targets [] (s ∷ slots) none all = holds-cons P (target_of s.1) (filter_map (λ (t : Named). target_of t.1) slots) (subst (λ
      (o : Option Key). IfSome o P) (sym none.0) tt) (filled-targets [] slots none.1 tt)
  filled-targets (f ∷ fs) [] none all = tt
  filled-targets (f ∷ fs) (s ∷ slots) none all =
      holds-cons P (target_of (filled_with f s.1)) (filter_map (λ (t : Named). target_of t.1) (filled fs slots)) (named-in f s.1 none.0 all.0)
      (filled-targets fs slots none.1 all.1)

  new-none : (t : TypeId) (ps : List Property) → AllByRecursion (λ (s : Named). target_of s.1 ≡ None) (filter_map (slot_begun t) ps)
  new-none t [] = tt
  new-none t (p ∷ ps) = go p.role refl (new-none t ps)
    where
      go : (k : PropertyRole) → p.role ≡ k → AllByRecursion (λ (s : Named). target_of s.1 ≡ None) (filter_map (slot_begun t) ps)
          → AllByRecursion (λ (s : Named). target_of s.1 ≡ None) (filter_map (slot_begun t) (p ∷ ps))
      go (row.Plain type first) is rest = rw is (refl, rest)
      go (row.Child type) is rest = rw is rest
      go (row.Link target strong) is rest = rw is (refl, rest)
      go (row.Alias owner property) is rest = rw is rest

  new-live : (fs : List InitialValue) (t : TypeId) → AllByRecursion (λ (f : InitialValue). IfSome (target_in f) P) fs
      → AllByRecursion P (filter_map (λ (s : Named). target_of s.1) (filled fs (new_slots t)))
  new-live fs t all = filled-targets fs (new_slots t) (new-none t (slots_of t)) all

-- none of them is a child slot

filled-child : (f : InitialValue) (s : Slot) → child_of s ≡ None → child_of (filled_with f s) ≡ None
filled-child fill.Default s none = none
filled-child (fill.Value v) (Plain old) none = refl
filled-child (fill.Value v) (Child key) none = none
filled-child (fill.Value v) (Link ty strong target) none = refl
filled-child (fill.Value v) (Alias key name) none = refl
filled-child (fill.Target key) (Plain old) none = refl
filled-child (fill.Target key) (Child other) none = none
filled-child (fill.Target key) (Link ty strong target) none = refl
filled-child (fill.Target key) (Alias other name) none = refl

filled-childless : (fs : List InitialValue) (slots : List Named) → AllByRecursion (λ (s : Named). child_of s.1 ≡ None) slots
    → AllByRecursion (λ (s : Named). child_of s.1 ≡ None) (filled fs slots)
filled-childless [] slots none = none
filled-childless (f ∷ fs) [] none = tt
filled-childless (f ∷ fs) (s ∷ slots) none = (filled-child f s.1 none.0, filled-childless fs slots none.1)

new-childless : (t : TypeId) (ps : List Property) → AllByRecursion (λ (s : Named). child_of s.1 ≡ None) (filter_map (slot_begun t) ps)
new-childless t [] = tt
new-childless t (p ∷ ps) = go p.role refl (new-childless t ps)
  where
    go : (k : PropertyRole) → p.role ≡ k → AllByRecursion (λ (s : Named). child_of s.1 ≡ None) (filter_map (slot_begun t) ps)
        → AllByRecursion (λ (s : Named). child_of s.1 ≡ None) (filter_map (slot_begun t) (p ∷ ps))
    go (row.Plain type first) is rest = rw is (refl, rest)
    go (row.Child type) is rest = rw is rest
    go (row.Link target strong) is rest = rw is (refl, rest)
    go (row.Alias owner property) is rest = rw is rest

-- the rows from a place on, and a row more

pub filled-end : (fs : List InitialValue) → filled fs [] ≡ []
filled-end [] = refl
filled-end (f ∷ fs) = refl

pub rows-next : {X Y : Type 0} (f : X → Option Y) (xs : List X) (i : ℕ) (d : X) → i < length xs
    → filter_map f (drop i xs) ≡ option_to_list (f (get_or xs i d)) ++ filter_map f (drop (i + 1) xs)
rows-next {X = X} {Y = Y} f xs i d below = ap (filter_map f) (drop_more xs i d below) ∙ by (f (get_or xs i d))
  where
    by : (o : Option Y) → cons_option o (filter_map f (drop (i + 1) xs)) ≡ option_to_list o ++ filter_map f (drop (i + 1) xs)
    by None = refl
    by (Some y) = refl

-- what is so of the slots of a new object that are planned

module _ (t : TypeId) (fs : List InitialValue) (slots : List Named) (is : slots ≡ filled fs (new_slots t)) where
  pub slots-differ : IsDistinct bytes_eq (names_of slots)
  slots-differ = subst (λ (l : List Named). IsDistinct bytes_eq (names_of l)) (sym is) (new-differ fs t)

  pub slots-few : length slots ≤ 2 ^ 32
  slots-few = subst (λ (l : List Named). length l ≤ 2 ^ 32) (sym is) (new-few fs t)

  pub slots-childless : AllByRecursion (λ (s : Named). child_of s.1 ≡ None) slots
  slots-childless =
      subst (λ (l : List Named). AllByRecursion (λ (s : Named). child_of s.1 ≡ None) l) (sym is)
      (filled-childless fs (new_slots t) (new-childless t (slots_of t)))

  pub slots-live : (P : Key → Type 0) → AllByRecursion (λ (f : InitialValue). IfSome (target_in f) P) fs
      → AllByRecursion P (filter_map (λ (s : Named). target_of s.1) slots)
  slots-live P all = subst (λ (l : List Named). AllByRecursion P (filter_map (λ (s : Named). target_of s.1) l)) (sym is) (new-live P fs t all)

  pub none-live : fs ≡ [] → (P : Key → Type 0) → AllByRecursion P (filter_map (λ (s : Named). target_of s.1) slots)
  none-live none P = slots-live P (subst (λ (l : List InitialValue). AllByRecursion (λ (f : InitialValue). IfSome (target_in f) P) l) (sym none) tt)

  pub slots-first : fs ≡ [] → slots ≡ new_slots t
  slots-first none = is ∙ ap (λ (l : List InitialValue). filled l (new_slots t)) none
