-- The slots of a new object, row by row.
use Rattle.std.proofs.Common.{rules, ◌≡◌, refl, ap, sym, ◌∙◌, ℕ, ◌+◌, ◌<◌, ◌≤◌, true, false, List, [], ◌∷◌, ◌++◌, length, take, filter_map, slice_get, get_or, ◌⊎◌, inl, inr, Option, Some, None, option_map, option_to_list, arith}
use Rattle.std.specs.List.{cons_option}
use Rattle.std.proofs.lemmas.List.{map-append, take_more}
use Rattle.std.proofs.lemmas.Option.{get_or_from_slice_get, slice_get_cases}
use Rattle.std.proofs.lemmas.List.Elements.{filter_map-append}
use Rattle.qo_values.specs.declared.kinds.TypeId.{TypeId}
use Rattle.qo_values.proofs.EachLemmas.{each}
use Rattle.qo_model.specs.Board as board
use Rattle.qo_model.specs.Changes.{with_fresh, with_fresh_slots}
use Rattle.qo_model.specs.Opening.{first_slot, first_value}
use Rattle.qo_model.specs.Types.{types, slots_of}
use Rattle.qo_model.specs.RowNames.{property_name}
use Rattle.qo_model.specs.declared.properties.Property.{Property}
use Rattle.qo_model.specs.declared.properties.PropertyRole.{PropertyRole}
use Rattle.qo_model.specs.declared.properties.PropertyRole.TheVariants as row
use Rattle.qo_object.specs.Slots.{Named}
use Rattle.qo_object.specs.BoardObject.{shown, shown_slot, shown_slots}
use Rattle.qo_heap.specs.Board.{Shows}
use Rattle.qo_heap.specs.Objects.{Objects, with_edit}
use Rattle.qo_heap.proofs.BoardEdits.{shows-edit}
use Rattle.qo_properties.specs.NewSlots.{first_slots, new_slots, slot_begun, with_slots}

-- the slots of the first properties, one by one

module _ {X : Type 0} where
  pub within : (xs : List X) (i : ℕ) (x : X) → slice_get xs i ≡ Some x → i < length xs
  within xs i x at = go (slice_get_cases xs i).1
    where
      go : ((y : X) × (i < length xs) × (slice_get xs i ≡ Some y) × (get_or xs i y ≡ y)) ⊎ ((length xs ≤ i) × (slice_get xs i ≡ None)) → i < length xs
      go (inl some) = some.1
      go (inr none) = let e : slice_get xs i ≡ None = none.1 in cc

  pub past : (xs : List X) (i : ℕ) → slice_get xs i ≡ None → length xs ≤ i
  past xs i at = go (slice_get_cases xs i).1
    where
      go : ((y : X) × (i < length xs) × (slice_get xs i ≡ Some y) × (get_or xs i y ≡ y)) ⊎ ((length xs ≤ i) × (slice_get xs i ≡ None)) → length xs ≤ i
      go (inl some) = let e : slice_get xs i ≡ Some some.0 = some.2 in cc
      go (inr none) = none.0

cons_as : {Y : Type 0} (o : Option Y) → cons_option o [] ≡ option_to_list o
cons_as None = refl
cons_as (Some y) = refl

pub next-slot : {X Y : Type 0} (f : X → Option Y) (i : ℕ) (xs : List X) (x : X) → slice_get xs i ≡ Some x
    → filter_map f (take (i + 1) xs) ≡ filter_map f (take i xs) ++ option_to_list (f x)
next-slot {X = X} {Y = Y} f i xs x at =
    ap (filter_map f) (take_more xs i x (within xs i x at) ∙ ap (λ (y : X). take i xs ++ y ∷ []) (get_or_from_slice_get xs i x x at))
    ∙ filter_map-append f (take i xs) (x ∷ [])
    ∙ ap (λ (ys : List Y). filter_map f (take i xs) ++ ys) (cons_as (f x))

-- how many properties there are

pub few-slots : (t : TypeId) → length (slots_of t) ≤ 9
unfolding types
few-slots = each (λ (t : TypeId). length (slots_of t) ≤ 9) (search rules)

-- what a new object shows

-- the slots of properties as they are shown, also of the first ones alone
abbrev pub of_rows : TypeId → List Property → List (List ℕ × board.Slot)
of_rows t ps =
    filter_map (λ (p : Property). option_map (λ (s : board.Slot). (property_name p.name, s)) (first_slot (λ _. None) t (property_name p.name) p.role)) ps

pub new-shown : (t : TypeId) (ps : List Property) → shown_slots (filter_map (slot_begun t) ps) ≡ of_rows t ps
new-shown t [] = refl
new-shown t (p ∷ ps) = go p.role refl (new-shown t ps)
  where
    go : (k : PropertyRole) → p.role ≡ k → shown_slots (filter_map (slot_begun t) ps) ≡ of_rows t ps
        → shown_slots (filter_map (slot_begun t) (p ∷ ps)) ≡ of_rows t (p ∷ ps)
    go (row.Plain type first) is rest = rw is (ap (λ ss. (property_name p.name, board.plain (first_value t first)) ∷ ss) rest)
    go (row.Child type) is rest = rw is rest
    go (row.Link target true) is rest = rw is (ap (λ ss. (property_name p.name, board.strong target None) ∷ ss) rest)
    go (row.Link target false) is rest = rw is (ap (λ ss. (property_name p.name, board.weak target None) ∷ ss) rest)
    go (row.Alias owner property) is rest = rw is rest

pub shows-fresh : (b : board.Board) (v : Objects) → Shows b v → (n : ℕ) (t : TypeId) → Shows (with_fresh_slots n t b) (with_edit n (with_slots (new_slots t)) v)
unfolding with_fresh_slots
shows-fresh b v s n t =
    shows-edit n (with_slots (new_slots t)) b v s (with_fresh t)
    (λ m c. ap (λ (slots : List (List ℕ × board.Slot)). record (shown m c) { slots = slots }) (map-append (λ (s : Named). (s.0, shown_slot s.1)) c.slots
    (new_slots t) ∙ ap (λ (ss : List (List ℕ × board.Slot)). shown_slots c.slots ++ ss) (new-shown t (slots_of t))))
    (λ c. refl)

-- the row at a place

pub record RowAt (t : TypeId) (i : ℕ) (r : Property) : Type 0 where
  pub within : i < length (slots_of t)
  pub next : first_slots (i + 1) t ≡ first_slots i t ++ option_to_list (slot_begun t r)

pub row-at : (t : TypeId) (i : ℕ) (r : Property) → Some r ≡ slice_get (slots_of t) i → RowAt t i r
row-at t i r is = record { within = within (slots_of t) i r (sym is); next = next-slot (slot_begun t) i (slots_of t) r (sym is) }
