-- For proofs alone. What the slots of a new object are filled with.
use Rattle.std.specs.Prelude.{◌≡◌, ℕ, zero, suc, Bool, true, List, [], ◌∷◌, Option, Some, None}
use Rattle.qo_values.specs.declared.properties.Val.{Val}
use Rattle.qo_slots.specs.declared.keys.Key.{Key}
use Rattle.qo_model.specs.Board.{Board}
use Rattle.qo_model.specs.Objects.{Given, given_to, slot_given}
use Rattle.qo_object.specs.declared.slots.Slot.{Slot}
use Rattle.qo_object.specs.Content.{Content, empty_link_at}
use Rattle.qo_object.specs.BoardObject.{shown_slot}
use Rattle.qo_object.specs.Slots.{Named, changed_at, is_empty_link, pointed, with_val}
use Rattle.qo_properties.specs.declared.adding.filling.InitialValue.{InitialValue}
use Rattle.qo_properties.specs.declared.adding.filling.InitialValue.TheVariants as fill

-- a slot with what it is filled with
abbrev pub filled_with : InitialValue → Slot → Slot
filled_with fill.Default s = s
filled_with (fill.Value v) s = with_val v s
filled_with (fill.Target key) s = pointed key s

-- an object whose slot at a place is filled
abbrev pub filled_at : InitialValue → ℕ → Content → Content
filled_at f i c = record c { slots = changed_at (filled_with f) i c.slots }

-- slots that are filled in order, as far as something is planned
abbrev pub filled : List InitialValue → List Named → List Named
filled [] slots = slots
filled (f ∷ fs) [] = []
filled (f ∷ fs) (s ∷ slots) = (s.0, filled_with f s.1) ∷ filled fs slots

-- what is to be the target of a link
abbrev pub target_in : InitialValue → Option Key
target_in (fill.Target key) = Some key
target_in f = None

-- a target is for a link without one
abbrev pub fits : InitialValue → Slot → Bool
fits (fill.Target key) s = is_empty_link s
fits f s = true

abbrev pub Fits : InitialValue → Named → Type 0
Fits f s = fits f s.1 ≡ true

abbrev pub fits_at : InitialValue → Content → ℕ → Bool
fits_at (fill.Target key) c i = empty_link_at c i
fits_at f c i = true

-- a slot is filled with a value as it is given, and as the properties given say
abbrev pub HasValue : Board → Val → InitialValue → Slot → Type 0
HasValue b v f s = shown_slot (filled_with f s) ≡ given_to b (shown_slot s) v

abbrev pub IsGiven : Board → List Given → InitialValue → Named → Type 0
IsGiven b props f s = shown_slot (filled_with f s.1) ≡ (slot_given b props (s.0, shown_slot s.1)).1

-- the value that a slot is filled with, if it is filled with one; and what is left of the plan of a slot that has its value
abbrev pub value_alone : InitialValue → InitialValue
value_alone (fill.Value v) = fill.Value v
value_alone f = fill.Default

abbrev pub spent : InitialValue → InitialValue
spent (fill.Value v) = fill.Default
spent f = f

-- of a plan, at a place
abbrev pub value_at : ℕ → List InitialValue → InitialValue
value_at i [] = fill.Default
value_at zero (f ∷ fs) = value_alone f
value_at (suc i) (f ∷ fs) = value_at i fs

abbrev pub spent_at : ℕ → List InitialValue → List InitialValue
spent_at i [] = []
spent_at zero (f ∷ fs) = spent f ∷ fs
spent_at (suc i) (f ∷ fs) = f ∷ spent_at i fs
