-- For proofs alone. Slots for an object that has none yet: weak links without targets, and what each of them is to name.
use Rattle.std.specs.Prelude.{◌≡◌, true, false, List, [], ◌∷◌, Option, Some, None, is_some, ⊤}
use Rattle.qo_slots.specs.declared.keys.Key.{Key}
use Rattle.qo_object.specs.declared.slots.Slot.{Slot}
use Rattle.qo_object.specs.declared.slots.Slot.TheVariants.{Link}
use Rattle.qo_object.specs.Slots.{Named, is_empty_link, pointed, weak_target}

-- a weak link without its target; anything else stays
abbrev pub unnamed : Slot → Slot
unnamed (Link ty false target) = Link ty false None
unnamed s = s

-- a link that names an object, if one is given
abbrev pub pointed_if : Option Key → Slot → Slot
pointed_if None s = s
pointed_if (Some key) s = pointed key s

-- slots of which the first name these, where one is given
abbrev pub refilled : List (Option Key) → List Named → List Named
refilled [] slots = slots
refilled (t ∷ ts) [] = []
refilled (t ∷ ts) (s ∷ slots) = (s.0, pointed_if t s.1) ∷ refilled ts slots

-- no slot is a weak link with a target, and each for which a target is given is a link without one; for the last ones none may be given
abbrev pub IsSplit : List (Option Key) → List Named → Type 0
IsSplit [] [] = ⊤
IsSplit [] (s ∷ slots) = (weak_target s.1 ≡ None) × IsSplit [] slots
IsSplit (t ∷ ts) [] = ⊥
IsSplit (t ∷ ts) (s ∷ slots) = ((weak_target s.1 ≡ None) × (is_some t ≡ true → is_empty_link s.1 ≡ true)) × IsSplit ts slots
