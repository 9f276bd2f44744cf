-- The address of what is not there.
use Rattle.std.proofs.Common.{◌≡◌, ap, ◌∙◌, ℕ, false, List, [], ◌∷◌, ◌++◌, Option, None, ◌==◌, if◌then◌else◌}
use Rattle.std.specs.Prelude.{find, option_and_then, option_map, codes}
use Rattle.std.specs.Option.{option_map_or}
use Rattle.std.specs.Str.{bytes_eq}
use Rattle.qo_values.specs.declared.births.TheConstants.{MEMORY_BUS_BIRTH}
use Rattle.qo_guest.specs.declared.addresses.Addr.{Addr}
use Rattle.qo_guest.specs.declared.addresses.Addr.TheVariants.{Slots, Mem}
use Rattle.qo_model.specs.Board.{Board, Slot, slots_at}
use Rattle.qo_model.specs.Devices.{bridge_of, bus_of, strong_in}
use Rattle.qo_object.specs.Content.{Content}
use Rattle.qo_object.specs.BoardObject.{shown_slots}
use Rattle.qo_heap.specs.Board.{Shows}
use Rattle.qo_heap.specs.Objects.{Objects, content_of}
use Rattle.qo_heap.proofs.BoardReads.{shows-slots}
use Rattle.qo_realize.specs.Guest.{address_of, slot_in, slots_to}

-- by the bus that it is on
abbrev address_by : Board → ℕ → Option ℕ → Addr
address_by b n bus =
    if option_map_or (λ (m : ℕ). m == MEMORY_BUS_BIRTH) bus false then Mem (option_map_or (λ (m : ℕ). slot_in b m n) bus 0)
    else Slots (option_map_or (slots_to b 8) (option_and_then (bridge_of b) bus) [] ++ option_map_or (λ (m : ℕ). slot_in b m n) bus 0 ∷ [])

pub gone-address : (b : Board) (v : Objects) → Shows b v → (n : ℕ) → content_of v n ≡ None → address_of b n ≡ Slots (0 ∷ [])
gone-address b v s n gone = ap (address_by b n) on_none
  where
    empty : slots_at b n ≡ []
    empty = shows-slots b v s n ∙ ap (λ (o : Option Content). shown_slots (option_map_or (λ (c : Content). c.slots) o [])) gone

    on_none : bus_of b n ≡ None
    on_none =
        ap (λ (xs : List (List ℕ × Slot)).
        option_and_then strong_in (option_map (λ (x : List ℕ × Slot). x.1) (find (λ (x : List ℕ × Slot). bytes_eq x.0 (codes "parent_bus")) xs))) empty
