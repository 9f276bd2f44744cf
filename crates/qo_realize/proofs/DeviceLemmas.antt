-- The device that a text is of, on the heap.
use Rattle.std.proofs.Common.{◌≡◌, ap, sym, ◌∙◌, ℕ, false, List, [], Option, None}
use Rattle.std.specs.Prelude.{find, option_and_then, option_map}
use Rattle.std.specs.Option.{option_map_or}
use Rattle.std.specs.Str.{bytes_eq}
use Rattle.qo_model.specs.Board.{Board, Slot, slots_at}
use Rattle.qo_model.specs.Hotplug.{device_at}
use Rattle.qo_model.specs.Paths.{child_of, is_absolute}
use Rattle.qo_object.specs.Content.{Content}
use Rattle.qo_object.specs.BoardObject.{shown_slots}
use Rattle.qo_heap.specs.Board.{Shows}
use Rattle.qo_heap.specs.Objects.{Objects, content_of}
use Rattle.qo_heap.proofs.BoardReads.{shows-slots}

-- where the container is not there, it has no child
pub none-peripheral : (b : Board) (v : Objects) → Shows b v → content_of v 3 ≡ None → (id : List ℕ) → is_absolute id ≡ false → None ≡ device_at b id
none-peripheral b v s none id relative = rw relative (sym named)
  where
    empty : slots_at b 3 ≡ []
    empty = shows-slots b v s 3 ∙ ap (λ (o : Option Content). shown_slots (option_map_or (λ (c : Content). c.slots) o [])) none

    named : option_and_then child_of (option_map (λ (x : List ℕ × Slot). x.1) (find (λ (x : List ℕ × Slot). bytes_eq x.0 id) (slots_at b 3))) ≡ None
    named = ap
        (λ (xs : List (List ℕ × Slot)). option_and_then child_of (option_map (λ (x : List ℕ × Slot). x.1) (find (λ (x : List ℕ × Slot). bytes_eq x.0 id) xs)))
        empty
