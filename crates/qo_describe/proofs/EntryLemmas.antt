-- What the slots of a heap are on the boards that it shows.
use Rattle.std.proofs.Common.{◌≡◌, ℕ, true, false, List, length, refl, sym, ap, ◌∙◌, None}
use Rattle.qo_slots.specs.declared.keys.Key.{Key}
use Rattle.qo_object.specs.declared.slots.Slot.{Slot}
use Rattle.qo_object.specs.declared.slots.Slot.TheVariants.{Plain, Child, Link, Alias}
use Rattle.qo_object.specs.BoardObject.{shown_slot}
use Rattle.qo_object.proofs.BoardObjectLemmas.{length-shown}
use Rattle.qo_heap.specs.Board.{Shows}
use Rattle.qo_heap.specs.Objects.{Objects, slots_of}
use Rattle.qo_heap.proofs.BoardReads.{shows-slots}
use Rattle.qo_model.specs.Board as board
use Rattle.qo_sound_devices.specs.SoundPlaces.{child_entry}

-- as many slots as the heap has there
pub all-slots : (b : board.Board) (v : Objects) → Shows b v → (n count : ℕ) → count ≡ length (slots_of v n) → length (board.slots_at b n) ≡ count
all-slots b v s n count is = ap (λ (l : List (List ℕ × board.Slot)). length l) (shows-slots b v s n) ∙ length-shown (slots_of v n) ∙ sym is

-- no child
pub no-child : (name : List ℕ) (what : Slot) → ((key : Key) → what ≡ Child key → ⊥) → child_entry (name, shown_slot what) ≡ None
no-child name (Plain val) other = refl
no-child name (Child key) other = absurd (other key refl)
no-child name (Link ty true target) other = refl
no-child name (Link ty false target) other = refl
no-child name (Alias key of) other = refl
