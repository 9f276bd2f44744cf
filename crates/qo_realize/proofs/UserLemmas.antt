-- What deleting an object comes to, by whether it is in use.
use Rattle.std.proofs.Common.{refl, ap, sym, subst, ◌≡◌, ◌∙◌, Bool, true, false, List, [], ℕ, Option, Some, None, find, option_map, Result, Err}
use Rattle.std.specs.Prelude.{if◌then◌else◌, option_and_then}
use Rattle.std.specs.Option.{option_map_or}
use Rattle.std.specs.Str.{bytes_eq}
use Rattle.qo_values.specs.declared.births.TheConstants.{OBJECTS_BIRTH}
use Rattle.qo_values.specs.declared.codes.Code.{Code}
use Rattle.qo_values.specs.declared.codes.Code.TheVariants.{E32}
use Rattle.qo_model.specs.Board.{Board, Record, Slot}
use Rattle.qo_model.specs.Devices.{child_named}
use Rattle.qo_model.specs.Objects.{Changed, object_del}
use Rattle.qo_heap.specs.Board.{Shows}
use Rattle.qo_heap.specs.Objects.{Objects, content_of}
use Rattle.qo_heap.proofs.BoardReads.{shows-record}
use Rattle.qo_object.specs.BoardObject.{shown}
use Rattle.qo_realize.specs.Answers.{IsAnswered}
use Rattle.qo_realize.specs.Parts.{Parts}
use Rattle.qo_realize.specs.Representation.{Stands}
use Rattle.qo_realize.specs.Users.{has_dimm, is_used, object_removed}

abbrev removed_as : Board → List ℕ → Bool → Changed
removed_as b id used = if used then record { refusal = Some E32; board = b } else object_del b id

module _ (b : Board) (id : List ℕ) (p : Parts) where
  pub answered-used : is_used b id ≡ true → Stands b p → IsAnswered (object_removed b id) (Err E32) p
  answered-used is s = subst (λ (t : Bool). IsAnswered (removed_as b id t) (Err E32) p) (sym is) (record { refusal = refl; board = s })

  pub answered-free : (r : Result (Unit {0}) Code) → is_used b id ≡ false → IsAnswered (object_del b id) r p → IsAnswered (object_removed b id) r p
  answered-free r is h = subst (λ (t : Bool). IsAnswered (removed_as b id t) r p) (sym is) h

-- where there is no `/objects`, no object there is in use
pub none-used : (b : Board) (v : Objects) (id : List ℕ) → Shows b v → content_of v OBJECTS_BIRTH ≡ None → false ≡ is_used b id
none-used b v id s none = sym (ap used_in (shows-record b v s OBJECTS_BIRTH ∙ ap (option_map (shown OBJECTS_BIRTH)) none))
  where
    slots_in : Option Record → List (List ℕ × Slot)
    slots_in o = option_map_or (λ (r : Record). r.slots) o []

    used_in : Option Record → Bool
    used_in o =
        option_map_or (has_dimm b)
        (option_and_then child_named (option_map (λ (t : List ℕ × Slot). t.1) (find (λ (t : List ℕ × Slot). bytes_eq t.0 id) (slots_in o)))) false
