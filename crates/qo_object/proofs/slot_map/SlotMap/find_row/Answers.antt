-- The names in order are those of the slots.
use Rattle.std.proofs.Common.{◌≡◌, ◌∙◌, ap, ℕ, List, position}
use Rattle.std.specs.Str.{bytes_eq}
use Rattle.qo_model.specs.RowNames.{property_name}
use Rattle.qo_object.specs.Slots.{Named, names_of}
use Rattle.qo_object.proofs.NameLemmas.{position-map}
use Rattle.qo_object.proofs.slot_map.SlotMap.find_row.Goals as goal

pub returns-in-Some : goal.returns-in-Some
returns-in-Some c =
    let slots = c.self.inside.slots.items in
    let names : c.in-Some.names ≡ names_of slots = rw c.in-Some.is at c.self.invariant.1 in
    rw (← c.self.view_is) (
    c.find.ensures
    ∙ ap (λ (text : List ℕ). position (bytes_eq text) c.in-Some.names) c.as_str.ensures
    ∙ ap (position (bytes_eq (property_name c.args.name))) names
    ∙ position-map (λ (s : Named). s.0) (bytes_eq (property_name c.args.name)) slots
    )
