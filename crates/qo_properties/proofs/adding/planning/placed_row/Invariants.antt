-- No row before the place has the name, and so many of them have slots.
use Rattle.std.proofs.Common.{◌≡◌, drop, take, find, length, filter_map}
use Rattle.std.specs.Str.{bytes_eq}
use Rattle.qo_model.specs.RowNames.{property_name}
use Rattle.qo_properties.specs.NewSlots.{slot_begun}
use Rattle.qo_properties.proofs.adding.planning.placed_row.Given as goal

abbrev pub invariant-loop-row : goal.invariant-loop-row
invariant-loop-row l =
    record {
      found : find (λ p. bytes_eq (property_name p.name) l.name) l.row-items
          ≡ find (λ p. bytes_eq (property_name p.name) l.name) (drop l.row-index l.row-items);
      place : l.place ≡ length (filter_map (slot_begun l.fn.kind) (take l.row-index l.row-items));
    }
