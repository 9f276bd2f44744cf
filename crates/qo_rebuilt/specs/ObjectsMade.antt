-- For a law alone. What adding users' objects makes of a board, as its description tells it (QEMU's QAPI, `object-add`).
use Rattle.std.specs.Prelude.{◌+◌, ◌≤◌, List, ◌++◌, length, map}
use Rattle.std.specs.List.{AllByRecursion, sum_by}
use Rattle.qo_values.specs.declared.births.TheConstants.{OPENING_OBJECTS}
use Rattle.qo_values.specs.declared.limits.TheConstants.{LIVE_OBJECTS_MAX}
use Rattle.qo_model.specs.Board.{Board}
use Rattle.qo_model.specs.Opening.{opening_board}
use Rattle.qo_save.specs.Description.{Description, ObjectItem}
use Rattle.qo_save.specs.Rebuilding.{add_object, add_ring, clock_steps}
use Rattle.qo_save.specs.Rows.{opening_row}
use Rattle.qo_good.specs.Good.{AreIds, Good, IsGoodObject, objects_of}
use Rattle.qo_rebuilt.specs.Made.{Makes, Tells}

pub record ObjectsMadeLaw : Type 0 where
  -- good objects, whose ids are no others', are added in order, where there is room for them
  pub objects : (b : Board) (d : Description) (os : List ObjectItem) → Tells b d → AllByRecursion IsGoodObject os
      → AreIds (map (λ (o : ObjectItem). o.id) (d.objects ++ os))
      → OPENING_OBJECTS + length (d.objects ++ os) + sum_by objects_of d.devices ≤ LIVE_OBJECTS_MAX
      → Makes (map add_object os) b (record d { objects = d.objects ++ os })
  -- those of a good description are added to the opening board after its clock and its rings
  pub after_rings : (d : Description) → Good d
      → Makes (clock_steps d.clock ++ map add_ring d.rings ++ map add_object d.objects) opening_board
      (record opening_row { clock = d.clock; rings = d.rings; objects = d.objects })
