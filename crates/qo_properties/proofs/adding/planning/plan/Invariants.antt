-- No property before the place is refused, and the slots are planned for those.
use Rattle.std.proofs.Common.{◌≡◌, drop, take, IfSome}
use Rattle.std.specs.List.{AllByRecursion, AllZip}
use Rattle.qo_model.specs.Board.{Board}
use Rattle.qo_model.specs.Objects.{refusal_of}
use Rattle.qo_heap.specs.Rows.{IsLive}
use Rattle.qo_heap.specs.Board.{Shows}
use Rattle.qo_properties.specs.NewSlots.{new_slots}
use Rattle.qo_properties.specs.Filling.{Fits, IsGiven, target_in}
use Rattle.qo_properties.proofs.adding.planning.plan.Given as goal

abbrev pub invariant-loop-pair : goal.invariant-loop-pair
invariant-loop-pair g l =
    record {
      refused : (b : Board) → Shows b l.heap → refusal_of b l.kind l.pair-items ≡ refusal_of b l.kind (drop l.pair-index l.pair-items);
      told : (b : Board) → Shows b l.heap → AllZip (IsGiven b (take l.pair-index l.pair-items)) l.fills.items (new_slots l.kind);
      fits : AllZip Fits l.fills.items (new_slots l.kind);
      live : AllByRecursion (λ f. IfSome (target_in f) (IsLive l.heap.rows)) l.fills.items;
    }
