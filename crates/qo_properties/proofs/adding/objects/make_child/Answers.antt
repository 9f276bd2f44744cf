-- Its slots are those of a new object.
use Rattle.qo_heap.specs.Rows.{IsLive}
use Rattle.qo_properties.proofs.SlotsLemmas.{none-live, slots-childless, slots-differ, slots-few}
use Rattle.qo_properties.proofs.adding.objects.make_child.Goals as goal

pub make_with-requires : goal.make_with-requires
make_with-requires g c =
    record {
      parent = c.requires;
      targets = none-live c.args.kind c.new.result.items c.in_ok-slots.slots c.in_ok-slots.ensures c.new.ensures.items (IsLive c.args.heap.now.rows);
      differ = slots-differ c.args.kind c.new.result.items c.in_ok-slots.slots c.in_ok-slots.ensures;
      few = slots-few c.args.kind c.new.result.items c.in_ok-slots.slots c.in_ok-slots.ensures;
      childless = slots-childless c.args.kind c.new.result.items c.in_ok-slots.slots c.in_ok-slots.ensures;
    }
