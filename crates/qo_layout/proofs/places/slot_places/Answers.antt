-- The list grows slot after slot.
use Rattle.qo_layout.specs.Layout.{slot_places}
use Rattle.qo_layout.proofs.PlaceLemmas.{slots_next}
use Rattle.qo_layout.proofs.places.slot_places.Goals as goal

pub loop-slot-preserved : goal.loop-slot-preserved
loop-slot-preserved g c = λ b s is.
    slots_next (slot_places b c.args.bus.birth c.args.size) c.loop-slot.slot c.loop-slot.places.items c.push_slot.new.places.items
    (c.loop-slot.invariant b s is) (c.in_ok-push_slot.ensures b s is)
