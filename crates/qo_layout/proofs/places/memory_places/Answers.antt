-- The list grows slot after slot.
use Rattle.qo_layout.specs.Layout.{memory_places}
use Rattle.qo_layout.proofs.PlaceLemmas.{slots_next}
use Rattle.qo_layout.proofs.places.memory_places.Goals as goal

pub loop-slot-preserved : goal.loop-slot-preserved
loop-slot-preserved g c = λ b s is.
    slots_next (memory_places b) c.loop-slot.slot c.loop-slot.places.items c.push_dimm.new.places.items (c.loop-slot.invariant b s is)
    (c.in_ok-push_dimm.ensures b s is)
