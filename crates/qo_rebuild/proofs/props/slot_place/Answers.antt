-- The place past the last.
use Rattle.qo_rebuild.specs.Slots.{is_from_slot}
use Rattle.qo_rebuild.proofs.SlotLemmas.{place-none}
use Rattle.qo_rebuild.proofs.props.slot_place.Goals as goal

pub returns-in-None : goal.returns-in-None
returns-in-None c = place-none is_from_slot c.args.props.now c.in-None.ensures
