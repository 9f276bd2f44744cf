use Rattle.std.proofs.Common.{◌∙◌, ap}
use Rattle.qo_object.specs.declared.room.Side.{Side}
use Rattle.qo_object.specs.Content.{with_side}
use Rattle.qo_heap.specs.Objects.{with_edit}
use Rattle.qo_reset.specs.Turns.{tallied}
use Rattle.qo_reset.proofs.CountLemmas.{sided-as}
use Rattle.qo_reset.proofs.turns.tally_one.Goals as goal

pub returns : goal.returns
returns g c =
    c.set_side.ensures.now
    ∙ ap (λ (s : Side). with_edit c.args.o.birth (with_side s) c.args.heap.now) c.tallied.ensures
    ∙ sided-as c.args.heap.now c.reveal_invariant.ensures c.args.o.birth (tallied c.args.tally) c.side-side.result c.side-side.ensures.side
