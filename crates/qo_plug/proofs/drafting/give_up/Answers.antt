-- The pin goes, and nothing holds the device.
use Rattle.std.proofs.Common.{ap, subst, ◌∙◌}
use Rattle.qo_model.specs.Board.{Board}
use Rattle.qo_model.specs.Release.{unpin}
use Rattle.qo_heap.specs.Board.{Shows}
use Rattle.qo_plug.specs.Drafts.{given_draft}
use Rattle.qo_plug.proofs.CutLemmas.{given-up}
use Rattle.qo_properties.proofs.KeptLemmas.{goes-kept}
use Rattle.qo_plug.proofs.drafting.give_up.Goals as goal

pub returns-clause-shown : goal.returns-clause-shown
returns-clause-shown g c = λ b t props bus stage sound birth early s.
    subst (λ (d : Board). Shows d c.drop_pin.new.heap) (ap (unpin (given_draft b t props)) birth ∙ given-up b t sound props bus stage early)
    (c.drop_pin.ensures.release (given_draft b t props) s)

pub returns-clause-kept : goal.returns-clause-kept
returns-clause-kept g c = goes-kept c.args.heap.now c.drop_pin.new.heap c.drop_pin.ensures.goes
