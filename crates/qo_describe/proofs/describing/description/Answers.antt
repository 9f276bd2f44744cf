-- Each part is told.
use Rattle.std.proofs.Common.{◌∙◌}
use Rattle.std.proofs.lemmas.Result.{IfOk-weaker}
use Rattle.serde_json.specs.View.{view}
use Rattle.qo_describe.proofs.PartLemmas.{whole-said}
use Rattle.qo_describe.proofs.describing.description.Goals as goal

pub returns : goal.returns
returns g c = λ b s rings.
    IfOk-weaker c.description_json.result _ _
    (λ v is. is
    ∙ whole-said b c.args.rings.now (view c.in_ok-clock.clock) (view c.in_ok-clocks.clocks) (view c.in_ok-devices.devices) (view c.in_ok-links.links)
    (view c.in_ok-objects.objects) (view c.in_ok-rings.rings) (c.in_ok-clock.ensures b s) (c.in_ok-clocks.ensures b s) (c.in_ok-devices.ensures b s)
    (c.in_ok-links.ensures b s) (c.in_ok-objects.ensures b s) c.in_ok-rings.ensures rings)
    c.description_json.ensures
