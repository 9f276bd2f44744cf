-- The device is put at the end.
use Rattle.std.proofs.Common.{◌++◌, ◌∙◌, List, refl, ap, map}
use Rattle.serde_json.specs.Data.{Data}
use Rattle.serde_json.specs.View.{view}
use Rattle.qo_describe.proofs.ItemLemmas.{device-told}
use Rattle.qo_describe.proofs.ValueLemmas.{pushed}
use Rattle.qo_describe.proofs.devices.push_device.Goals as goal

pub returns : goal.returns
returns g c = λ b s.
    pushed c.args.values.now.items c.push.new.self.items c.in_ok-device_value.field-0 _ c.in_ok-push.ensures.items refl
    ∙ ap (λ (l : List Data). map view c.args.values.now.items ++ l)
    (device-told b (c.args.id.now, c.args.dev.birth) (view c.in_ok-device_value.field-0) (c.in_ok-device_value.ensures b s))
