-- The bus, the type, the properties and the slot are those of the device.
use Rattle.std.proofs.Common.{◌∙◌, List, ℕ, [], ◌∷◌}
use Rattle.std.proofs.lemmas.Result.{IfOk-weaker}
use Rattle.serde_json.specs.Data.{Data, string}
use Rattle.serde_json.specs.View.{view}
use Rattle.qo_save.specs.Description.{device_names, named, whole}
use Rattle.qo_describe.proofs.WalkLemmas.{same-four}
use Rattle.qo_describe.proofs.ItemLemmas.{device-by}
use Rattle.qo_describe.proofs.devices.device_value.Goals as goal

pub returns : goal.returns
returns g c = λ b s.
    IfOk-weaker c.device_json.result _ _
    (λ v is. device-by b c.args.heap.now s (c.args.id.now, c.args.dev.birth) c.kind.result (view v) c.kind.ensures.kind (is
    ∙ same-four (λ (bus driver : List ℕ) (props : Data) (slot : ℕ).
    named device_names (string bus ∷ string driver ∷ string c.args.id.now ∷ props ∷ whole slot ∷ [])) _ _ _ _ _ _ _ _
    (c.as_str.ensures.value ∙ c.in_ok-bus.ensures b s) c.name-driver.ensures (c.in_ok-props.ensures b s) (c.slot_of-slot.ensures b s)))
    c.device_json.ensures
