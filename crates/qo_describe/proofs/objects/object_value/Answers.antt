-- The properties and the type are those of the object.
use Rattle.std.proofs.Common.{◌∙◌, List, ℕ, [], ◌∷◌}
use Rattle.std.proofs.lemmas.Result.{IfOk-weaker}
use Rattle.serde_json.specs.Data.{Data, string}
use Rattle.serde_json.specs.View.{view}
use Rattle.qo_save.specs.Description.{named, object_names}
use Rattle.qo_describe.proofs.WalkLemmas.{same-two}
use Rattle.qo_describe.proofs.ItemLemmas.{object-by}
use Rattle.qo_describe.proofs.objects.object_value.Goals as goal

pub returns : goal.returns
returns g c = λ b s.
    IfOk-weaker c.object_json.result _ _
    (λ v is. object-by b c.args.heap.now s (c.args.id.now, c.args.o.birth) c.kind.result (view v) c.kind.ensures.kind (is
    ∙ same-two (λ (props : Data) (kind : List ℕ). named object_names (string c.args.id.now ∷ props ∷ string kind ∷ [])) _ _ _ _
    (c.in_ok-props.ensures b s) c.name-kind.ensures))
    c.object_json.ensures
