-- The paths are those of the objects.
use Rattle.std.proofs.Common.{◌∙◌, List, ℕ, [], ◌∷◌}
use Rattle.std.proofs.lemmas.Result.{IfOk-weaker}
use Rattle.serde_json.specs.Data.{string}
use Rattle.qo_save.specs.Description.{link_names, named}
use Rattle.qo_describe.proofs.WalkLemmas.{same-two}
use Rattle.qo_describe.proofs.links.link_value.Goals as goal

pub returns : goal.returns
returns g c = λ b s.
    IfOk-weaker c.link_json.result _ _
    (λ v is. is
    ∙ same-two (λ (path value : List ℕ). named link_names (string path ∷ string c.args.name.now ∷ string value ∷ [])) _ _ _ _
    (c.as_str.ensures.value ∙ c.in_ok-path.ensures b s) (c.as_str-2.ensures.value ∙ c.in_ok-value.ensures b s))
    c.link_json.ensures
