-- What the board tells is told.
use Rattle.std.proofs.Common.{◌∙◌, ap, map, List}
use Rattle.serde_json.specs.Data.{Data, array}
use Rattle.serde_json.specs.View.{items_of}
use Rattle.qo_model.specs.declared.detached.Detached.{Detached}
use Rattle.qo_commands.specs.Commands.{detached_data, returned}
use Rattle.serde_json.specs.Written.{has_float}
use Rattle.qo_commands.proofs.CommandLemmas.{detached_no_float}
use Rattle.qo_commands.proofs.detached.query_detached.Goals as goal

pub returned_value-requires : goal.returned_value-requires
returned_value-requires g c = ap has_float c.in_ok-value.ensures ∙ detached_no_float c.deref.result.now

pub returns : goal.returns
returns g c = λ b s.
    c.returned_value.ensures b
    ∙ ap (λ (d : Data). returned b d)
    (c.in_ok-value.ensures ∙ ap (λ (l : List Detached). array (items_of (map detached_data l))) (c.deref.ensures.value ∙ c.in_ok-objects.ensures b s))
