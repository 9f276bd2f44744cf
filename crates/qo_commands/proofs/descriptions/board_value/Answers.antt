-- What has no description is told as an object without members.
use Rattle.std.proofs.Common.{◌≡◌, Option, Some, None, refl, sym, ap, ◌∙◌}
use Rattle.std.specs.Prelude.{option_map}
use Rattle.serde_json.specs.Data.{Data}
use Rattle.serde_json.specs.View.{view}
use Rattle.serde_json.specs.declared.value.Value.{Value}
use Rattle.serde_json.proofs.Views.{view-Object}
use Rattle.serde_json.specs.View.{members_view}
use Rattle.serde_json.specs.Data.{object}
use Rattle.qo_save.specs.Described.{described}
use Rattle.qo_save.specs.Description.{Description, description_data}
use Rattle.qo_commands.specs.Commands.{empty, told_as}
use Rattle.qo_commands.proofs.descriptions.board_value.Goals as goal

told-some : (v : Data) (o : Option Description) → Some v ≡ option_map description_data o → v ≡ told_as o
told-some v None e = absurd (let clash : Some v ≡ None = e in cc)
told-some v (Some d) e = cc

told-none : (o : Option Description) → None ≡ option_map description_data o → empty ≡ told_as o
told-none None e = refl
told-none (Some d) e = absurd (let clash : None ≡ Some (description_data d) = e in cc)

pub returns-in-Some : goal.returns-in-Some
returns-in-Some g c = λ b s.
    told-some (view c.in-Some.value) (described b) (ap (option_map view) (sym c.in-Some.is) ∙ c.in_ok-value.ensures b s)

pub returns-in-None : goal.returns-in-None
returns-in-None g c = λ b s.
    view-Object c.new.result ∙ ap (λ es. object (members_view es)) c.new.ensures.empty
    ∙ told-none (described b) (ap (option_map view) (sym c.in-None.is) ∙ c.in_ok-value.ensures b s)
