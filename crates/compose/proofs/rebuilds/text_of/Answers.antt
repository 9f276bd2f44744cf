-- The text of the value, and the end of the line.
use Rattle.std.proofs.Common.{◌≡◌, ◌++◌, ◌∙◌, List, ℕ, [], ◌∷◌, false, ap}
use Rattle.serde_json.specs.Written.{has_float}
use Rattle.qo_json.specs.View.{view}
use Rattle.qo_replies.specs.Json.{json}
use Rattle.qo_save.specs.Described.{described}
use Rattle.qo_commands.specs.Commands.{told_as}
use Rattle.qo_commands.proofs.CommandLemmas.{described_no_float}
use Rattle.compose.proofs.rebuilds.text_of.Goals as goal

pub returns : goal.returns
unfolding lib.Utf8.encode
returns g c = λ b s.
    let told = c.in_ok-of.ensures ∙ c.in_ok-value.ensures b s in
    let plain : has_float (view c.in_ok-of.field-0) ≡ false = ap has_float told ∙ described_no_float (described b) in
    let text : c.in_ok-text.text ≡ json (told_as (described b)) = c.in_ok-text.ensures plain ∙ ap json told in
    c.from_string.ensures ∙ c.in_ok-push.ensures.bytes ∙ ap (λ (l : List ℕ). l ++ 10 ∷ []) (c.in_ok-line.ensures.ok ∙ c.as_str.ensures ∙ text)
