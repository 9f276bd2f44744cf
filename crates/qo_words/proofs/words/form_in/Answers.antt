-- Words of which the first begins no order.
use Rattle.std.proofs.Common.{ap, sym, ◌∙◌, map, string_bytes}
use Rattle.qo_words.specs.Words.{order}
use Rattle.qo_words.proofs.WordLemmas.{begins-none}
use Rattle.qo_words.proofs.words.form_in.Goals as goal

pub returns-in_default : goal.returns-in_default
returns-in_default c =
    let is = c.as_str.ensures.value in
    sym (ap (λ words. order (map string_bytes words)) c.in_ok-word.ensures.cases.0
    ∙ begins-none (string_bytes c.in_ok-word.word.now) (map string_bytes c.in_ok-word.rest.now) (λ e. c.in_default.not-replay (is ∙ e))
    (λ e. c.in_default.not-rebuild (is ∙ e)) (λ e. c.in_default.not-types (is ∙ e)) (λ e. c.in_default.not-watch (is ∙ e))
    (λ e. c.in_default.not-serve (is ∙ e)) (λ e. c.in_default.not-demo (is ∙ e)))
