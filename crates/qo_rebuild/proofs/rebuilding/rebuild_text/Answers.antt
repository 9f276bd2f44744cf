-- The text is a description, or it is none.
use Rattle.std.proofs.Common.{◌≡◌, ap, ◌∙◌, Err}
use Rattle.std.proofs.lemmas.Result.{err_from_is_err_and}
use Rattle.qo_shape.specs.Said.{said}
use Rattle.qo_shape.specs.Texts.{description_of_text}
use Rattle.qo_rebuild.proofs.AnswerLemmas.{read-rebuilds, unread-rebuilds}
use Rattle.qo_rebuild.proofs.rebuilding.rebuild_text.Goals as goal

pub returns-in_err-description : goal.returns-in_err-description
returns-in_err-description g c =
    let p = err_from_is_err_and c.from_residual.result c.from_residual.ensures.1 in
    unread-rebuilds c.in_err-description.field-0.0 c.from_residual.result (description_of_text c.args.text.now) (p.1 ∙ ap Err p.2) c.in_err-description.ensures

pub returns : goal.returns
returns g c =
    read-rebuilds (said c.in_ok-description.description) (description_of_text c.args.text.now) c.rebuild.result c.in_ok-description.ensures c.rebuild.ensures
