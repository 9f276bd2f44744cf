-- The opening board, and the calls on it.
use Rattle.std.proofs.Common.{◌≡◌, ap, Some, ◌∙◌, rules, Err}
use Rattle.std.proofs.lemmas.Result.{err_from_is_err_and}
use Rattle.qo_model.specs.Opening.{opening_board}
use Rattle.qo_save.specs.Rebuilding.{all_done, rebuilt, steps_of}
use Rattle.qo_shape.specs.Said.{said}
use Rattle.qo_rebuild.proofs.AnswerLemmas.{refused-rebuilds}
use Rattle.qo_rebuild.proofs.rebuilding.rebuild.Goals as goal

pub returns-in_err-restore : goal.returns-in_err-restore
unfolding rebuilt
returns-in_err-restore g c =
    let p = err_from_is_err_and c.from_residual-in_err-restore.result c.from_residual-in_err-restore.ensures.1 in
    refused-rebuilds c.restore.new.board c.in_err-restore.field-0.0 c.from_residual-in_err-restore.result
    (all_done (steps_of (said c.args.description.now)) opening_board) (p.1 ∙ ap Err p.2) (c.in_err-restore.ensures opening_board c.in_ok-board.ensures)

pub returns : goal.returns
unfolding rebuilt
returns g c =
    let was = c.in_ok-restore.ensures opening_board c.in_ok-board.ensures in
    (was.0, ap Some was.1, was.2)
