-- The board is rebuilt, and its text is made.
use Rattle.std.proofs.Common.{◌≡◌, Err, rules}
use Rattle.qo_rebuild.specs.Texts.{rebuilt_of_text}
use Rattle.compose.proofs.RebuildLemmas.{tells-none}
use Rattle.compose.proofs.rebuilds.line_counting.Goals as goal

pub returns-in_err-board : goal.returns-in_err-board
returns-in_err-board g c =
    let is : c.from_residual.result ≡ Err c.in_err-board.field-0.0 = search rules in
    rw is (tells-none (rebuilt_of_text c.args.text.now) c.in_err-board.field-0.0 c.in_err-board.ensures)

pub returns : goal.returns
returns g c =
    let was = c.in_ok-board.ensures in
    (was.0, was.1, c.in_ok-text_of.ensures was.0 was.2)
