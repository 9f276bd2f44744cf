-- A line more.
use Rattle.compose.proofs.TypeLemmas.{lines_more}
use Rattle.compose.proofs.type_lines.lines_of.Goals as goal

pub loop-t-preserved : goal.loop-t-preserved
loop-t-preserved c = lines_more c.args.types.now c.loop-t.t-index _ _ _ c.loop-t-test.true c.loop-t.invariant c.in_ok-add_line.ensures
