-- The line of a status that is told by no code.
use Rattle.compose.proofs.ComplaintLemmas.{other_line}
use Rattle.compose.proofs.complaints.put_board_line.Goals as goal

pub returns-in_default-clause-bytes : goal.returns-in_default-clause-bytes
returns-in_default-clause-bytes g c = rw (other_line c.args.status c.args.code c.in_default.not-BadBoard) c.put_line-in_default.ensures.bytes
