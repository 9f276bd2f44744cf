-- What is there of a line where a part of it failed.
use Rattle.qo_record.proofs.LineLemmas.{bytes_cut, line_cut}
use Rattle.qo_record.proofs.lines.put_line.Goals as goal

pub returns-in-Err-clause-bytes : goal.returns-in-Err-clause-bytes
returns-in-Err-clause-bytes g c = line_cut _ _ c.args.names.now c.args.lane c.args.bytes.now c.in-Err.ensures.bytes

pub returns-in-Err-put_all-clause-bytes : goal.returns-in-Err-put_all-clause-bytes
returns-in-Err-put_all-clause-bytes g c = bytes_cut _ _ _ c.args.names.now c.args.lane c.args.bytes.now c.in_default.ensures.bytes c.in-Err-put_all.ensures.bytes
