-- What is there of two parts where one of them failed.
use Rattle.qo_record.proofs.LineLemmas.{first_cut, second_cut}
use Rattle.qo_record.proofs.lines.put_both.Goals as goal

pub returns-in-Err-clause-bytes : goal.returns-in-Err-clause-bytes
returns-in-Err-clause-bytes g c = first_cut _ _ c.args.first.now c.args.second.now c.in-Err.ensures.bytes

pub returns-in-Err-put_all-clause-bytes : goal.returns-in-Err-put_all-clause-bytes
returns-in-Err-put_all-clause-bytes g c =
    second_cut _ _ _ c.args.first.now c.args.second.now c.in_default.ensures.bytes c.in-Err-put_all.ensures.bytes
