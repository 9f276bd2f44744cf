-- The words, and then the description of the code.
use Rattle.std.proofs.Common.{◌∷◌, [], ◌++◌, codes}
use Rattle.qo_machine.proofs.SendingLemmas.{front_more}
use Rattle.qo_values.specs.Codes.{description_of}
use Rattle.compose.proofs.ComplaintLemmas.{puts_on}
use Rattle.compose.proofs.complaints.put_code.Goals as goal

pub returns-in-Err-clause-bytes : goal.returns-in-Err-clause-bytes
returns-in-Err-clause-bytes g c = front_more _ _ (codes "compose: bad board: ") (description_of c.args.code ++ 10 ∷ []) c.in-Err.ensures.bytes

pub returns-clause-bytes : goal.returns-clause-bytes
returns-clause-bytes g c =
    puts_on (codes "compose: bad board: ") _ (g.K.Sink.held c.put_all.new.sink) _ c.put_text_line.result (description_of c.args.code ++ 10 ∷ [])
    c.in_default.ensures.bytes (rw c.description.ensures at c.put_text_line.ensures.bytes)
