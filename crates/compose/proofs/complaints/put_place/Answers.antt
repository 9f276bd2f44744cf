-- The words, and then the number.
use Rattle.std.proofs.Common.{◌∷◌, [], ◌++◌, decimal}
use Rattle.compose.proofs.ComplaintLemmas.{puts_after, words_cut}
use Rattle.compose.proofs.complaints.put_place.Goals as goal

pub returns-in-Err-clause-bytes : goal.returns-in-Err-clause-bytes
returns-in-Err-clause-bytes g c = words_cut _ _ (decimal c.args.place ++ 10 ∷ []) c.in-Err.ensures.bytes

pub returns-clause-bytes : goal.returns-clause-bytes
returns-clause-bytes g c =
    puts_after _ (g.K.Sink.held c.put_all.new.sink) _ c.put_number.result
    (decimal c.args.place ++ 10 ∷ []) c.in_default.ensures.bytes c.put_number.ensures.bytes
