use Rattle.qo_record.proofs.RecordLemmas.{streams_are_longest}
use Rattle.qo_record.proofs.laws.law_streams.Goals as goal

pub returns : goal.returns
returns c = streams_are_longest
