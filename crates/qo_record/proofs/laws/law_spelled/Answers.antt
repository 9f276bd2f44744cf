use Rattle.qo_record.proofs.RecordLemmas.{spelled_streams_are_read}
use Rattle.qo_record.proofs.laws.law_spelled.Goals as goal

pub returns : goal.returns
returns c = spelled_streams_are_read
