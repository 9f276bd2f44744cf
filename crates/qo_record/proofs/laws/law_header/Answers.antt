use Rattle.qo_record.proofs.RecordLemmas.{header_is_needed}
use Rattle.qo_record.proofs.laws.law_header.Goals as goal

pub returns : goal.returns
returns c = header_is_needed
