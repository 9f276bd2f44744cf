use Rattle.qo_record.proofs.EntryLemmas.{entries_are_spelled}
use Rattle.qo_record.proofs.laws.law_entries.Goals as goal

pub returns : goal.returns
returns c = entries_are_spelled
