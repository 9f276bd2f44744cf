use Rattle.qo_record.proofs.RecordLemmas.{inputs_are_few}
use Rattle.qo_record.proofs.laws.law_inputs.Goals as goal

pub returns : goal.returns
returns c = inputs_are_few
