use Rattle.qo_record.proofs.DemoLemmas.{demos_are_read, first_draw}
use Rattle.qo_record.proofs.laws.law_demos.Goals as goal

pub returns-clause-read : goal.returns-clause-read
returns-clause-read c = demos_are_read

pub returns-clause-first : goal.returns-clause-first
returns-clause-first c = first_draw
