-- A name is not long.
use Rattle.std.proofs.Common.{sym, ◌∙◌}
use Rattle.qo_record.proofs.ReadingLemmas.{name_is}
use Rattle.qo_record.proofs.names.name_until.Goals as goal

pub returns-then-is_name-clause-few : goal.returns-then-is_name-clause-few
returns-then-is_name-clause-few c = (name_is c.in_ok-name.name.now (sym c.is_name.ensures ∙ c.if-is_name.true)).few
