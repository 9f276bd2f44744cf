-- What is left after the header follows it.
use Rattle.qo_record.proofs.NameLemmas.{begins_yes}
use Rattle.qo_record.proofs.readers.begins.Goals as goal

pub returns-clause-yes : goal.returns-clause-yes
returns-clause-yes c =
    begins_yes c.args.version c.args.bytes.now c.header_of.result.now c.after_front.result c.is_some.result c.header_of.ensures c.after_front.ensures
    c.is_some.ensures
