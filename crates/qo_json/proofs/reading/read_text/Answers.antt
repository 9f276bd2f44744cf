use Rattle.std.proofs.Common.{◌≡◌, [], rules}
use Rattle.json.specs.Json.{value}
use Rattle.json.specs.Lex.{tokens}
use Rattle.qo_json.proofs.OrderLemmas.{read_ordered}
use Rattle.qo_json.proofs.TurnLemmas.{whole_read}
use Rattle.qo_json.proofs.reading.read_text.Goals as goal

pub returns-clause-ordered : goal.returns-clause-ordered
returns-clause-ordered c =
    let none : c.read.new.reader ≡ [] = search rules in
    let whole = rw (c.in_ok-reader.ensures.ok, none) at c.in_ok-value.ensures.ok in
    read_ordered c.args.text.now _ (whole_read (value 127 (tokens c.args.text.now)) _ whole)
