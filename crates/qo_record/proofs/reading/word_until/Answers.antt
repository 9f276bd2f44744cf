-- The byte that ends the word is the first such byte.
use Rattle.std.proofs.Common.{sym}
use Rattle.std.proofs.lemmas.List.{take_rest}
use Rattle.qo_record.proofs.ReadingLemmas.{place_found}
use Rattle.qo_record.proofs.reading.word_until.Goals as goal

pub returns : goal.returns
returns c = rw take_rest (sym (place_found c.args.stop c.args.bytes.now c.in_ok-at.at (sym c.in_ok-at.ensures)).1)
