-- The id is that of the board.
use Rattle.std.proofs.Common.{Some, None, ◌∙◌}
use Rattle.qo_text.proofs.BusTextLemmas.{id-shown}
use Rattle.qo_text.proofs.buses.id_of.Goals as goal

pub returns-in-Some : goal.returns-in-Some
returns-in-Some g c = λ b s. c.as_str.ensures.value ∙ id-shown b c.args.heap.now s c.args.dev.birth (Some c.in-Some.id.now) c.in-Some.ensures.id

pub returns-in-None : goal.returns-in-None
returns-in-None g c = λ b s. id-shown b c.args.heap.now s c.args.dev.birth None c.in-None.ensures.id
