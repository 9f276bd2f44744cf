-- What is not there asks for nothing.
use Rattle.std.proofs.Common.{sym}
use Rattle.qo_layout.proofs.RegisterLemmas.{input-none}
use Rattle.qo_layout.proofs.inputs.input_at.Goals as goal

pub returns-in-None : goal.returns-in-None
returns-in-None g c = λ b s fit. sym (input-none b c.args.heap.now s c.args.object c.in-None.ensures.none)
