-- The device of the body is that of the board.
use Rattle.std.proofs.Common.{◌∙◌, ap, sym}
use Rattle.qo_layout.specs.Rows.{wiring}
use Rattle.qo_layout.proofs.RegisterLemmas.{registers-shown}
use Rattle.qo_layout.proofs.registers.wiring.Goals as goal

pub returns : goal.returns
returns g c = λ b s. c.wiring_of.ensures ∙ ap wiring (sym (registers-shown b c.args.heap.now s c.args.o.birth c.body.result.now c.body.ensures.body))
