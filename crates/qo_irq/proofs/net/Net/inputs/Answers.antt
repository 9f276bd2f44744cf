use Rattle.std.proofs.Common.{sym, ◌∙◌}
use Rattle.qo_irq.proofs.WiresLemmas.{inputs-counted}
use Rattle.qo_irq.proofs.net.Net.inputs.Goals as goal

pub returns : goal.returns
returns c = rw (← c.self.view_is) (c.self.invariant.counted ∙ sym (inputs-counted c.self.inside.gates.items c.self.inside.levels.items))
