-- Lines that are added to a net.
use Rattle.std.proofs.Common.{◌≡◌, refl, sym, ◌∙◌, ◌<◌, true, false, List, length, Err, arith}
use Rattle.qo_irq.specs.Answers.{Added}
use Rattle.qo_irq.specs.Wires.{Wire, names_below}
use Rattle.qo_irq.specs.declared.errors.NetError.{NetError}
use Rattle.qo_irq.specs.declared.errors.NetError.TheVariants.{BadRef, Full, Memory}
use Rattle.qo_irq.specs.declared.net.TheConstants.{MAX_LINES}

-- where there is room, and the lines that are named are there, no error but want of memory comes
pub added_memory : (old new : List Wire) (wire : Wire) (e : NetError) → Added old new wire (Err e) → names_below (length old) wire ≡ true
    → length old < MAX_LINES → e ≡ Memory
added_memory old new wire BadRef a below room = absurd (let clash : false ≡ true = sym a.0 ∙ below in cc)
added_memory old new wire Full a below room = absurd (let full = a.1 in omega arith)
added_memory old new wire Memory a below room = refl
