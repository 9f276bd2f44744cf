-- What adding a line answers.
use Rattle.std.specs.Prelude.{◌≡◌, ◌<◌, ◌≤◌, ℕ, true, false, List, [], ◌∷◌, ◌++◌, length}
use Rattle.std.specs.declared.result.Result.{Result}
use Rattle.std.specs.declared.result.Result.TheVariants.{Ok, Err}
use Rattle.qo_irq.specs.declared.net.TheConstants.{MAX_LINES}
use Rattle.qo_irq.specs.declared.errors.NetError.{NetError}
use Rattle.qo_irq.specs.declared.errors.NetError.TheVariants.{BadRef, Full, Memory}
use Rattle.qo_irq.specs.Wires.{Wire, names_below}

-- the line's number, and it is the last; or nothing has changed, exactly where the gate names a line that is not there,
-- else where there are as many lines as there may be, or memory ran out
abbrev pub Added : List Wire → List Wire → Wire → Result ℕ NetError → Type 0
Added old new wire (Ok line) = (names_below (length old) wire ≡ true) × (length old < MAX_LINES) × (line ≡ length old) × (new ≡ old ++ wire ∷ [])
Added old new wire (Err BadRef) = (names_below (length old) wire ≡ false) × (new ≡ old)
Added old new wire (Err Full) = (names_below (length old) wire ≡ true) × (MAX_LINES ≤ length old) × (new ≡ old)
Added old new wire (Err Memory) = (names_below (length old) wire ≡ true) × (length old < MAX_LINES) × (new ≡ old)
