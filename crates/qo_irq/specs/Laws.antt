-- For a law alone. What the level of a line is.
use Rattle.std.specs.Prelude.{◌≡◌, ℕ, ◌<◌, true, List, length}
use Rattle.qo_irq.specs.Wires.{Wire, wire_at, names_below, gate_level, line_level}

-- each gate names lower lines
abbrev pub NamesLower : List Wire → Type 0
NamesLower wires = (line : ℕ) → line < length wires → names_below line (wire_at wires line) ≡ true

-- the level of each line is what its gate makes of the levels of the lines that it names
abbrev pub LawGates : Type 0
LawGates = (wires : List Wire) → NamesLower wires → (line : ℕ) → line < length wires
    → line_level wires line ≡ gate_level (line_level wires) (wire_at wires line)
