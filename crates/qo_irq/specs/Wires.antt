-- Interrupt lines, as QEMU's board code joins them by input lines, OR gates and splitters (hw/core: or-irq, split-irq).
use Rattle.std.specs.Prelude.{ℕ, zero, suc, Bool, true, false, not, ◌&&◌, nat_lt, List, slice_index_or}
use Rattle.std.specs.List.{list_any, list_all}
use Rattle.qo_irq.specs.declared.gate.Gate.{Gate}
use Rattle.qo_irq.specs.declared.gate.Gate.TheVariants.{Input, Or, Copy, Off}

-- what drives a line: an input is what was last set, a gate names other lines
pub data Wire : Type 0 where
  input : (high : Bool) → Wire
  or : (lines : List ℕ) → Wire
  copy : (line : ℕ) → Wire
  off : (line by : ℕ) → Wire

-- a gate that was added, and what was last set where it is an input
abbrev pub wire_of : Gate → Bool → Wire
wire_of Input high = input high
wire_of (Or lines) high = or lines.items
wire_of (Copy line) high = copy line
wire_of (Off line by) high = off line by

abbrev pub is_input : Wire → Bool
is_input (input high) = true
is_input _ = false

-- what drives the line of a number
abbrev pub wire_at : List Wire → ℕ → Wire
wire_at wires line = slice_index_or wires line (input false)

-- each line that it names is below a number
abbrev pub names_below : ℕ → Wire → Bool
names_below n (input high) = true
names_below n (or lines) = list_all (λ line. nat_lt line n) lines
names_below n (copy line) = nat_lt line n
names_below n (off line by) = nat_lt line n && nat_lt by n

-- the level of a line, by the levels of the lines that it names: a gate of several is high where one of them is; a
-- copy where its line is; an off gate where its first line is high and its second is low
abbrev pub gate_level : (ℕ → Bool) → Wire → Bool
gate_level at (input high) = high
gate_level at (or lines) = list_any at lines
gate_level at (copy line) = at line
gate_level at (off line by) = at line && not (at by)

-- the same through so many gates, one behind the other
unfoldable pub level_within : ℕ → List Wire → ℕ → Bool
level_within zero wires line = false
level_within (suc gates) wires line = gate_level (level_within gates wires) (wire_at wires line)

-- the level of a line: each gate names lower lines, so no more gates than its number and one stand one behind the other
abbrev pub line_level : List Wire → ℕ → Bool
line_level wires line = level_within (suc line) wires line

-- a level of a list of levels
abbrev pub level_at : List Bool → ℕ → Bool
level_at levels line = slice_index_or levels line false
