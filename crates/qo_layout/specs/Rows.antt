-- How the lines of a board stand in a net.
use Rattle.std.specs.Prelude.{◌≡◌, ℕ, ◌<◌, ◌≤◌, Bool, true, false, List, [], ◌∷◌, map, length, slice_index_or, Option, None, Some, IfSome, ⊤}
use Rattle.qo_values.specs.Registers.{Registers, uart, timer, bridge, bare}
use Rattle.qo_values.specs.declared.births.TheConstants.{ROOT_BUS_BIRTH}
use Rattle.qo_values.specs.declared.limits.TheConstants.{BUS_SLOTS}
use Rattle.qo_irq.specs.Laws.{NamesLower}
use Rattle.qo_irq.specs.Wires.{Wire, input, or, off, is_input, wire_at, line_level}
use Rattle.qo_model.specs.Board.{Board}
use Rattle.qo_model.specs.Devices.{kid_at}
use Rattle.qo_model.specs.Reset.{below}
use Rattle.qo_layout.specs.Layout.{mapped}
use Rattle.qo_layout.specs.declared.wiring.Row.{Row}
use Rattle.qo_layout.specs.declared.wiring.Wiring.{Wiring}
use Rattle.qo_layout.specs.declared.wiring.Wiring.TheVariants.{Own, Masked, Joined}
use Rattle.qo_layout.specs.Registers.{is_hidden, registers_at, timer_asks, uart_asks}

-- Rows.

-- a row of a list
abbrev pub row_at : List Row → ℕ → Row
row_at rows i = slice_index_or rows i (record { object = 0; input = None; line = 0 })

-- a line stands for an object
pub record HasRow (rows : List Row) (o line : ℕ) : Type 0 where
  pub place : ℕ
  pub within : place < length rows
  pub object : (row_at rows place).object ≡ o
  pub line_is : (row_at rows place).line ≡ line

-- lines stand for objects, in order
abbrev pub AreLines : List Row → List ℕ → List ℕ → Type 0
AreLines rows [] [] = ⊤
AreLines rows (o ∷ os) (line ∷ lines) = HasRow rows o line × AreLines rows os lines
AreLines rows os lines = ⊥

-- the objects of rows, in order
abbrev pub objects_of : List Row → List ℕ
objects_of rows = map (λ (row : Row). row.object) rows

-- rows stand in a net: each gate names lower lines, the input of a row is one, and it comes after the lines of all rows before
pub record AreRows (rows : List Row) (wires : List Wire) : Type 0 where
  pub lower : NamesLower wires
  pub within : (i : ℕ) → i < length rows → (row_at rows i).line < length wires
  pub settable : (i : ℕ) → i < length rows → IfSome (row_at rows i).input (λ x. (x ≤ (row_at rows i).line) × (is_input (wire_at wires x) ≡ true))
  pub rising : (i j : ℕ) → i < j → j < length rows → IfSome (row_at rows j).input (λ x. (row_at rows i).line < x)

-- Wires.

-- how the line of an object is driven, by its registers: by an input of its own; by all that is below it, unless an input hides them; or by all that is below
-- it
abbrev pub wiring : Registers → Wiring
wiring (bridge r) = Masked
wiring bare = Joined
wiring r = Own

-- a line is high where one of those of all that is below an object is
pub record IsJoin (b : Board) (rows : List Row) (wires : List Wire) (o line : ℕ) : Type 0 where
  pub lines : List ℕ
  pub wire : wire_at wires line ≡ or lines
  pub below_it : AreLines rows (below b o) lines

-- so it is, unless an input is high
pub record IsMasked (b : Board) (rows : List Row) (wires : List Wire) (row : Row) : Type 0 where
  pub join : ℕ
  pub mask : ℕ
  pub wire : wire_at wires row.line ≡ off join mask
  pub input_is : row.input ≡ Some mask
  pub joins : IsJoin b rows wires row.object join

-- the line of a row is driven so
abbrev pub IsDriven : Wiring → Board → List Row → List Wire → Row → Type 0
IsDriven Own b rows wires row = row.input ≡ Some row.line
IsDriven Masked b rows wires row = IsMasked b rows wires row
IsDriven Joined b rows wires row = (row.input ≡ None) × IsJoin b rows wires row.object row.line

abbrev pub AreWired : Board → List Row → List Wire → Type 0
AreWired b rows wires =
    (i : ℕ) → i < length rows → IsDriven (wiring (registers_at b (row_at rows i).object)) b rows wires (row_at rows i)

-- Inputs.

-- what the input of an object is set to, by its registers
abbrev pub input_by : Board → ℕ → Registers → Bool
input_by b o (uart u) = uart_asks b o
input_by b o (timer t) = timer_asks b o
input_by b o (bridge r) = is_hidden b o
input_by b o r = false

abbrev pub input_of : Board → ℕ → Bool
input_of b o = input_by b o (registers_at b o)

-- so it is in a net
abbrev pub IsSet : Board → List Wire → Row → Type 0
IsSet b wires row = IfSome row.input (λ x. wire_at wires x ≡ input (input_of b row.object))

abbrev pub AreSet : Board → List Row → List Wire → Type 0
AreSet b rows wires = (i : ℕ) → i < length rows → IsSet b wires (row_at rows i)

-- Slots.

-- the line that is kept for a slot
abbrev pub kept_line : List (Option ℕ) → ℕ → Option ℕ
kept_line slots n = slice_index_or slots n None

-- it is that of the device there
abbrev pub IsSlotLine : List Row → Option ℕ → Option ℕ → Type 0
IsSlotLine rows None None = ⊤
IsSlotLine rows (Some d) (Some line) = HasRow rows d line
IsSlotLine rows d line = ⊥

-- so it is for the first slots of the root bus
abbrev pub AreSlots : Board → List Row → ℕ → List (Option ℕ) → Type 0
AreSlots b rows count slots = (n : ℕ) → n < count → IsSlotLine rows (kid_at b ROOT_BUS_BIRTH n) (kept_line slots n)

-- the lines of slots are there
abbrev pub AreThere : List (Option ℕ) → List Wire → Type 0
AreThere slots wires = (n : ℕ) → IfSome (kept_line slots n) (λ line. line < length wires)

abbrev pub slot_level : List Wire → List (Option ℕ) → ℕ → Bool
slot_level wires slots n = elim (kept_line slots n) [ None ↦ false | Some line ↦ line_level wires line ]

-- Lines of a board.

-- a net, the rows of the objects whose lines are in it, and the line of each slot of the root bus
pub record Wired : Type 0 where
  pub wires : List Wire
  pub rows : List Row
  pub slots : List (Option ℕ)

-- they are made for the objects of a board
pub record AreShaped (b : Board) (l : Wired) : Type 0 where
  pub objects : objects_of l.rows ≡ mapped b
  pub rows : AreRows l.rows l.wires
  pub wired : AreWired b l.rows l.wires
  pub slots : AreSlots b l.rows BUS_SLOTS l.slots

-- and each input holds what it should
pub record LinesAre (b : Board) (l : Wired) : Type 0 where
  pub shaped : AreShaped b l
  pub set : AreSet b l.rows l.wires
