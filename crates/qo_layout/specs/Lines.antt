-- The interrupt lines of a board (hw/core/irq.c; which device asks for attention is the profile's).
use Rattle.std.specs.Prelude.{ℕ, ◌^◌, Bool, false, ◌&&◌, not, if◌then◌else◌}
use Rattle.std.specs.List.{list_any, range_with_len, sum_by}
use Rattle.std.specs.Option.{option_map_or}
use Rattle.qo_values.specs.Registers.{Registers, uart, timer, dimm, bridge, bare}
use Rattle.qo_values.specs.declared.births.TheConstants.{ROOT_BUS_BIRTH}
use Rattle.qo_values.specs.declared.limits.TheConstants.{BUS_SLOTS}
use Rattle.qo_model.specs.Board.{Board}
use Rattle.qo_model.specs.Depth.{by_objects}
use Rattle.qo_model.specs.Devices.{kid_at}
use Rattle.qo_model.specs.Paths.{births}
use Rattle.qo_model.specs.Reset.{below}
use Rattle.qo_layout.specs.Registers.{is_hidden, registers_at, timer_asks, uart_asks}

-- the line of an object by its registers, where `high` says those of all that is below it: below a bus are the devices on it, and below a bridge its bus
abbrev pub line_by : Board → (ℕ → Bool) → ℕ → Registers → Bool
line_by b high o (uart u) = uart_asks b o
line_by b high o (timer t) = timer_asks b o
line_by b high o (dimm d) = false
line_by b high o (bridge r) = list_any high (below b o) && not (is_hidden b o)
line_by b high o bare = list_any high (below b o)

abbrev pub line_turn : Board → (ℕ → Bool) → ℕ → Bool
line_turn b high o = line_by b high o (registers_at b o)

unfoldable pub line : Board → ℕ → Bool
line b o = by_objects (line_turn b) (λ _. false) (births b) o

-- the line of the device in a slot of the root bus; low where none is there
abbrev pub slot_line : Board → ℕ → Bool
slot_line b slot = option_map_or (line b) (kid_at b ROOT_BUS_BIRTH slot) false

-- a number in which the bit of each slot is the line of its device
abbrev pub slot_bit : (ℕ → Bool) → ℕ → ℕ
slot_bit high slot = if high slot then 2 ^ slot else 0

abbrev pub irq_of : Board → ℕ
irq_of b = sum_by (slot_bit (slot_line b)) (range_with_len 0 BUS_SLOTS)
