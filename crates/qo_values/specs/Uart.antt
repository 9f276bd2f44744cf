-- A UART's registers as a guest reads and writes them, and its reset phases (a device of the profile; phases:
-- docs/devel/reset.rst, "Multi-phase mechanism").
use Rattle.std.specs.Prelude.{ℕ, ◌+◌, ◌%◌, Bool, true, false, ◌&&◌, ◌||◌, ◌==◌, if◌then◌else◌, Option, Some, None}
use Rattle.qo_values.specs.Counts.{count_up}

-- a UART; holds counts the hold phases since the birth
pub record UartRegisters : Type 0 where
  pub ready : Bool
  pub divisor : ℕ
  pub scratch : ℕ
  pub sent : ℕ
  pub holds : ℕ

-- a UART at birth
abbrev pub fresh_uart : UartRegisters
fresh_uart = record { ready = false; divisor = 1; scratch = 0; sent = 0; holds = 0 }

-- STATUS: 1 for a claimed ring, 2 for a clock that runs, 4 for ready, added up
abbrev pub uart_status : UartRegisters → Bool → ℕ → ℕ
uart_status u ring period =
    (if ring then 1 else 0) + (if period == 0 then 0 else 2) + (if u.ready then 4 else 0)

-- what a register reads, or none where it is absent: 0 DATA, 1 DIVISOR, 2 STATUS, 3 SCRATCH, 4 SENT, 5 HOLDS
abbrev pub uart_read : UartRegisters → ℕ → Bool → ℕ → Option ℕ
uart_read u reg ring period =
    if reg == 0 then Some 0
    else if reg == 1 then Some u.divisor
    else if reg == 2 then Some (uart_status u ring period)
    else if reg == 3 then Some u.scratch
    else if reg == 4 then Some u.sent
    else if reg == 5 then Some u.holds
    else None

-- a write to DATA: where ready and a ring is claimed, the low byte goes out and SENT rises; else nothing
abbrev pub uart_send : UartRegisters → ℕ → Bool → UartRegisters × Option ℕ
uart_send u value ring =
    if u.ready && ring then (record u { sent = count_up u.sent }, Some (value % 256)) else (u, None)

-- a write: the registers afterwards and the byte that goes to the ring, or none where the register is absent;
-- STATUS, SENT and HOLDS stay as they are
abbrev pub uart_write : UartRegisters → ℕ → ℕ → Bool → Option (UartRegisters × Option ℕ)
uart_write u reg value ring =
    if reg == 0 then Some (uart_send u value ring)
    else if reg == 1 then Some (record u { divisor = value }, None)
    else if reg == 3 then Some (record u { scratch = value }, None)
    else if reg == 2 || reg == 4 || reg == 5 then Some (u, None)
    else None

-- Enter: as at birth, but for HOLDS
abbrev pub uart_enter : UartRegisters → UartRegisters
uart_enter u = record fresh_uart { holds = u.holds }

-- Wake: Enter, but DIVISOR stays
abbrev pub uart_wake : UartRegisters → UartRegisters
uart_wake u = record (uart_enter u) { divisor = u.divisor }

-- Hold: HOLDS counts it
abbrev pub uart_hold : UartRegisters → UartRegisters
uart_hold u = record u { holds = count_up u.holds }

-- Exit: ready
abbrev pub uart_exit : UartRegisters → UartRegisters
uart_exit u = record u { ready = true }
