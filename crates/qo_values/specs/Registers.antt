-- What the bodies of devices keep, and what the acts, the reads and the writes of a guest do to it: the one list of the devices that have registers (devices of
-- the profile; the tables are in docs/PROFILE.md; phases: docs/devel/reset.rst, "Multi-phase mechanism"; callbacks: docs/devel/clocks.rst, "Clock callbacks").
use Rattle.std.specs.Prelude.{ℕ, ◌%◌, Bool, true, false, not, ◌&&◌, ◌==◌, if◌then◌else◌, Option, Some, None, option_map}
use Rattle.qo_values.specs.Counts.{count_up}
use Rattle.qo_values.specs.Dimm.{dimm_read}
use Rattle.qo_values.specs.Timer.{timer_enter, timer_wake, timer_hold, timer_pre, timer_update, timer_halt, timer_read, timer_write}
use Rattle.qo_values.specs.Uart.{uart_enter, uart_wake, uart_hold, uart_exit, uart_read, uart_write}
use Rattle.qo_values.specs.declared.kinds.Act.{Act}
use Rattle.qo_values.specs.declared.kinds.Act.TheVariants.{Unrealize, Enter, Wake, Hold, Exit, Pre, Update}
use Rattle.qo_values.specs.declared.kinds.TypeId.{TypeId}
use Rattle.qo_values.specs.declared.kinds.TypeId.TheVariants.{SlotUart, SlotTimer, SlotBridge, MemDimm}
pub use Rattle.qo_values.specs.Dimm.{DimmRegisters}
pub use Rattle.qo_values.specs.Timer.{TimerRegisters, fresh_timer}
pub use Rattle.qo_values.specs.Uart.{UartRegisters, fresh_uart}

-- a bridge: whether bit 0 of its control register is raised
pub record BridgeRegisters : Type 0 where
  pub raised : Bool
  pub holds : ℕ

-- the registers of an object's body; all other objects have none
pub data Registers : Type 0 where
  uart : UartRegisters → Registers
  timer : TimerRegisters → Registers
  dimm : DimmRegisters → Registers
  bridge : BridgeRegisters → Registers
  bare : Registers

-- what an object of a type has at birth
abbrev pub fresh_registers : TypeId → Registers
fresh_registers SlotUart = uart fresh_uart
fresh_registers SlotTimer = timer fresh_timer
fresh_registers SlotBridge = bridge (record { raised = false; holds = 0 })
fresh_registers MemDimm = dimm (record { address = 0; size = 0 })
fresh_registers _ = bare

-- two bodies are of one kind
abbrev pub is_like : Registers → Registers → Bool
is_like (uart u) (uart v) = true
is_like (timer t) (timer u) = true
is_like (dimm d) (dimm e) = true
is_like (bridge b) (bridge c) = true
is_like bare bare = true
is_like r s = false

-- an act at a moment, where `period` is that of the device's clock
abbrev pub body_act : Act → ℕ → ℕ → Registers → Registers
body_act Enter now period (uart u) = uart (uart_enter u)
body_act Enter now period (timer t) = timer (timer_enter t)
body_act Enter now period (bridge b) = bridge (record b { raised = false })
body_act Wake now period (uart u) = uart (uart_wake u)
body_act Wake now period (timer t) = timer (timer_wake t)
body_act Wake now period (bridge b) = bridge (record b { raised = false })
body_act Hold now period (uart u) = uart (uart_hold u)
body_act Hold now period (timer t) = timer (timer_hold t)
body_act Hold now period (bridge b) = bridge (record b { holds = count_up b.holds })
body_act Exit now period (uart u) = uart (uart_exit u)
body_act Unrealize now period (timer t) = timer (timer_halt t now period)
body_act Pre now period (timer t) = timer (timer_pre t now period)
body_act Update now period (timer t) = timer (timer_update t now)
body_act act now period r = r

-- what a bridge's register reads: 0 CTRL, 1 HOLDS
abbrev pub bridge_read : BridgeRegisters → ℕ → Option ℕ
bridge_read b reg = if reg == 0 then Some (if b.raised then 1 else 0) else if reg == 1 then Some b.holds else None

-- what a register reads, or none where it is absent; `ring` says whether a ring is claimed
abbrev pub body_read : Registers → ℕ → Bool → ℕ → ℕ → Option ℕ
body_read (uart u) reg ring now period = uart_read u reg ring period
body_read (timer t) reg ring now period = timer_read t reg now period
body_read (dimm d) reg ring now period = dimm_read d reg
body_read (bridge b) reg ring now period = bridge_read b reg
body_read bare reg ring now period = None

-- what a write does beside the registers: nothing; a byte goes to the ring; the bridge's bus is pulsed
pub data Effect : Type 0 where
  nothing : Effect
  byte : ℕ → Effect
  pulse : Effect

abbrev pub effect_of : Option ℕ → Effect
effect_of None = nothing
effect_of (Some n) = byte n

-- a write to a bridge's CTRL: where bit 0 rises its bus is pulsed
abbrev pub bridge_write : BridgeRegisters → ℕ → ℕ → Option (Registers × Effect)
bridge_write b reg value =
    if reg == 0 then Some (bridge (record b { raised = value % 2 == 1 }), if (value % 2 == 1) && not b.raised then pulse else nothing)
    else if reg == 1 then Some (bridge b, nothing)
    else None

-- the registers after a write with what it does beside them, or none where the register is absent
abbrev pub body_write : Registers → ℕ → ℕ → Bool → ℕ → ℕ → Option (Registers × Effect)
body_write (uart u) reg value ring now period = option_map (λ p. (uart p.0, effect_of p.1)) (uart_write u reg value ring)
body_write (timer t) reg value ring now period = option_map (λ t. (timer t, nothing)) (timer_write t reg value now period)
body_write (dimm d) reg value ring now period = option_map (λ n. (dimm d, nothing)) (dimm_read d reg)
body_write (bridge b) reg value ring now period = bridge_write b reg value
body_write bare reg value ring now period = None
