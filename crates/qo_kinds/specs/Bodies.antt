-- For proofs alone. What a body keeps: its device, with the registers of that, and the claims that it holds.
use Rattle.std.specs.Prelude.{◌≡◌, ◌≤◌, ℕ, Bool, false, true, None, ⊤, refl}
use Rattle.qo_values.specs.Registers.{body_act, Registers, uart, timer, dimm, bridge, bare, fresh_registers}
use Rattle.qo_values.specs.declared.kinds.Act.{Act}
use Rattle.qo_values.specs.declared.kinds.Act.TheVariants.{Unrealize, Pre, Update}
use Rattle.qo_kinds.specs.declared.bodies.Body.{Body}
use Rattle.qo_kinds.specs.declared.bodies.Device.{Device}
use Rattle.qo_kinds.specs.declared.bodies.Device.TheVariants.{Uart, Timer, Dimm, Bridge, Bare}
use Rattle.qo_values.specs.declared.kinds.TypeId.{TypeId}
use Rattle.qo_kinds.specs.declared.kept_set.KeptSet.{KeptSet}

-- claims

abbrev pub none_kept : KeptSet
none_kept = record { slot = None; ring = None; backend = None; range = None }

abbrev pub kept_of : Body → KeptSet
kept_of b = b.kept

abbrev pub with_kept : KeptSet → Body → Body
with_kept k b = record b { kept = k }

-- it holds no claim
abbrev pub IsBare : Body → Type 0
IsBare b = b.kept ≡ none_kept

-- devices

-- the registers of a device; any other object has none
abbrev pub registers_in : Device → Registers
registers_in (Uart u) = uart u
registers_in (Timer t) = timer t
registers_in (Dimm d) = dimm d
registers_in (Bridge b) = bridge b
registers_in Bare = bare

-- the device of registers
abbrev pub device_in : Registers → Device
device_in (uart u) = Uart u
device_in (timer t) = Timer t
device_in (dimm d) = Dimm d
device_in (bridge b) = Bridge b
device_in bare = Bare

-- and back
pub same_device : (d : Device) → device_in (registers_in d) ≡ d
same_device (Uart u) = refl
same_device (Timer t) = refl
same_device (Dimm d) = refl
same_device (Bridge b) = refl
same_device Bare = refl

-- and bodies

abbrev pub registers_of : Body → Registers
registers_of b = registers_in b.device

abbrev pub with_registers : Registers → Body → Body
with_registers r b = record b { device = device_in r }

-- no segment of a timer began or ended after a moment
abbrev pub IsInTime : ℕ → Registers → Type 0
IsInTime now (timer t) = t.last ≤ now
IsInTime now r = ⊤

abbrev pub IsTimely : ℕ → Body → Type 0
IsTimely now b = IsInTime now (registers_of b)

abbrev pub body_of : TypeId → Body
body_of t = record { device = device_in (fresh_registers t); kept = none_kept }

-- a body after an act at a moment
abbrev pub acted : Act → ℕ → ℕ → Body → Body
acted act now period b = with_registers (body_act act now period (registers_of b)) b

-- whether an act reads the moment: the phases of a reset and Realize do not
abbrev pub reads_moment : Act → Bool
reads_moment Unrealize = true
reads_moment Pre = true
reads_moment Update = true
reads_moment act = false

-- what an act needs of it
abbrev pub MayAct : Act → ℕ → Body → Type 0
MayAct act now b = reads_moment act ≡ true → IsTimely now b
