-- The names of the types.
use Rattle.std.specs.Prelude.{ℕ, List, codes}
use Rattle.qo_values.specs.declared.kinds.Act.{Act}
use Rattle.qo_values.specs.declared.kinds.Act.TheVariants.{Enter, Wake}
use Rattle.qo_values.specs.declared.kinds.ResetKind.{ResetKind}
use Rattle.qo_values.specs.declared.kinds.ResetKind.TheVariants.{Cold, Wakeup}
use Rattle.qo_values.specs.declared.kinds.TypeId.{TypeId}
use Rattle.qo_values.specs.declared.kinds.TypeId.TheVariants.{Object, Container, Machine, Device, SlotDevice, SlotUart, SlotTimer, SlotBridge, MemDimm, Bus, SlotBus, MemBus, Clock, MemoryBackend, MemoryBackendRam, Tag}

-- a type's name, as commands and replies spell it
abbrev pub type_name : TypeId → List ℕ
type_name Object = codes "object"
type_name Container = codes "container"
type_name Machine = codes "machine"
type_name Device = codes "device"
type_name SlotDevice = codes "slot-device"
type_name SlotUart = codes "slot-uart"
type_name SlotTimer = codes "slot-timer"
type_name SlotBridge = codes "slot-bridge"
type_name MemDimm = codes "mem-dimm"
type_name Bus = codes "bus"
type_name SlotBus = codes "slot-bus"
type_name MemBus = codes "mem-bus"
type_name Clock = codes "clock"
type_name MemoryBackend = codes "memory-backend"
type_name MemoryBackendRam = codes "memory-backend-ram"
type_name Tag = codes "tag"

-- the act of the enter phase of a reset
abbrev pub entering : ResetKind → Act
entering Cold = Enter
entering Wakeup = Wake
