-- The device at a guest's address (docs/PROFILE.md, guest lines: `m` and a number, or slots from the root bus down).
use Rattle.std.specs.Prelude.{ℕ, Option}
use Rattle.qo_values.specs.declared.births.TheConstants.{MEMORY_BUS_BIRTH, ROOT_BUS_BIRTH}
use Rattle.qo_guest.specs.declared.addresses.Addr.{Addr}
use Rattle.qo_guest.specs.declared.addresses.Addr.TheVariants.{Slots, Mem}
use Rattle.qo_model.specs.Board.{Board}
use Rattle.qo_model.specs.Devices.{found_at, kid_at}

abbrev pub addressed : Board → Addr → Option ℕ
addressed b (Slots slots) = found_at b ROOT_BUS_BIRTH slots
addressed b (Mem slot) = kid_at b MEMORY_BUS_BIRTH slot
