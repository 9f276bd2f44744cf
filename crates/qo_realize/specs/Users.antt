-- Users' objects that are in use: a memory backend can't be deleted while a DIMM stands on it (QEMU's QAPI, `object-del`; docs/PROFILE.md, DIMMs).
use Rattle.std.specs.Prelude.{ℕ, Bool, false, ◌&&◌, if◌then◌else◌, List, codes, Some, option_and_then}
use Rattle.std.specs.List.{list_any}
use Rattle.std.specs.Option.{option_map_or}
use Rattle.qo_values.specs.declared.births.TheConstants.{OBJECTS_BIRTH}
use Rattle.qo_values.specs.declared.codes.Code.TheVariants.{E32}
use Rattle.qo_model.specs.Board.{Board, slot_named}
use Rattle.qo_model.specs.Devices.{child_named}
use Rattle.qo_model.specs.Objects.{Changed, object_del}
use Rattle.qo_model.specs.Paths.{is_of}
use Rattle.qo_model.specs.Plug.{dimms, has_backend}

-- a memory backend on which a DIMM stands
abbrev pub has_dimm : Board → ℕ → Bool
has_dimm b m = is_of b (codes "memory-backend") m && list_any (has_backend b m) (dimms b)

-- the object of an id is one
abbrev pub is_used : Board → List ℕ → Bool
is_used b id = option_map_or (has_dimm b) (option_and_then child_named (slot_named b OBJECTS_BIRTH id)) false

-- `object-del`
abbrev pub object_removed : Board → List ℕ → Changed
object_removed b id = if is_used b id then record { refusal = Some E32; board = b } else object_del b id
