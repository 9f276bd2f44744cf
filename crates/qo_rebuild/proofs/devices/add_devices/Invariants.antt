-- The first ones are done.
use Rattle.std.proofs.Common.{map, take}
use Rattle.qo_model.specs.Board.{Board}
use Rattle.qo_realize.specs.Representation.{Stands}
use Rattle.qo_save.specs.Rebuilding.{add_device}
use Rattle.qo_shape.specs.Said.{device_said}
use Rattle.qo_rebuild.proofs.StepLemmas.{Went}
use Rattle.qo_rebuild.proofs.devices.add_devices.Given as goal

abbrev pub invariant-loop-device : goal.invariant-loop-device
invariant-loop-device g l = (b : Board) → Stands b l.initial.board → Went (map add_device (map device_said (take l.device-index l.devices))) b l.board
