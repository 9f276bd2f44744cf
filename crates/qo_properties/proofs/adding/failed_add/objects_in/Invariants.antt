-- With those of the properties that are left, all are counted.
use Rattle.std.proofs.Common.{◌≡◌, ◌+◌, drop, filter_map, length}
use Rattle.qo_model.specs.Plug.{further_in, objects_in}
use Rattle.qo_properties.proofs.adding.failed_add.objects_in.Given as goal

abbrev pub invariant-loop-row : goal.invariant-loop-row
invariant-loop-row l = l.count + length (filter_map further_in (drop l.row-index l.rows)) ≡ objects_in l.fn.kind
