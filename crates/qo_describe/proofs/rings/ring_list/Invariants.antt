-- Those told, and after them those left.
use Rattle.std.proofs.Common.{◌≡◌, ◌++◌, drop, map}
use Rattle.serde_json.specs.View.{view}
use Rattle.qo_describe.specs.Beside.{pair_data}
use Rattle.qo_describe.proofs.rings.ring_list.Given as goal

abbrev pub invariant-loop-ring : goal.invariant-loop-ring
invariant-loop-ring l = map view l.values.items ++ map pair_data (drop l.ring-index l.rings) ≡ map pair_data l.rings
