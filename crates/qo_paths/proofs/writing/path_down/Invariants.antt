-- What is written is the path of the names from a place on.
use Rattle.std.proofs.Common.{◌≡◌, ◌≤◌, drop, length, map, string_bytes}
use Rattle.qo_paths.specs.Parts.{path_up}
use Rattle.qo_paths.proofs.writing.path_down.Given as goal

abbrev pub invariant-loop-left : goal.invariant-loop-left
invariant-loop-left l = (string_bytes l.path ≡ path_up (drop l.left (map (λ n. n.now) l.names))) × (l.left ≤ length l.names)

abbrev pub decreases-loop-left : goal.decreases-loop-left
decreases-loop-left l = l.left
