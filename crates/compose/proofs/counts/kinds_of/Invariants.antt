-- The kinds of the lines passed over.
use Rattle.std.proofs.Common.{◌≡◌, map, take}
use Rattle.compose.specs.Demo.{kind_of}
use Rattle.compose.proofs.counts.kinds_of.Given as goal

abbrev pub invariant-loop-line : goal.invariant-loop-line
invariant-loop-line l = l.kinds.items ≡ map kind_of (map (λ line. line.now) (take l.line-index l.lines))
