-- The births of the notes from a place on.
use Rattle.std.proofs.Common.{◌≡◌, ◌≤◌, drop, length}
use Rattle.qo_listen.specs.Sought.{is_sought}
use Rattle.qo_listen.specs.Texts.{births_of}
use Rattle.qo_listen.proofs.mirror.births_of.Given as goal

abbrev pub invariant-loop-at : goal.invariant-loop-at
invariant-loop-at l = (l.at ≤ length l.notes) × (l.births.keys ≡ births_of (is_sought l.sought) (drop l.at l.notes))

abbrev pub decreases-loop-at : goal.decreases-loop-at
decreases-loop-at l = l.at
