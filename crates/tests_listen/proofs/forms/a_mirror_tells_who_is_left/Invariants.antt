-- It is not closed.
use Rattle.std.proofs.Common.{◌≡◌, false}
use Rattle.tests_listen.proofs.forms.a_mirror_tells_who_is_left.Given as goal

abbrev pub invariant-loop-note : goal.invariant-loop-note
invariant-loop-note g l = l.mirror.closed ≡ false

abbrev pub invariant-loop-note-2 : goal.invariant-loop-note-2
invariant-loop-note-2 g l = l.mirror.closed ≡ false
