-- For proofs alone. What is kept of a new object beside the tree, and its place in the work of a release.
use Rattle.std.specs.Prelude.{None}
use Rattle.qo_object.specs.declared.room.Side.{Side}
use Rattle.qo_object.specs.declared.room.Work.{Work}

-- nothing
abbrev pub no_side : Side
no_side = record { count = 0; marks = 0; period = 0; child = 0 }

-- none
abbrev pub no_work : Work
no_work = record { next = None; at = 0 }
