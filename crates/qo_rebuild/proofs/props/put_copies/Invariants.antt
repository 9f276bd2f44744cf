-- Those put, and after them those left.
use Rattle.std.proofs.Common.{◌≡◌, ◌++◌, drop}
use Rattle.qo_rebuild.proofs.props.put_copies.Given as goal

abbrev pub invariant-loop-prop : goal.invariant-loop-prop
invariant-loop-prop l = l.props ++ drop l.prop-index l.more ≡ l.fn.props ++ l.more
