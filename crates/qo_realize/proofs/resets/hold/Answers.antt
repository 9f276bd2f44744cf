-- Room for a hold leaves the holds.
use Rattle.std.proofs.Common.{ℕ, List, sym, subst}
use Rattle.qo_reset.specs.Counts.{CountsKept}
use Rattle.qo_realize.proofs.resets.hold.Goals as goal

pub hold-requires-clause-counts : goal.hold-requires-clause-counts
hold-requires-clause-counts g c = subst (λ (holds : List ℕ). CountsKept holds c.args.heap.now) (sym c.reserve.ensures.kept) c.requires

pub returns-in_err-reserve-clause-counts : goal.returns-in_err-reserve-clause-counts
returns-in_err-reserve-clause-counts g c = subst (λ (holds : List ℕ). CountsKept holds c.args.heap.now) (sym c.reserve.ensures.kept) c.requires
