-- The first birth is 1, or there is no object of birth 1.
use Rattle.std.proofs.Common.{◌≡◌, None, sym, rules}
use Rattle.qo_heap.proofs.PlacesLemmas.{key-live}
use Rattle.qo_paths.proofs.PlaceLemmas.{not-one}
use Rattle.qo_paths.proofs.EndLemmas.{root-none, root-later}
use Rattle.qo_paths.proofs.resolving.root.Goals as goal

pub returns-in_err-first-clause-none : goal.returns-in_err-first-clause-none
returns-in_err-first-clause-none c =
    let none : c.from_residual.result ≡ None = search rules in
    rw none (root-none c.args.heap.now.rows (sym c.in_err-first.ensures))

pub returns-then-first-eq1-clause-live : goal.returns-then-first-eq1-clause-live
returns-then-first-eq1-clause-live c =
    key-live c.args.heap.now.born c.args.heap.now.rows 0 c.in_ok-first.first c.reveal_invariant.ensures.rising (sym c.in_ok-first.ensures)

pub returns-clause-none : goal.returns-clause-none
returns-clause-none c =
    root-later c.args.heap.now.born c.args.heap.now.rows c.in_ok-first.first c.reveal_invariant.ensures.rising (sym c.in_ok-first.ensures)
    (not-one c.in_ok-first.first.birth c.if-first-eq1.false)
