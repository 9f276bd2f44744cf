-- The first object from a birth on is that of the birth, or there is none of it.
use Rattle.std.proofs.Common.{rules, ◌≡◌, ℕ, eqb, false, None, sym, arith}
use Rattle.qo_heap.proofs.SearchLemmas.{found-live, found-later, found-none}
use Rattle.qo_heap.proofs.heap.Heap.by_birth.Goals as goal

other : (n m : ℕ) → (n ≡ m → ⊥) → eqb n m ≡ false
other n m differ = grind arith

pub returns-in_err-o-clause-none : goal.returns-in_err-o-clause-none
returns-in_err-o-clause-none c =
    let none : c.from_residual.result ≡ None = search rules in
    rw none (found-none c.args.birth c.args.self.now.rows (sym c.in_err-o.ensures))

pub returns-then-o-birth-clause-live : goal.returns-then-o-birth-clause-live
returns-then-o-birth-clause-live c =
    found-live c.args.birth c.args.self.now.rows c.in_ok-o.o (sym c.in_ok-o.ensures) c.if-o-birth.true

pub returns-clause-none : goal.returns-clause-none
returns-clause-none c =
    found-later c.args.birth 0 c.args.self.now.born c.args.self.now.rows c.in_ok-o.o c.reveal_invariant.ensures.rising (sym c.in_ok-o.ensures)
    (other c.in_ok-o.o.birth c.args.birth c.if-o-birth.false)
