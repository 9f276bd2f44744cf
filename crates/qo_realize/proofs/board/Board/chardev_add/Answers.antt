-- The board with the ring stands, or the board as it was.
use Rattle.std.proofs.Common.{sym, subst, ℕ}
use Rattle.qo_realize.specs.Chardevs.{ChangesRings, chardev_added, ring_added}
use Rattle.qo_realize.specs.Parts.{Parts, parts_of}
use Rattle.qo_realize.specs.Representation.{Stands}
use Rattle.qo_realize.proofs.ChardevLemmas.{change-sound, ring_added-good, rings-change}
use Rattle.qo_realize.proofs.board.Board.chardev_add.Goals as goal

pub invariant_of-self : goal.invariant_of-self
invariant_of-self c =
    let inside = c.self.inside in (
      c.self.invariant.0,
      change-sound inside.rings c.add.new.rings inside.anonymous inside.running inside.resets inside.hotplug inside.heap
          (λ b. ring_added b c.args.id.now c.args.kind.now c.unwrap_or-size.result) c.add.result
          (λ b good. ring_added-good b c.args.id.now c.args.kind.now c.unwrap_or-size.result good) c.add.ensures.change c.add.ensures.err c.self.invariant.1,
      c.self.invariant.2,
      c.self.invariant.3,
      c.self.invariant.4,
    )

pub returns-clause-change : goal.returns-clause-change
returns-clause-change c = λ b s.
    let inside = c.self.inside in
    let before : Parts = parts_of inside.rings inside.anonymous inside.running inside.resets inside.hotplug inside.heap in
    let seen : Stands b before = subst (λ (p : Parts). Stands b p) (sym c.self.view_is) s in
    rings-change inside.rings c.add.new.rings inside.anonymous inside.running inside.resets inside.hotplug inside.heap b
    (chardev_added b c.args.id.now c.args.kind.now c.args.size) c.add.result seen
    (subst (λ (n : ℕ). ChangesRings b (ring_added b c.args.id.now c.args.kind.now n) c.add.result c.add.new.rings) c.unwrap_or-size.ensures
    (c.add.ensures.change b seen.rings))
    c.add.ensures.err
