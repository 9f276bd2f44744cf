-- The board without the ring stands, or the board as it was.
use Rattle.std.proofs.Common.{sym, subst}
use Rattle.qo_realize.specs.Chardevs.{chardev_removed}
use Rattle.qo_realize.specs.Parts.{Parts, parts_of}
use Rattle.qo_realize.specs.Representation.{Stands}
use Rattle.qo_realize.proofs.RecountLemmas.{stands-recounted}
use Rattle.qo_realize.proofs.ChardevLemmas.{answer-sound, ring_removed-good, rings-answer}
use Rattle.qo_realize.proofs.board.Board.chardev_remove.Goals as goal

pub invariant_of-self : goal.invariant_of-self
invariant_of-self c =
    let inside = c.self.inside in (
      c.self.invariant.0,
      answer-sound inside.rings c.remove.new.rings inside.anonymous inside.running inside.resets inside.hotplug inside.heap
          (λ b. chardev_removed b c.args.id.now) c.remove.result (λ b good. ring_removed-good b c.args.id.now good) c.remove.ensures.change
          c.remove.ensures.err c.self.invariant.1 c.self.invariant.2,
      c.self.invariant.2,
      c.self.invariant.3,
      c.self.invariant.4,
    )

pub returns-clause-change : goal.returns-clause-change
returns-clause-change c = λ b s.
    let inside = c.self.inside in
    let before : Parts = parts_of inside.rings inside.anonymous inside.running inside.resets inside.hotplug inside.heap in
    let seen : Stands b before = subst (λ (p : Parts). Stands b p) (sym c.self.view_is) s in
    let told = stands-recounted before c.self.invariant.1 c.self.invariant.2 b seen in
    rings-answer inside.rings c.remove.new.rings inside.anonymous inside.running inside.resets inside.hotplug inside.heap b
    (chardev_removed b c.args.id.now) c.remove.result seen (c.remove.ensures.change b told seen.rings) c.remove.ensures.err
