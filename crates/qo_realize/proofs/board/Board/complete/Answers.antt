-- The device is let go.
use Rattle.std.proofs.Common.{ap, sym, subst, ◌∙◌}
use Rattle.qo_realize.specs.Parts.{Parts, parts_of}
use Rattle.qo_realize.specs.Removals.{is_listed}
use Rattle.qo_realize.specs.Representation.{Stands}
use Rattle.qo_unplug.proofs.DetachmentLemmas.{once-pinned}
use Rattle.qo_realize.proofs.CompletionLemmas.{completed-counts, completed-claims, completed-periods, completed-sound, completed-stands, is_beside, may-detach, timely-heap}
use Rattle.qo_realize.proofs.GoodBoardLemmas.{good-of}
use Rattle.qo_realize.proofs.board.Board.complete.Goals as goal

pub detach-requires-clause-timely : goal.detach-requires-clause-timely
detach-requires-clause-timely g c =
    let inside = c.self.inside in timely-heap (parts_of inside.rings inside.anonymous inside.running inside.resets inside.hotplug inside.heap)
    c.self.invariant.1

pub detach-requires-clause-pins : goal.detach-requires-clause-pins
detach-requires-clause-pins g c = once-pinned c.self.inside.heap c.self.invariant.0

pub invariant_of-self : goal.invariant_of-self
invariant_of-self g c =
    let inside = c.self.inside in
    let pending = ap (λ (p : Parts). is_listed c.args.dev.birth p.pending) c.self.view_is ∙ c.requires.pending in
    let stands =
    completed-sound c.args.dev.birth inside.rings inside.anonymous inside.running inside.resets c.detach.new.resets inside.hotplug
    c.detach.new.hotplug inside.heap c.detach.new.heap
    pending c.self.invariant.1 c.self.invariant.4 c.detach.ensures.shown c.detach.ensures.book in (
      stands.0,
      stands.1,
      completed-claims c.args.dev.birth inside.rings inside.anonymous inside.running inside.resets c.detach.new.resets inside.hotplug c.detach.new.hotplug
          inside.heap c.detach.new.heap pending c.self.invariant.1 c.self.invariant.4 c.detach.ensures.shown c.detach.ensures.claims c.self.invariant.2,
      completed-counts c.args.dev.birth inside.rings inside.anonymous inside.running inside.resets c.detach.new.resets inside.hotplug c.detach.new.hotplug
          inside.heap c.detach.new.heap pending c.self.invariant.1 c.self.invariant.4 c.detach.ensures.shown c.detach.ensures.seen c.detach.ensures.counts
          c.self.invariant.3,
      completed-periods c.args.dev.birth inside.rings inside.anonymous inside.running inside.resets inside.hotplug inside.heap c.detach.new.heap
          pending c.self.invariant.1 c.self.invariant.4 c.detach.ensures.periods,
    )

pub returns : goal.returns
returns g c = λ b s.
    let inside = c.self.inside in
    let seen = subst (λ (p : Parts). Stands b p) (sym c.self.view_is) s in
    let good = good-of (parts_of inside.rings inside.anonymous inside.running inside.resets inside.hotplug inside.heap) c.self.invariant.1 b seen in
    let pending =
    ap (is_listed c.args.dev.birth) seen.pending ∙ ap (λ (p : Parts). is_listed c.args.dev.birth p.pending) c.self.view_is ∙ c.requires.pending in
    completed-stands b c.args.dev.birth inside.rings inside.anonymous inside.running inside.resets c.detach.new.resets inside.hotplug
    c.detach.new.hotplug inside.heap c.detach.new.heap seen
    (c.detach.ensures.shown b (may-detach b c.args.dev.birth inside.heap good pending c.self.invariant.4)
    (is_beside b inside.rings inside.anonymous inside.running inside.resets inside.hotplug inside.heap seen)) c.detach.ensures.book
