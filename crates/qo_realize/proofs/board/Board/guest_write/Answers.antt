-- The board after the write stands, or the board as it was.
use Rattle.std.proofs.Common.{sym, subst}
use Rattle.qo_realize.specs.Parts.{Parts, parts_of}
use Rattle.qo_realize.specs.Representation.{Stands}
use Rattle.qo_realize.proofs.RegisterLemmas.{timely-there, write-claims, write-keeps, write-stands}
use Rattle.qo_realize.proofs.GoodBoardLemmas.{good-of}
use Rattle.qo_realize.proofs.PeriodLemmas.{clocked-sound}
use Rattle.qo_realize.proofs.board.Board.guest_write.Goals as goal

pub write_through-requires-clause-timely : goal.write_through-requires-clause-timely
write_through-requires-clause-timely g c =
    let inside = c.self.inside in
    timely-there (parts_of inside.rings inside.anonymous inside.running inside.resets inside.hotplug inside.heap) c.self.invariant.1 c.args.dev.birth

pub invariant_of-self : goal.invariant_of-self
invariant_of-self g c =
    let inside = c.self.inside in
    let stands =
    write-keeps inside.rings c.write_through.new.rings inside.anonymous inside.running inside.resets c.write_through.new.resets inside.hotplug
    inside.heap c.write_through.new.heap
    c.write_through.ensures.book c.args.dev.birth c.args.reg c.args.value c.write_through.result c.self.invariant.1 c.self.invariant.4
    c.write_through.ensures.written c.write_through.ensures.absent in (
      stands.0,
      stands.1,
      write-claims inside.rings c.write_through.new.rings inside.anonymous inside.running inside.resets c.write_through.new.resets inside.hotplug
          inside.heap c.write_through.new.heap c.write_through.ensures.book c.args.dev.birth c.args.reg c.args.value c.write_through.result
          c.self.invariant.1 c.self.invariant.4 c.write_through.ensures.written c.write_through.ensures.absent c.write_through.ensures.kept c.self.invariant.2,
      c.write_through.ensures.counts,
      c.write_through.ensures.periods c.self.invariant.4,
    )

pub returns-clause-written : goal.returns-clause-written
returns-clause-written g c = λ b s.
    let inside = c.self.inside in
    let before : Parts = parts_of inside.rings inside.anonymous inside.running inside.resets inside.hotplug inside.heap in
    let seen : Stands b before = subst (λ (p : Parts). Stands b p) (sym c.self.view_is) s in
    write-stands inside.rings c.write_through.new.rings inside.anonymous inside.running inside.resets c.write_through.new.resets inside.hotplug
    inside.heap c.write_through.new.heap
    c.write_through.ensures.book c.args.dev.birth c.args.reg c.args.value b c.write_through.result seen
    (c.write_through.ensures.written b (record { held = (seen.shows, seen.holds); rings_are = seen.rings })
    (clocked-sound b inside.heap (good-of before c.self.invariant.1 b seen).run.clocks c.self.invariant.4))
