-- The board with the removal that is asked for stands.
use Rattle.std.proofs.Common.{sym, subst}
use Rattle.qo_model.specs.Hotplug.{asked}
use Rattle.qo_realize.specs.Parts.{Parts, parts_of}
use Rattle.qo_realize.specs.Representation.{Stands}
use Rattle.qo_realize.proofs.RemovalLemmas.{asks-answer, asks-sound, has-room, is_asked}
use Rattle.qo_realize.proofs.GoodBoardLemmas.{asked-good}
use Rattle.qo_realize.proofs.board.Board.ask_removal.Goals as goal

pub invariant_of-self : goal.invariant_of-self
invariant_of-self g c =
    let (b, s, sound) = c.self.invariant.1 in
    let inside = c.self.inside in
    let told = is_asked b inside.rings inside.anonymous inside.running inside.resets inside.hotplug inside.heap s in (
      c.self.invariant.0,
      asks-sound b inside.rings inside.anonymous inside.running inside.resets inside.hotplug c.ask.new.hotplug inside.heap (asked b c.args.id.now)
          c.ask.result s sound
          (asked-good b c.args.id.now sound) (c.ask.ensures.asked b s.shows told) c.ask.ensures.err,
      c.self.invariant.2,
      c.self.invariant.3,
      c.self.invariant.4,
    )

pub ask-requires : goal.ask-requires
ask-requires g c =
    let inside = c.self.inside in
    has-room (parts_of inside.rings inside.anonymous inside.running inside.resets inside.hotplug inside.heap) c.self.invariant.1

pub returns-clause-asked : goal.returns-clause-asked
returns-clause-asked g c = λ b s.
    let inside = c.self.inside in
    let seen = subst (λ (p : Parts). Stands b p) (sym c.self.view_is) s in
    let told = is_asked b inside.rings inside.anonymous inside.running inside.resets inside.hotplug inside.heap seen in
    asks-answer b inside.rings inside.anonymous inside.running inside.resets inside.hotplug c.ask.new.hotplug inside.heap (asked b c.args.id.now)
    c.ask.result seen (c.ask.ensures.asked b seen.shows told) c.ask.ensures.err
