use Rattle.std.proofs.Common.{sym, subst, ◌∙◌}
use Rattle.qo_realize.specs.Parts.{Parts}
use Rattle.qo_realize.specs.Representation.{Stands}
use Rattle.qo_realize.proofs.RepresentationLemmas.{add-stands, added-sound}
use Rattle.qo_realize.proofs.ClaimsLemmas.{add-claims}
use Rattle.qo_realize.proofs.ClockedLemmas.{add-periods}
use Rattle.qo_realize.proofs.CountedLemmas.{add-counts}
use Rattle.qo_realize.proofs.board.Board.object_add.Goals as goal

pub returns : goal.returns
returns g c =
    record {
      change = λ b s.
          let seen = subst (λ (p : Parts). Stands b p) (sym c.self.view_is) s in
          add-stands b _ c.add_object.new.heap c.args.driver.now c.args.id.now c.args.props.now c.add_object.result seen
          (c.add_object.ensures.change b seen.shows) c.add_object.ensures.book;
    }

pub invariant_of-self : goal.invariant_of-self
invariant_of-self g c =
    let (b, s, sound) = c.self.invariant.1 in (
      c.add_object.ensures.pins ∙ c.self.invariant.0,
      added-sound b c.args.driver.now c.args.id.now c.args.props.now c.add_object.result _ sound (add-stands b _ c.add_object.new.heap c.args.driver.now
          c.args.id.now c.args.props.now c.add_object.result s (c.add_object.ensures.change b s.shows) c.add_object.ensures.book),
      add-claims b c.args.driver.now c.args.id.now c.args.props.now c.add_object.result c.self.inside.heap c.add_object.new.heap sound.run.devices s.shows
          (c.add_object.ensures.change b s.shows) c.add_object.ensures.kept c.self.invariant.2,
      add-counts b c.args.driver.now c.args.id.now c.args.props.now c.add_object.result c.self.inside.resets.births c.self.inside.heap c.add_object.new.heap
          sound.run.devices sound.holds s.shows s.holds (c.add_object.ensures.change b s.shows) c.add_object.ensures.kept c.self.invariant.3,
      add-periods b c.args.driver.now c.args.id.now c.args.props.now c.add_object.result c.self.inside.heap c.add_object.new.heap sound s.shows
          (c.add_object.ensures.change b s.shows) c.add_object.ensures.kept c.self.invariant.4,
    )
