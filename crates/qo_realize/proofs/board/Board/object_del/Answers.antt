use Rattle.std.proofs.Common.{arith, sym, subst, ◌∙◌}
use Rattle.qo_model.specs.FinalNotesRuns.{deleted}
use Rattle.qo_realize.proofs.GoodBoardLemmas.{changed-good}
use Rattle.qo_realize.specs.Parts.{Parts}
use Rattle.qo_realize.proofs.UserLemmas.{answered-free, answered-used}
use Rattle.qo_realize.specs.Representation.{Stands}
use Rattle.qo_realize.proofs.RecountLemmas.{stands-recounted}
use Rattle.qo_realize.proofs.RepresentationLemmas.{answered-sound, err-stays, del-stands}
use Rattle.qo_realize.proofs.ClaimsLemmas.{change-claims}
use Rattle.qo_realize.proofs.ClockedLemmas.{command-periods}
use Rattle.qo_realize.proofs.CountedLemmas.{changed-counts}
use Rattle.qo_realize.proofs.board.Board.object_del.Goals as goal

pub returns-then-is_used-clause-change : goal.returns-then-is_used-clause-change
returns-then-is_used-clause-change g c = λ b s.
    let seen = subst (λ (p : Parts). Stands b p) (sym c.self.view_is) s in
    let told = stands-recounted _ c.self.invariant.1 c.self.invariant.2 b seen in
    answered-used b c.args.id.now c.args.self.now (sym (c.is_used.ensures.used b seen.shows told) ∙ c.if-is_used.true) s

pub returns-clause-change : goal.returns-clause-change
returns-clause-change g c = λ b s.
    let seen = subst (λ (p : Parts). Stands b p) (sym c.self.view_is) s in
    let h = del-stands b _ c.remove.new.heap c.args.id.now c.remove.result seen (c.remove.ensures.change b seen.shows) c.remove.ensures.book in
    let told = stands-recounted _ c.self.invariant.1 c.self.invariant.2 b seen in
    answered-free b c.args.id.now _ c.remove.result (sym (c.is_used.ensures.used b seen.shows told) ∙ c.if-is_used.false) h

pub returns-clause-err : goal.returns-clause-err
returns-clause-err g c =
    let inside = c.self.inside in
    err-stays c.remove.result inside.rings inside.anonymous inside.running inside.resets inside.hotplug inside.heap c.remove.new.heap _
    c.self.view_is c.remove.ensures.err

pub invariant_of-self : goal.invariant_of-self
invariant_of-self g c =
    let (b, s, sound) = c.self.invariant.1 in (
      c.remove.ensures.pins ∙ c.self.invariant.0,
      answered-sound _ c.remove.result _ (changed-good b (deleted c.args.id.now) sound)
          (del-stands b _ c.remove.new.heap c.args.id.now c.remove.result s (c.remove.ensures.change b s.shows) c.remove.ensures.book),
      change-claims b (deleted c.args.id.now) c.self.inside.heap c.remove.new.heap sound.run.devices s.shows (c.remove.ensures.change b s.shows).board
          c.remove.ensures.kept c.self.invariant.2,
      changed-counts b (deleted c.args.id.now) c.self.inside.resets.births c.self.inside.heap c.remove.new.heap sound.run.devices sound.holds s.shows s.holds
          (c.remove.ensures.change b s.shows).board c.remove.ensures.kept c.self.invariant.3,
      command-periods b (deleted c.args.id.now) c.self.inside.heap c.remove.new.heap sound s.shows (c.remove.ensures.change b s.shows).board
          c.remove.ensures.kept c.self.invariant.4,
    )

-- two looks, and what is removed
pub returns-then-is_used-clause-work : goal.returns-then-is_used-clause-work
returns-then-is_used-clause-work g c = λ b d s t. omega (arith, c.is_used.ensures.cost)

pub returns-clause-work : goal.returns-clause-work
returns-clause-work g c = λ b d s t.
    let seen = subst (λ (p : Parts). Stands b p) (sym c.self.view_is) s in
    omega (arith, c.is_used.ensures.cost, c.remove.ensures.work b d seen.shows t.shows)
