-- The board at the later moment stands.
use Rattle.std.proofs.Common.{refl, ◌≤◌, ℕ, sym, subst, ◌∙◌}
use Rattle.qo_heap.specs.Objects.{Objects}
use Rattle.qo_properties.specs.Pins.{OnlyRootPinned}
use Rattle.qo_realize.specs.Parts.{parts_of}
use Rattle.qo_realize.specs.Representation.{StandsForGood}
use Rattle.qo_realize.proofs.TimeLemmas.{later-is, timed-for-good}
use Rattle.qo_realize.specs.BoardClaims.{KeepsClaims}
use Rattle.qo_realize.proofs.ClaimsLemmas.{rows-claims}
use Rattle.qo_reset.specs.Counts.{CountsKept}
use Rattle.qo_realize.proofs.CountedLemmas.{rows-counts}
use Rattle.qo_clocks.specs.Kept.{PeriodsKept}
use Rattle.qo_realize.proofs.PeriodLemmas.{rows-periods}
use Rattle.qo_realize.proofs.board.Board.advance.Goals as goal

pub invariant_of-self : goal.invariant_of-self
invariant_of-self c =
    let inside = c.self.inside in
    let time = c.in-Some.time in
    let (on, low) = later-is c.time-now.result c.args.ns time (sym c.in-Some.is ∙ c.later.ensures) in
    let later : inside.heap.time ≤ time = subst (λ (now : ℕ). now ≤ time) c.time-now.ensures on in
    subst
    (λ (w : Objects). OnlyRootPinned w × StandsForGood (parts_of inside.rings inside.anonymous inside.running inside.resets inside.hotplug w)
    × KeepsClaims w × CountsKept inside.resets.births w × PeriodsKept w)
    (sym c.set_time.ensures) (
      c.self.invariant.0,
      timed-for-good inside.rings inside.anonymous inside.running inside.resets inside.hotplug inside.heap time later low c.self.invariant.1,
      let (b, s, good) = c.self.invariant.1 in rows-claims b inside.heap (record inside.heap { time = time }) s.shows refl c.self.invariant.2,
      rows-counts inside.resets.births inside.heap (record inside.heap { time = time }) refl c.self.invariant.3,
      rows-periods inside.heap (record inside.heap { time = time }) refl c.self.invariant.4,
    )
