-- The device is begun on the board that stood, or what refuses it is told.
use Rattle.std.proofs.Common.{sym, subst, ℕ, Err}
use Rattle.qo_realize.specs.Representation.{Stands}
use Rattle.qo_plug.specs.Admission.{as_wanted}
use Rattle.qo_realize.proofs.PlugLemmas.{is_shown, plugs-good}
use Rattle.qo_realize.proofs.GoodBoardLemmas.{good-of}
use Rattle.qo_realize.proofs.StageLemmas.{begun-barred, begun-drafted}
use Rattle.qo_plug.proofs.AddLemmas.{refused-within}
use Rattle.qo_realize.proofs.ClaimsLemmas.{barred-claims}
use Rattle.qo_realize.proofs.ClockedLemmas.{barred-periods}
use Rattle.qo_realize.proofs.CountedLemmas.{barred-counts}
use Rattle.qo_realize.proofs.board.Board.begin.Goals as goal

pub invariant_of-result : goal.invariant_of-result
invariant_of-result g c =
    let (b, s, good) = c.parts-heap.ensures.good in
    let a = as_wanted c.args.options.now in
    let x = c.parts-heap.result.1 in
    let drafted =
    begun-drafted b a x.rings x.anonymous c.in-Some.next x.running x.resets x.hotplug c.parts-heap.result.0 c.begin.new.heap c.args.self
    c.parts-heap.ensures.whole s good c.in-Some.ensures.some c.in-Ok.ensures.book c.parts-heap.ensures.claims c.parts-heap.ensures.counts
    c.parts-heap.ensures.periods c.in-Ok.begun c.in-Ok.ensures.kept (c.in-Ok.ensures.begun b) in
    (c.in-Ok.ensures.held, (b, a, drafted))

pub board_of-requires-in-Err : goal.board_of-requires-in-Err
board_of-requires-in-Err g c =
    let (b, s, good) = c.parts-heap.ensures.good in
    let a = as_wanted c.args.options.now in
    let x = c.parts-heap.result.1 in
    let barred =
    begun-barred b a x.rings x.anonymous c.in-Some.next x.running x.resets x.hotplug c.parts-heap.result.0 c.begin.new.heap c.args.self
    c.parts-heap.ensures.whole s good c.in-Some.ensures.some c.in-Err.ensures.book c.parts-heap.ensures.claims c.parts-heap.ensures.counts
    c.parts-heap.ensures.periods c.in-Err.refusal (c.in-Err.ensures.refused b)
    (λ shown m. c.in-Err.ensures.memory b shown (cc m)) in
    let seen = subst (Stands b) (sym c.parts-heap.ensures.whole) s in
    let shown = is_shown b x.rings x.anonymous x.running x.resets x.hotplug c.parts-heap.result.0 seen good c.parts-heap.ensures.claims in (
      plugs-good b a (Err c.in-Err.refusal) _ good barred.1,
      barred-claims ℕ b a c.in-Err.refusal c.parts-heap.result.0 c.begin.new.heap seen.shows
          (refused-within b a 1 4 ℕ ℕ c.in-Err.refusal c.begin.new.heap (c.in-Err.ensures.refused b shown))
          (λ m. c.in-Err.ensures.memory b shown (cc m)) c.in-Err.ensures.kept c.parts-heap.ensures.claims,
      barred-counts ℕ b a c.in-Err.refusal x.resets.births c.parts-heap.result.0 c.begin.new.heap good.run.devices good.holds seen.shows seen.holds
          (refused-within b a 1 4 ℕ ℕ c.in-Err.refusal c.begin.new.heap (c.in-Err.ensures.refused b shown))
          (λ m. c.in-Err.ensures.memory b shown (cc m)) c.in-Err.ensures.kept c.parts-heap.ensures.counts,
      barred-periods ℕ b a c.in-Err.refusal c.parts-heap.result.0 c.begin.new.heap good seen.shows
          (refused-within b a 1 4 ℕ ℕ c.in-Err.refusal c.begin.new.heap (c.in-Err.ensures.refused b shown))
          (λ m. c.in-Err.ensures.memory b shown (cc m)) c.in-Err.ensures.kept c.parts-heap.ensures.periods,
    )

pub returns-in-Ok : goal.returns-in-Ok
returns-in-Ok g c = λ b s.
    let good = good-of c.args.self c.parts-heap.ensures.good b s in
    let a = as_wanted c.args.options.now in
    let x = c.parts-heap.result.1 in
    begun-drafted b a x.rings x.anonymous c.in-Some.next x.running x.resets x.hotplug c.parts-heap.result.0 c.begin.new.heap c.args.self
    c.parts-heap.ensures.whole s good c.in-Some.ensures.some c.in-Ok.ensures.book c.parts-heap.ensures.claims c.parts-heap.ensures.counts
    c.parts-heap.ensures.periods c.in-Ok.begun c.in-Ok.ensures.kept (c.in-Ok.ensures.begun b)

pub returns-in-Err : goal.returns-in-Err
returns-in-Err g c = λ b s.
    let good = good-of c.args.self c.parts-heap.ensures.good b s in
    let a = as_wanted c.args.options.now in
    let x = c.parts-heap.result.1 in
    let barred =
    begun-barred b a x.rings x.anonymous c.in-Some.next x.running x.resets x.hotplug c.parts-heap.result.0 c.begin.new.heap c.args.self
    c.parts-heap.ensures.whole s good c.in-Some.ensures.some c.in-Err.ensures.book c.parts-heap.ensures.claims c.parts-heap.ensures.counts
    c.parts-heap.ensures.periods c.in-Err.refusal (c.in-Err.ensures.refused b)
    (λ shown m. c.in-Err.ensures.memory b shown (cc m)) in
    rw c.board_of-in-Err.ensures barred
