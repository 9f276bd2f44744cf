-- Each turn goes on to the parent.
use Rattle.std.proofs.Common.{ap, sym, ◌∙◌, length}
use Rattle.qo_object.specs.BoardObject.{birth_of}
use Rattle.qo_heap.proofs.BoardReads.{shows-parent}
use Rattle.qo_paths.proofs.PlaceLemmas.{attached-all, attached-root, attached-none, attached-up, is-one, not-one, place-none, within}
use Rattle.qo_paths.proofs.places.is_attached.Goals as goal

pub loop-turn-init : goal.loop-turn-init
loop-turn-init g c = λ b s. attached-all b c.args.heap.now s c.args.o.birth

pub returns-then-at-eq1 : goal.returns-then-at-eq1
returns-then-at-eq1 g c = λ b s.
    let below = within c.loop-turn._turn c.live-turn-end.result (length c.args.heap.now.rows) c.loop-turn-test.true c.live-turn-end.ensures in
    sym (attached-root b (length c.args.heap.now.rows) c.loop-turn._turn c.loop-turn.at.birth below (is-one c.loop-turn.at.birth c.if-at-eq1.true))
    ∙ c.loop-turn.invariant b s

pub returns-in-None : goal.returns-in-None
returns-in-None g c = λ b s.
    let below = within c.loop-turn._turn c.live-turn-end.result (length c.args.heap.now.rows) c.loop-turn-test.true c.live-turn-end.ensures in
    sym (attached-none b (length c.args.heap.now.rows) c.loop-turn._turn c.loop-turn.at.birth below (not-one c.loop-turn.at.birth c.if-at-eq1.false)
    (place-none b c.args.heap.now s c.loop-turn.at.birth (sym c.in-None.ensures.parent)))
    ∙ c.loop-turn.invariant b s

pub loop-turn-preserved : goal.loop-turn-preserved
loop-turn-preserved g c = λ b s.
    let below = within c.loop-turn._turn c.live-turn-end.result (length c.args.heap.now.rows) c.loop-turn-test.true c.live-turn-end.ensures in
    sym (attached-up b (length c.args.heap.now.rows) c.loop-turn._turn c.loop-turn.at.birth c.in-Some.parent.birth below
    (not-one c.loop-turn.at.birth c.if-at-eq1.false) (shows-parent b c.args.heap.now s c.loop-turn.at.birth ∙ ap birth_of (sym c.in-Some.ensures.parent)))
    ∙ c.loop-turn.invariant b s
