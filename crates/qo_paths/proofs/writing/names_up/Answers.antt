-- Each turn takes a step of the way.
use Rattle.std.proofs.Common.{◌≡◌, [], ◌∷◌, ◌++◌, map, ap, sym, ◌∙◌, length}
use Rattle.std.proofs.lemmas.List.{map-append}
use Rattle.qo_paths.proofs.PartLemmas.{text}
use Rattle.qo_paths.proofs.PlaceLemmas.{is-one, not-one, steps-all, steps-root, steps-none, steps-up, within}
use Rattle.qo_paths.proofs.writing.names_up.Goals as goal

pub loop-turn-init : goal.loop-turn-init
loop-turn-init g c = λ b s. rw c.new-names.ensures.items (steps-all b c.args.heap.now s c.args.o.birth)

pub returns-then-at-eq1 : goal.returns-then-at-eq1
returns-then-at-eq1 g c = λ b s.
    let below = within c.loop-turn._turn c.live-turn-end.result (length c.args.heap.now.rows) c.loop-turn-test.true c.live-turn-end.ensures in
    sym (steps-root b (length c.args.heap.now.rows) c.loop-turn._turn c.loop-turn.at.birth (map text c.loop-turn.names.items) below
    (is-one c.loop-turn.at.birth c.if-at-eq1.true)) ∙ c.loop-turn.invariant b s

pub returns-in_default : goal.returns-in_default
returns-in_default g c = λ b s.
    let below = within c.loop-turn._turn c.live-turn-end.result (length c.args.heap.now.rows) c.loop-turn-test.true c.live-turn-end.ensures in
    sym (steps-none b (length c.args.heap.now.rows) c.loop-turn._turn c.loop-turn.at.birth (map text c.loop-turn.names.items) below
    (not-one c.loop-turn.at.birth c.if-at-eq1.false) (sym (c.in_default.ensures b s)))
    ∙ c.loop-turn.invariant b s

pub loop-turn-preserved : goal.loop-turn-preserved
loop-turn-preserved g c = λ b s.
    let below = within c.loop-turn._turn c.live-turn-end.result (length c.args.heap.now.rows) c.loop-turn-test.true c.live-turn-end.ensures in
    let grown : map text c.push.new.self.items ≡ map text c.loop-turn.names.items ++ c.in-Some.place.name.now ∷ [] =
    ap (map text) c.in_ok-push.ensures.items ∙ map-append text c.loop-turn.names.items (c.in-Some.place.name ∷ []) in
    rw grown (
    sym (steps-up b (length c.args.heap.now.rows) c.loop-turn._turn c.loop-turn.at.birth (map text c.loop-turn.names.items)
    (c.in-Some.place.parent.birth, c.in-Some.place.name.now) below (not-one c.loop-turn.at.birth c.if-at-eq1.false) (sym (c.in-Some.ensures b s)))
    ∙ c.loop-turn.invariant b s
    )
