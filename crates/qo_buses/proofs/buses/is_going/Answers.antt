-- Each turn goes on to the bus above.
use Rattle.std.proofs.Common.{◌≡◌, List, false, true, ap, length, sym, ◌∙◌}
use Rattle.std.specs.List.{list_any}
use Rattle.qo_model.specs.Board.{Removal, is_of_device, is_pending}
use Rattle.qo_paths.proofs.PlaceLemmas.{within}
use Rattle.qo_buses.proofs.WayLemmas.{going-first, going-here, going-none, going-top, going-up}
use Rattle.qo_buses.proofs.buses.is_going.Goals as goal

pub loop-turn-init : goal.loop-turn-init
loop-turn-init g c = λ b s p. going-first b c.args.heap.now s c.args.bus.birth

pub returns-in_default : goal.returns-in_default
returns-in_default g c = λ b s p.
    let below = within c.loop-turn._turn c.live-turn-end.result (length c.args.heap.now.rows) c.loop-turn-test.true c.live-turn-end.ensures in
    sym (going-none b (length c.args.heap.now.rows) c.loop-turn._turn c.loop-turn.at.birth below (sym (c.in_default.ensures.bridge b s)))
    ∙ c.loop-turn.invariant b s p

pub returns-then-is_pending : goal.returns-then-is_pending
returns-then-is_pending g c = λ b s p.
    let below = within c.loop-turn._turn c.live-turn-end.result (length c.args.heap.now.rows) c.loop-turn-test.true c.live-turn-end.ensures in
    let is : is_pending b c.in-Some.bridge.birth ≡ true = ap (λ (rs : List Removal). list_any (is_of_device c.in-Some.bridge.birth) rs) p
    ∙ sym c.is_pending.ensures ∙ c.if-is_pending.true in
    sym (going-here b (length c.args.heap.now.rows) c.loop-turn._turn c.loop-turn.at.birth c.in-Some.bridge.birth below (sym (c.in-Some.ensures.bridge b s))
    is) ∙ c.loop-turn.invariant b s p

pub returns-in-None : goal.returns-in-None
returns-in-None g c = λ b s p.
    let below = within c.loop-turn._turn c.live-turn-end.result (length c.args.heap.now.rows) c.loop-turn-test.true c.live-turn-end.ensures in
    let not : is_pending b c.in-Some.bridge.birth ≡ false = ap (λ (rs : List Removal). list_any (is_of_device c.in-Some.bridge.birth) rs) p
    ∙ sym c.is_pending.ensures ∙ c.if-is_pending.false in
    sym (going-top b (length c.args.heap.now.rows) c.loop-turn._turn c.loop-turn.at.birth c.in-Some.bridge.birth below (sym (c.in-Some.ensures.bridge b s))
    not (sym (c.in-None.ensures.bus b s))) ∙ c.loop-turn.invariant b s p

pub loop-turn-preserved : goal.loop-turn-preserved
loop-turn-preserved g c = λ b s p.
    let below = within c.loop-turn._turn c.live-turn-end.result (length c.args.heap.now.rows) c.loop-turn-test.true c.live-turn-end.ensures in
    let not : is_pending b c.in-Some.bridge.birth ≡ false = ap (λ (rs : List Removal). list_any (is_of_device c.in-Some.bridge.birth) rs) p
    ∙ sym c.is_pending.ensures ∙ c.if-is_pending.false in
    sym (going-up b (length c.args.heap.now.rows) c.loop-turn._turn c.loop-turn.at.birth c.in-Some.bridge.birth c.in-Some-bus_of.above.birth below
    (sym (c.in-Some.ensures.bridge b s)) not (sym (c.in-Some-bus_of.ensures.bus b s))) ∙ c.loop-turn.invariant b s p
