-- The slots of `/objects` and the number of objects tell.
use Rattle.std.proofs.Common.{◌≤◌, ◌<◌, sym, ◌∙◌, arith}
use Rattle.qo_values.specs.declared.limits.TheConstants.{LIVE_OBJECTS_MAX}
use Rattle.qo_properties.proofs.BarLemmas.{place-full, place-gone, place-taken, place-vacant, taken-is}
use Rattle.qo_properties.proofs.adding.checks.vacant.Goals as goal

pub returns-in_default-clause-refused : goal.returns-in_default-clause-refused
returns-in_default-clause-refused g c = λ b s. place-gone b c.args.heap.now s c.args.id.now c.in_default.ensures.none

pub returns-then-is_some-clause-refused : goal.returns-then-is_some-clause-refused
returns-then-is_some-clause-refused g c = λ b s.
    place-taken b c.args.heap.now s c.in-Some.objects c.in-Some.ensures.live c.in-Some.ensures.born c.args.id.now (taken-is _ c.slot.result b c.args.heap.now s
    c.in-Some.objects.birth c.args.id.now _ c.slot.ensures.slot (sym c.is_some.ensures ∙ c.if-is_some.true))

pub returns-then-live-ge-LIVE_OBJECTS_MAX-clause-refused : goal.returns-then-live-ge-LIVE_OBJECTS_MAX-clause-refused
returns-then-live-ge-LIVE_OBJECTS_MAX-clause-refused g c = λ b s.
    let many : LIVE_OBJECTS_MAX ≤ c.live.result = c.if-live-ge-LIVE_OBJECTS_MAX.true in
    place-full b c.args.heap.now s c.in-Some.objects c.in-Some.ensures.live c.in-Some.ensures.born c.args.id.now (taken-is _ c.slot.result b c.args.heap.now
    s c.in-Some.objects.birth c.args.id.now _ c.slot.ensures.slot (sym c.is_some.ensures ∙ c.if-is_some.false))
    (omega (arith, many, c.live.ensures))

pub returns-clause-refused : goal.returns-clause-refused
returns-clause-refused g c = λ b s.
    let few : c.live.result < LIVE_OBJECTS_MAX = c.if-live-ge-LIVE_OBJECTS_MAX.false in
    place-vacant b c.args.heap.now s c.in-Some.objects c.in-Some.ensures.live c.in-Some.ensures.born c.args.id.now (taken-is _ c.slot.result b c.args.heap.now s
    c.in-Some.objects.birth c.args.id.now _ c.slot.ensures.slot (sym c.is_some.ensures ∙ c.if-is_some.false))
    (omega (arith, few, c.live.ensures))
