use Rattle.std.proofs.Common.{◌≡◌, ◌≤◌, ap, subst, ◌∙◌, List, ℕ, length, slice_get, Option, arith}
use Rattle.std.specs.List.{IsDistinct}
use Rattle.std.specs.Option.{option_and_then}
use Rattle.std.specs.Str.{bytes_eq}
use Rattle.qo_slots.specs.declared.keys.Key.{Key}
use Rattle.qo_heap.specs.Furnishing.{refilled}
use Rattle.qo_heap.specs.Rows.{IsLive}
use Rattle.qo_heap.proofs.FurnishLemmas.{filled-end, filled-next, filling-live, given-empty, given-live, split-childless, split-empty, split-few, split-names, split-targets}
use Rattle.qo_heap.proofs.heap.Heap.set_slots.Goals as goal

target-is : (ts seen : List (Option Key)) (k : ℕ) (target : Option Key) → seen ≡ ts → target ≡ option_and_then (λ (t : Option Key). t) (slice_get seen k)
    → target ≡ option_and_then (λ (t : Option Key). t) (slice_get ts k)
target-is ts seen k target same is = is ∙ ap (λ (l : List (Option Key)). option_and_then (λ (t : Option Key). t) (slice_get l k)) same

pub furnish-requires-clause-targets : goal.furnish-requires-clause-targets
furnish-requires-clause-targets g c =
    split-targets (IsLive c.args.self.now.rows) c.slots.inside.targets.items c.slots.inside.slots.items c.slots.invariant.0
    (rw (← c.slots.view_is) at c.requires.targets)

pub furnish-requires-clause-differ : goal.furnish-requires-clause-differ
furnish-requires-clause-differ g c =
    subst (λ (l : List (List ℕ)). IsDistinct bytes_eq l) (split-names c.slots.inside.targets.items c.slots.inside.slots.items c.slots.invariant.0)
    (rw (← c.slots.view_is) at c.requires.differ)

pub furnish-requires-clause-few : goal.furnish-requires-clause-few
furnish-requires-clause-few g c =
    let few : length (refilled c.slots.inside.targets.items c.slots.inside.slots.items) ≤ 4294967296 = rw (← c.slots.view_is) at c.requires.few in
    let less : length c.slots.inside.slots.items ≤ 4294967296 =
    omega (arith, few, split-few c.slots.inside.targets.items c.slots.inside.slots.items c.slots.invariant.0) in
    less

pub furnish-requires-clause-childless : goal.furnish-requires-clause-childless
furnish-requires-clause-childless g c =
    split-childless c.slots.inside.targets.items c.slots.inside.slots.items c.slots.invariant.0 (rw (← c.slots.view_is) at c.requires.childless)

pub furnish-requires-clause-empty : goal.furnish-requires-clause-empty
furnish-requires-clause-empty g c = split-empty c.slots.inside.targets.items c.slots.inside.slots.items c.slots.invariant.0

pub furnish-requires-clause-numbered : goal.furnish-requires-clause-numbered
furnish-requires-clause-numbered g c = c.slots.invariant.1.0

pub furnish-requires-clause-rising : goal.furnish-requires-clause-rising
furnish-requires-clause-rising g c = c.slots.invariant.1.1

pub loop-at-init : goal.loop-at-init
loop-at-init g c = (c.slots.inside.slots.items, (c.slots.invariant.0, (c.slots.view_is, c.furnish.ensures)))

pub point_if-requires-clause-live : goal.point_if-requires-clause-live
point_if-requires-clause-live g c =
    filling-live c.args.o c.args.self.now c.loop-at.self c.slots.inside.targets.items c.loop-at.at c.args.slots c.loop-at.invariant c.args.o c.requires.live

pub point_if-requires-clause-target : goal.point_if-requires-clause-target
point_if-requires-clause-target g c =
    given-live c.args.o c.args.self.now c.loop-at.self c.slots.inside.targets.items c.loop-at.at c.args.slots c.loop-at.invariant c.target_in.result
    (target-is c.slots.inside.targets.items c.as_slice.result.now c.loop-at.at c.target_in.result c.as_slice.ensures.value c.target_in.ensures) c.requires.targets

pub point_if-requires-clause-link : goal.point_if-requires-clause-link
point_if-requires-clause-link g c =
    given-empty c.args.o c.args.self.now c.loop-at.self c.slots.inside.targets.items c.loop-at.at c.args.slots c.loop-at.invariant c.requires.live
    c.target_in.result
    (target-is c.slots.inside.targets.items c.as_slice.result.now c.loop-at.at c.target_in.result c.as_slice.ensures.value c.target_in.ensures)

pub loop-at-preserved : goal.loop-at-preserved
loop-at-preserved g c =
    filled-next c.args.o c.args.self.now c.loop-at.self c.slots.inside.targets.items c.loop-at.at c.args.slots c.loop-at.invariant c.target_in.result
    (target-is c.slots.inside.targets.items c.as_slice.result.now c.loop-at.at c.target_in.result c.as_slice.ensures.value c.target_in.ensures)
    c.point_if.new.self c.point_if.ensures.some c.point_if.ensures.none

pub returns : goal.returns
returns g c =
    let past : length c.slots.inside.targets.items ≤ c.loop-at.at = omega (arith, c.len-at-end.ensures, c.loop-at-test.false) in
    filled-end c.args.o c.args.self.now c.loop-at.self c.slots.inside.targets.items c.loop-at.at c.args.slots c.loop-at.invariant past
