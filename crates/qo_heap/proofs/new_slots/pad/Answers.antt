use Rattle.std.proofs.Common.{◌≡◌, ◌<◌, ◌++◌, ◌∷◌, [], ◌∙◌, List, Option, None, ap, sym, subst, length, arith}
use Rattle.qo_slots.specs.declared.keys.Key.{Key}
use Rattle.qo_heap.specs.Furnishing.{IsSplit, refilled}
use Rattle.qo_heap.proofs.FurnishLemmas.{filled-padded, split-padded}
use Rattle.qo_heap.proofs.new_slots.pad.Goals as goal

pub loop-targets-preserved : goal.loop-targets-preserved
loop-targets-preserved c =
    let few : length c.loop-targets.targets.items < length c.args.slots.now = omega (arith, c.loop-targets-test.true) in
    record {
      split = subst (λ (ts : List (Option Key)). IsSplit ts c.args.slots.now) (sym c.in_ok-push.ensures.items)
          (split-padded c.loop-targets.targets.items c.args.slots.now c.loop-targets.invariant.split few);
      same = ap (λ (ts : List (Option Key)). refilled ts c.args.slots.now) c.in_ok-push.ensures.items
          ∙ filled-padded c.loop-targets.targets.items c.args.slots.now c.loop-targets.invariant.split ∙ c.loop-targets.invariant.same;
    }
