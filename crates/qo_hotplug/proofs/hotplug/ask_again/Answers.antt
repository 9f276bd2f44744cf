use Rattle.std.proofs.Common.{◌≡◌, refl, ap, ap₂, ◌∙◌, ◌+◌, ℕ, suc, ◌<◌, length, List, slice_index_or, slice_set, arith}
use Rattle.qo_model.specs.Board.{Removal}
use Rattle.qo_model.specs.Hotplug.{asked_at}
use Rattle.qo_hotplug.proofs.Again.{changed-all, changed-at, changed-more, changed_to}
use Rattle.qo_hotplug.proofs.hotplug.ask_again.Goals as goal

pub loop-at-init : goal.loop-at-init
loop-at-init c = (refl, refl)

pub loop-at-preserved : goal.loop-at-preserved
loop-at-preserved c =
    let f : Removal → Removal = asked_at c.args.device.birth c.args.now in
    let old : List Removal = c.args.removals.now.items in
    let x : Removal = c.index_mut.result.now in
    let below : c.loop-at.at < length old = omega (arith, c.loop-at-test.true, c.len-at-end.ensures) in
    let found : x ≡ slice_index_or old c.loop-at.at x =
    c.index_mut.ensures.value ∙ ap (λ (l : List Removal). slice_index_or l c.loop-at.at x) c.loop-at.invariant.0 ∙ changed-at f c.loop-at.at old x in
    let next : suc c.loop-at.at ≡ c.loop-at.at + 1 = omega arith in (
      ap₂ (λ (l : List Removal) (y : Removal). slice_set l c.loop-at.at y) c.loop-at.invariant.0 (c.ask_again.ensures ∙ ap f found)
          ∙ changed-more f c.loop-at.at old x below ∙ ap (λ (n : ℕ). changed_to f n old) next,
      c.loop-at.invariant.1,
    )

pub returns-clause-items : goal.returns-clause-items
returns-clause-items c =
    let f : Removal → Removal = asked_at c.args.device.birth c.args.now in
    let end : c.loop-at.at ≡ length c.args.removals.now.items = omega (arith, c.loop-at-test.false, c.loop-at.auto.at-end, c.len-at-end.ensures) in
    c.loop-at.invariant.0 ∙ ap (λ (n : ℕ). changed_to f n c.args.removals.now.items) end ∙ changed-all f c.args.removals.now.items
