use Rattle.std.proofs.Common.{◌≡◌, sym, ◌∙◌, false, is_some, Option, Some, None}
use Rattle.qo_slots.specs.declared.keys.Key.{Key}
use Rattle.qo_heap.proofs.WeakSlots.{linked_next}
use Rattle.qo_heap.proofs.weak_slots.linked_slot.Goals as goal

none : (o : Option Key) → is_some o ≡ false → o ≡ None
none None is = λ i. None
none (Some key) is = cc

pub loop-at-preserved : goal.loop-at-preserved
loop-at-preserved c =
    linked_next c.loop-at.at c.args.object.now.slots c.loop-at.invariant
    (sym c.weak_target_at.ensures ∙ none c.weak_target_at.result (sym c.is_some.ensures ∙ c.if-is_some.false))
