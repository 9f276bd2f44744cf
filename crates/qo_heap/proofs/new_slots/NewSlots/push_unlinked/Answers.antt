use Rattle.std.proofs.Common.{◌≡◌, List, [], ◌∷◌, ◌++◌, ap, sym, subst, ◌∙◌, length}
use Rattle.qo_object.specs.Slots.{Named}
use Rattle.qo_object.specs.declared.slots.Slot.{Slot}
use Rattle.qo_heap.specs.Furnishing.{IsSplit, refilled}
use Rattle.qo_heap.specs.WeakLinks.{weak_names}
use Rattle.qo_heap.proofs.FurnishLemmas.{filled-kept, split-counted, split-kept, unnamed-same}
use Rattle.qo_heap.proofs.new_slots.NewSlots.push_unlinked.Goals as goal

pub invariant_of-self-2 : goal.invariant_of-self-2
invariant_of-self-2 c =
    let ts = c.self.inside.targets.items in
    let slots = c.self.inside.slots.items in
    let slots-now : c.push_reserved.new.self.items ≡ slots ++ (c.args.name, c.args.slot) ∷ [] =
    c.push_reserved.ensures.items ∙ ap (λ (l : List Named). l ++ (c.args.name, c.args.slot) ∷ []) c.in_ok-reserve.ensures.items in (
      subst (λ (l : List Named). IsSplit ts l) (sym slots-now) (split-kept ts slots c.args.name c.args.slot c.self.invariant.0 c.requires),
      (
        split-counted (length c.add_for.new.self.nodes) (length c.self.inside.links.nodes) slots c.args.name c.args.slot c.self.invariant.1.0 c.in_ok-add_for.ensures.more
            ∙ ap (λ (s : Slot). length (weak_names (slots ++ (c.args.name, s) ∷ []))) (unnamed-same c.args.slot c.requires)
            ∙ ap (λ (l : List Named). length (weak_names l)) (sym slots-now),
        c.in_ok-add_for.ensures.rise,
      ),
    )

pub returns : goal.returns
returns c =
    let slots = c.self.inside.slots.items in
    let slots-now : c.push_reserved.new.self.items ≡ slots ++ (c.args.name, c.args.slot) ∷ [] =
    c.push_reserved.ensures.items ∙ ap (λ (l : List Named). l ++ (c.args.name, c.args.slot) ∷ []) c.in_ok-reserve.ensures.items in
    rw (← c.self.view_is) (ap (λ (l : List Named). refilled c.self.inside.targets.items l) slots-now
    ∙ filled-kept c.self.inside.targets.items c.self.inside.slots.items c.args.name c.args.slot c.self.invariant.0)
