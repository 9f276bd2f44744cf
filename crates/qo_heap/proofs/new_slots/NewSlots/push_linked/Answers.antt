use Rattle.std.proofs.Common.{◌≡◌, ◌≤◌, List, [], ◌∷◌, ◌++◌, ap, ap₂, sym, subst, ◌∙◌, length, Option}
use Rattle.qo_slots.specs.declared.keys.Key.{Key}
use Rattle.qo_object.specs.declared.slots.Slot.{Slot}
use Rattle.qo_object.specs.Slots.{Named, weak_target}
use Rattle.qo_heap.specs.Furnishing.{IsSplit, refilled, unnamed}
use Rattle.qo_heap.specs.WeakLinks.{weak_names}
use Rattle.qo_heap.proofs.FurnishLemmas.{filled-more, split-counted, split-more}
use Rattle.qo_heap.proofs.new_slots.NewSlots.push_linked.Goals as goal

pub invariant_of-self-2 : goal.invariant_of-self-2
invariant_of-self-2 c =
    let ts = c.pad.new.targets.items in
    let slots = c.self.inside.slots.items in
    let padded : IsSplit ts slots = subst (λ (l : List Named). IsSplit ts l) c.deref.ensures.value c.pad.ensures.split in
    let long : length slots ≤ length ts = subst (λ (l : List Named). length l ≤ length ts) c.deref.ensures.value c.in_ok-pad.ensures.long in
    let targets_now : c.push_reserved.new.self.items ≡ ts ++ weak_target c.args.slot ∷ [] =
    c.push_reserved.ensures.items ∙ ap₂ (λ (l : List (Option Key)) (t : Option Key). l ++ t ∷ []) c.in_ok-reserve-2.ensures.items c.without_target-slot.ensures.target in
    let slots_now : c.push_reserved-2.new.self.items ≡ slots ++ (c.args.name, unnamed c.args.slot) ∷ [] =
    c.push_reserved-2.ensures.items ∙ ap₂ (λ (l : List Named) (s : Slot). l ++ (c.args.name, s) ∷ []) c.in_ok-reserve.ensures.items c.without_target-slot.ensures.slot in (
      subst (λ (l : List (Option Key)). IsSplit l c.push_reserved-2.new.self.items) (sym targets_now)
          (subst (λ (l : List Named). IsSplit (ts ++ weak_target c.args.slot ∷ []) l) (sym slots_now) (split-more ts slots c.args.name c.args.slot padded long)),
      (
        split-counted (length c.add_for.new.self.nodes) (length c.self.inside.links.nodes) slots c.args.name c.args.slot c.self.invariant.1.0 c.in_ok-add_for.ensures.more
            ∙ ap (λ (l : List Named). length (weak_names l)) (sym slots_now),
        c.in_ok-add_for.ensures.rise,
      ),
    )

pub returns : goal.returns
returns c =
    let ts = c.pad.new.targets.items in
    let slots = c.self.inside.slots.items in
    let padded : IsSplit ts slots = subst (λ (l : List Named). IsSplit ts l) c.deref.ensures.value c.pad.ensures.split in
    let long : length slots ≤ length ts = subst (λ (l : List Named). length l ≤ length ts) c.deref.ensures.value c.in_ok-pad.ensures.long in
    let targets_now : c.push_reserved.new.self.items ≡ ts ++ weak_target c.args.slot ∷ [] =
    c.push_reserved.ensures.items ∙ ap₂ (λ (l : List (Option Key)) (t : Option Key). l ++ t ∷ []) c.in_ok-reserve-2.ensures.items c.without_target-slot.ensures.target in
    let slots_now : c.push_reserved-2.new.self.items ≡ slots ++ (c.args.name, unnamed c.args.slot) ∷ [] =
    c.push_reserved-2.ensures.items ∙ ap₂ (λ (l : List Named) (s : Slot). l ++ (c.args.name, s) ∷ []) c.in_ok-reserve.ensures.items c.without_target-slot.ensures.slot in
    rw (← c.self.view_is) (ap₂ (λ (us : List (Option Key)) (ss : List Named). refilled us ss) targets_now slots_now
    ∙ filled-more ts slots c.args.name c.args.slot padded long
    ∙ ap (λ (l : List Named). l ++ (c.args.name, c.args.slot) ∷ [])
    (subst (λ (l : List Named). refilled ts l ≡ refilled c.self.inside.targets.items l) c.deref.ensures.value c.pad.ensures.same))
