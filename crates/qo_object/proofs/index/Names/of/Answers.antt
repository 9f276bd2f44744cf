use Rattle.std.proofs.Common.{◌∙◌, ◌≤◌, List, ℕ, [], ◌∷◌, ◌++◌, length, take, ap, arith}
use Rattle.std.proofs.lemmas.List.{take_all}
use Rattle.qo_object.specs.Slots.{names_of}
use Rattle.qo_object.proofs.NameLemmas.{absent-before, names-next}
use Rattle.qo_object.proofs.index.Names.of.Goals as goal

pub loop-slot-init : goal.loop-slot-init
loop-slot-init c = c.new-names.ensures

pub add-requires : goal.add-requires
add-requires c =
    rw (c.as_str.ensures.value, c.loop-slot.invariant)
    (absent-before c.args.slots.now c.loop-slot.slot-index c.slot-item.result c.requires c.loop-slot-test.true c.slot-item.is)

pub loop-slot-preserved : goal.loop-slot-preserved
loop-slot-preserved c =
    c.in_ok-add.ensures
    ∙ ap (λ (names : List (List ℕ)). names ++ c.as_str.result.now ∷ []) c.loop-slot.invariant
    ∙ ap (λ (name : List ℕ). names_of (take c.loop-slot.slot-index c.args.slots.now) ++ name ∷ []) c.as_str.ensures.value
    ∙ names-next c.args.slots.now c.loop-slot.slot-index c.slot-item.result c.loop-slot-test.true c.slot-item.is

pub returns : goal.returns
returns c =
    let end : length c.args.slots.now ≤ c.loop-slot.slot-index = omega (arith, c.loop-slot-test.false) in
    c.loop-slot.invariant ∙ ap names_of (take_all c.loop-slot.slot-index c.args.slots.now end)
