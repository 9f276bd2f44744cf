-- The object is made with the slots that are planned, and its pin goes.
use Rattle.std.proofs.Common.{◌≡◌, ap, sym, subst, ◌∙◌, map, arith}
use Rattle.qo_heap.specs.Rows.{IsLive}
use Rattle.qo_object.specs.BoardObject.{shown_slots}
use Rattle.qo_heap.specs.Board.{Shows}
use Rattle.qo_heap.specs.Objects.{Objects, pins_of}
use Rattle.qo_model.specs.Objects.{slot_given, with_object}
use Rattle.qo_model.specs.Types.{slots_of}
use Rattle.qo_properties.specs.NewSlots.{new_slots}
use Rattle.qo_properties.proofs.AddKept.{object-kept, tried-kept}
use Rattle.qo_properties.proofs.AddLemmas.{child-live, child-pinned, child-unpinned, object-pins, shows-object, tried-pins}
use Rattle.qo_properties.proofs.ClaimLemmas.{object-keeps, tried-keeps}
use Rattle.qo_properties.proofs.FillingLemmas.{filled-given}
use Rattle.qo_properties.proofs.NewSlotLemmas.{new-shown}
use Rattle.qo_properties.proofs.SlotsLemmas.{slots-childless, slots-differ, slots-few, slots-live}
use Rattle.qo_properties.proofs.adding.objects.add_planned.Goals as goal

pub make_with-requires-clause-targets : goal.make_with-requires-clause-targets
make_with-requires-clause-targets g c =
    slots-live c.args.admitted.kind c.args.plan.items c.in_ok-slots.slots c.in_ok-slots.ensures (IsLive c.args.heap.now.rows) c.requires.targets

pub make_with-requires-clause-differ : goal.make_with-requires-clause-differ
make_with-requires-clause-differ g c = slots-differ c.args.admitted.kind c.args.plan.items c.in_ok-slots.slots c.in_ok-slots.ensures

pub make_with-requires-clause-few : goal.make_with-requires-clause-few
make_with-requires-clause-few g c = slots-few c.args.admitted.kind c.args.plan.items c.in_ok-slots.slots c.in_ok-slots.ensures

pub make_with-requires-clause-childless : goal.make_with-requires-clause-childless
make_with-requires-clause-childless g c = slots-childless c.args.admitted.kind c.args.plan.items c.in_ok-slots.slots c.in_ok-slots.ensures

pub unpin-requires-clause-live : goal.unpin-requires-clause-live
unpin-requires-clause-live g c = child-live c.reveal_invariant.ensures c.in_ok-made.ensures.made

pub unpin-requires-clause-pinned : goal.unpin-requires-clause-pinned
unpin-requires-clause-pinned g c =
    let one : pins_of c.make_with.new.heap c.in_ok-made.made.birth ≡ 1 = child-pinned c.reveal_invariant.ensures c.in_ok-made.ensures.made in
    omega arith

pub returns-in_err-made-clause-pins : goal.returns-in_err-made-clause-pins
returns-in_err-made-clause-pins g c = tried-pins c.args.heap.now c.make_with.new.heap c.args.admitted.kind c.in_err-made.ensures.err

pub returns-clause-ok : goal.returns-clause-ok
returns-clause-ok g c = λ b props s given.
    rw (← c.own-name.ensures) (
    subst (λ (x : Objects). Shows (with_object b c.args.admitted.kind c.own-name.result props) x)
    (sym (child-unpinned c.reveal_invariant.ensures c.in_ok-made.ensures.made c.unpin.new.self c.unpin.ensures.now))
    (
    shows-object b c.args.heap.now s c.in_ok-made.made c.args.admitted.objects c.requires.objects c.in_ok-made.ensures.made.birth c.own-name.result
    c.args.admitted.kind props c.in_ok-slots.slots
    (ap shown_slots c.in_ok-slots.ensures ∙ filled-given b props c.args.plan.items (new_slots c.args.admitted.kind) given
    ∙ ap (map (slot_given b props)) (new-shown c.args.admitted.kind (slots_of c.args.admitted.kind)))
    )
    )

pub returns-clause-pins : goal.returns-clause-pins
returns-clause-pins g c =
    object-pins c.args.heap.now c.in_ok-made.made c.args.admitted.objects c.own-name.result c.args.admitted.kind c.in_ok-slots.slots c.unpin.new.self
    (child-unpinned c.reveal_invariant.ensures c.in_ok-made.ensures.made c.unpin.new.self c.unpin.ensures.now)

pub returns-in_err-made-clause-book : goal.returns-in_err-made-clause-book
returns-in_err-made-clause-book g c = tried-keeps c.args.heap.now c.make_with.new.heap c.args.admitted.kind c.in_err-made.ensures.err

pub returns-clause-book : goal.returns-clause-book
returns-clause-book g c =
    object-keeps c.args.heap.now c.in_ok-made.made c.args.admitted.objects c.own-name.result c.args.admitted.kind c.in_ok-slots.slots c.unpin.new.self
    (child-unpinned c.reveal_invariant.ensures c.in_ok-made.ensures.made c.unpin.new.self c.unpin.ensures.now)

pub returns-in_err-made-clause-kept : goal.returns-in_err-made-clause-kept
returns-in_err-made-clause-kept g c = tried-kept c.args.heap.now c.make_with.new.heap c.args.admitted.kind c.in_err-made.ensures.err

pub returns-clause-kept : goal.returns-clause-kept
returns-clause-kept g c =
    object-kept c.args.heap.now c.in_ok-made.made c.args.admitted.objects c.own-name.result c.args.admitted.kind c.in_ok-slots.slots c.unpin.new.self
    (child-unpinned c.reveal_invariant.ensures c.in_ok-made.ensures.made c.unpin.new.self c.unpin.ensures.now)
