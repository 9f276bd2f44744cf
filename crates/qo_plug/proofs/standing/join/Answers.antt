-- The child slot that was added last is let go again.
use Rattle.std.proofs.Common.{sym, subst, ap, ◌∙◌}
use Rattle.qo_object.specs.declared.slots.Slot.TheVariants.{Child}
use Rattle.qo_object.specs.Content.{dropped_at, with_slot}
use Rattle.qo_heap.specs.Objects.{Objects, with_edit}
use Rattle.qo_heap.specs.Rows.{IsLive}
use Rattle.qo_plug.proofs.PlacementLemmas.{child-undone, edited-live}
use Rattle.qo_plug.proofs.standing.join.Goals as goal

pub join_to-requires-clause-live : goal.join_to-requires-clause-live
join_to-requires-clause-live g c =
    edited-live c.args.heap.now c.add_child.new.self c.args.attachment.container.birth (with_slot c.own.result (Child c.args.device))
    c.in_ok-add_child.ensures.added c.args.device c.requires.live

pub join_to-requires-clause-bus : goal.join_to-requires-clause-bus
join_to-requires-clause-bus g c =
    edited-live c.args.heap.now c.add_child.new.self c.args.attachment.container.birth (with_slot c.own.result (Child c.args.device))
    c.in_ok-add_child.ensures.added c.args.attachment.bus c.requires.bus

pub empty-device-requires : goal.empty-device-requires
empty-device-requires g c =
    record {
      live = subst (λ (x : Objects). IsLive x.rows c.args.attachment.container) (sym c.in-Err.ensures.err)
          (edited-live c.args.heap.now c.add_child.new.self c.args.attachment.container.birth (with_slot c.own.result (Child c.args.device))
          c.in_ok-add_child.ensures.added c.args.attachment.container c.requires.container);
    }

pub returns-in-Err-clause-err : goal.returns-in-Err-clause-err
returns-in-Err-clause-err g c =
    child-undone c.args.heap.now c.reveal_invariant.ensures c.args.attachment.container c.requires.container c.own.result c.slot_count-at.result
    c.slot_count-at.ensures.count c.args.device c.add_child.new.self c.empty-device.new.self
    c.in_ok-add_child.ensures.added
    (c.empty-device.ensures.now ∙ ap (with_edit c.args.attachment.container.birth (dropped_at c.slot_count-at.result)) c.in-Err.ensures.err)
