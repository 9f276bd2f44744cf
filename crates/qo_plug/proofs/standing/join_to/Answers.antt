-- The link that was added last is taken out again.
use Rattle.std.proofs.Common.{true, Some}
use Rattle.qo_values.specs.declared.kinds.TypeId.TheVariants.{Device}
use Rattle.qo_object.specs.declared.slots.Slot.TheVariants.{Link}
use Rattle.qo_object.specs.Content.{dropped_at, with_slot}
use Rattle.qo_plug.proofs.PlacementLemmas.{edited-live, empty-link, link-undone}
use Rattle.qo_plug.proofs.standing.join_to.Goals as goal

pub empty-device-requires : goal.empty-device-requires
empty-device-requires g c =
    record {
      live = edited-live c.args.heap.now c.join_bus.new.heap c.args.bus.birth (with_slot c.args.link (Link Device true (Some c.args.device)))
          c.in_ok-join_bus.ensures.ok c.args.bus c.requires.bus;
    }

pub cut-requires-clause-live : goal.cut-requires-clause-live
cut-requires-clause-live g c =
    edited-live c.join_bus.new.heap c.empty-device.new.self c.args.bus.birth (dropped_at c.slot_count-at.result) c.empty-device.ensures.now c.args.bus
    (edited-live c.args.heap.now c.join_bus.new.heap c.args.bus.birth (with_slot c.args.link (Link Device true (Some c.args.device)))
    c.in_ok-join_bus.ensures.ok c.args.bus c.requires.bus)

pub cut-requires-clause-link : goal.cut-requires-clause-link
cut-requires-clause-link g c =
    empty-link c.args.heap.now c.reveal_invariant.ensures c.args.bus c.requires.bus c.args.link c.slot_count-at.result c.slot_count-at.ensures.count
    c.args.device
    c.join_bus.new.heap c.empty-device.new.self
    c.in_ok-join_bus.ensures.ok c.empty-device.ensures.now

pub returns-in-Err-clause-err : goal.returns-in-Err-clause-err
returns-in-Err-clause-err g c =
    link-undone c.args.heap.now c.reveal_invariant.ensures c.args.bus c.requires.bus c.args.link c.slot_count-at.result c.slot_count-at.ensures.count
    c.args.device
    c.join_bus.new.heap c.empty-device.new.self
    c.in_ok-join_bus.ensures.ok c.empty-device.ensures.now c.cut.new.self c.cut.ensures.now
