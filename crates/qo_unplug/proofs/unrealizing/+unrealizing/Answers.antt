-- The kids of a bus and the bus, and the buses of a device and the device.
use Rattle.std.proofs.Common.{◌-◌, Some, None}
use Rattle.qo_unplug.specs.Unrealizing.{parts}
use Rattle.qo_unplug.proofs.WalkLemmas.{bus-read, buses-first, buses-last, buses-next, kid-read, kids-first, kids-last, kids-next, no-bus, none-within, one-bus, one-device, one-none}
use Rattle.qo_unplug.proofs.unrealizing.+unrealizing.Goals as goal

pub unrealize_kid-returns-in-Some : goal.unrealize_kid-returns-in-Some
unrealize_kid-returns-in-Some g t c =
    kid-read (parts c.args.heap.now c.args.resets.now.births c.args.hotplug.now)
    (parts c.unrealize_device.new.heap c.unrealize_device.new.resets.births c.unrealize_device.new.hotplug) c.args.bus.birth c.args.at c.args.levels
    (Some c.in-Some.kid) (λ b s. c.in-Some.ensures.kid b s)
    (one-device (parts c.args.heap.now c.args.resets.now.births c.args.hotplug.now)
    (parts c.unrealize_device.new.heap c.unrealize_device.new.resets.births c.unrealize_device.new.hotplug) c.args.levels c.in-Some.kid.birth
    c.unrealize_device.ensures)

pub unrealize_kid-returns-in_default : goal.unrealize_kid-returns-in_default
unrealize_kid-returns-in_default g t c =
    let s = parts c.args.heap.now c.args.resets.now.births c.args.hotplug.now in
    kid-read s s c.args.bus.birth c.args.at c.args.levels None (λ b shown. c.in_default.ensures.kid b shown) (one-none s c.args.levels)

pub unrealize_bus-loop-at-init : goal.unrealize_bus-loop-at-init
unrealize_bus-loop-at-init g t c = kids-first (parts c.args.heap.now c.args.resets.now.births c.args.hotplug.now) c.args.bus.birth c.args.levels

pub unrealize_bus-loop-at-preserved : goal.unrealize_bus-loop-at-preserved
unrealize_bus-loop-at-preserved g t c =
    kids-next (parts c.args.heap.now c.args.resets.now.births c.args.hotplug.now)
    (parts c.loop-at.heap c.loop-at.resets.births c.loop-at.hotplug)
    (parts c.unrealize_kid.new.heap c.unrealize_kid.new.resets.births c.unrealize_kid.new.hotplug) c.args.bus.birth c.args.levels c.loop-at.at
    c.loop-at.invariant c.unrealize_kid.ensures

pub unrealize_bus-returns : goal.unrealize_bus-returns
unrealize_bus-returns g t c =
    kids-last (parts c.args.heap.now c.args.resets.now.births c.args.hotplug.now)
    (parts c.loop-at.heap c.loop-at.resets.births c.loop-at.hotplug)
    (parts c.end_bus.new.heap c.end_bus.new.resets.births c.loop-at.hotplug) c.args.bus.birth c.args.levels c.loop-at.at c.slot_count-count.result
    c.loop-at-test.false c.slot_count-count.ensures.count c.loop-at.invariant (c.end_bus.ensures c.loop-at.hotplug)

pub unrealize_bus_at-returns-in-Some : goal.unrealize_bus_at-returns-in-Some
unrealize_bus_at-returns-in-Some g t c =
    bus-read (parts c.args.heap.now c.args.resets.now.births c.args.hotplug.now)
    (parts c.unrealize_bus.new.heap c.unrealize_bus.new.resets.births c.unrealize_bus.new.hotplug) c.args.dev.birth c.args.at c.args.levels
    (Some c.in-Some.bus) (λ b s. c.in-Some.ensures.bus b s)
    (one-bus (parts c.args.heap.now c.args.resets.now.births c.args.hotplug.now)
    (parts c.unrealize_bus.new.heap c.unrealize_bus.new.resets.births c.unrealize_bus.new.hotplug) c.args.levels c.in-Some.bus.birth
    c.unrealize_bus.ensures)

pub unrealize_bus_at-returns-in_default : goal.unrealize_bus_at-returns-in_default
unrealize_bus_at-returns-in_default g t c =
    let s = parts c.args.heap.now c.args.resets.now.births c.args.hotplug.now in
    bus-read s s c.args.dev.birth c.args.at c.args.levels None (λ b shown. c.in_default.ensures.bus b shown) (no-bus s c.args.levels)

pub unrealize_device-returns-then-levels-eq0 : goal.unrealize_device-returns-then-levels-eq0
unrealize_device-returns-then-levels-eq0 g t c =
    none-within (parts c.args.heap.now c.args.resets.now.births c.args.hotplug.now) c.args.dev.birth c.args.levels c.if-levels-eq0.true

pub unrealize_device-loop-at-init : goal.unrealize_device-loop-at-init
unrealize_device-loop-at-init g t c = buses-first (parts c.args.heap.now c.args.resets.now.births c.args.hotplug.now) c.args.dev.birth (c.args.levels - 1)

pub unrealize_device-loop-at-preserved : goal.unrealize_device-loop-at-preserved
unrealize_device-loop-at-preserved g t c =
    buses-next (parts c.args.heap.now c.args.resets.now.births c.args.hotplug.now)
    (parts c.loop-at.heap c.loop-at.resets.births c.loop-at.hotplug)
    (parts c.unrealize_bus_at.new.heap c.unrealize_bus_at.new.resets.births c.unrealize_bus_at.new.hotplug) c.args.dev.birth (c.args.levels - 1) c.loop-at.at
    c.loop-at.invariant c.unrealize_bus_at.ensures

pub unrealize_device-returns : goal.unrealize_device-returns
unrealize_device-returns g t c =
    buses-last (parts c.args.heap.now c.args.resets.now.births c.args.hotplug.now)
    (parts c.loop-at.heap c.loop-at.resets.births c.loop-at.hotplug)
    (parts c.end_device.new.heap c.end_device.new.resets.births c.end_device.new.hotplug) c.args.dev.birth c.args.levels c.loop-at.at
    c.slot_count-count.result c.if-levels-eq0.false c.loop-at-test.false c.slot_count-count.ensures.count c.loop-at.invariant c.end_device.ensures
