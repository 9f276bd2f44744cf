-- The kids of a bus, and the buses of a device, before the place are unrealized.
use Rattle.std.proofs.Common.{◌+◌, ◌-◌, ◌*◌}
use Rattle.qo_unplug.specs.Feeding.{BusFeeds, BusesFeed}
use Rattle.qo_unplug.specs.Unrealizing.{Ends, buses_within, kids_within, parts}
use Rattle.qo_unplug.proofs.unrealizing.+unrealizing.Given as goal

abbrev pub decreases-unrealize_device : goal.decreases-unrealize_device
decreases-unrealize_device g l = 4 * l.levels

abbrev pub decreases-unrealize_kid : goal.decreases-unrealize_kid
decreases-unrealize_kid g l = 4 * l.levels + 1

abbrev pub decreases-unrealize_bus : goal.decreases-unrealize_bus
decreases-unrealize_bus g l = 4 * l.levels + 2

abbrev pub decreases-unrealize_bus_at : goal.decreases-unrealize_bus_at
decreases-unrealize_bus_at g l = 4 * l.levels + 3

abbrev pub invariant-unrealize_bus-loop-at : goal.invariant-unrealize_bus-loop-at
invariant-unrealize_bus-loop-at g l =
    Ends (λ b _. BusFeeds b l.levels l.bus.birth) (λ b. kids_within b l.levels l.bus.birth l.at)
    (parts l.fn.heap l.fn.resets.births l.fn.hotplug) (parts l.heap l.resets.births l.hotplug)

abbrev pub invariant-unrealize_device-loop-at : goal.invariant-unrealize_device-loop-at
invariant-unrealize_device-loop-at g l =
    Ends (λ b _. BusesFeed b (l.levels - 1) l.dev.birth) (λ b. buses_within b (l.levels - 1) l.dev.birth l.at)
    (parts l.fn.heap l.fn.resets.births l.fn.hotplug) (parts l.heap l.resets.births l.hotplug)
