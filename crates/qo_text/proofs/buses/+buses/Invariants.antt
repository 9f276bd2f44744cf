-- The lines of the buses, or of the devices, in the first slots are put.
use Rattle.std.proofs.Common.{◌≡◌, ◌+◌, ◌-◌, ◌*◌, ◌++◌, string_bytes, take}
use Rattle.std.specs.Prelude.{filter_map, flat_map}
use Rattle.qo_heap.specs.Board.{Shows}
use Rattle.qo_model.specs.Board.{Board, slots_at}
use Rattle.qo_model.specs.Devices.{strong_in}
use Rattle.qo_text.specs.Buses.{bus_entry, bus_lines, device_line, device_text}
use Rattle.qo_text.proofs.BusTextLemmas.{bus_to, entry_text}
use Rattle.qo_text.proofs.buses.+buses.Given as goal

abbrev pub decreases-put_bus : goal.decreases-put_bus
decreases-put_bus g l = 4 * l.levels

abbrev pub decreases-put_bus_at : goal.decreases-put_bus_at
decreases-put_bus_at g l = 4 * l.levels + 1

abbrev pub decreases-put_device : goal.decreases-put_device
decreases-put_device g l = 4 * l.levels + 2

abbrev pub decreases-put_kid : goal.decreases-put_kid
decreases-put_kid g l = 4 * l.levels + 3

abbrev pub invariant-put_device-loop-at : goal.invariant-put_device-loop-at
invariant-put_device-loop-at g l =
    (b : Board) → Shows b l.heap
    → string_bytes l.text
    ≡ (string_bytes l.fn.text ++ device_line b l.spaces l.dev.birth)
    ++ flat_map (entry_text b l.levels (l.spaces + 4)) (filter_map (bus_entry b) (take l.at (slots_at b l.dev.birth)))

abbrev pub invariant-put_bus-loop-at : goal.invariant-put_bus-loop-at
invariant-put_bus-loop-at g l =
    (b : Board) → Shows b l.heap
    → string_bytes l.text
    ≡ (string_bytes l.fn.text ++ bus_lines b l.bus.birth l.name l.spaces)
    ++ flat_map (device_text b (bus_to b (l.levels - 1)) l.spaces) (filter_map (λ s. strong_in s.1) (take l.at (slots_at b l.bus.birth)))
