-- A bus, the devices on it, and their buses.
use Rattle.std.proofs.Common.{◌≤◌, ◌+◌, ◌-◌, ◌∙◌, ◌++◌, length, string_bytes, sym, append-nil, arith}
use Rattle.std.specs.Prelude.{option_and_then, slice_get}
use Rattle.qo_model.specs.Board.{slots_at}
use Rattle.qo_model.specs.Devices.{strong_in}
use Rattle.qo_text.specs.Buses.{bus_entry, bus_lines, device_line, device_text}
use Rattle.qo_text.proofs.BusTextLemmas.{bus-all, bus-none, bus-put, bus_to, device-all, device-put, entry_text}
use Rattle.qo_text.proofs.TreeTextLemmas.{all-slots, put-none, put-some}
use Rattle.qo_text.proofs.WalkLemmas.{walk-all, walk-more}
use Rattle.qo_text.proofs.buses.+buses.Goals as goal

pub put_bus_at-returns-in_default : goal.put_bus_at-returns-in_default
put_bus_at-returns-in_default g t c = λ b s.
    put-none (entry_text b c.args.levels c.args.spaces) (option_and_then (bus_entry b) (slice_get (slots_at b c.args.dev.birth) c.args.at))
    (string_bytes c.args.text.now) (c.in_default.ensures.bus b s)

pub put_bus_at-returns : goal.put_bus_at-returns
put_bus_at-returns g t c = λ b s.
    put-some (entry_text b c.args.levels c.args.spaces) (c.in-Some.name.now, c.in-Some.bus.birth)
    (option_and_then (bus_entry b) (slice_get (slots_at b c.args.dev.birth) c.args.at)) (string_bytes c.args.text.now) (string_bytes c.put_bus.new.text)
    (c.in_ok-put_bus.ensures b s) (c.in-Some.ensures.bus b s)

pub put_device-loop-at-init : goal.put_device-loop-at-init
put_device-loop-at-init g t c = λ b s.
    device-put b c.args.spaces c.args.dev.birth c.kind_name-kind.result.now c.id_of-id.result.now (string_bytes c.args.text.now)
    (string_bytes c.put_names.new.text) (c.kind_name-kind.ensures b s) (c.id_of-id.ensures b s) c.in_ok-put_names.ensures
    ∙ sym (append-nil (string_bytes c.args.text.now ++ device_line b c.args.spaces c.args.dev.birth))

pub put_device-loop-at-preserved : goal.put_device-loop-at-preserved
put_device-loop-at-preserved g t c = λ b s.
    walk-more (entry_text b c.args.levels (c.args.spaces + 4)) (bus_entry b) c.loop-at.at (slots_at b c.args.dev.birth)
    (string_bytes c.args.text.now ++ device_line b c.args.spaces c.args.dev.birth) (string_bytes c.loop-at.text) (string_bytes c.put_bus_at.new.text)
    (c.loop-at.invariant b s) (c.in_ok-put_bus_at.ensures b s)

pub put_device-returns : goal.put_device-returns
put_device-returns g t c = λ b s.
    let many = all-slots b c.args.heap.now s c.args.dev.birth c.slot_count-count.result c.slot_count-count.ensures.count in
    let last : length (slots_at b c.args.dev.birth) ≤ c.loop-at.at = omega (arith, many, c.loop-at-test.false) in
    device-all b c.args.levels c.args.spaces c.args.dev.birth (string_bytes c.args.text.now) (string_bytes c.loop-at.text)
    (
    walk-all (entry_text b c.args.levels (c.args.spaces + 4)) (bus_entry b) c.loop-at.at (slots_at b c.args.dev.birth)
    (string_bytes c.args.text.now ++ device_line b c.args.spaces c.args.dev.birth) (string_bytes c.loop-at.text) last (c.loop-at.invariant b s)
    )

pub put_kid-returns-in_default : goal.put_kid-returns-in_default
put_kid-returns-in_default g t c = λ b s.
    put-none (device_text b (bus_to b c.args.levels) c.args.spaces) (option_and_then (λ t. strong_in t.1) (slice_get (slots_at b c.args.bus.birth) c.args.at))
    (string_bytes c.args.text.now) (c.in_default.ensures.kid b s)

pub put_kid-returns : goal.put_kid-returns
put_kid-returns g t c = λ b s.
    put-some (device_text b (bus_to b c.args.levels) c.args.spaces) c.in-Some.kid.birth
    (option_and_then (λ t. strong_in t.1) (slice_get (slots_at b c.args.bus.birth) c.args.at)) (string_bytes c.args.text.now)
    (string_bytes c.put_device.new.text) (c.in_ok-put_device.ensures b s) (c.in-Some.ensures.kid b s)

pub put_bus-returns-then-levels-eq0 : goal.put_bus-returns-then-levels-eq0
put_bus-returns-then-levels-eq0 g t c = λ b s.
    bus-none b c.args.levels c.args.spaces c.args.bus.birth c.args.name.now (string_bytes c.args.text.now) c.if-levels-eq0.true

pub put_bus-loop-at-init : goal.put_bus-loop-at-init
put_bus-loop-at-init g t c = λ b s.
    bus-put b c.args.spaces c.args.bus.birth c.args.name.now c.kind_name-kind.result.now (string_bytes c.args.text.now) (string_bytes c.put_line.new.text)
    (string_bytes c.put_line-2.new.text) (c.kind_name-kind.ensures b s) c.in_ok-put_line.ensures c.in_ok-put_line-2.ensures
    ∙ sym (append-nil (string_bytes c.args.text.now ++ bus_lines b c.args.bus.birth c.args.name.now c.args.spaces))

pub put_bus-loop-at-preserved : goal.put_bus-loop-at-preserved
put_bus-loop-at-preserved g t c = λ b s.
    walk-more (device_text b (bus_to b (c.args.levels - 1)) c.args.spaces) (λ t. strong_in t.1) c.loop-at.at (slots_at b c.args.bus.birth)
    (string_bytes c.args.text.now ++ bus_lines b c.args.bus.birth c.args.name.now c.args.spaces) (string_bytes c.loop-at.text)
    (string_bytes c.put_kid.new.text) (c.loop-at.invariant b s) (c.in_ok-put_kid.ensures b s)

pub put_bus-returns : goal.put_bus-returns
put_bus-returns g t c = λ b s.
    let many = all-slots b c.args.heap.now s c.args.bus.birth c.slot_count-count.result c.slot_count-count.ensures.count in
    let last : length (slots_at b c.args.bus.birth) ≤ c.loop-at.at = omega (arith, many, c.loop-at-test.false) in
    bus-all b c.args.levels c.args.spaces c.args.bus.birth c.args.name.now (string_bytes c.args.text.now) (string_bytes c.loop-at.text) c.if-levels-eq0.false
    (
    walk-all (device_text b (bus_to b (c.args.levels - 1)) c.args.spaces) (λ t. strong_in t.1) c.loop-at.at (slots_at b c.args.bus.birth)
    (string_bytes c.args.text.now ++ bus_lines b c.args.bus.birth c.args.name.now c.args.spaces) (string_bytes c.loop-at.text) last
    (c.loop-at.invariant b s)
    )
