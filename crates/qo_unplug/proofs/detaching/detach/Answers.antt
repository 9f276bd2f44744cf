-- The device is held, unrealized, taken out, and let go.
use Rattle.std.proofs.Common.{◌+◌, length}
use Rattle.qo_unplug.specs.Unparenting.{taken_within}
use Rattle.qo_unplug.specs.Feeding.{FeedsWithin}
use Rattle.qo_unplug.specs.Unrealizing.{device_within}
use Rattle.qo_unplug.proofs.UnparentingLemmas.{goes-pin, pin-live, pinned-of, taken-live, taken-pinned}
use Rattle.qo_unplug.proofs.DetachmentLemmas.{beside-detached, book-detached, detach-room, names-detached, pin-timely, pins-detached}
use Rattle.qo_unplug.proofs.DetachmentLemmas.{timely-detached, unrealized-pinned}
use Rattle.qo_unplug.proofs.ScopeLemmas.{takes-taken_within}
use Rattle.qo_unplug.proofs.DetachedClaims.{claims-detached, counts-detached, periods-detached, shown-detached}
use Rattle.qo_unplug.proofs.detaching.detach.Goals as goal

pub unrealize-requires-clause-live : goal.unrealize-requires-clause-live
unrealize-requires-clause-live g c = pin-live c.args.heap.now c.pin.new.self c.args.dev.birth c.pin.ensures.now c.args.dev c.requires.live

pub unrealize-requires-clause-timely : goal.unrealize-requires-clause-timely
unrealize-requires-clause-timely g c = pin-timely c.args.heap.now c.pin.new.self c.args.dev.birth c.pin.ensures.now c.requires.timely

pub take_out-requires-clause-live : goal.take_out-requires-clause-live
take_out-requires-clause-live g c =
    c.unrealize.ensures.undoes.live c.args.dev (pin-live c.args.heap.now c.pin.new.self c.args.dev.birth c.pin.ensures.now c.args.dev c.requires.live)

pub take_out-requires-clause-pinned : goal.take_out-requires-clause-pinned
take_out-requires-clause-pinned g c =
    let pinned = goes-pin c.args.heap.now c.pin.new.self c.reveal_invariant.ensures c.args.dev c.requires.live c.pin.ensures.now in
    unrealized-pinned c.args.heap.now c.pin.new.self c.unrealize.new.heap c.args.dev.birth pinned c.unrealize.ensures.undoes.pins

pub take_out-requires-clause-room : goal.take_out-requires-clause-room
take_out-requires-clause-room g c =
    let pinned = goes-pin c.args.heap.now c.pin.new.self c.reveal_invariant.ensures c.args.dev c.requires.live c.pin.ensures.now in
    detach-room c.args.heap.now c.pin.new.self c.unrealize.new.heap c.reveal_invariant.ensures c.args.dev.birth c.live-levels.result c.requires.pins
    c.live-levels.ensures pinned
    c.unrealize.ensures.undoes.pins

pub drop_pin-requires-clause-live : goal.drop_pin-requires-clause-live
drop_pin-requires-clause-live g c =
    let pinned = goes-pin c.args.heap.now c.pin.new.self c.reveal_invariant.ensures c.args.dev c.requires.live c.pin.ensures.now in
    taken-live (taken_within c.live-levels.result c.args.dev.birth) c.unrealize.new.heap c.take_out.new.heap c.take_out.ensures
    (takes-taken_within c.live-levels.result c.args.dev.birth) c.args.dev
    (c.unrealize.ensures.undoes.live c.args.dev (pin-live c.args.heap.now c.pin.new.self c.args.dev.birth c.pin.ensures.now c.args.dev c.requires.live))
    (unrealized-pinned c.args.heap.now c.pin.new.self c.unrealize.new.heap c.args.dev.birth pinned c.unrealize.ensures.undoes.pins)

pub drop_pin-requires-clause-pinned : goal.drop_pin-requires-clause-pinned
drop_pin-requires-clause-pinned g c =
    let pinned = goes-pin c.args.heap.now c.pin.new.self c.reveal_invariant.ensures c.args.dev c.requires.live c.pin.ensures.now in
    pinned-of c.take_out.new.heap c.reveal_invariant-2.ensures c.args.dev.birth
    (taken-pinned (taken_within c.live-levels.result c.args.dev.birth) c.unrealize.new.heap c.take_out.new.heap c.take_out.ensures
    (takes-taken_within c.live-levels.result c.args.dev.birth) c.args.dev.birth
    (unrealized-pinned c.args.heap.now c.pin.new.self c.unrealize.new.heap c.args.dev.birth pinned c.unrealize.ensures.undoes.pins))

pub returns-clause-shown : goal.returns-clause-shown
returns-clause-shown g c = λ b may beside.
    let pinned = goes-pin c.args.heap.now c.pin.new.self c.reveal_invariant.ensures c.args.dev c.requires.live c.pin.ensures.now in
    beside-detached c.args.heap.now c.pin.new.self c.unrealize.new.heap c.take_out.new.heap c.drop_pin.new.heap c.args.resets.now.births
    c.unrealize.new.resets.births c.args.hotplug.now c.unrealize.new.hotplug c.args.dev.birth c.live-levels.result c.live-levels.ensures c.pin.ensures.now
    pinned c.unrealize.ensures.undoes c.take_out.ensures c.drop_pin.ensures.goes b may beside

pub returns-clause-book : goal.returns-clause-book
returns-clause-book g c =
    let pinned = goes-pin c.args.heap.now c.pin.new.self c.reveal_invariant.ensures c.args.dev c.requires.live c.pin.ensures.now in
    book-detached (λ b _. FeedsWithin b (length c.pin.new.self.rows + 1) c.args.dev.birth)
    (λ b. device_within b (length c.pin.new.self.rows + 1) c.args.dev.birth) (taken_within c.live-levels.result c.args.dev.birth)
    c.args.heap.now c.pin.new.self c.unrealize.new.heap c.take_out.new.heap c.drop_pin.new.heap c.args.resets.now.births c.unrealize.new.resets.births
    c.args.hotplug.now c.unrealize.new.hotplug c.args.dev.birth pinned c.unrealize.ensures.undoes c.take_out.ensures c.drop_pin.ensures.goes

pub returns-clause-names : goal.returns-clause-names
returns-clause-names g c =
    names-detached (λ b _. FeedsWithin b (length c.pin.new.self.rows + 1) c.args.dev.birth)
    (λ b. device_within b (length c.pin.new.self.rows + 1) c.args.dev.birth) (taken_within c.live-levels.result c.args.dev.birth)
    c.args.heap.now c.pin.new.self c.unrealize.new.heap c.take_out.new.heap c.drop_pin.new.heap c.args.resets.now.births c.unrealize.new.resets.births
    c.args.hotplug.now c.unrealize.new.hotplug c.args.dev.birth c.pin.ensures.now c.unrealize.ensures.undoes c.take_out.ensures c.drop_pin.ensures.goes

pub returns-clause-pins : goal.returns-clause-pins
returns-clause-pins g c =
    let pinned = goes-pin c.args.heap.now c.pin.new.self c.reveal_invariant.ensures c.args.dev c.requires.live c.pin.ensures.now in
    pins-detached c.args.heap.now c.pin.new.self c.unrealize.new.heap c.take_out.new.heap c.drop_pin.new.heap c.reveal_invariant.ensures c.args.dev.birth
    c.live-levels.result pinned
    c.unrealize.ensures.undoes.pins
    c.take_out.ensures c.drop_pin.ensures.goes

pub returns-clause-timely : goal.returns-clause-timely
returns-clause-timely g c =
    timely-detached (λ b _. FeedsWithin b (length c.pin.new.self.rows + 1) c.args.dev.birth)
    (λ b. device_within b (length c.pin.new.self.rows + 1) c.args.dev.birth) c.args.heap.now c.pin.new.self c.unrealize.new.heap
    c.take_out.new.heap c.drop_pin.new.heap c.args.resets.now.births c.unrealize.new.resets.births c.args.hotplug.now c.unrealize.new.hotplug
    c.args.dev.birth c.live-levels.result c.pin.ensures.now c.unrealize.ensures.undoes c.take_out.ensures c.drop_pin.ensures.goes c.requires.timely

pub returns-clause-seen : goal.returns-clause-seen
returns-clause-seen g c = λ b may shows.
    let pinned = goes-pin c.args.heap.now c.pin.new.self c.reveal_invariant.ensures c.args.dev c.requires.live c.pin.ensures.now in
    shown-detached c.args.heap.now c.pin.new.self c.unrealize.new.heap c.take_out.new.heap c.drop_pin.new.heap c.args.dev.birth c.live-levels.result
    c.live-levels.ensures c.pin.ensures.now pinned c.unrealize.ensures.clears c.take_out.ensures c.drop_pin.ensures.goes b may shows

pub returns-clause-counts : goal.returns-clause-counts
returns-clause-counts g c = λ b may shows n was h.
    let pinned = goes-pin c.args.heap.now c.pin.new.self c.reveal_invariant.ensures c.args.dev c.requires.live c.pin.ensures.now in
    counts-detached c.args.heap.now c.pin.new.self c.unrealize.new.heap c.take_out.new.heap c.drop_pin.new.heap c.args.dev.birth c.live-levels.result
    c.live-levels.ensures c.pin.ensures.now pinned c.unrealize.ensures.clears c.take_out.ensures c.drop_pin.ensures.goes b may shows n was h

pub returns-clause-claims : goal.returns-clause-claims
returns-clause-claims g c = λ b may beside due h.
    let pinned = goes-pin c.args.heap.now c.pin.new.self c.reveal_invariant.ensures c.args.dev c.requires.live c.pin.ensures.now in
    claims-detached c.args.heap.now c.pin.new.self c.unrealize.new.heap c.take_out.new.heap c.drop_pin.new.heap c.args.resets.now.births
    c.unrealize.new.resets.births c.args.hotplug.now c.unrealize.new.hotplug c.args.dev.birth c.live-levels.result c.live-levels.ensures c.pin.ensures.now
    pinned c.unrealize.ensures c.take_out.ensures c.drop_pin.ensures.goes b may beside due h

pub returns-clause-periods : goal.returns-clause-periods
returns-clause-periods g c = λ b may shows.
    let pinned = goes-pin c.args.heap.now c.pin.new.self c.reveal_invariant.ensures c.args.dev c.requires.live c.pin.ensures.now in
    periods-detached c.args.heap.now c.pin.new.self c.unrealize.new.heap c.take_out.new.heap c.drop_pin.new.heap c.args.dev.birth c.live-levels.result
    c.live-levels.ensures c.pin.ensures.now pinned c.unrealize.ensures.clears c.take_out.ensures c.drop_pin.ensures.goes b may shows
