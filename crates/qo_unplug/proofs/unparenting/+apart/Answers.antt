-- Kids and buses are lost one after another, and who is held stays meanwhile.
use Rattle.std.proofs.Common.{◌-◌, ◌+◌, Some, None, arith}
use Rattle.qo_unplug.specs.Unparenting.{buses_lost, drained_within, taken_within}
use Rattle.qo_unplug.proofs.UnparentingLemmas.{bus-any, buses-done, buses-lost, buses-stopped, buses_left, goes-apart, goes-bus_lost, goes-first_bus}
use Rattle.qo_unplug.proofs.UnparentingLemmas.{goes-first_kid, goes-no_bus, goes-no_kid, goes-pin, goes-taken, kid-any, kids-done, kids-lost, kids-stopped}
use Rattle.qo_unplug.proofs.UnparentingLemmas.{kids_left, losing-none, none-apart, pin-left, pin-live, pin-own, pin-room, pinned-of, taken-live}
use Rattle.qo_unplug.proofs.UnparentingLemmas.{taken-pinned, taken-room}
use Rattle.qo_unplug.proofs.ScopeLemmas.{takes-buses_lost, takes-drained_within, takes-taken_within}
use Rattle.qo_unplug.proofs.unparenting.+apart.Goals as goal

-- the first kid

pub take_first_kid-returns-in_default-clause-goes : goal.take_first_kid-returns-in_default-clause-goes
take_first_kid-returns-in_default-clause-goes g t c =
    goes-no_kid c.args.heap.now c.args.levels c.args.bus
    (kid-any c.args.heap.now c.reveal_board.ensures.0 c.reveal_board.ensures.1 c.args.bus None (λ b s. c.in_default.ensures.kid b s))

pub take_first_kid-returns-clause-goes : goal.take_first_kid-returns-clause-goes
take_first_kid-returns-clause-goes g t c =
    goes-first_kid c.args.heap.now c.take_apart.new.heap c.args.levels c.args.bus c.in-Some.kid.birth
    (kid-any c.args.heap.now c.reveal_board.ensures.0 c.reveal_board.ensures.1 c.args.bus (Some c.in-Some.kid.birth) (λ b s. c.in-Some.ensures.kid b s))
    c.take_apart.ensures

-- the kids of a bus

pub drain-loop-turn-init : goal.drain-loop-turn-init
drain-loop-turn-init g t c = losing-none (kids_left c.args.levels c.args.bus.birth) c.slot_count-count.result c.args.heap.now

pub drain-take_first_kid-requires : goal.drain-take_first_kid-requires
drain-take_first_kid-requires g t c κs within =
    let l = c.loop-turn.invariant in
    (omega arith, (within, taken-room l.step c.args.heap.now c.loop-turn.heap l.goes l.takes c.args.levels c.requires.room))

pub drain-loop-turn-preserved : goal.drain-loop-turn-preserved
drain-loop-turn-preserved g t c =
    kids-lost c.args.levels c.args.bus.birth c.slot_count-count.result c.loop-turn._turn c.args.heap.now c.loop-turn.heap c.take_first_kid.new.heap
    c.loop-turn.invariant c.loop-turn-test.true c.take_first_kid.ensures.goes

pub drain-returns-then-not-take_first_kid : goal.drain-returns-then-not-take_first_kid
drain-returns-then-not-take_first_kid g t c =
    kids-stopped c.args.levels c.args.bus.birth c.slot_count-count.result (c.slot_count-count.result - (c.loop-turn._turn + 1)) c.args.heap.now
    c.take_first_kid.new.heap c.slot_count-count.ensures.count
    (kids-lost c.args.levels c.args.bus.birth c.slot_count-count.result c.loop-turn._turn c.args.heap.now c.loop-turn.heap c.take_first_kid.new.heap
    c.loop-turn.invariant c.loop-turn-test.true c.take_first_kid.ensures.goes)
    (c.take_first_kid.ensures.none c.if-not-take_first_kid.true)

pub drain-returns : goal.drain-returns
drain-returns g t c =
    kids-done c.args.levels c.args.bus.birth c.slot_count-count.result c.loop-turn._turn c.args.heap.now c.loop-turn.heap c.slot_count-count.ensures.count
    c.loop-turn-test.false c.loop-turn.invariant

-- a bus

pub lose_bus-let_go_bus-requires : goal.lose_bus-let_go_bus-requires
lose_bus-let_go_bus-requires g t c =
    taken-live (drained_within c.args.levels c.args.bus.birth) c.args.heap.now c.drain.new.heap c.drain.ensures
    (takes-drained_within c.args.levels c.args.bus.birth) c.args.dev c.requires.live c.requires.pinned

pub lose_bus-returns : goal.lose_bus-returns
lose_bus-returns g t c =
    goes-bus_lost c.args.heap.now c.drain.new.heap c.let_go_bus.new.heap c.args.levels c.args.dev.birth c.args.bus.birth c.drain.ensures
    c.let_go_bus.ensures.goes

pub lose_first_bus-returns-in_default-clause-goes : goal.lose_first_bus-returns-in_default-clause-goes
lose_first_bus-returns-in_default-clause-goes g t c =
    goes-no_bus c.args.heap.now c.args.levels c.args.dev.birth
    (bus-any c.args.heap.now c.reveal_board.ensures.0 c.reveal_board.ensures.1 c.args.dev.birth None (λ b s. c.in_default.ensures.bus b s))

pub lose_first_bus-returns-clause-goes : goal.lose_first_bus-returns-clause-goes
lose_first_bus-returns-clause-goes g t c =
    goes-first_bus c.args.heap.now c.lose_bus.new.heap c.args.levels c.args.dev.birth c.in-Some.bus.birth
    (bus-any c.args.heap.now c.reveal_board.ensures.0 c.reveal_board.ensures.1 c.args.dev.birth (Some c.in-Some.bus.birth) (λ b s. c.in-Some.ensures.bus b s))
    c.lose_bus.ensures

-- the buses of a device

pub lose_buses-loop-turn-init : goal.lose_buses-loop-turn-init
lose_buses-loop-turn-init g t c = losing-none (buses_left c.args.levels c.args.dev.birth) c.slot_count-count.result c.args.heap.now

pub lose_buses-lose_first_bus-requires : goal.lose_buses-lose_first_bus-requires
lose_buses-lose_first_bus-requires g t c κs within =
    let l = c.loop-turn.invariant in (
      omega arith,
      (
        within,
        (
          taken-live l.step c.args.heap.now c.loop-turn.heap l.goes l.takes c.args.dev c.requires.live c.requires.pinned,
          (
            taken-pinned l.step c.args.heap.now c.loop-turn.heap l.goes l.takes c.args.dev.birth c.requires.pinned,
            taken-room l.step c.args.heap.now c.loop-turn.heap l.goes l.takes c.args.levels c.requires.room,
          ),
        ),
      ),
    )

pub lose_buses-loop-turn-preserved : goal.lose_buses-loop-turn-preserved
lose_buses-loop-turn-preserved g t c =
    buses-lost c.args.levels c.args.dev.birth c.slot_count-count.result c.loop-turn._turn c.args.heap.now c.loop-turn.heap c.lose_first_bus.new.heap
    c.loop-turn.invariant c.loop-turn-test.true c.lose_first_bus.ensures.goes

pub lose_buses-returns-then-not-lose_first_bus : goal.lose_buses-returns-then-not-lose_first_bus
lose_buses-returns-then-not-lose_first_bus g t c =
    buses-stopped c.args.levels c.args.dev.birth c.slot_count-count.result (c.slot_count-count.result - (c.loop-turn._turn + 1)) c.args.heap.now
    c.lose_first_bus.new.heap c.slot_count-count.ensures.count
    (buses-lost c.args.levels c.args.dev.birth c.slot_count-count.result c.loop-turn._turn c.args.heap.now c.loop-turn.heap c.lose_first_bus.new.heap
    c.loop-turn.invariant c.loop-turn-test.true c.lose_first_bus.ensures.goes)
    (c.lose_first_bus.ensures.none c.if-not-lose_first_bus.true)

pub lose_buses-returns : goal.lose_buses-returns
lose_buses-returns g t c =
    buses-done c.args.levels c.args.dev.birth c.slot_count-count.result c.loop-turn._turn c.args.heap.now c.loop-turn.heap c.slot_count-count.ensures.count
    c.loop-turn-test.false c.loop-turn.invariant

-- the device

pub take_out-leave-requires : goal.take_out-leave-requires
take_out-leave-requires g t c =
    taken-live (buses_lost c.args.levels c.args.dev.birth) c.args.heap.now c.lose_buses.new.heap c.lose_buses.ensures
    (takes-buses_lost c.args.levels c.args.dev.birth) c.args.dev c.requires.live c.requires.pinned

pub take_out-returns : goal.take_out-returns
take_out-returns g t c =
    goes-taken c.args.heap.now c.lose_buses.new.heap c.leave.new.heap c.leave_parent.new.heap c.args.levels c.args.dev.birth c.lose_buses.ensures
    c.leave.ensures.goes c.leave_parent.ensures.goes

-- and it is held meanwhile

pub take_apart-returns-then-levels-eq0 : goal.take_apart-returns-then-levels-eq0
take_apart-returns-then-levels-eq0 g t c = none-apart c.args.heap.now c.args.levels c.args.dev.birth c.if-levels-eq0.true

pub take_apart-pin-requires-clause-room : goal.take_apart-pin-requires-clause-room
take_apart-pin-requires-clause-room g t c = pin-room c.args.heap.now c.args.dev.birth c.args.levels c.if-levels-eq0.false c.requires.room

pub take_apart-take_out-requires : goal.take_apart-take_out-requires
take_apart-take_out-requires g t c κs within =
    let pinned = goes-pin c.args.heap.now c.pin.new.self c.reveal_invariant.ensures c.args.dev c.requires.live c.pin.ensures.now in (
      omega arith,
      (
        within,
        (
          pin-live c.args.heap.now c.pin.new.self c.args.dev.birth c.pin.ensures.now c.args.dev c.requires.live,
          (
            pin-own c.args.heap.now c.pin.new.self c.args.dev.birth pinned,
            pin-left c.args.heap.now c.pin.new.self c.args.dev.birth c.args.levels c.if-levels-eq0.false pinned c.requires.room,
          ),
        ),
      ),
    )

pub take_apart-drop_pin-requires-clause-live : goal.take_apart-drop_pin-requires-clause-live
take_apart-drop_pin-requires-clause-live g t c =
    let pinned = goes-pin c.args.heap.now c.pin.new.self c.reveal_invariant.ensures c.args.dev c.requires.live c.pin.ensures.now in
    taken-live (taken_within (c.args.levels - 1) c.args.dev.birth) c.pin.new.self c.take_out.new.heap c.take_out.ensures
    (takes-taken_within (c.args.levels - 1) c.args.dev.birth) c.args.dev
    (pin-live c.args.heap.now c.pin.new.self c.args.dev.birth c.pin.ensures.now c.args.dev c.requires.live)
    (pin-own c.args.heap.now c.pin.new.self c.args.dev.birth pinned)

pub take_apart-drop_pin-requires-clause-pinned : goal.take_apart-drop_pin-requires-clause-pinned
take_apart-drop_pin-requires-clause-pinned g t c =
    let pinned = goes-pin c.args.heap.now c.pin.new.self c.reveal_invariant.ensures c.args.dev c.requires.live c.pin.ensures.now in
    pinned-of c.take_out.new.heap c.reveal_invariant-2.ensures c.args.dev.birth
    (taken-pinned (taken_within (c.args.levels - 1) c.args.dev.birth) c.pin.new.self c.take_out.new.heap c.take_out.ensures
    (takes-taken_within (c.args.levels - 1) c.args.dev.birth) c.args.dev.birth (pin-own c.args.heap.now c.pin.new.self c.args.dev.birth pinned))

pub take_apart-returns : goal.take_apart-returns
take_apart-returns g t c =
    let pinned = goes-pin c.args.heap.now c.pin.new.self c.reveal_invariant.ensures c.args.dev c.requires.live c.pin.ensures.now in
    goes-apart c.args.heap.now c.pin.new.self c.take_out.new.heap c.drop_pin.new.heap c.args.levels c.args.dev.birth c.if-levels-eq0.false pinned
    c.take_out.ensures c.drop_pin.ensures.goes
