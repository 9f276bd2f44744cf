-- A bus more acts where there is one at the place.
use Rattle.std.proofs.Common.{subst, sym, ◌∙◌, ◌+◌}
use Rattle.qo_plug.proofs.AttemptLemmas.{Reached, quiet-may, reached-bus, reached-first, reached-other, reached-quiet}
use Rattle.qo_plug.proofs.failed_plug.act_buses.Goals.{in-Some, in_default}
use Rattle.qo_plug.proofs.failed_plug.act_buses.Goals as goal

pub loop-place-init : goal.loop-place-init
loop-place-init g c = reached-first c.args.act c.args.device.birth c.place_from-place.result c.args.heap.now c.place_from-place.ensures

pub act-requires-clause-timely : goal.act-requires-clause-timely
act-requires-clause-timely g c =
    quiet-may c.args.act c.loop-place.heap c.in-Some.bus.birth
    (reached-quiet c.args.act c.args.device.birth c.loop-place.place c.args.heap.now c.loop-place.heap c.loop-place.invariant c.in-Some.bus.birth
    (c.requires.quiet c.in-Some.bus.birth c.in-Some.ensures.later))

pub loop-place-preserved : goal.loop-place-preserved
loop-place-preserved g c =
    elim c.match-new_bus_at.branch [
      | in-Some w ↦
          reached-bus c.args.act c.args.device.birth c.loop-place.place c.args.heap.now c.loop-place.heap c.match-new_bus_at.heap w.in-Some.bus
          c.loop-place.invariant
          w.in-Some.ensures.bus (w.heap-is ∙ w.act.ensures.now)
      | in_default w ↦
          subst (Reached c.args.act c.args.device.birth (c.loop-place.place + 1) c.args.heap.now) (sym w.heap-is)
          (reached-other c.args.act c.args.device.birth c.loop-place.place c.args.heap.now c.loop-place.heap c.loop-place.invariant
          (sym w.in_default.is ∙ c.new_bus_at.ensures.bus))
    ]
