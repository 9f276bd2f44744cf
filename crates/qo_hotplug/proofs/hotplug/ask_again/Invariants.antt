use Rattle.std.proofs.Common.{◌≡◌}
use Rattle.std.specs.Vec.{vec_capacity}
use Rattle.qo_model.specs.Hotplug.{asked_at}
use Rattle.qo_hotplug.proofs.Again.{changed_to}
use Rattle.qo_hotplug.proofs.hotplug.ask_again.Given as goal

abbrev pub invariant-loop-at : goal.invariant-loop-at
invariant-loop-at l =
    (l.removals.items ≡ changed_to (asked_at l.device.birth l.now) l.at l.initial.removals.items)
    × (vec_capacity l.removals ≡ vec_capacity l.initial.removals)
