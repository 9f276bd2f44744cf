use Rattle.std.proofs.Common.{◌≡◌}
use Rattle.qo_object.specs.Slots.{forgotten_in}
use Rattle.qo_object.proofs.SlotLemmas.{first_changed}
use Rattle.qo_object.proofs.objects.Object.forget.Given as goal

abbrev pub invariant-loop-at : goal.invariant-loop-at
invariant-loop-at l = record {
  kind : l.self-inside.kind ≡ l.initial.self-inside.kind;
  slots : l.self-inside.slots ≡ first_changed (forgotten_in l.birth) l.at l.initial.self-inside.slots;
  pins : l.self-inside.pins ≡ l.initial.self-inside.pins;
  body : l.self-inside.body ≡ l.initial.self-inside.body;
  device_id : l.self-inside.id ≡ l.initial.self-inside.id;
  kept_path : l.self-inside.path ≡ l.initial.self-inside.path;
  side : l.self-inside.side ≡ l.initial.self-inside.side;
  work : l.self-inside.work ≡ l.initial.self-inside.work;
}
