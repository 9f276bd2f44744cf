-- The event waits, and the removal is asked for no more.
use Rattle.std.proofs.Common.{ap, sym, subst}
use Rattle.qo_heap.specs.Objects.{Objects}
use Rattle.qo_hotplug.specs.Hotplug.{Asked}
use Rattle.qo_realize.specs.Removals.{IsAsked}
use Rattle.qo_model.specs.Hotplug.{refused}
use Rattle.qo_realize.proofs.RefusalLemmas.{refused-asked, refused-rows, refused-shows}
use Rattle.qo_realize.proofs.removals.refuse.Goals as goal

pub returns-in-Ok-clause-refused : goal.returns-in-Ok-clause-refused
returns-in-Ok-clause-refused g c = λ b s asked. (
  refused-shows b c.args.heap.now c.refused.new.self c.args.dev.birth c.refused.new.self.events.spare s c.in_ok-refused.ensures.told,
  subst (λ (h : Asked). IsAsked (refused b c.args.dev.birth) h) (sym c.in-Ok.ensures.ok) (refused-asked b c.args.dev.birth c.args.hotplug.now asked),
)

pub returns-in-Ok-clause-rows : goal.returns-in-Ok-clause-rows
returns-in-Ok-clause-rows g c =
    refused-rows c.args.heap.now c.refused.new.self c.args.dev.birth c.refused.new.self.events.spare c.in_ok-refused.ensures.told

pub returns-in-Err-clause-rows : goal.returns-in-Err-clause-rows
returns-in-Err-clause-rows g c =
    refused-rows c.args.heap.now c.refused.new.self c.args.dev.birth c.refused.new.self.events.spare c.in_ok-refused.ensures.told

pub returns-in_err-refused-clause-rows : goal.returns-in_err-refused-clause-rows
returns-in_err-refused-clause-rows g c = ap (λ (x : Objects). x.rows) c.in_err-refused.ensures.err
