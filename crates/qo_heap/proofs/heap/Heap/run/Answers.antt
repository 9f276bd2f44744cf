use Rattle.std.proofs.Common.{refl}
use Rattle.qo_object.specs.Content.{acted_at}
use Rattle.qo_heap.proofs.InsideObjects.{EditedInside, quiet-inside, with_content, with_written}
use Rattle.qo_heap.proofs.heap.Heap.run.Goals as goal

edited : (g : _) (c : goal.After-self-1 g)
    → EditedInside c.self.inside c.args.o (acted_at c.args.act c.self.inside.time c.args.period) (with_written c.self.inside c.args.o (with_content c.entry_mut.result.now c.act.new.self))
edited g c =
    quiet-inside c.self.inside c.self.invariant c.args.o (rw (← c.self.view_is) at c.requires.live)
    (acted_at c.args.act c.self.inside.time c.args.period) c.entry_mut.result.now c.act.new.self c.entry_mut.ensures.kept c.act.ensures (λ x. refl) (λ x. refl)

pub invariant_of-self : goal.invariant_of-self
invariant_of-self g c = (edited g c).good

pub returns-clause-now : goal.returns-clause-now
returns-clause-now g c = rw (← c.self.view_is) (edited g c).now
