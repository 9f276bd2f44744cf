use Rattle.qo_object.specs.Content.{Content}
use Rattle.qo_heap.specs.Objects.{content_of}
use Rattle.qo_heap.proofs.HeapLemmas.{none-of}
use Rattle.qo_heap.proofs.InsideObjects.{KeptInside, objects_inside, path-inside, with_content, with_written}
use Rattle.qo_heap.proofs.heap.Heap.keep_path.Goals as goal

kept : (g : _) (c : goal.After-self-1 g)
    → KeptInside c.self.inside c.args.o c.args.path (with_written c.self.inside c.args.o (with_content c.entry_mut.result.now c.keep_path.new.self))
    c.promise.new.self
kept g c =
    let none = none-of (λ (x : Content). x.kept_path) (content_of (objects_inside c.self.inside) c.args.o.birth) c.entry_mut.result.now.object
    c.entry_mut.ensures.object (rw (← c.self.view_is) at c.requires.pathless) in
    path-inside c.self.inside c.self.invariant c.args.o (rw (← c.self.view_is) at c.requires.live)
    c.args.path c.entry_mut.result.now c.keep_path.new.self c.entry_mut.ensures.kept c.keep_path.ensures none
    c.promise.new.self c.promise.ensures

pub invariant_of-self : goal.invariant_of-self
invariant_of-self g c = (kept g c).good

pub returns-clause-now : goal.returns-clause-now
returns-clause-now g c = rw (← c.self.view_is) (kept g c).now
