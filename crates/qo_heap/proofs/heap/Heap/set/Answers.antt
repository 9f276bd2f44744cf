use Rattle.std.proofs.Common.{refl, le_of_eq}
use Rattle.qo_object.specs.Slots.{with_val}
use Rattle.qo_object.specs.Content.{set_at}
use Rattle.qo_heap.proofs.HeapLemmas.{set-there}
use Rattle.qo_heap.proofs.HoldLemmas.{changed-length, set-moves}
use Rattle.qo_heap.proofs.InsideObjects.{EditedInside, changed-inside, changes-kept, content-written, few-there, objects_inside, weak-written, with_content, with_written}
use Rattle.qo_heap.proofs.WeakSlots.{set-names}
use Rattle.qo_heap.proofs.heap.Heap.set.Goals as goal

edited : (g : _) (c : goal.After-self-1 g)
    → EditedInside c.self.inside c.args.o (set_at c.args.val c.args.at) (with_written c.self.inside c.args.o (with_content c.entry_mut.result.now c.set.new.self))
edited g c =
    let h = c.self.inside in
    let o = c.args.o in
    let e = c.entry_mut.result.now in
    let w = with_content e c.set.new.self in
    let is = content-written (set_at c.args.val c.args.at) e c.set.new.self c.set.ensures in
    let live = rw (← c.self.view_is) at c.requires.live in
    changed-inside h c.self.invariant o live (set_at c.args.val c.args.at) (with_written h o w)
    (changes-kept h c.self.invariant o live (set_at c.args.val c.args.at) e w c.entry_mut.ensures.kept is
    (set-moves c.args.val c.args.at e.object)
    (few-there h c.self.invariant o live (set_at c.args.val c.args.at) e w c.entry_mut.ensures.kept is (le_of_eq (changed-length (with_val c.args.val) c.args.at e.object.slots))))
    (weak-written h c.self.invariant o live (set_at c.args.val c.args.at) e w c.entry_mut.ensures.kept is (set-names c.args.val c.args.at e.object.slots))
    (λ x. set-there (objects_inside h) c.args.val c.args.at x) (λ x. refl)

pub invariant_of-self : goal.invariant_of-self
invariant_of-self g c = (edited g c).good

pub returns-clause-now : goal.returns-clause-now
returns-clause-now g c = rw (← c.self.view_is) (edited g c).now
