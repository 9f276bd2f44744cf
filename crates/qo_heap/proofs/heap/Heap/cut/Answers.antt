use Rattle.std.proofs.Common.{◌≤◌, refl, true, ap, arith, length, []}
use Rattle.qo_object.specs.Content.{Content, cut_at, empty_link_at}
use Rattle.qo_heap.specs.Objects.{content_of}
use Rattle.qo_heap.specs.declared.entries.Entry.{Entry}
use Rattle.qo_heap.proofs.HeapLemmas.{cut-there}
use Rattle.qo_heap.proofs.HoldLemmas.{cut-moves, removed-length}
use Rattle.qo_heap.proofs.InsideObjects.{EditedInside, changed-inside, objects_inside, read-there, short-own, with_written}
use Rattle.qo_heap.proofs.WeakInside.{cut-inside, put-ordered, put-won}
use Rattle.qo_heap.proofs.heap.Heap.cut.Goals as goal

edited : (g : _) (c : goal.After-self-1 g) → EditedInside c.self.inside c.args.o (cut_at c.args.at) (with_written c.self.inside c.args.o c.cut_at.new.self)
edited g c =
    let h = c.self.inside in
    let o = c.args.o in
    let e = c.entry_mut.result.now in
    let w = c.cut_at.new.self in
    let f = cut_at c.args.at in
    let is = c.cut_at.ensures in
    let live = rw (← c.self.view_is) at c.requires.live in
    let link = read-there (λ (x : Content). empty_link_at x c.args.at) (content_of (objects_inside h) o.birth) e.object true c.entry_mut.ensures.object
    (rw (← c.self.view_is) at c.requires.link) in
    let object = ap (λ (x : Entry). x.object) is in
    let held = ap (λ (x : Entry). x.held) is in
    let parent = ap (λ (x : Entry). x.parent) is in
    let own : length e.object.slots ≤ 4294967296 = short-own h c.self.invariant o e c.entry_mut.ensures.kept in
    let few : length (f e.object).slots ≤ 4294967296 = omega (arith, own, removed-length c.args.at e.object.slots) in
    changed-inside h c.self.invariant o live f (with_written h o w)
    (put-won h c.self.invariant o live f e w c.entry_mut.ensures.kept object held parent [] (cut-moves e.object c.args.at link) few
    (λ x. omega (arith, c.self.invariant.1.1.0.once x)) (with_written h o w)
    (put-ordered h c.self.invariant o live f e w c.entry_mut.ensures.kept object held parent) refl refl)
    (cut-inside h c.self.invariant o live c.args.at e w c.entry_mut.ensures.kept link is)
    (λ x. cut-there (objects_inside h) c.args.at x) (λ x. refl)

pub invariant_of-self : goal.invariant_of-self
invariant_of-self g c = (edited g c).good

pub returns-clause-now : goal.returns-clause-now
returns-clause-now g c = rw (← c.self.view_is) (edited g c).now
