use Rattle.std.proofs.Common.{◌≡◌, ◌≤◌, Some, arith}
use Rattle.qo_heap.specs.Rows.{object_at}
use Rattle.qo_heap.proofs.InsideObjects.{counted-there, entries, held-few}
use Rattle.qo_heap.proofs.KeepingLemmas.{live-entry, plain-there}
use Rattle.qo_heap.proofs.RowsLemmas.{live-stored, object-found}
use Rattle.qo_heap.proofs.heap.Heap.entry.Goals as goal

pub look-requires : goal.look-requires
look-requires g c =
    live-stored c.self.inside.table c.self.inside.order.items c.self.invariant.1.0.stored c.args.o
    (live-entry (entries c.self.inside) c.args.o (rw (← c.self.view_is) at c.requires))

there : (g : _) (c : goal.After-look g) → object_at (entries c.self.inside) c.args.o.birth ≡ Some c.look.result.now
there g c =
    object-found c.self.inside.table c.self.inside.order.items c.self.invariant.1.0.stored c.args.o
    (live-entry (entries c.self.inside) c.args.o (rw (← c.self.view_is) at c.requires)) c.look.result.now c.look.ensures.value

pub returns-clause-object : goal.returns-clause-object
returns-clause-object g c = rw (← c.self.view_is) (plain-there (entries c.self.inside) c.args.o.birth c.look.result.now (there g c))

pub returns-clause-held : goal.returns-clause-held
returns-clause-held g c = rw (← c.self.view_is) (counted-there c.self.inside c.self.invariant c.args.o c.look.result.now (there g c)).0

pub returns-clause-few : goal.returns-clause-few
returns-clause-few g c =
    let low : c.look.result.now.held ≤ 281474976710656 =
    omega (arith, (counted-there c.self.inside c.self.invariant c.args.o c.look.result.now (there g c)).0, held-few c.self.inside c.self.invariant c.args.o.birth) in
    low

pub returns-clause-parent : goal.returns-clause-parent
returns-clause-parent g c = rw (← c.self.view_is) (counted-there c.self.inside c.self.invariant c.args.o c.look.result.now (there g c)).1
