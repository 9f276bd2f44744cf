use Rattle.std.proofs.Common.{◌≡◌, refl, true, ap, ◌∙◌, option_to_list, Option, Some, IfSome, sym, subst, le_of_eq, arith}
use Rattle.qo_object.specs.Content.{Content, empty_link_at, pointed_at}
use Rattle.qo_object.specs.Slots.{pointed}
use Rattle.qo_heap.specs.Keeping.{hold_at, plain}
use Rattle.qo_heap.specs.Objects.{content_of}
use Rattle.qo_heap.specs.Order.{rows_in}
use Rattle.qo_heap.specs.Rows.{IsLive}
use Rattle.qo_heap.specs.declared.entries.Entry.{Entry}
use Rattle.qo_heap.specs.declared.entries.Hold.{Hold}
use Rattle.qo_heap.proofs.HeapLemmas.{pointed-there}
use Rattle.qo_heap.proofs.HeldInside.{live-written, point-free, room-written}
use Rattle.qo_heap.proofs.HoldLemmas.{changed-length, pointed-hold, pointed-moves}
use Rattle.qo_heap.proofs.InsideObjects.{EditedInside, changed-inside, changes-won, few-there, objects_inside, ordered-written, read-there, with_written}
use Rattle.qo_heap.proofs.WeakInside.{can-join, changes-joined, pointed-few, pointed-inside}
use Rattle.qo_heap.proofs.heap.Heap.point.Goals as goal

pub add_hold-requires-clause-ordered : goal.add_hold-requires-clause-ordered
add_hold-requires-clause-ordered g c =
    ordered-written c.self.inside c.self.invariant c.args.o (rw (← c.self.view_is) at c.requires.live) (pointed_at c.args.target c.args.at)
    c.entry_mut.result.now c.point_at-pointed.new.self c.entry_mut.ensures.kept c.point_at-pointed.ensures.now

pub add_hold-requires-clause-live : goal.add_hold-requires-clause-live
add_hold-requires-clause-live g c =
    let h = c.self.inside in
    let o = c.args.o in
    let e = c.entry_mut.result.now in
    let w = c.point_at-pointed.new.self in
    let f = pointed_at c.args.target c.args.at in
    let link = read-there (λ (x : Content). empty_link_at x c.args.at) (content_of (objects_inside h) o.birth) e.object true c.entry_mut.ensures.object
    (rw (← c.self.view_is) at c.requires.link) in
    let target = live-written h c.self.invariant o (rw (← c.self.view_is) at c.requires.live) f e w c.entry_mut.ensures.kept c.point_at-pointed.ensures.now
    c.args.target (rw (← c.self.view_is) at c.requires.target) in
    let held : c.point_at-pointed.result.hold ≡ hold_at (f e.object).slots c.args.at =
    c.point_at-pointed.ensures.hold ∙ ap (λ (x : Entry). hold_at x.object.slots c.args.at) c.point_at-pointed.ensures.now in
    subst (λ (t : Option Hold). IfSome t (λ x. IsLive (plain (rows_in (with_written h o w) h.order.items)) x.key)) (sym held)
    (pointed-hold (λ x. IsLive (plain (rows_in (with_written h o w) h.order.items)) x.key) c.args.target target c.args.at e.object.slots link)

pub add_hold-requires-clause-room : goal.add_hold-requires-clause-room
add_hold-requires-clause-room g c =
    room-written c.self.inside c.self.invariant c.args.o (rw (← c.self.view_is) at c.requires.live) (pointed_at c.args.target c.args.at)
    c.entry_mut.result.now c.point_at-pointed.new.self c.entry_mut.ensures.kept c.point_at-pointed.ensures.now

pub join-requires-clause-live : goal.join-requires-clause-live
join-requires-clause-live g c =
    let live = rw (← c.self.view_is) at c.requires.live in
    let is = c.point_at-pointed.ensures.now in
    (can-join c.self.inside c.self.invariant c.args.o live (pointed_at c.args.target c.args.at) c.entry_mut.result.now c.point_at-pointed.new.self
    c.entry_mut.ensures.kept (ap (λ (x : Entry). x.object) is) (ap (λ (x : Entry). x.held) is) (ap (λ (x : Entry). x.parent) is)
    (ap (λ (x : Entry). x.links.first) is) (option_to_list c.point_at-pointed.result.hold) c.add_hold.new.table c.add_hold.ensures.rows c.args.o live).0

pub join-requires-clause-target : goal.join-requires-clause-target
join-requires-clause-target g c =
    let live = rw (← c.self.view_is) at c.requires.live in
    let is = c.point_at-pointed.ensures.now in
    can-join c.self.inside c.self.invariant c.args.o live (pointed_at c.args.target c.args.at) c.entry_mut.result.now c.point_at-pointed.new.self
    c.entry_mut.ensures.kept (ap (λ (x : Entry). x.object) is) (ap (λ (x : Entry). x.held) is) (ap (λ (x : Entry). x.parent) is)
    (ap (λ (x : Entry). x.links.first) is) (option_to_list c.point_at-pointed.result.hold) c.add_hold.new.table c.add_hold.ensures.rows c.args.target
    (rw (← c.self.view_is) at c.requires.target)

edited : (g : _) (c : goal.After-join g) → EditedInside c.self.inside c.args.o (pointed_at c.args.target c.args.at) c.join.new.table
edited g c =
    let h = c.self.inside in
    let o = c.args.o in
    let e = c.entry_mut.result.now in
    let w = c.point_at-pointed.new.self in
    let f = pointed_at c.args.target c.args.at in
    let live = rw (← c.self.view_is) at c.requires.live in
    let link = read-there (λ (x : Content). empty_link_at x c.args.at) (content_of (objects_inside h) o.birth) e.object true c.entry_mut.ensures.object
    (rw (← c.self.view_is) at c.requires.link) in
    let held : c.point_at-pointed.result.hold ≡ hold_at (f e.object).slots c.args.at =
    c.point_at-pointed.ensures.hold ∙ ap (λ (x : Entry). hold_at x.object.slots c.args.at) c.point_at-pointed.ensures.now in
    changed-inside h c.self.invariant o live f c.join.new.table
    (changes-joined h o f c.add_hold.new.table c.join.new.table
    (changes-won h c.self.invariant o live f e w c.entry_mut.ensures.kept c.point_at-pointed.ensures.now (option_to_list c.point_at-pointed.result.hold)
    (rw held (pointed-moves e.object c.args.target c.args.at link))
    (few-there h c.self.invariant o live f e w c.entry_mut.ensures.kept c.point_at-pointed.ensures.now
    (le_of_eq (changed-length (pointed c.args.target) c.args.at e.object.slots)))
    (λ x. rw held (point-free h c.self.invariant e.object c.args.target c.args.at link x)) c.add_hold.new.table c.add_hold.ensures.ordered
    c.add_hold.ensures.rows c.add_hold.ensures.born)
    o c.point_at-pointed.result.id (Some c.args.target) c.join.ensures.ordered c.join.ensures.rows c.join.ensures.born)
    (pointed-inside h c.self.invariant o live c.args.at c.args.target (rw (← c.self.view_is) at c.requires.target) e w c.entry_mut.ensures.kept link
    c.point_at-pointed.ensures.now c.point_at-pointed.result.hold held c.point_at-pointed.result.id c.point_at-pointed.ensures.id c.add_hold.new.table
    c.add_hold.ensures.rows c.join.new.table c.join.ensures.rows)
    (λ x. pointed-there (objects_inside h) c.args.target c.args.at x (rw (← c.self.view_is) at c.requires.target)) (λ x. refl)

pub invariant_of-self : goal.invariant_of-self
invariant_of-self g c = (edited g c).good

pub returns-clause-now : goal.returns-clause-now
returns-clause-now g c = rw (← c.self.view_is) (edited g c).now

pub returns-clause-cost : goal.returns-clause-cost
returns-clause-cost g c =
    omega (
      arith,
      c.entry_mut.ensures.cost,
      c.add_hold.ensures.cost,
      c.join.ensures.cost,
      pointed-few c.entry_mut.result.now c.args.at c.args.target c.point_at-pointed.result.hold
          (c.point_at-pointed.ensures.hold ∙ ap (λ (x : Entry). hold_at x.object.slots c.args.at) c.point_at-pointed.ensures.now)
          c.point_at-pointed.result.id c.point_at-pointed.ensures.id,
    )
