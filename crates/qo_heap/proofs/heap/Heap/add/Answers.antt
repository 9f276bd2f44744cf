use Rattle.std.proofs.Common.{◌∙◌, refl, ap, IfSome, ◌≡◌, ◌<◌, ◌≤◌, length, None, option_to_list, arith}
use Rattle.qo_slots.specs.declared.keys.Key.{Key}
use Rattle.qo_object.specs.Slots.{child_of, target_of, weak_target}
use Rattle.qo_heap.specs.Keeping.{parent_in, plain}
use Rattle.qo_heap.specs.Order.{rows_in}
use Rattle.qo_heap.specs.Rows.{IsLive}
use Rattle.qo_heap.specs.WeakLists.{CanJoin}
use Rattle.qo_heap.specs.declared.entries.Entry.{Entry}
use Rattle.qo_object.specs.Content.{Content, with_slot}
use Rattle.qo_heap.proofs.HeapLemmas.{added-there, on-err, edit-same}
use Rattle.qo_heap.proofs.HeldInside.{add-free}
use Rattle.qo_heap.proofs.HoldLemmas.{added-length, added-moves, hold-target, some-imply}
use Rattle.qo_heap.proofs.InsideObjects.{EditedInside, changed-inside, objects_inside, quiet-written, with_written}
use Rattle.qo_heap.proofs.WeakInside.{added-few, added-inside, can-join, changes-joined, first-added, own-numbered, put-live, put-ordered, put-room, put-won, weak-live}
use Rattle.qo_heap.proofs.heap.Heap.add.Goals as goal

pub add_slot-requires : goal.add_slot-requires
add_slot-requires g c =
    (own-numbered c.self.inside c.self.invariant c.args.o (rw (← c.self.view_is) at c.requires.live) c.entry_mut.result.now c.entry_mut.ensures.kept).1

kept : (g : _) (c : goal.After-from_residual g)
    → EditedInside c.self.inside c.args.o (λ (x : Content). x) (with_written c.self.inside c.args.o c.add_slot.new.self)
kept g c =
    quiet-written c.self.inside c.self.invariant c.args.o (rw (← c.self.view_is) at c.requires.live)
    (λ (x : Content). x) c.entry_mut.result.now c.add_slot.new.self c.entry_mut.ensures.kept c.in_err-id.ensures.err (λ x. refl) (λ x. refl)

pub invariant_of-self : goal.invariant_of-self
invariant_of-self g c = (kept g c).good

pub returns-in_err-id-clause-err : goal.returns-in_err-id-clause-err
returns-in_err-id-clause-err g c =
    rw (← c.self.view_is) (on-err c.from_residual.result ((kept g c).now ∙ edit-same c.args.o.birth (objects_inside c.self.inside)))

pub add_hold-requires-clause-ordered : goal.add_hold-requires-clause-ordered
add_hold-requires-clause-ordered g c =
    let is = c.in_ok-id.ensures.added in
    put-ordered c.self.inside c.self.invariant c.args.o (rw (← c.self.view_is) at c.requires.live) (with_slot c.args.name c.args.slot) c.entry_mut.result.now
    c.add_slot.new.self c.entry_mut.ensures.kept (ap (λ (x : Entry). x.object) is) (ap (λ (x : Entry). x.held) is) (ap (λ (x : Entry). x.parent) is)

pub add_hold-requires-clause-live : goal.add_hold-requires-clause-live
add_hold-requires-clause-live g c =
    let h = c.self.inside in
    let w = c.add_slot.new.self in
    let is = c.in_ok-id.ensures.added in
    let target : IfSome (target_of c.args.slot) (IsLive (objects_inside h).rows) = rw (← c.self.view_is) at c.requires.target in
    rw c.hold_of-hold.ensures (hold-target (IsLive (plain (rows_in (with_written h c.args.o w) h.order.items))) c.args.slot
    (some-imply (IsLive (objects_inside h).rows) (IsLive (plain (rows_in (with_written h c.args.o w) h.order.items)))
    (λ key lives. put-live h c.self.invariant c.args.o (rw (← c.self.view_is) at c.requires.live) (with_slot c.args.name c.args.slot) c.entry_mut.result.now w
    c.entry_mut.ensures.kept (ap (λ (x : Entry). x.object) is) (ap (λ (x : Entry). x.held) is) (ap (λ (x : Entry). x.parent) is) key lives)
    (target_of c.args.slot) target))

pub add_hold-requires-clause-room : goal.add_hold-requires-clause-room
add_hold-requires-clause-room g c =
    let is = c.in_ok-id.ensures.added in
    put-room c.self.inside c.self.invariant c.args.o (rw (← c.self.view_is) at c.requires.live) (with_slot c.args.name c.args.slot) c.entry_mut.result.now
    c.add_slot.new.self c.entry_mut.ensures.kept (ap (λ (x : Entry). x.object) is) (ap (λ (x : Entry). x.held) is) (ap (λ (x : Entry). x.parent) is)

joins : (g : _) (c : goal.After-join-arg-3-1 g) → (key : Key) → IsLive (objects_inside c.self.inside).rows key
    → CanJoin (rows_in c.add_hold.new.table c.self.inside.order.items) key
joins g c =
    let is = c.in_ok-id.ensures.added in
    can-join c.self.inside c.self.invariant c.args.o (rw (← c.self.view_is) at c.requires.live) (with_slot c.args.name c.args.slot) c.entry_mut.result.now
    c.add_slot.new.self c.entry_mut.ensures.kept (ap (λ (x : Entry). x.object) is) (ap (λ (x : Entry). x.held) is) (ap (λ (x : Entry). x.parent) is)
    (ap (λ (x : Entry). x.links.first) is ∙ first-added c.in_ok-id.id c.entry_mut.result.now.links) (option_to_list c.hold_of-hold.result)
    c.add_hold.new.table c.add_hold.ensures.rows

pub join-requires-clause-live : goal.join-requires-clause-live
join-requires-clause-live g c = (joins g c c.args.o (rw (← c.self.view_is) at c.requires.live)).0

pub join-requires-clause-target : goal.join-requires-clause-target
join-requires-clause-target g c =
    let h = c.self.inside in
    let target : IfSome (target_of c.args.slot) (IsLive (objects_inside h).rows) = rw (← c.self.view_is) at c.requires.target in
    rw c.weak_target-target.ensures
    (some-imply (IsLive (objects_inside h).rows) (CanJoin (rows_in c.add_hold.new.table h.order.items)) (λ key lives. joins g c key lives)
    (weak_target c.args.slot) (weak-live (IsLive (objects_inside h).rows) c.args.slot target))

edited : (g : _) (c : goal.After-join g) → EditedInside c.self.inside c.args.o (with_slot c.args.name c.args.slot) c.join.new.table
edited g c =
    let h = c.self.inside in
    let o = c.args.o in
    let f = with_slot c.args.name c.args.slot in
    let e = c.entry_mut.result.now in
    let w = c.add_slot.new.self in
    let is = c.in_ok-id.ensures.added in
    let object = ap (λ (x : Entry). x.object) is in
    let held = ap (λ (x : Entry). x.held) is in
    let parent = ap (λ (x : Entry). x.parent) is in
    let live = rw (← c.self.view_is) at c.requires.live in
    let target : IfSome (target_of c.args.slot) (IsLive (objects_inside h).rows) = rw (← c.self.view_is) at c.requires.target in
    let free : IfSome (child_of c.args.slot) (λ child. parent_in (objects_inside h).rows child.birth ≡ None) = rw (← c.self.view_is) at c.requires.free in
    let below : length e.object.slots < 4294967296 = c.in_ok-id.ensures.room in
    let few : length (f e.object).slots ≤ 4294967296 = omega (arith, below, added-length c.args.name c.args.slot e.object.slots) in
    changed-inside h c.self.invariant o live f c.join.new.table
    (changes-joined h o f c.add_hold.new.table c.join.new.table
    (put-won h c.self.invariant o live f e w c.entry_mut.ensures.kept object held parent (option_to_list c.hold_of-hold.result)
    (rw c.hold_of-hold.ensures (added-moves e.object c.args.name c.args.slot)) few
    (λ x. rw c.hold_of-hold.ensures (add-free (objects_inside h).rows c.self.invariant.1.1.0.once c.args.slot free x)) c.add_hold.new.table
    c.add_hold.ensures.ordered c.add_hold.ensures.rows c.add_hold.ensures.born)
    o c.in_ok-id.id c.weak_target-target.result c.join.ensures.ordered c.join.ensures.rows c.join.ensures.born)
    (added-inside h c.self.invariant o live c.args.name c.args.slot c.in_ok-id.id e w c.entry_mut.ensures.kept is c.in_ok-id.ensures.id
    c.in_ok-id.ensures.above (weak-live (IsLive (objects_inside h).rows) c.args.slot target) c.hold_of-hold.result c.hold_of-hold.ensures
    c.add_hold.new.table c.add_hold.ensures.rows c.weak_target-target.result c.weak_target-target.ensures c.join.new.table c.join.ensures.rows)
    (λ x. added-there (objects_inside h) c.args.name c.args.slot x target) (λ x. refl)

pub invariant_of-self-2 : goal.invariant_of-self-2
invariant_of-self-2 g c = (edited g c).good

pub returns-clause-added : goal.returns-clause-added
returns-clause-added g c = rw (← c.self.view_is) (edited g c).now

pub returns-clause-cost : goal.returns-clause-cost
returns-clause-cost g c =
    omega (
      arith,
      c.entry_mut.ensures.cost,
      c.add_hold.ensures.cost,
      c.join.ensures.cost,
      added-few c.args.slot c.hold_of-hold.result c.hold_of-hold.ensures c.in_ok-id.id c.in_ok-id.ensures.id,
    )
