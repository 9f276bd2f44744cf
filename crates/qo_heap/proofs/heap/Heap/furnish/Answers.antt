use Rattle.std.proofs.Common.{refl, ap, ◌≤◌, ◌<◌, ◌+◌, ◌∙◌, length, List, arith}
use Rattle.qo_values.proofs.ListLemmas.{all-imply}
use Rattle.qo_slots.specs.declared.keys.Key.{Key}
use Rattle.qo_slots.specs.Table.{with_value}
use Rattle.qo_object.specs.Content.{with_all_slots}
use Rattle.qo_object.specs.Slots.{Named}
use Rattle.qo_heap.specs.Keeping.{all_more, holds_in}
use Rattle.qo_heap.specs.Rows.{IsLive}
use Rattle.qo_heap.specs.declared.entries.Entry.{Entry}
use Rattle.qo_heap.proofs.FurnishInside.{furnished, furnished-lists}
use Rattle.qo_heap.proofs.HeapLemmas.{each-names}
use Rattle.qo_heap.proofs.HeldInside.{live-held}
use Rattle.qo_heap.proofs.InsideObjects.{EditedInside, changed-inside, entries, entries-few, objects_inside}
use Rattle.qo_heap.proofs.heap.Heap.furnish.Goals as goal

pub add_holds-requires-clause-live : goal.add_holds-requires-clause-live
add_holds-requires-clause-live g c =
    rw c.as_slice.ensures.value (each-names (IsLive (objects_inside c.self.inside).rows) c.args.slots.items (rw (← c.self.view_is) at c.requires.targets))

pub add_holds-requires-clause-room : goal.add_holds-requires-clause-room
add_holds-requires-clause-room g c =
    let few : length c.args.slots.items ≤ 4294967296 = c.requires.few in
    rw c.as_slice.ensures.value (all-imply (λ (row : Key × Entry). row.1.held ≤ 281474976710656) (λ (row : Key × Entry). row.1.held + length c.args.slots.items < 9223372036854775808)
    (λ row low. omega (arith, low, few)) (entries c.self.inside) (entries-few c.self.inside c.self.invariant))

pub entry_mut-requires-clause-live : goal.entry_mut-requires-clause-live
entry_mut-requires-clause-live g c =
    live-held c.self.inside c.self.invariant c.args.o (rw (← c.self.view_is) at c.requires.live) c.args.slots.items
    (rw (← c.self.view_is) at c.requires.bare) c.requires.childless c.requires.few c.add_holds.new.table c.add_holds.ensures.ordered
    (c.add_holds.ensures.rows ∙ ap (λ (l : List Named). all_more c.args.o (holds_in l) (entries c.self.inside)) c.as_slice.ensures.value)
    c.add_holds.ensures.born

edited : (g : _) (c : goal.After-self-1 g)
    → EditedInside c.self.inside c.args.o (with_all_slots c.args.slots.items) (with_value c.add_holds.new.table c.args.o c.furnish.new.self)
edited g c =
    let h = c.self.inside in
    let live = rw (← c.self.view_is) at c.requires.live in
    let bare = rw (← c.self.view_is) at c.requires.bare in
    let held = c.add_holds.ensures.rows ∙ ap (λ (l : List Named). all_more c.args.o (holds_in l) (entries h)) c.as_slice.ensures.value in
    changed-inside h c.self.invariant c.args.o live (with_all_slots c.args.slots.items) (with_value c.add_holds.new.table c.args.o c.furnish.new.self)
    (furnished h c.self.invariant c.args.o live c.args.slots.items bare c.requires.childless c.requires.few
    c.add_holds.new.table c.add_holds.ensures.ordered held c.add_holds.ensures.born c.entry_mut.result.now c.entry_mut.ensures.kept
    c.args.links.nodes c.furnish.new.self c.furnish.ensures)
    (furnished-lists h c.self.invariant c.args.o live c.args.slots.items bare c.requires.childless c.requires.few
    c.add_holds.new.table c.add_holds.ensures.ordered held c.add_holds.ensures.born c.entry_mut.result.now c.entry_mut.ensures.kept
    c.args.links.nodes c.furnish.new.self c.furnish.ensures c.requires.empty c.requires.numbered c.requires.rising)
    (λ x all. rw (← c.self.view_is) at c.requires.targets) (λ x. refl)

pub invariant_of-self : goal.invariant_of-self
invariant_of-self g c = (edited g c).good

pub returns : goal.returns
returns g c = rw (← c.self.view_is) (edited g c).now
