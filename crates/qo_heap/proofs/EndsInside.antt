-- What a call that lets a weak link go finds of the entries of a heap, and leaves.
use Rattle.std.proofs.Common.{◌≡◌, refl, ap, sym, subst, ◌∙◌, ℕ, true, ◌||◌, ◌==◌, [], length, slice_get, option_to_list, Option, Some, None, is_some, IfSome}
use Rattle.std.specs.List.{AllByRecursion}
use Rattle.std.specs.Option.{option_and_then}
use Rattle.std.proofs.lemmas.Bool.{eqb-true}
use Rattle.qo_slots.specs.declared.keys.Key.{Key}
use Rattle.qo_slots.specs.Table.{Table, find}
use Rattle.qo_object.specs.Slots.{is_born, named_in}
use Rattle.qo_object.specs.Content.{dropped_at}
use Rattle.qo_heap.specs.Keeping.{hold_at, plain}
use Rattle.qo_heap.specs.Order.{IsOrdered, rows_in}
use Rattle.qo_heap.specs.Rows.{IsLive, object_at}
use Rattle.qo_heap.specs.WeakEnds.{DropsLink, IsWeakEnd, LetGo, weak_ends}
use Rattle.qo_heap.specs.WeakLinks.{node_of}
use Rattle.qo_heap.specs.WeakLists.{CanLeave, loosed_in, names}
use Rattle.qo_heap.specs.declared.entries.Entry.{Entry}
use Rattle.qo_heap.specs.declared.entries.Hold.{Hold}
use Rattle.qo_heap.specs.declared.entries.Loose.{Loose}
use Rattle.qo_heap.specs.declared.heap.Heap.TheInside.{Inside}
use Rattle.qo_heap.specs.declared.weak_links.End.{End}
use Rattle.qo_heap.proofs.HeapLemmas.{dropped-there}
use Rattle.qo_heap.proofs.HoldLemmas.{Moves, dropped-length, dropped-moves}
use Rattle.qo_heap.proofs.InsideObjects.{EditedInside, IsInside, changed-inside, changes-kept, entries, few-there, objects_inside, ordered-written, with_written}
use Rattle.qo_heap.proofs.KeepingLemmas.{live-entry, live-plain, plain-there}
use Rattle.qo_heap.proofs.RowsLemmas.{object-found, rows-rise}
use Rattle.qo_heap.proofs.WeakEnds.{Ends, Node_at, ends-named, no-ends, node-there, weak-ends, weak-named}
use Rattle.qo_heap.proofs.WeakInside.{can-leave, changes-loosed, left-inside, own-numbered}
use Rattle.qo_heap.proofs.WeakSlots.{named-place, weak-holds-none}

-- an object that was looked at
pub look-there : (h : Inside) → IsInside h → (o : Key) → IsLive (objects_inside h).rows o → (e : Entry) → find h.table o.index ≡ Some (o.birth, e)
    → object_at (entries h) o.birth ≡ Some e
look-there h good o live e found = object-found h.table h.order.items good.1.0.stored o (live-entry (entries h) o live) e found

-- no weak link is left
pub none-inside : (h : Inside) → IsInside h → (o : Key) (e : Entry) → object_at (entries h) o.birth ≡ Some e → e.links.first ≡ None
    → AllByRecursion (λ (t : Option Key). t ≡ None) (names e) → weak_ends o.birth (objects_inside h).rows ≡ 0
none-inside h good o e there first all =
    no-ends h.table.born (entries h) good.0.0.rising good.1.1.1.0 o.birth e there (plain-there (entries h) o.birth e there) first all

-- one is let go
module _ (h : Inside) (good : IsInside h) (o : Key) (live : IsLive (objects_inside h).rows o) (e : Entry) (there : object_at (entries h) o.birth ≡ Some e)
    (l : End) (end : IsWeakEnd o e l) where
  ends : Ends (entries h) o.birth l
  ends =
      weak-ends h.table.born (entries h) (rows-rise h.table h.order.items good.1.0) good.1.1.1.0 o (live-entry (entries h) o live) e there
      (own-numbered h good o live e there) l end

  pub end-live : IsLive (objects_inside h).rows l.owner
  end-live = live-plain (entries h) l.owner ends.live

  module _ (y : Entry) (at : object_at (entries h) l.owner.birth ≡ Some y) where
    pub end-known : is_some (node_of y.links.nodes l.id) ≡ true
    end-known = sym (ap (λ (x : Option Entry). is_some (option_and_then (λ (z : Entry). node_of z.links.nodes l.id) x)) at) ∙ ends.cell

    pub end-numbered : length y.links.nodes ≡ length (names y)
    end-numbered = (own-numbered h good l.owner end-live y at).0

    module _ (w : Entry) (loose : Option Loose) (d : DropsLink l.id y w loose) where
      node : Node_at y d.at d.node
      node = node-there y d.at d.node d.there

      none : None ≡ hold_at y.object.slots d.at
      none = sym (weak-holds-none d.at y.object.slots node.k node.place)

      pub end-ordered : IsOrdered (with_written h l.owner w) h.order.items
      end-ordered = ordered-written h good l.owner end-live (dropped_at d.at) y w at d.now

      pub end-leaves : IfSome loose (λ x. CanLeave (plain (rows_in (with_written h l.owner w) h.order.items)) x)
      end-leaves = can-leave h good l.owner end-live d.at y w at d.now None none (with_written h l.owner w) refl loose d.loose

      module _ (u : Table Entry) (ordered : IsOrdered u h.order.items)
          (rows : rows_in u h.order.items ≡ loosed_in loose (rows_in (with_written h l.owner w) h.order.items))
          (born : u.born ≡ (with_written h l.owner w).born) where
        moves : Moves y.object (dropped_at d.at y.object) [] []
        moves = subst (λ (k : Option Hold). Moves y.object (dropped_at d.at y.object) (option_to_list k) []) (sym none) (dropped-moves y.object d.at)

        edited : EditedInside h l.owner (dropped_at d.at) u
        edited =
            changed-inside h good l.owner end-live (dropped_at d.at) u
            (changes-loosed h l.owner (dropped_at d.at) (with_written h l.owner w) u
            (changes-kept h good l.owner end-live (dropped_at d.at) y w at d.now moves
            (few-there h good l.owner end-live (dropped_at d.at) y w at d.now (dropped-length d.at y.object.slots))) loose ordered rows born)
            (left-inside h good l.owner end-live d.at y w at d.now None none (with_written h l.owner w) refl loose d.loose u rows)
            (λ x. dropped-there (objects_inside h) d.at x) (λ x. refl)

        pub let-good : IsInside (record h { table = u })
        let-good = edited.good

        pub let-gone : LetGo o.birth (objects_inside h) (objects_inside (record h { table = u }))
        let-gone = go (named_in y.object.slots d.at) refl
          where
            had : slice_get (names y) node.k ≡ Some (named_in y.object.slots d.at)
            had = named-place d.at y.object.slots node.k node.place

            born_of : (t : Option Key) → named_in y.object.slots d.at ≡ t → is_born ends.named t ≡ true
            born_of t is =
                ends-named h.table.born (entries h) (rows-rise h.table h.order.items good.1.0) good.1.1.1.0 o.birth l ends y at node.k d.node t node.node
                (had ∙ ap Some is) d.number

            go : (t : Option Key) → named_in y.object.slots d.at ≡ t → LetGo o.birth (objects_inside h) (objects_inside (record h { table = u }))
            go None is = absurd (cc (born_of None is))
            go (Some t) is =
                record {
                  heap = good.0.0;
                  owner = l.owner;
                  at = d.at;
                  content = y.object;
                  target = t;
                  live = end-live;
                  there = plain-there (entries h) l.owner.birth y at;
                  weak = weak-named d.at y.object.slots node.k t node.place is;
                  ends = ap (λ (k : ℕ). (k == o.birth) || (l.owner.birth == o.birth)) (eqb-true t.birth ends.named (born_of (Some t) is)) ∙ ends.near;
                  now = edited.now;
                }
