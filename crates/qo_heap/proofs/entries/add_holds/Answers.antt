use Rattle.std.proofs.Common.{◌≡◌, ◌+◌, ◌<◌, refl, ap, sym, subst, ◌∙◌, List, drop, length, option_to_list, Option, IfSome, drop_of_length-le, arith}
use Rattle.std.specs.List.{AllByRecursion}
use Rattle.qo_values.proofs.ListLemmas.{all-imply}
use Rattle.qo_slots.specs.declared.keys.Key.{Key}
use Rattle.qo_object.specs.Slots.{Named, target_of}
use Rattle.qo_heap.specs.Keeping.{all_more, hold_at, holds_in, plain}
use Rattle.qo_heap.specs.Order.{rows_in}
use Rattle.qo_heap.specs.Rows.{IsLive}
use Rattle.qo_heap.specs.declared.entries.Entry.{Entry}
use Rattle.qo_heap.specs.declared.entries.Hold.{Hold}
use Rattle.qo_heap.proofs.HoldLemmas.{drop-holds, drop-none, hold-at-target}
use Rattle.qo_heap.proofs.KeepingLemmas.{more-first, more-room, plain-more}
use Rattle.qo_heap.proofs.entries.add_holds.Goals as goal

pub loop-place-init : goal.loop-place-init
loop-place-init g c =
    let rows = rows_in c.args.table.now c.args.order.now.items in
    record {
      ordered = c.requires.ordered;
      left = ap (λ (l : List Named). all_more c.args.owner (holds_in l) rows) (drop-none c.args.slots.now);
      born = refl;
      objects = refl;
      room = all-imply (λ (row : Key × Entry). row.1.held + length c.args.slots.now < 9223372036854775808)
          (λ (row : Key × Entry). row.1.held + length c.args.slots.now < 9223372036854775808 + 0) (λ row low. omega (arith, low)) rows c.requires.room;
    }

pub add_hold-requires-clause-live : goal.add_hold-requires-clause-live
add_hold-requires-clause-live g c =
    rw c.hold_in.ensures
    (hold-at-target (IsLive (plain (rows_in c.loop-place.table c.args.order.now.items))) c.loop-place.place c.args.slots.now
    (subst (λ (rows : List _). AllByRecursion (λ (s : Named). IfSome (target_of s.1) (IsLive rows)) c.args.slots.now) (sym c.loop-place.invariant.objects)
    c.requires.live))

pub add_hold-requires-clause-room : goal.add_hold-requires-clause-room
add_hold-requires-clause-room g c =
    let size = length c.args.slots.now in
    let place = c.loop-place.place in
    all-imply (λ (row : Key × Entry). row.1.held + size < 9223372036854775808 + place) (λ (row : Key × Entry). row.1.held < 9223372036854775808)
    (λ row low. omega (arith, low, c.loop-place-test.true)) (rows_in c.loop-place.table c.args.order.now.items) c.loop-place.invariant.room

pub loop-place-preserved : goal.loop-place-preserved
loop-place-preserved g c =
    let before = rows_in c.loop-place.table c.args.order.now.items in
    let hold = hold_at c.args.slots.now c.loop-place.place in
    let held : rows_in c.add_hold.new.table c.args.order.now.items ≡ all_more c.args.owner (option_to_list hold) before =
    c.add_hold.ensures.rows ∙ ap (λ (t : Option Hold). all_more c.args.owner (option_to_list t) before) c.hold_in.ensures in
    record {
      ordered = c.add_hold.ensures.ordered;
      left = ap (all_more c.args.owner (holds_in (drop (c.loop-place.place + 1) c.args.slots.now))) held
          ∙ sym (more-first c.args.owner hold (holds_in (drop (c.loop-place.place + 1) c.args.slots.now)) before)
          ∙ ap (λ (hs : List Hold). all_more c.args.owner hs before) (sym (drop-holds c.loop-place.place c.args.slots.now))
          ∙ c.loop-place.invariant.left;
      born = c.add_hold.ensures.born ∙ c.loop-place.invariant.born;
      objects = ap plain held ∙ plain-more c.args.owner (option_to_list hold) before ∙ c.loop-place.invariant.objects;
      room = subst (λ (rows : List (Key × Entry)). AllByRecursion (λ (row : Key × Entry). row.1.held + length c.args.slots.now < 9223372036854775808 + (c.loop-place.place + 1)) rows)
          (sym held) (more-room c.args.owner hold (length c.args.slots.now) c.loop-place.place before c.loop-place.invariant.room);
    }

pub returns-clause-rows : goal.returns-clause-rows
returns-clause-rows g c =
    sym (ap (λ (l : List Named). all_more c.args.owner (holds_in l) (rows_in c.loop-place.table c.args.order.now.items))
    (drop_of_length-le c.args.slots.now c.loop-place-test.false))
    ∙ c.loop-place.invariant.left
