-- What a call that gives an object its first slots finds of the entries of a heap, and leaves.
use Rattle.std.proofs.Common.{◌≡◌, refl, ap, sym, subst, ◌∙◌, ℕ, ◌^◌, ◌≤◌, Bool, true, false, eqb, List, [], ◌∷◌, length, Some, None, arith}
use Rattle.std.specs.List.{AllByRecursion}
use Rattle.qo_slots.specs.declared.keys.Key.{Key}
use Rattle.qo_slots.specs.Table.{Table, with_value}
use Rattle.qo_object.specs.Slots.{Named, child_of, weak_target}
use Rattle.qo_object.specs.Content.{Content, with_all_slots}
use Rattle.qo_heap.specs.Keeping.{IsKept, all_more, holds_in, plain, with_object}
use Rattle.qo_heap.specs.Order.{IsOrdered, rows_in}
use Rattle.qo_heap.specs.Rows.{IsLive, edit, object_at}
use Rattle.qo_heap.specs.Objects.{slots_of}
use Rattle.qo_heap.specs.WeakLinks.{NumbersRise, weak_names, with_nodes}
use Rattle.qo_heap.specs.WeakLists.{HasWeakLists, with_links}
use Rattle.qo_heap.specs.declared.entries.Entry.{Entry}
use Rattle.qo_heap.specs.declared.heap.Heap.TheInside.{Inside}
use Rattle.qo_heap.specs.declared.weak_links.Node.{Node}
use Rattle.qo_heap.proofs.FurnishLemmas.{empty-names}
use Rattle.qo_heap.proofs.HeldInside.{furnish-bare, furnished-changes, live-held}
use Rattle.qo_heap.proofs.InsideObjects.{Changes, IsInside, entries, objects_inside}
use Rattle.qo_heap.proofs.KeepingLemmas.{live-entry, plain-more, plain-same, plain-there}
use Rattle.qo_heap.proofs.RowsLemmas.{rows-rise}
use Rattle.qo_heap.proofs.ValueLemmas.{Written, written}
use Rattle.qo_heap.proofs.WeakCalls.{kept-edit, more-lists}
use Rattle.qo_heap.proofs.WeakChanges.{fresh-lists, numbered-there}

-- what is kept of weak links is written with what is written
edit-after : (n : ℕ) (g : Entry → Entry) (a : Entry) (rows : List (Key × Entry)) → edit n (λ _. g a) rows ≡ edit n g (edit n (λ _. a) rows)
edit-after n g a [] = refl
edit-after n g a (row ∷ rows) = go (eqb row.0.birth n) refl (edit-after n g a rows)
  where
    go : (t : Bool) → eqb row.0.birth n ≡ t → edit n (λ _. g a) rows ≡ edit n g (edit n (λ _. a) rows)
        → edit n (λ _. g a) (row ∷ rows) ≡ edit n g (edit n (λ _. a) (row ∷ rows))
    go true is rest = rw (is, is) (ap (λ (l : List (Key × Entry)). (row.0, g a) ∷ l) rest)
    go false is rest = rw (is, is) (ap (λ (l : List (Key × Entry)). row ∷ l) rest)

module _ (h : Inside) (good : IsInside h) (o : Key) (live : IsLive (objects_inside h).rows o) (slots : List Named)
    (bare : slots_of (objects_inside h) o.birth ≡ []) (childless : AllByRecursion (λ (s : Named). child_of s.1 ≡ None) slots) (few : length slots ≤ 2 ^ 32)
    (t : Table Entry) (ordered : IsOrdered t h.order.items) (rows : rows_in t h.order.items ≡ all_more o (holds_in slots) (entries h))
    (born : t.born ≡ h.table.born) (e : Entry) (there : object_at (rows_in t h.order.items) o.birth ≡ Some e) (nodes : List Node) (w : Entry)
    (is : w ≡ with_links (with_nodes nodes e.links) (with_object (with_all_slots slots) e)) where
  held-live : IsLive (rows_in t h.order.items) o
  held-live = live-entry (rows_in t h.order.items) o (live-held h good o live slots bare childless few t ordered rows born)

  changes : Changes h o (with_all_slots slots) (with_value t o (with_object (with_all_slots slots) e))
  changes = furnished-changes h good o live slots bare childless few t ordered rows born e there (with_object (with_all_slots slots) e) refl

  write : Written t h.order.items o w
  write = written t h.order.items ordered o held-live w

  rows-put : rows_in (with_value t o w) h.order.items
      ≡ edit o.birth (with_links (with_nodes nodes e.links)) (rows_in (with_value t o (with_object (with_all_slots slots) e)) h.order.items)
  rows-put =
      write.rows ∙ ap (λ (x : Entry). edit o.birth (λ _. x) (rows_in t h.order.items)) is
      ∙ edit-after o.birth (with_links (with_nodes nodes e.links)) (with_object (with_all_slots slots) e) (rows_in t h.order.items)
      ∙ ap (edit o.birth (with_links (with_nodes nodes e.links)))
      (sym (written t h.order.items ordered o held-live (with_object (with_all_slots slots) e)).rows)

  pub furnished : Changes h o (with_all_slots slots) (with_value t o w)
  furnished =
      let before : List (Key × Entry) = rows_in (with_value t o (with_object (with_all_slots slots) e)) h.order.items in
      record {
        ordered = write.ordered;
        rows = ap plain rows-put ∙ plain-same o.birth (with_links (with_nodes nodes e.links)) (λ x. refl) before ∙ changes.rows;
        kept = subst IsKept (sym rows-put)
            (kept-edit o.birth (with_links (with_nodes nodes e.links)) (λ x. refl) (λ x. refl) (λ x. refl) before changes.kept);
        born = born;
      }

  before-lists : HasWeakLists (rows_in t h.order.items)
  before-lists = subst HasWeakLists (sym rows) (more-lists o (holds_in slots) (entries h) good.1.1.1.0)

  no-slots : e.object.slots ≡ []
  no-slots =
      furnish-bare (objects_inside h) o.birth e.object
      (ap (λ (l : List (Key × Content)). object_at l o.birth) (sym (ap plain rows ∙ plain-more o (holds_in slots) (entries h)))
      ∙ plain-there (rows_in t h.order.items) o.birth e there) bare

  no-nodes : e.links.nodes ≡ []
  no-nodes =
      none e.links.nodes
      ((numbered-there t.born (rows_in t h.order.items) (rows-rise t h.order.items ordered) before-lists o held-live e e there).0
      ∙ ap (λ (l : List Named). length (weak_names l)) no-slots)
    where
      none : (ns : List Node) → length ns ≡ 0 → ns ≡ []
      none [] size = refl
      none (n ∷ ns) size = absurd (omega (arith, size))

  pub furnished-lists : AllByRecursion (λ (s : Named). weak_target s.1 ≡ None) slots → length nodes ≡ length (weak_names slots) → NumbersRise nodes
      → HasWeakLists (rows_in (with_value t o w) h.order.items)
  furnished-lists empty size rising =
      subst HasWeakLists (sym (write.rows ∙ ap (λ (x : Entry). edit o.birth (λ _. x) (rows_in t h.order.items)) is))
      (fresh-lists t.born (rows_in t h.order.items) (rows-rise t h.order.items ordered) before-lists o held-live e
      (with_links (with_nodes nodes e.links) (with_object (with_all_slots slots) e)) there no-nodes refl (empty-names slots empty) (size, rising))
