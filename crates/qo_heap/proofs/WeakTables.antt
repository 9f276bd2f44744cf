-- A table in which what an object keeps of weak links was changed.
use Rattle.std.proofs.Common.{◌≡◌, refl, sym, subst, ◌∙◌, ℕ, List, Option, Some, None, IfSome}
use Rattle.qo_slots.specs.declared.keys.Key.{Key}
use Rattle.qo_slots.specs.Table.{Table, with_value}
use Rattle.qo_object.specs.Content.{Content}
use Rattle.qo_heap.specs.Keeping.{plain}
use Rattle.qo_heap.specs.Order.{IsOrdered, rows_in}
use Rattle.qo_heap.specs.Rows.{IsLive, edit, object_at}
use Rattle.qo_heap.specs.WeakLinks.{with_both, with_next, with_prev}
use Rattle.qo_heap.specs.WeakLists.{led_in, linked_in, loosed_in, joined_in, turned_in, head_in, with_first, with_node}
use Rattle.qo_heap.specs.declared.entries.Entry.{Entry}
use Rattle.qo_heap.specs.declared.entries.Loose.{Loose}
use Rattle.qo_heap.specs.declared.weak_links.End.{End}
use Rattle.qo_heap.specs.declared.weak_links.Node.{Node}
use Rattle.qo_heap.proofs.KeepingLemmas.{live-entry, plain-same}
use Rattle.qo_heap.proofs.RowsLemmas.{edit-as, rows-rise}
use Rattle.qo_heap.proofs.ValueLemmas.{written}

-- an entry that is the change of what was there is written
module _ (t : Table Entry) (order : List Key) (good : IsOrdered t order) (key : Key) (live : IsLive (plain (rows_in t order)) key) (e w : Entry) where
  pub entry-ordered : IsOrdered (with_value t key w) order
  entry-ordered = (written t order good key (live-entry (rows_in t order) key live) w).ordered

  pub entry-rows : (f : Entry → Entry) → object_at (rows_in t order) key.birth ≡ Some e → w ≡ f e
      → rows_in (with_value t key w) order ≡ edit key.birth f (rows_in t order)
  entry-rows f there is =
      (written t order good key (live-entry (rows_in t order) key live) w).rows
      ∙ edit-as key.birth f e w 0 t.born (rows_in t order) (rows-rise t order good) there is

-- what lists are made of leaves the objects
pub plain-turned : (o p : Option End) (rows : List (Key × Entry)) → plain (turned_in o p rows) ≡ plain rows
plain-turned None p rows = refl
plain-turned (Some e) p rows = plain-same e.owner.birth (with_node e.id (with_prev p)) (λ x. refl) rows

pub plain-led : (m : ℕ) (o nx : Option End) (rows : List (Key × Entry)) → plain (led_in m o nx rows) ≡ plain rows
plain-led m None nx rows = plain-same m (with_first nx) (λ x. refl) rows
plain-led m (Some e) nx rows = plain-same e.owner.birth (with_node e.id (with_next nx)) (λ x. refl) rows

pub plain-loosed : (l : Option Loose) (rows : List (Key × Entry)) → plain (loosed_in l rows) ≡ plain rows
plain-loosed None rows = refl
plain-loosed (Some l) rows = plain-led l.target.birth l.node.prev l.node.next (turned_in l.node.next l.node.prev rows) ∙ plain-turned l.node.next l.node.prev rows

pub plain-first : (m : ℕ) (h : Option End) (rows : List (Key × Entry)) → plain (edit m (with_first h) rows) ≡ plain rows
plain-first m h rows = plain-same m (with_first h) (λ x. refl) rows

pub plain-node : (m id : ℕ) (f : Node → Node) (rows : List (Key × Entry)) → plain (edit m (with_node id f) rows) ≡ plain rows
plain-node m id f rows = plain-same m (with_node id f) (λ x. refl) rows

plain-linked : (m : ℕ) (s : End) (old : Option End) (rows : List (Key × Entry)) → plain (linked_in m s old rows) ≡ plain rows
plain-linked m s old rows =
    plain-turned old (Some s) (edit s.owner.birth (with_node s.id (with_both None old)) (edit m (with_first (Some s)) rows))
    ∙ plain-node s.owner.birth s.id (with_both None old) (edit m (with_first (Some s)) rows) ∙ plain-first m (Some s) rows

pub plain-joined : (owner : Key) (id : Option ℕ) (t : Option Key) (rows : List (Key × Entry)) → plain (joined_in owner id t rows) ≡ plain rows
plain-joined owner None t rows = refl
plain-joined owner (Some id) None rows = refl
plain-joined owner (Some id) (Some t) rows = plain-linked t.birth (record { owner = owner; id = id }) (head_in rows t.birth) rows

-- who is there stays there
pub live-same : (before after : List (Key × Entry)) → plain after ≡ plain before → (key : Key) → IsLive (plain before) key → IsLive (plain after) key
live-same before after same key live = subst (λ (rows : List (Key × Content)). IsLive rows key) (sym same) live

pub owner-same : (before after : List (Key × Entry)) → plain after ≡ plain before → (o : Option End) → IfSome o (λ e. IsLive (plain before) e.owner)
    → IfSome o (λ e. IsLive (plain after) e.owner)
owner-same before after same None live = tt
owner-same before after same (Some e) live = live-same before after same e.owner live
