-- What a call that changes weak links finds of the entries of a heap, and leaves.
use Rattle.std.proofs.Common.{◌≡◌, refl, ap, ap₂, sym, subst, ◌∙◌, ℕ, ◌+◌, ◌*◌, ◌^◌, ◌<◌, ◌≤◌, Bool, true, false, eqb, List, [], ◌∷◌, length, slice_get, sum_by, option_to_list, Option, Some, None, is_some, option_map, IfSome, IsSomeAnd, arith}
use Rattle.std.specs.List.{AllByRecursion}
use Rattle.std.specs.Option.{option_and_then}
use Rattle.std.proofs.lemmas.Bool.{eqb-true}
use Rattle.std.proofs.lemmas.Option.{same_Some}
use Rattle.qo_values.proofs.ListLemmas.{all-imply}
use Rattle.qo_slots.specs.declared.keys.Key.{Key}
use Rattle.qo_slots.specs.Table.{Table}
use Rattle.qo_object.specs.declared.slots.Slot.{Slot}
use Rattle.qo_object.specs.declared.slots.Slot.TheVariants.{Plain, Child, Link, Alias}
use Rattle.qo_object.specs.Slots.{target_of, weak_target}
use Rattle.qo_object.specs.Content.{Content, cut_at, dropped_at, empty_link_at, named_at, pointed_at, with_slot}
use Rattle.qo_heap.specs.Keeping.{IsCounted, IsKept, all_less, all_more, hold_at, hold_of, holders, owners, parent_in, plain, with_object}
use Rattle.qo_heap.specs.Order.{IsOrdered, rows_in}
use Rattle.qo_heap.specs.Rows.{IsLive, edit, edited, object_at, row_at}
use Rattle.qo_heap.specs.Objects.{content_of}
use Rattle.qo_heap.specs.WeakLinks.{Links, weak_name, weak_place}
use Rattle.qo_heap.specs.WeakLists.{CanJoin, CanLeave, HasWeakLists, IsNumbered, added_links, cut_links, head_in, joined_in, loose_at, loose_of, loosed_in, node_at, with_links}
use Rattle.qo_heap.specs.declared.entries.Entry.{Entry}
use Rattle.qo_heap.specs.declared.entries.Hold.{Hold}
use Rattle.qo_heap.specs.declared.entries.Loose.{Loose}
use Rattle.qo_heap.specs.declared.heap.Heap.TheInside.{Inside}
use Rattle.qo_heap.specs.declared.weak_links.End.{End}
use Rattle.qo_heap.specs.declared.weak_links.Node.{Node}
use Rattle.qo_heap.proofs.BoardObjects.{named-live}
use Rattle.qo_heap.proofs.HeapLemmas.{live-edit}
use Rattle.qo_heap.proofs.HoldLemmas.{Moves, child_of_birth}
use Rattle.qo_heap.proofs.InsideObjects.{Changes, IsInside, counted-there, entries, held-few, objects_inside, plain-written, there-plain, with_written}
use Rattle.qo_heap.proofs.KeepingLemmas.{all-edit, counted-won, kept-as, live-entry, live-plain, once-won, plain-less, plain-more, plain-there, short-after}
use Rattle.qo_heap.proofs.RowsLemmas.{edit-as, rows-rise}
use Rattle.qo_heap.proofs.ValueLemmas.{Written, written}
use Rattle.qo_heap.proofs.WeakCalls.{cut-lists, dropped-lists, head-more, kept-joined, kept-loosed, loose-live, pointed-lists, slot-added-lists}
use Rattle.qo_heap.proofs.WeakChains.{Neighbours}
use Rattle.qo_heap.proofs.WeakChanges.{head-live, heads, numbered-there}
use Rattle.qo_heap.proofs.WeakSlots.{weak-stays}
use Rattle.qo_heap.proofs.WeakTables.{plain-joined, plain-loosed}

-- what is made of lists leaves what is kept of holders
pub changes-loosed : (h : Inside) (o : Key) (f : Content → Content) (t u : Table Entry) → Changes h o f t → (l : Option Loose) → IsOrdered u h.order.items
    → rows_in u h.order.items ≡ loosed_in l (rows_in t h.order.items) → u.born ≡ t.born → Changes h o f u
changes-loosed h o f t u changes l ordered rows born =
    record {
      ordered = ordered;
      rows = ap plain rows ∙ plain-loosed l (rows_in t h.order.items) ∙ changes.rows;
      kept = subst IsKept (sym rows) (kept-loosed l (rows_in t h.order.items) changes.kept);
      born = born ∙ changes.born;
    }

pub changes-joined : (h : Inside) (o : Key) (f : Content → Content) (t u : Table Entry) → Changes h o f t → (owner : Key) (id : Option ℕ) (target : Option Key)
    → IsOrdered u h.order.items → rows_in u h.order.items ≡ joined_in owner id target (rows_in t h.order.items) → u.born ≡ t.born → Changes h o f u
changes-joined h o f t u changes owner id target ordered rows born =
    record {
      ordered = ordered;
      rows = ap plain rows ∙ plain-joined owner id target (rows_in t h.order.items) ∙ changes.rows;
      kept = subst IsKept (sym rows) (kept-joined owner id target (rows_in t h.order.items) changes.kept);
      born = born ∙ changes.born;
    }

-- who is live is there
pub live-there : (rows : List (Key × Entry)) (key : Key) → IsLive rows key → is_some (object_at rows key.birth) ≡ true
live-there rows key live = go (row_at rows key.birth) live
  where
    go : (r : Option (Key × Entry)) → IsSomeAnd r (λ row. row.0.index ≡ key.index) → is_some (option_map (λ (row : Key × Entry). row.1) r) ≡ true
    go None none = absurd none
    go (Some row) some = refl

named-loose : (e : Entry) (i : ℕ) (l : Loose) → loose_at e i ≡ Some l → named_at e.object i ≡ Some l.target
named-loose e i l at = go (named_at e.object i) (node_at e i) at
  where
    go : (n : Option Key) (m : Option Node) → loose_of n m ≡ Some l → n ≡ Some l.target
    go None m is = cc
    go (Some t) None is = cc
    go (Some t) (Some x) is = ap Some (ap (λ (k : Loose). k.target) (same_Some (record { target = t; node = x }) l is))

-- a slot was let go
module _ (h : Inside) (good : IsInside h) (o : Key) (live : IsLive (objects_inside h).rows o) (i : ℕ) (e w : Entry)
    (there : object_at (entries h) o.birth ≡ Some e) (is : w ≡ with_object (dropped_at i) e) (hold : Option Hold) (held : hold ≡ hold_at e.object.slots i)
    (t : Table Entry) (rows : rows_in t h.order.items ≡ all_less (option_to_list hold) (rows_in (with_written h o w) h.order.items)) where
  plain-now : plain (rows_in t h.order.items) ≡ edit o.birth (dropped_at i) (objects_inside h).rows
  plain-now =
      ap plain rows ∙ plain-less (option_to_list hold) (rows_in (with_written h o w) h.order.items)
      ∙ plain-written h good o live (dropped_at i) e w there is

  live-now : (key : Key) → IsLive (objects_inside h).rows key → IsLive (plain (rows_in t h.order.items)) key
  live-now key lives =
      subst (λ (l : List (Key × Content)). IsLive l key) (sym plain-now) (live-edit o.birth (dropped_at i) (objects_inside h).rows key lives)

  target-live : (l : Loose) → loose_at e i ≡ Some l → IsLive (objects_inside h).rows l.target
  target-live l at =
      named-live (objects_inside h) good.0.0 o.birth i e.object (there-plain h good o live (dropped_at i) e w there is) l.target (named-loose e i l at)

  pub can-leave : (loose : Option Loose) → loose ≡ loose_at e i → IfSome loose (λ l. CanLeave (plain (rows_in t h.order.items)) l)
  can-leave None what = tt
  can-leave (Some l) what =
      let near : Neighbours (λ (x : End). IsLive (entries h) x.owner) l.node =
      subst (λ (k : Option Loose). IfSome k (λ x. Neighbours (λ (y : End). IsLive (entries h) y.owner) x.node)) (sym what)
      (loose-live h.table.born (entries h) (rows-rise h.table h.order.items good.1.0) good.1.1.1.0 o (live-entry (entries h) o live) e there i) in
      (live-now l.target (target-live l (sym what)), (owner l.node.next near.next, owner l.node.prev near.prev))
    where
      owner : (k : Option End) → IfSome k (λ x. IsLive (entries h) x.owner) → IfSome k (λ x. IsLive (plain (rows_in t h.order.items)) x.owner)
      owner None lives = tt
      owner (Some x) lives = live-now x.owner (live-plain (entries h) x.owner lives)

  pub left-inside : (loose : Option Loose) → loose ≡ loose_at e i → (u : Table Entry)
      → rows_in u h.order.items ≡ loosed_in loose (rows_in t h.order.items) → HasWeakLists (rows_in u h.order.items)
  left-inside loose what u left =
      let order = h.order.items in
      let all : rows_in u order
      ≡ loosed_in (loose_at e i) (all_less (option_to_list (hold_at e.object.slots i)) (edit o.birth (λ _. with_object (dropped_at i) e) (entries h))) =
      left ∙ ap₂ (λ (l : Option Loose) (r : List (Key × Entry)). loosed_in l r) what (rows
      ∙ ap₂ (λ (k : Option Hold) (r : List (Key × Entry)). all_less (option_to_list k) r) held
      ((written h.table order good.1.0 o (live-entry (entries h) o live) w).rows
      ∙ ap (λ (x : Entry). edit o.birth (λ _. x) (entries h)) is)) in
      subst HasWeakLists (sym all)
      (dropped-lists h.table.born (entries h) (rows-rise h.table order good.1.0) good.1.1.1.0 o (live-entry (entries h) o live) e there i (known (loose_at e i) refl))
    where
      known : (k : Option Loose) → loose_at e i ≡ k → IfSome k (λ l. is_some (object_at (entries h) l.target.birth) ≡ true)
      known None at = tt
      known (Some l) at = live-there (entries h) l.target (live-entry (entries h) l.target (target-live l at))

-- an entry was written whose list of links that name it is as before
module _ (h : Inside) (good : IsInside h) (o : Key) (live : IsLive (objects_inside h).rows o) (f : Content → Content) (e w : Entry)
    (there : object_at (entries h) o.birth ≡ Some e) (object : w.object ≡ f e.object) (held : w.held ≡ e.held) (parent : w.parent ≡ e.parent) where
  abbrev pub put : List (Key × Entry)
  put = edit o.birth (λ _. w) (entries h)

  write : Written h.table h.order.items o w
  write = written h.table h.order.items good.1.0 o (live-entry (entries h) o live) w

  pub put-ordered : IsOrdered (with_written h o w) h.order.items
  put-ordered = write.ordered

  pub put-rows : rows_in (with_written h o w) h.order.items ≡ put
  put-rows = write.rows

  put-there : content_of (objects_inside h) o.birth ≡ Some e.object
  put-there = plain-there (entries h) o.birth e there

  plain-any : (rows : List (Key × Entry)) → plain (edit o.birth (λ _. w) rows) ≡ edit o.birth (λ _. w.object) (plain rows)
  plain-any [] = refl
  plain-any (row ∷ rows) = go (eqb row.0.birth o.birth) refl (plain-any rows)
    where
      go : (b : Bool) → eqb row.0.birth o.birth ≡ b → plain (edit o.birth (λ _. w) rows) ≡ edit o.birth (λ _. w.object) (plain rows)
          → plain (edit o.birth (λ _. w) (row ∷ rows)) ≡ edit o.birth (λ _. w.object) (plain (row ∷ rows))
      go true is rest = rw is (ap (λ (l : List (Key × Content)). (row.0, w.object) ∷ l) rest)
      go false is rest = rw is (ap (λ (l : List (Key × Content)). (row.0, row.1.object) ∷ l) rest)

  pub plain-put : plain put ≡ edit o.birth f (objects_inside h).rows
  plain-put = plain-any (entries h) ∙ edit-as o.birth f e.object w.object 0 h.table.born (objects_inside h).rows good.0.0.rising put-there object

  counted-put : AllByRecursion (IsCounted (objects_inside h).rows) put
  counted-put = all-edit (IsCounted (objects_inside h).rows) (IsCounted (objects_inside h).rows) o.birth (λ _. w) step (entries h) good.1.1.0.counts
    where
      step : (row : Key × Entry) → IsCounted (objects_inside h).rows row → IsCounted (objects_inside h).rows (edited o.birth (λ _. w) row)
      step row old = go (eqb row.0.birth o.birth) refl
        where
          go : (b : Bool) → eqb row.0.birth o.birth ≡ b → IsCounted (objects_inside h).rows (edited o.birth (λ _. w) row)
          go true is =
              let own = counted-there h good o e there in
              let same : o.birth ≡ row.0.birth = sym (eqb-true row.0.birth o.birth is) in
              rw is (record {
                held = held ∙ own.0 ∙ ap (λ (n : ℕ). holders n (objects_inside h).rows) same;
                parent = parent ∙ own.1 ∙ ap (parent_in (objects_inside h).rows) same;
              })
          go false is = rw is old

  pub put-live : (key : Key) → IsLive (objects_inside h).rows key → IsLive (plain (rows_in (with_written h o w) h.order.items)) key
  put-live key lives =
      subst (λ (l : List (Key × Content)). IsLive l key) (sym (ap plain put-rows ∙ plain-put)) (live-edit o.birth f (objects_inside h).rows key lives)

  pub put-room : AllByRecursion (λ (row : Key × Entry). row.1.held < 2 ^ 63) (rows_in (with_written h o w) h.order.items)
  put-room =
      subst (λ (l : List (Key × Entry)). AllByRecursion (λ (row : Key × Entry). row.1.held < 2 ^ 63) l) (sym put-rows)
      (all-imply (IsCounted (objects_inside h).rows) (λ (row : Key × Entry). row.1.held < 2 ^ 63)
      (λ row counted. let low : row.1.held < 9223372036854775808 = omega (arith, counted.held, held-few h good row.0.birth) in low) put counted-put)

  -- holds came to be with it, and are counted then
  pub put-won : (won : List Hold) → Moves e.object (f e.object) [] won → length (f e.object).slots ≤ 2 ^ 32
      → ((x : ℕ) → sum_by (child_of_birth x) won + owners x (objects_inside h).rows ≤ 1) → (t : Table Entry) → IsOrdered t h.order.items
      → rows_in t h.order.items ≡ all_more o won (rows_in (with_written h o w) h.order.items) → t.born ≡ h.table.born → Changes h o f t
  put-won won moves few free t ordered rows born =
      let v : List (Key × Content) = (objects_inside h).rows in
      let all : rows_in t h.order.items ≡ all_more o won put = rows ∙ ap (all_more o won) put-rows in
      let same : plain (all_more o won put) ≡ edit o.birth f v = plain-more o won put ∙ plain-put in
      record {
        ordered = ordered;
        rows = ap plain all ∙ same;
        kept = subst IsKept (sym all)
            (kept-as (all_more o won put) (edit o.birth f v) same
            (once-won v h.table.born good.0.0.rising o live f e.object put-there won moves free)
            (short-after v h.table.born good.0.0.rising o live f e.object put-there few good.1.1.0.short)
            (counted-won v h.table.born good.0.0.rising o live f e.object put-there won moves free put counted-put));
        born = born;
      }

  -- a link may be put before the others that name an object that is there
  pub can-join : w.links.first ≡ e.links.first → (hs : List Hold) (t : Table Entry)
      → rows_in t h.order.items ≡ all_more o hs (rows_in (with_written h o w) h.order.items) → (target : Key) → IsLive (objects_inside h).rows target
      → CanJoin (rows_in t h.order.items) target
  can-join first hs t rows target lives =
      let order = h.order.items in
      let all : rows_in t order ≡ all_more o hs put = rows ∙ ap (all_more o hs) put-rows in
      let same : plain (rows_in t order) ≡ edit o.birth f (objects_inside h).rows = ap plain all ∙ plain-more o hs put ∙ plain-put in
      let rises = rows-rise h.table order good.1.0 in
      let head : head_in (rows_in t order) target.birth ≡ head_in (entries h) target.birth =
      ap (λ (l : List (Key × Entry)). head_in l target.birth) all ∙ head-more o hs put target.birth
      ∙ heads h.table.born (entries h) rises good.1.1.1.0 o (live-entry (entries h) o live) e w there first target.birth in (
        now same target lives,
        subst (λ (k : Option End). IfSome k (λ x. IsLive (plain (rows_in t order)) x.owner)) (sym head)
            (owner same (head_in (entries h) target.birth) (head-live h.table.born (entries h) rises good.1.1.1.0 target.birth)),
      )
    where
      now : plain (rows_in t h.order.items) ≡ edit o.birth f (objects_inside h).rows → (key : Key) → IsLive (objects_inside h).rows key
          → IsLive (plain (rows_in t h.order.items)) key
      now same key lives =
          subst (λ (l : List (Key × Content)). IsLive l key) (sym same) (live-edit o.birth f (objects_inside h).rows key lives)

      owner : plain (rows_in t h.order.items) ≡ edit o.birth f (objects_inside h).rows → (k : Option End) → IfSome k (λ x. IsLive (entries h) x.owner)
          → IfSome k (λ x. IsLive (plain (rows_in t h.order.items)) x.owner)
      owner same None lives = tt
      owner same (Some x) lives =
          subst (λ (l : List (Key × Content)). IsLive l x.owner) (sym same)
          (live-edit o.birth f (objects_inside h).rows x.owner (live-plain (entries h) x.owner lives))

-- a link was pointed
module _ (h : Inside) (good : IsInside h) (o : Key) (live : IsLive (objects_inside h).rows o) (i : ℕ) (target : Key) (lives : IsLive (objects_inside h).rows target)
    (e w : Entry) (there : object_at (entries h) o.birth ≡ Some e) (empty : empty_link_at e.object i ≡ true) (is : w ≡ with_object (pointed_at target i) e) where
  pub pointed-inside : (hold : Option Hold) → hold ≡ hold_at (pointed_at target i e.object).slots i → (id : Option ℕ)
      → id ≡ option_map (λ (l : Node). l.id) (node_at e i) → (t : Table Entry)
      → rows_in t h.order.items ≡ all_more o (option_to_list hold) (rows_in (with_written h o w) h.order.items) → (u : Table Entry)
      → rows_in u h.order.items ≡ joined_in o id (Some target) (rows_in t h.order.items) → HasWeakLists (rows_in u h.order.items)
  pointed-inside hold held id number t rows u joined =
      let order = h.order.items in
      let all : rows_in u order
      ≡ joined_in o (option_map (λ (l : Node). l.id) (node_at e i)) (Some target)
      (all_more o (option_to_list (hold_at (pointed_at target i e.object).slots i)) (edit o.birth (λ _. with_object (pointed_at target i) e) (entries h))) =
      joined ∙ ap₂ (λ (k : Option ℕ) (r : List (Key × Entry)). joined_in o k (Some target) r) number (rows
      ∙ ap₂ (λ (k : Option Hold) (r : List (Key × Entry)). all_more o (option_to_list k) r) held
      ((written h.table order good.1.0 o (live-entry (entries h) o live) w).rows
      ∙ ap (λ (x : Entry). edit o.birth (λ _. x) (entries h)) is)) in
      subst HasWeakLists (sym all)
      (pointed-lists h.table.born (entries h) (rows-rise h.table order good.1.0) good.1.1.1.0 o (live-entry (entries h) o live) e there i target empty
      (live-there (entries h) target (live-entry (entries h) target lives)))

-- a link was cut
pub cut-inside : (h : Inside) → IsInside h → (o : Key) → IsLive (objects_inside h).rows o → (i : ℕ) (e w : Entry) → object_at (entries h) o.birth ≡ Some e
    → empty_link_at e.object i ≡ true → w ≡ with_links (cut_links i e) (with_object (cut_at i) e) → HasWeakLists (rows_in (with_written h o w) h.order.items)
cut-inside h good o live i e w there empty is =
    subst HasWeakLists
    (sym ((written h.table h.order.items good.1.0 o (live-entry (entries h) o live) w).rows ∙ ap (λ (x : Entry). edit o.birth (λ _. x) (entries h)) is))
    (cut-lists h.table.born (entries h) (rows-rise h.table h.order.items good.1.0) good.1.1.1.0 o (live-entry (entries h) o live) e there i empty)

-- a slot was added
pub added-inside : (h : Inside) → IsInside h → (o : Key) → IsLive (objects_inside h).rows o → (name : List ℕ) (slot : Slot) (id : Option ℕ) (e w : Entry)
    → object_at (entries h) o.birth ≡ Some e → w ≡ with_links (added_links id e.links) (with_object (with_slot name slot) e)
    → is_some id ≡ is_some (weak_name slot) → IfSome id (λ k. AllByRecursion (λ (z : Node). z.id < k) e.links.nodes)
    → IfSome (weak_target slot) (IsLive (objects_inside h).rows) → (hold : Option Hold) → hold ≡ hold_of slot → (t : Table Entry)
    → rows_in t h.order.items ≡ all_more o (option_to_list hold) (rows_in (with_written h o w) h.order.items) → (target : Option Key) → target ≡ weak_target slot
    → (u : Table Entry) → rows_in u h.order.items ≡ joined_in o id target (rows_in t h.order.items) → HasWeakLists (rows_in u h.order.items)
added-inside h good o live name slot id e w there is weak above lives hold held t rows target names_it u joined =
    let order = h.order.items in
    let y : Entry = with_links (added_links id e.links) (with_object (with_slot name slot) e) in
    let all : rows_in u order ≡ joined_in o id (weak_target slot) (all_more o (option_to_list (hold_of slot)) (edit o.birth (λ _. y) (entries h))) =
    joined ∙ ap₂ (λ (k : Option Key) (r : List (Key × Entry)). joined_in o id k r) names_it (rows
    ∙ ap₂ (λ (k : Option Hold) (r : List (Key × Entry)). all_more o (option_to_list k) r) held
    ((written h.table order good.1.0 o (live-entry (entries h) o live) w).rows
    ∙ ap (λ (x : Entry). edit o.birth (λ _. x) (entries h)) is)) in
    subst HasWeakLists (sym all)
    (slot-added-lists h.table.born (entries h) (rows-rise h.table order good.1.0) good.1.1.1.0 o (live-entry (entries h) o live) e there name slot id weak above
    (known (weak_target slot) lives))
  where
    known : (k : Option Key) → IfSome k (IsLive (objects_inside h).rows) → IfSome k (λ t. is_some (object_at (entries h) t.birth) ≡ true)
    known None lives = tt
    known (Some t) lives = live-there (entries h) t (live-entry (entries h) t lives)

-- what is kept of its own weak links is as many as they are
pub own-numbered : (h : Inside) → IsInside h → (o : Key) → IsLive (objects_inside h).rows o → (e : Entry) → object_at (entries h) o.birth ≡ Some e
    → IsNumbered (o, e)
own-numbered h good o live e there =
    numbered-there h.table.born (entries h) (rows-rise h.table h.order.items good.1.0) good.1.1.1.0 o (live-entry (entries h) o live) e e there

-- a link that holds is no weak one
pub pointed-few : (e : Entry) (i : ℕ) (target : Key) (hold : Option Hold) → hold ≡ hold_at (pointed_at target i e.object).slots i → (id : Option ℕ)
    → id ≡ option_map (λ (l : Node). l.id) (node_at e i) → length (option_to_list hold) + 3 * length (option_to_list id) ≤ 3
pointed-few e i target None held None number = omega arith
pointed-few e i target None held (Some k) number = omega arith
pointed-few e i target (Some x) held None number = omega arith
pointed-few e i target (Some x) held (Some k) number = go (weak_place e.object.slots i) refl number
  where
    go : (p : Option ℕ) → weak_place e.object.slots i ≡ p
        → Some k ≡ option_map (λ (l : Node). l.id) (option_and_then (λ (j : ℕ). slice_get e.links.nodes j) p)
        → length (option_to_list (Some x)) + 3 * length (option_to_list (Some k)) ≤ 3
    go None at is = absurd (cc is)
    go (Some j) at is = absurd (cc (held, weak-stays target i e.object.slots j at))

pub added-few : (slot : Slot) (hold : Option Hold) → hold ≡ hold_of slot → (id : Option ℕ) → is_some id ≡ is_some (weak_name slot)
    → length (option_to_list hold) + 3 * length (option_to_list id) ≤ 3
added-few slot None held None weak = omega arith
added-few slot None held (Some k) weak = omega arith
added-few slot (Some x) held None weak = omega arith
added-few (Plain val) (Some x) held (Some k) weak = cc
added-few (Child key) (Some x) held (Some k) weak = cc
added-few (Link ty true target) (Some x) held (Some k) weak = cc
added-few (Link ty false target) (Some x) held (Some k) weak = cc
added-few (Alias key of) (Some x) held (Some k) weak = cc

-- the first that names the owner stays where a slot is added, and what a weak link names is there
pub first-added : (id : Option ℕ) (links : Links) → (added_links id links).first ≡ links.first
first-added None links = refl
first-added (Some k) links = refl

pub weak-live : (P : Key → Type 0) (slot : Slot) → IfSome (target_of slot) P → IfSome (weak_target slot) P
weak-live P (Plain val) live = tt
weak-live P (Child key) live = tt
weak-live P (Link ty true target) live = tt
weak-live P (Link ty false target) live = live
weak-live P (Alias key of) live = tt
