-- What a call that changes holders finds of the entries of a heap, and leaves.
use Rattle.std.proofs.Common.{◌≡◌, refl, ap, sym, subst, ◌∙◌, ℕ, ◌+◌, ◌^◌, ◌<◌, ◌≤◌, Bool, true, false, cond, eqb, List, [], ◌∷◌, length, sum_by, option_to_list, Option, Some, None, IfSome, arith}
use Rattle.std.specs.List.{AllByRecursion}
use Rattle.std.specs.Option.{option_map_or}
use Rattle.std.proofs.lemmas.Bool.{eqb-true, eq-eqb}
use Rattle.std.proofs.lemmas.List.Sums.{sum_by-cons}
use Rattle.qo_values.proofs.ListLemmas.{all-imply}
use Rattle.qo_slots.specs.declared.keys.Key.{Key}
use Rattle.qo_slots.specs.Table.{Table, with_value}
use Rattle.qo_object.specs.declared.slots.Slot.{Slot}
use Rattle.qo_object.specs.declared.slots.Slot.TheVariants.{Plain, Child, Link, Alias}
use Rattle.qo_object.specs.Slots.{Named, child_of, slot_in}
use Rattle.qo_object.specs.Content.{Content, dropped_at, empty_link_at, pointed_at, with_all_slots}
use Rattle.qo_heap.specs.Keeping.{IsCounted, IsKept, all_more, hold_at, hold_of, holders, holds_in, owners, parent_in, plain, with_object}
use Rattle.qo_heap.specs.Order.{IsOrdered, rows_in}
use Rattle.qo_heap.specs.Rows.{IsLive, edit, object_at}
use Rattle.qo_heap.specs.Objects.{Objects, content_of, slots_of}
use Rattle.qo_heap.specs.declared.entries.Entry.{Entry}
use Rattle.qo_heap.specs.declared.entries.Hold.{Hold}
use Rattle.qo_heap.specs.declared.heap.Heap.TheInside.{Inside}
use Rattle.qo_heap.proofs.BoardObjects.{named-live}
use Rattle.qo_heap.proofs.HeapLemmas.{live-edit}
use Rattle.qo_heap.proofs.HoldLemmas.{Moves, child_of_birth, childless-holds, dropped-moves, furnished-moves, hold-named, no-child, of_birth, pointed-hold}
use Rattle.qo_heap.proofs.InsideObjects.{Changes, IsInside, counted-written, entries, held-few, objects_inside, plain-written, rows-written, there-plain, with_written}
use Rattle.qo_heap.proofs.KeepingLemmas.{all-object, counted-won, holders-moved, kept-as, live-entry, object-counted, once-won, plain-edited, plain-more, plain-there, short-after}
use Rattle.qo_heap.proofs.ParentLemmas.{no-owner}
use Rattle.qo_heap.proofs.RowsLemmas.{edit-as, rows-rise}
use Rattle.qo_heap.proofs.ValueLemmas.{Written, written}

module _ (h : Inside) (good : IsInside h) (o : Key) (live : IsLive (objects_inside h).rows o) (f : Content → Content) (e w : Entry)
    (there : object_at (entries h) o.birth ≡ Some e) (is : w ≡ with_object f e) where
  -- who was there is there
  pub live-written : (key : Key) → IsLive (objects_inside h).rows key → IsLive (plain (rows_in (with_written h o w) h.order.items)) key
  live-written key lives =
      subst (λ (rows : List (Key × Content)). IsLive rows key) (sym (plain-written h good o live f e w there is))
      (live-edit o.birth f (objects_inside h).rows key lives)

  counts : AllByRecursion (IsCounted (objects_inside h).rows) (rows_in (with_written h o w) h.order.items)
  counts =
      subst (λ (rows : List (Key × Entry)). AllByRecursion (IsCounted (objects_inside h).rows) rows) (sym (rows-written h good o live f e w there is))
      (counted-written h good o live f e w there is)

  -- each count may rise
  pub room-written : AllByRecursion (λ (row : Key × Entry). row.1.held < 2 ^ 63) (rows_in (with_written h o w) h.order.items)
  room-written =
      all-imply (IsCounted (objects_inside h).rows) (λ (row : Key × Entry). row.1.held < 2 ^ 63)
      (λ row counted. let low : row.1.held < 9223372036854775808 = omega (arith, counted.held, held-few h good row.0.birth) in low)
      (rows_in (with_written h o w) h.order.items) counts

  -- what is kept is as it was
  pub held-written : (n : ℕ) (x : Entry) → object_at (rows_in (with_written h o w) h.order.items) n ≡ Some x → x.held ≡ holders n (objects_inside h).rows
  held-written n x at =
      all-object (λ (m : ℕ) (y : Entry). y.held ≡ holders m (objects_inside h).rows) (rows_in (with_written h o w) h.order.items)
      (all-imply (IsCounted (objects_inside h).rows) (λ (row : Key × Entry). row.1.held ≡ holders row.0.birth (objects_inside h).rows)
      (λ row counted. counted.held) (rows_in (with_written h o w) h.order.items) counts)
      n x at

-- a slot was let go: what it held is there, and is held
module _ (h : Inside) (good : IsInside h) (o : Key) (live : IsLive (objects_inside h).rows o) (i : ℕ) (e w : Entry)
    (there : object_at (entries h) o.birth ≡ Some e) (is : w ≡ with_object (dropped_at i) e) (hold : Option Hold) (what : hold ≡ hold_at e.object.slots i) where
  pub lost-live : IfSome hold (λ x. IsLive (plain (rows_in (with_written h o w) h.order.items)) x.key)
  lost-live = go hold what
    where
      go : (t : Option Hold) → t ≡ hold_at e.object.slots i → IfSome t (λ x. IsLive (plain (rows_in (with_written h o w) h.order.items)) x.key)
      go None at = tt
      go (Some x) at =
          live-written h good o live (dropped_at i) e w there is x.key
          (named-live (objects_inside h) good.0.0 o.birth i e.object (there-plain h good o live (dropped_at i) e w there is) x.key
          (hold-named (slot_in e.object.slots i) x (sym at)))

  pub lost-held : IfSome hold (λ x. IfSome (object_at (rows_in (with_written h o w) h.order.items) x.key.birth) (λ d. 0 < d.held))
  lost-held = go hold what
    where
      some : (x : Hold) → hold_at e.object.slots i ≡ Some x → 0 < holders x.key.birth (objects_inside h).rows
      some x at =
          let one : of_birth x.key.birth x ≡ 1 = ap (λ (b : Bool). cond {A = ℕ} b 1 0) (eq-eqb x.key.birth x.key.birth refl) in
          let lost : sum_by (of_birth x.key.birth) (option_to_list (hold_at e.object.slots i)) ≡ 1 =
          ap (λ (t : Option Hold). sum_by (of_birth x.key.birth) (option_to_list t)) at ∙ omega (arith, one, sum_by-cons (of_birth x.key.birth) x []) in
          omega (
            arith,
            lost,
            holders-moved (objects_inside h).rows h.table.born good.0.0.rising o live (dropped_at i) e.object
                (there-plain h good o live (dropped_at i) e w there is) (option_to_list (hold_at e.object.slots i)) [] (dropped-moves e.object i) x.key.birth,
          )

      there-some : (x : Hold) → hold_at e.object.slots i ≡ Some x → (t : Option Entry)
          → object_at (rows_in (with_written h o w) h.order.items) x.key.birth ≡ t → IfSome t (λ d. 0 < d.held)
      there-some x at None e = tt
      there-some x at (Some d) found = omega (arith, some x at, held-written h good o live (dropped_at i) e w there is x.key.birth d found)

      go : (t : Option Hold) → t ≡ hold_at e.object.slots i
          → IfSome t (λ x. IfSome (object_at (rows_in (with_written h o w) h.order.items) x.key.birth) (λ d. 0 < d.held))
      go None at = tt
      go (Some x) at = there-some x (sym at) (object_at (rows_in (with_written h o w) h.order.items) x.key.birth) refl

-- no object has a second parent then

-- where a link without a target points at an object
pub point-free : (h : Inside) → IsInside h → (c : Content) (target : Key) (i : ℕ) → empty_link_at c i ≡ true → (x : ℕ)
    → sum_by (child_of_birth x) (option_to_list (hold_at (pointed_at target i c).slots i)) + owners x (objects_inside h).rows ≤ 1
point-free h good c target i link x =
    omega (
      arith,
      good.1.1.0.once x,
      no-child x (hold_at (pointed_at target i c).slots i) (pointed-hold (λ y. y.child ≡ false) target refl i c.slots link),
    )

-- where a slot is added, whose child, if it has one, has no parent
pub add-free : (rows : List (Key × Content)) → ((x : ℕ) → owners x rows ≤ 1) → (slot : Slot)
    → IfSome (child_of slot) (λ k. parent_in rows k.birth ≡ None) → (x : ℕ)
    → sum_by (child_of_birth x) (option_to_list (hold_of slot)) + owners x rows ≤ 1
add-free rows once (Plain val) free x = omega (arith, once x)
add-free rows once (Link ty true None) free x = omega (arith, once x)
add-free rows once (Link ty true (Some key)) free x = omega (arith, once x, no-child x (Some (record { key = key; child = false })) refl)
add-free rows once (Link ty false target) free x = omega (arith, once x)
add-free rows once (Alias key of) free x = omega (arith, once x)
add-free rows once (Child key) free x = go (eqb key.birth x) refl
  where
    split : sum_by (child_of_birth x) (record { key = key; child = true } ∷ []) ≡ child_of_birth x (record { key = key; child = true })
    split = omega (arith, sum_by-cons (child_of_birth x) (record { key = key; child = true }) [])

    go : (b : Bool) → eqb key.birth x ≡ b → sum_by (child_of_birth x) (record { key = key; child = true } ∷ []) + owners x rows ≤ 1
    go true same =
        let one : child_of_birth x (record { key = key; child = true }) ≡ 1 = ap (λ (b : Bool). cond {A = ℕ} b 1 0) same in
        let none : owners x rows ≡ 0 = ap (λ (n : ℕ). owners n rows) (sym (eqb-true key.birth x same)) ∙ no-owner key.birth rows free in
        omega (arith, split, one, none)
    go false other =
        let none : child_of_birth x (record { key = key; child = true }) ≡ 0 = ap (λ (b : Bool). cond {A = ℕ} b 1 0) other in
        omega (arith, split, none, once x)

-- an object got its first slots, once what they hold was counted
pub furnish-bare : (v : Objects) (n : ℕ) (c : Content) → content_of v n ≡ Some c → slots_of v n ≡ [] → c.slots ≡ []
furnish-bare v n c there bare = ap (λ (t : Option Content). option_map_or (λ (x : Content). x.slots) t []) (sym there) ∙ bare

module _ (h : Inside) (good : IsInside h) (o : Key) (live : IsLive (objects_inside h).rows o) (slots : List Named)
    (bare : slots_of (objects_inside h) o.birth ≡ []) (childless : AllByRecursion (λ (s : Named). child_of s.1 ≡ None) slots) (few : length slots ≤ 2 ^ 32)
    (t : Table Entry) (ordered : IsOrdered t h.order.items) (rows : rows_in t h.order.items ≡ all_more o (holds_in slots) (entries h))
    (born : t.born ≡ h.table.born) where
  plain-held : plain (rows_in t h.order.items) ≡ (objects_inside h).rows
  plain-held = ap plain rows ∙ plain-more o (holds_in slots) (entries h)

  pub live-held : IsLive (plain (rows_in t h.order.items)) o
  live-held = subst (λ (l : List (Key × Content)). IsLive l o) (sym plain-held) live

  pub furnished-changes : (e : Entry) → object_at (rows_in t h.order.items) o.birth ≡ Some e → (w : Entry) → w ≡ with_object (with_all_slots slots) e
      → Changes h o (with_all_slots slots) (with_value t o w)
  furnished-changes e there w is =
      let v : List (Key × Content) = (objects_inside h).rows in
      let f : Content → Content = with_all_slots slots in
      let held : List (Key × Entry) = all_more o (holds_in slots) (entries h) in
      let write : Written t h.order.items o w = written t h.order.items ordered o (live-entry (rows_in t h.order.items) o live-held) w in
      let all : rows_in (with_value t o w) h.order.items ≡ edit o.birth (with_object f) held =
      write.rows ∙ edit-as o.birth (with_object f) e w 0 t.born (rows_in t h.order.items) (rows-rise t h.order.items ordered) there is
      ∙ ap (edit o.birth (with_object f)) rows in
      let same : plain (edit o.birth (with_object f) held) ≡ edit o.birth f v =
      plain-edited o.birth f held ∙ ap (edit o.birth f) (plain-more o (holds_in slots) (entries h)) in
      let seen : content_of (objects_inside h) o.birth ≡ Some e.object =
      ap (λ (l : List (Key × Content)). object_at l o.birth) (sym plain-held) ∙ plain-there (rows_in t h.order.items) o.birth e there in
      let moves : Moves e.object (f e.object) [] (holds_in slots) = furnished-moves e.object slots (furnish-bare (objects_inside h) o.birth e.object seen bare) in
      let free : (x : ℕ) → sum_by (child_of_birth x) (holds_in slots) + owners x v ≤ 1 =
      λ x. omega (arith, childless-holds x slots childless, good.1.1.0.once x) in
      record {
        ordered = write.ordered;
        rows = ap plain all ∙ same;
        kept = subst IsKept (sym all)
            (kept-as (edit o.birth (with_object f) held) (edit o.birth f v) same
            (once-won v h.table.born good.0.0.rising o live f e.object seen (holds_in slots) moves free)
            (short-after v h.table.born good.0.0.rising o live f e.object seen few good.1.1.0.short)
            (object-counted (edit o.birth f v) o.birth f held
            (counted-won v h.table.born good.0.0.rising o live f e.object seen (holds_in slots) moves free (entries h) good.1.1.0.counts)));
        born = born;
      }
