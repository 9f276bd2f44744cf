-- Where weak links stand in rows, and what those that name an object weigh, once a row was changed.
use Rattle.std.proofs.Common.{◌≡◌, refl, ap, ap₂, sym, subst, ◌∙◌, ℕ, ◌+◌, ◌<◌, ◌≤◌, Bool, true, false, ◌&&◌, ◌==◌, cond, eqb, List, [], ◌∷◌, sum_by, slice_get, Option, Some, None, option_map, arith}
use Rattle.std.specs.List.{AllByRecursion}
use Rattle.std.specs.Option.{option_and_then}
use Rattle.std.proofs.lemmas.Bool.{eqb-true, eq-eqb}
use Rattle.std.proofs.lemmas.List.Sums.{sum_by-cons}
use Rattle.qo_slots.specs.declared.keys.Key.{Key}
use Rattle.qo_object.specs.Slots.{is_born}
use Rattle.qo_heap.specs.Rows.{IsLive, Rises, births, edit, edited, object_at}
use Rattle.qo_heap.specs.WeakLinks.{NumbersRise, node_of, one_end, same_end}
use Rattle.qo_heap.specs.WeakLists.{bag_in, cell_in, head_in, named_weight, names, row_weight, with_first, with_node}
use Rattle.qo_heap.specs.declared.entries.Entry.{Entry}
use Rattle.qo_heap.specs.declared.weak_links.End.{End}
use Rattle.qo_heap.specs.declared.weak_links.Node.{Node}
use Rattle.qo_heap.proofs.RowsLemmas.{same_key}
use Rattle.qo_heap.proofs.WeakChains.{Apart}
use Rattle.qo_heap.proofs.WeakNodes.{below-none, named-changed, named-less, named-one, named-two, node-far, node-here, numbers-once, other-owner, span}

-- one link among those of rows
abbrev pub spans : End → List (Key × Entry) → ℕ
spans e rows = sum_by (λ (row : Key × Entry). span (one_end e) row.0 row.1.links.nodes) rows

spans-above : (e : End) (above last : ℕ) (rows : List (Key × Entry)) → e.owner.birth ≤ above → Rises above (births rows) last → spans e rows ≡ 0
spans-above e above last [] le rises = refl
spans-above e above last (row ∷ rows) le rises =
    let up : above < row.0.birth = rises.0 in
    let differ : eqb e.owner.birth row.0.birth ≡ false = grind arith in
    omega (
      arith,
      other-owner e row.0 differ row.1.links.nodes,
      spans-above e row.0.birth last rows (omega arith) rises.1,
      sum_by-cons (λ (r : Key × Entry). span (one_end e) r.0 r.1.links.nodes) row rows,
    )

pub spans-once : (e : End) (above last : ℕ) (rows : List (Key × Entry)) → Rises above (births rows) last
    → AllByRecursion (λ (row : Key × Entry). NumbersRise row.1.links.nodes) rows → spans e rows ≤ 1
spans-once e above last [] rises all = omega arith
spans-once e above last (row ∷ rows) rises all =
    go (eqb e.owner.birth row.0.birth) refl (spans-once e row.0.birth last rows rises.1 all.1)
  where
    split : spans e (row ∷ rows) ≡ span (one_end e) row.0 row.1.links.nodes + spans e rows
    split = sum_by-cons (λ (r : Key × Entry). span (one_end e) r.0 r.1.links.nodes) row rows

    go : (t : Bool) → eqb e.owner.birth row.0.birth ≡ t → spans e rows ≤ 1 → spans e (row ∷ rows) ≤ 1
    go true is rest =
        let same : e.owner.birth ≡ row.0.birth = eqb-true e.owner.birth row.0.birth is in
        omega (arith, split, numbers-once e row.0 row.1.links.nodes all.0, spans-above e row.0.birth last rows (omega (arith, same)) rises.1)
    go false differ rest = omega (arith, split, other-owner e row.0 differ row.1.links.nodes, rest)

pub bag-one : (e : End) (n : ℕ) (rows : List (Key × Entry)) → bag_in rows n (one_end e) ≤ spans e rows
bag-one e n [] = omega arith
bag-one e n (row ∷ rows) =
    omega (
      arith,
      bag-one e n rows,
      named-one (one_end e) row.0 n row.1.links.nodes (names row.1),
      sum_by-cons (λ (r : Key × Entry). named_weight n (one_end e) r.0 r.1.links.nodes (names r.1)) row rows,
      sum_by-cons (λ (r : Key × Entry). span (one_end e) r.0 r.1.links.nodes) row rows,
    )

bag-two : (e : End) (n m : ℕ) → eqb n m ≡ false → (rows : List (Key × Entry))
    → bag_in rows n (one_end e) + bag_in rows m (one_end e) ≤ spans e rows
bag-two e n m differ [] = omega arith
bag-two e n m differ (row ∷ rows) =
    omega (
      arith,
      bag-two e n m differ rows,
      named-two (one_end e) row.0 n m differ row.1.links.nodes (names row.1),
      sum_by-cons (λ (r : Key × Entry). named_weight n (one_end e) r.0 r.1.links.nodes (names r.1)) row rows,
      sum_by-cons (λ (r : Key × Entry). named_weight m (one_end e) r.0 r.1.links.nodes (names r.1)) row rows,
      sum_by-cons (λ (r : Key × Entry). span (one_end e) r.0 r.1.links.nodes) row rows,
    )

pub apart-in : (last : ℕ) (rows : List (Key × Entry)) → Rises 0 (births rows) last → AllByRecursion (λ (row : Key × Entry). NumbersRise row.1.links.nodes) rows
    → Apart (bag_in rows)
apart-in last rows rises all = record {
  once = λ n e. omega (arith, bag-one e n rows, spans-once e 0 last rows rises all);
  apart = λ n m e differ. omega (arith, bag-two e n m differ rows, spans-once e 0 last rows rises all);
}

-- a link that does not name the object is not among those that do
pub free-named : (n : ℕ) (e : End) (above last : ℕ) (rows : List (Key × Entry)) → Rises above (births rows) last → (x : Entry)
    → object_at rows e.owner.birth ≡ Some x → (k : ℕ) (l : Node) (t : Option Key) → slice_get x.links.nodes k ≡ Some l → slice_get (names x) k ≡ Some t
    → l.id ≡ e.id → is_born n t ≡ false → bag_in rows n (one_end e) + 1 ≤ spans e rows
free-named n e above last [] rises x there k l t at had number other = cc
free-named n e above last (row ∷ rows) rises x there k l t at had number other =
    go (eqb row.0.birth e.owner.birth) refl (λ later. free-named n e row.0.birth last rows rises.1 x later k l t at had number other)
  where
    parts : spans e (row ∷ rows) ≡ span (one_end e) row.0 row.1.links.nodes + spans e rows
    parts = sum_by-cons (λ (r : Key × Entry). span (one_end e) r.0 r.1.links.nodes) row rows

    bags : bag_in (row ∷ rows) n (one_end e) ≡ row_weight n (one_end e) row + bag_in rows n (one_end e)
    bags = sum_by-cons (row_weight n (one_end e)) row rows

    go : (b : Bool) → eqb row.0.birth e.owner.birth ≡ b → (object_at rows e.owner.birth ≡ Some x → bag_in rows n (one_end e) + 1 ≤ spans e rows)
        → bag_in (row ∷ rows) n (one_end e) + 1 ≤ spans e (row ∷ rows)
    go true is rest =
        let here : row.1 ≡ x = cc (rw is at there) in
        let node : slice_get row.1.links.nodes k ≡ Some l = rw here at in
        let name : slice_get (names row.1) k ≡ Some t = rw here had in
        let born : eqb e.owner.birth row.0.birth ≡ true = eq-eqb e.owner.birth row.0.birth (sym (eqb-true row.0.birth e.owner.birth is)) in
        let same : eqb e.id l.id ≡ true = eq-eqb e.id l.id (sym number) in
        let one : one_end e (record { owner = row.0; id = l.id }) ≡ 1 = rw (born, same) refl in
        omega (arith, parts, bags, one, named-less n (one_end e) row.0 k row.1.links.nodes (names row.1) l t node name other, bag-one e n rows)
    go false is rest =
        let more = rest (rw is at there) in omega (arith, parts, bags, more, named-one (one_end e) row.0 n row.1.links.nodes (names row.1))

-- nor is one of a number above those of its owner
pub spans-new : (e : End) (above last : ℕ) (rows : List (Key × Entry)) → Rises above (births rows) last → (x : Entry) → object_at rows e.owner.birth ≡ Some x
    → AllByRecursion (λ (y : Node). y.id < e.id) x.links.nodes → spans e rows ≡ 0
spans-new e above last [] rises x there below = cc
spans-new e above last (row ∷ rows) rises x there below =
    go (eqb row.0.birth e.owner.birth) refl (λ later. spans-new e row.0.birth last rows rises.1 x later below)
  where
    parts : spans e (row ∷ rows) ≡ span (one_end e) row.0 row.1.links.nodes + spans e rows
    parts = sum_by-cons (λ (r : Key × Entry). span (one_end e) r.0 r.1.links.nodes) row rows

    go : (b : Bool) → eqb row.0.birth e.owner.birth ≡ b → (object_at rows e.owner.birth ≡ Some x → spans e rows ≡ 0) → spans e (row ∷ rows) ≡ 0
    go true is rest =
        let here : row.1 ≡ x = cc (rw is at there) in
        let low : AllByRecursion (λ (y : Node). y.id < e.id) row.1.links.nodes = rw here below in
        let same : row.0.birth ≡ e.owner.birth = eqb-true row.0.birth e.owner.birth is in
        omega (arith, parts, below-none e row.0 row.1.links.nodes low, spans-above e row.0.birth last rows (omega (arith, same)) rises.1)
    go false is rest =
        let more = rest (rw is at there) in
        let differ : eqb e.owner.birth row.0.birth ≡ false = grind (arith, is) in
        omega (arith, parts, more, other-owner e row.0 differ row.1.links.nodes)

-- an object by birth, and a sum over rows, after an edit

module _ {T : Type 0} (n : ℕ) (f : T → T) where
  pub object-here : (rows : List (Key × T)) → object_at (edit n f rows) n ≡ option_map f (object_at rows n)
  object-here [] = refl
  object-here (row ∷ rows) = go (eqb row.0.birth n) refl (object-here rows)
    where
      go : (b : Bool) → eqb row.0.birth n ≡ b → object_at (edit n f rows) n ≡ option_map f (object_at rows n)
          → object_at (edit n f (row ∷ rows)) n ≡ option_map f (object_at (row ∷ rows) n)
      go true is rest = rw (is, is) refl
      go false is rest = rw (is, is) rest

  pub object-other : (x : ℕ) → eqb x n ≡ false → (rows : List (Key × T)) → object_at (edit n f rows) x ≡ object_at rows x
  object-other x other [] = refl
  object-other x other (row ∷ rows) = go (eqb row.0.birth n) refl (eqb row.0.birth x) refl (object-other x other rows)
    where
      go : (a : Bool) → eqb row.0.birth n ≡ a → (b : Bool) → eqb row.0.birth x ≡ b → object_at (edit n f rows) x ≡ object_at rows x
          → object_at (edit n f (row ∷ rows)) x ≡ object_at (row ∷ rows) x
      go true p true q rest =
          absurd (let a : row.0.birth ≡ n = eqb-true row.0.birth n p in let b : row.0.birth ≡ x = eqb-true row.0.birth x q in grind arith)
      go true p false q rest = rw (p, q) rest
      go false p true q rest = rw (p, q) refl
      go false p false q rest = rw (p, q) rest

  -- what is read of an object that the edit leaves
  pub read-same : {A : Type 0} (g : T → Option A) → ((x : T) → g (f x) ≡ g x) → (rows : List (Key × T)) (x : ℕ)
      → option_and_then g (object_at (edit n f rows) x) ≡ option_and_then g (object_at rows x)
  read-same g same rows x = go (eqb x n) refl
    where
      two : (o : Option T) → option_and_then g (option_map f o) ≡ option_and_then g o
      two None = refl
      two (Some e) = same e

      go : (b : Bool) → eqb x n ≡ b → option_and_then g (object_at (edit n f rows) x) ≡ option_and_then g (object_at rows x)
      go true p =
          let is : x ≡ n = eqb-true x n p in
          subst (λ (k : ℕ). option_and_then g (object_at (edit n f rows) k) ≡ option_and_then g (object_at rows k)) (sym is)
          (ap (option_and_then g) (object-here rows) ∙ two (object_at rows n))
      go false p = ap (option_and_then g) (object-other x p rows)

  pub sum-same : (h : Key × T → ℕ) → ((row : Key × T) → h (row.0, f row.1) ≡ h row) → (rows : List (Key × T)) → sum_by h (edit n f rows) ≡ sum_by h rows
  sum-same h same [] = refl
  sum-same h same (row ∷ rows) =
      omega (arith, go (eqb row.0.birth n), sum-same h same rows, sum_by-cons h row rows, sum_by-cons h (edited n f row) (edit n f rows))
    where
      go : (t : Bool) → h (cond t (row.0, f row.1) row) ≡ h row
      go true = same row
      go false = refl

-- a sum over rows, where the row of a name was changed
module _ {T : Type 0} (h : Key × T → ℕ) (o : Key) (f : T → T) where
  sum-higher : (above last : ℕ) (rows : List (Key × T)) → o.birth ≤ above → Rises above (births rows) last → sum_by h (edit o.birth f rows) ≡ sum_by h rows
  sum-higher above last [] le rises = refl
  sum-higher above last (row ∷ rows) le rises =
      let up : above < row.0.birth = rises.0 in
      let other : eqb row.0.birth o.birth ≡ false = grind arith in
      let rest : sum_by h (edit o.birth f rows) ≡ sum_by h rows = sum-higher row.0.birth last rows (omega arith) rises.1 in
      rw other (omega (arith, rest, sum_by-cons h row rows, sum_by-cons h row (edit o.birth f rows)))

  pub sum-named : (above last : ℕ) (rows : List (Key × T)) → Rises above (births rows) last → IsLive rows o → (x : T) → object_at rows o.birth ≡ Some x
      → sum_by h (edit o.birth f rows) + h (o, x) ≡ sum_by h rows + h (o, f x)
  sum-named above last [] rises live x there = absurd live
  sum-named above last (row ∷ rows) rises live x there = go (eqb row.0.birth o.birth) refl (sum-named row.0.birth last rows rises.1)
    where
      go : (t : Bool) → eqb row.0.birth o.birth ≡ t
          → (IsLive rows o → (y : T) → object_at rows o.birth ≡ Some y → sum_by h (edit o.birth f rows) + h (o, y) ≡ sum_by h rows + h (o, f y))
          → sum_by h (edit o.birth f (row ∷ rows)) + h (o, x) ≡ sum_by h (row ∷ rows) + h (o, f x)
      go true is later =
          let at : row.0.index ≡ o.index = rw is at live in
          let born : row.0.birth ≡ o.birth = eqb-true row.0.birth o.birth is in
          let key : row.0 ≡ o = same_key row.0 o at born in
          let here : row.1 ≡ x = cc (rw is at there) in
          let old : h row ≡ h (o, x) = ap₂ (λ (k : Key) (y : T). h (k, y)) key here in
          let new : h (row.0, f row.1) ≡ h (o, f x) = ap₂ (λ (k : Key) (y : T). h (k, f y)) key here in
          let rest : sum_by h (edit o.birth f rows) ≡ sum_by h rows = sum-higher row.0.birth last rows (omega (arith, born)) rises.1 in
          rw is (omega (arith, old, new, rest, sum_by-cons h row rows, sum_by-cons h (row.0, f row.1) (edit o.birth f rows)))
      go false is later =
          let rest = later (rw is at live) x (rw is at there) in
          rw is (omega (arith, rest, sum_by-cons h row rows, sum_by-cons h row (edit o.birth f rows)))

-- a node was changed
module _ (s : End) (f : Node → Node) (keeps : (x : Node) → (f x).id ≡ x.id) (rows : List (Key × Entry)) where
  abbrev noded : List (Key × Entry)
  noded = edit s.owner.birth (with_node s.id f) rows

  pub cell-here : cell_in noded s ≡ option_map f (cell_in rows s)
  cell-here = ap (option_and_then (λ (x : Entry). node_of x.links.nodes s.id)) (object-here s.owner.birth (with_node s.id f) rows) ∙ two (object_at rows s.owner.birth)
    where
      two : (o : Option Entry) → option_and_then (λ (x : Entry). node_of x.links.nodes s.id) (option_map (with_node s.id f) o)
          ≡ option_map f (option_and_then (λ (x : Entry). node_of x.links.nodes s.id) o)
      two None = refl
      two (Some x) = node-here s.id f keeps x.links.nodes

  pub cell-far : (e : End) → same_end s e ≡ false → cell_in noded e ≡ cell_in rows e
  cell-far e apart = go (eqb s.owner.birth e.owner.birth) refl
    where
      parts : (a b : Bool) → (a && b) ≡ false → a ≡ true → b ≡ false
      parts true false e p = refl
      parts true true e p = cc
      parts false b e p = cc

      two : eqb s.id e.id ≡ false → (o : Option Entry) → option_and_then (λ (x : Entry). node_of x.links.nodes e.id) (option_map (with_node s.id f) o)
          ≡ option_and_then (λ (x : Entry). node_of x.links.nodes e.id) o
      two other None = refl
      two other (Some x) = node-far s.id f keeps e.id other x.links.nodes

      go : (b : Bool) → eqb s.owner.birth e.owner.birth ≡ b → cell_in noded e ≡ cell_in rows e
      go true p =
          let is : s.owner.birth ≡ e.owner.birth = eqb-true s.owner.birth e.owner.birth p in
          let other : eqb s.id e.id ≡ false = parts (s.owner.birth == e.owner.birth) (s.id == e.id) apart p in
          subst (λ (k : ℕ). option_and_then (λ (x : Entry). node_of x.links.nodes e.id) (object_at noded k)
          ≡ option_and_then (λ (x : Entry). node_of x.links.nodes e.id) (object_at rows k)) is
          (ap (option_and_then (λ (x : Entry). node_of x.links.nodes e.id)) (object-here s.owner.birth (with_node s.id f) rows) ∙ two other (object_at rows s.owner.birth))
      go false p =
          let other : eqb e.owner.birth s.owner.birth ≡ false = grind (arith, p) in
          ap (option_and_then (λ (x : Entry). node_of x.links.nodes e.id)) (object-other s.owner.birth (with_node s.id f) e.owner.birth other rows)

  pub head-stays : (n : ℕ) → head_in noded n ≡ head_in rows n
  head-stays n = read-same s.owner.birth (with_node s.id f) (λ (x : Entry). x.links.first) (λ x. refl) rows n

  pub bag-stays : (n : ℕ) (w : End → ℕ) → bag_in noded n w ≡ bag_in rows n w
  bag-stays n w =
      sum-same s.owner.birth (with_node s.id f) (row_weight n w)
      (λ row. named-changed s.id f keeps n w row.0 row.1.links.nodes (names row.1)) rows

-- the first link was changed
module _ (m : ℕ) (h : Option End) (rows : List (Key × Entry)) where
  pub headed-cell : (e : End) → cell_in (edit m (with_first h) rows) e ≡ cell_in rows e
  headed-cell e = read-same m (with_first h) (λ (x : Entry). node_of x.links.nodes e.id) (λ x. refl) rows e.owner.birth

  pub headed-here : (x : Entry) → object_at rows m ≡ Some x → head_in (edit m (with_first h) rows) m ≡ h
  headed-here x there = ap (option_and_then (λ (y : Entry). y.links.first)) (object-here m (with_first h) rows ∙ ap (option_map (with_first h)) there)

  pub headed-far : (n : ℕ) → eqb n m ≡ false → head_in (edit m (with_first h) rows) n ≡ head_in rows n
  headed-far n differ = ap (option_and_then (λ (y : Entry). y.links.first)) (object-other m (with_first h) n differ rows)

  pub headed-bag : (n : ℕ) (w : End → ℕ) → bag_in (edit m (with_first h) rows) n w ≡ bag_in rows n w
  headed-bag n w = sum-same m (with_first h) (row_weight n w) (λ row. refl) rows
