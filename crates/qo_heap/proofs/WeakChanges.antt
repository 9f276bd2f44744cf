-- The lists of weak links are right again once an object was changed.
use Rattle.std.proofs.Common.{◌≡◌, refl, ap, ap₂, sym, subst, ◌∙◌, ℕ, zero, suc, ◌+◌, ◌<◌, ◌≤◌, Bool, true, false, ◌&&◌, ◌==◌, cond, eqb, List, [], ◌∷◌, ◌++◌, length, sum_by, slice_get, slice_set, remove, Option, Some, None, option_map, is_some, IfSome, IsSomeAnd, arith}
use Rattle.std.specs.List.{AllByRecursion}
use Rattle.std.specs.Option.{option_and_then, option_map_or}
use Rattle.std.proofs.lemmas.Bool.{eqb-true, eq-eqb}
use Rattle.std.proofs.lemmas.List.Sums.{sum_by-cons}
use Rattle.qo_values.proofs.ListLemmas.{all-imply}
use Rattle.qo_slots.specs.declared.keys.Key.{Key}
use Rattle.qo_object.specs.Slots.{is_born}
use Rattle.qo_heap.specs.Rows.{IsLive, Rises, births, edit, edited, object_at, row_at}
use Rattle.qo_heap.specs.WeakLinks.{NumbersRise, new_node, node_of, one_end, one_exact, same_end}
use Rattle.qo_heap.specs.WeakLists.{HasWeakLists, IsChain, IsListed, IsNumbered, bag_in, cell_in, head_in, linked_in, named_weight, names, row_weight, unlinked_in}
use Rattle.qo_heap.specs.declared.entries.Entry.{Entry}
use Rattle.qo_heap.specs.declared.weak_links.End.{End}
use Rattle.qo_heap.specs.declared.weak_links.Node.{Node}
use Rattle.qo_heap.proofs.HeapLemmas.{births-edit}
use Rattle.qo_heap.proofs.KeepingLemmas.{all-edit, all-object}
use Rattle.qo_heap.proofs.WeakChains.{IsApart, Neighbours, all-of, apart-none, chain-same, head-has, listed-as, neighbours, same-self}
use Rattle.qo_heap.proofs.WeakMoves.{into-listed, linked-numbered, out-listed, unlinked-numbered}
use Rattle.qo_heap.proofs.WeakNodes.{added-weighs, node-added, node-at, node-removed, none-weighs, put-weighs, removed-weighs, rise-added, rise-removed, weighs}
use Rattle.qo_heap.proofs.WeakRows.{apart-in, bag-one, free-named, object-here, object-other, spans, spans-new, spans-once, sum-named}

-- numbers differ
pub rising-numbers : (rows : List (Key × Entry)) → AllByRecursion IsNumbered rows → AllByRecursion (λ (row : Key × Entry). NumbersRise row.1.links.nodes) rows
rising-numbers rows all = all-imply IsNumbered (λ (row : Key × Entry). NumbersRise row.1.links.nodes) (λ row good. good.1) rows all

-- who has a link that is listed is there

abbrev pub is_owner : List (Key × Entry) → End → Bool
is_owner rows e = option_map_or (λ (row : Key × Entry). row.0.index == e.owner.index) (row_at rows e.owner.birth) false

owner-live : (rows : List (Key × Entry)) (e : End) → is_owner rows e ≡ true → IsLive rows e.owner
owner-live rows e is = go (row_at rows e.owner.birth) is
  where
    go : (o : Option (Key × Entry)) → option_map_or (λ (row : Key × Entry). row.0.index == e.owner.index) o false ≡ true
        → IsSomeAnd o (λ row. row.0.index ≡ e.owner.index)
    go None none = cc
    go (Some row) same = eqb-true row.0.index e.owner.index same

all-higher : (n above last : ℕ) (rows : List (Key × Entry)) → n ≤ above → Rises above (births rows) last → AllByRecursion (λ (row : Key × Entry). n < row.0.birth) rows
all-higher n above last [] le rises = tt
all-higher n above last (row ∷ rows) le rises =
    let up : above < row.0.birth = rises.0 in
    (omega arith, all-higher n row.0.birth last rows (omega arith) rises.1)

still-there : (first : Key × Entry) (rows suffix : List (Key × Entry)) → AllByRecursion (λ (row : Key × Entry). first.0.birth < row.0.birth) suffix
    → AllByRecursion (λ (row : Key × Entry). row_at rows row.0.birth ≡ Some row) suffix
    → AllByRecursion (λ (row : Key × Entry). row_at (first ∷ rows) row.0.birth ≡ Some row) suffix
still-there first rows [] higher all = tt
still-there first rows (row ∷ suffix) higher all =
    let up : first.0.birth < row.0.birth = higher.0 in
    let other : eqb first.0.birth row.0.birth ≡ false = grind arith in
    (rw other all.0, still-there first rows suffix higher.1 all.1)

each-there : (above last : ℕ) (rows : List (Key × Entry)) → Rises above (births rows) last
    → AllByRecursion (λ (row : Key × Entry). row_at rows row.0.birth ≡ Some row) rows
each-there above last [] rises = tt
each-there above last (row ∷ rows) rises =
    let here : eqb row.0.birth row.0.birth ≡ true = eq-eqb row.0.birth row.0.birth refl in (
      rw here refl,
      still-there row rows rows (all-higher row.0.birth row.0.birth last rows (omega arith) rises.1) (each-there row.0.birth last rows rises.1),
    )

pub nothing-weighs : (n : ℕ) (w : End → ℕ) (owner : Key) → ((id : ℕ) → w (record { owner = owner; id = id }) ≡ 0) → (xs : List Node) (ts : List (Option Key))
    → named_weight n w owner xs ts ≡ 0
nothing-weighs n w owner none [] ts = refl
nothing-weighs n w owner none (x ∷ xs) [] = refl
nothing-weighs n w owner none (x ∷ xs) (t ∷ ts) = omega (arith, two (is_born n t), nothing-weighs n w owner none xs ts)
  where
    two : (b : Bool) → cond {A = ℕ} b (w (record { owner = owner; id = x.id })) 0 ≡ 0
    two true = none x.id
    two false = refl

owners-bag : (all : List (Key × Entry)) (n : ℕ) (rows : List (Key × Entry)) → AllByRecursion (λ (row : Key × Entry). row_at all row.0.birth ≡ Some row) rows
    → bag_in rows n (λ (e : End). cond {A = ℕ} (is_owner all e) 0 1) ≡ 0
owners-bag all n [] there = refl
owners-bag all n (row ∷ rows) there =
    omega (
      arith,
      nothing-weighs n (λ (e : End). cond {A = ℕ} (is_owner all e) 0 1) row.0 none row.1.links.nodes (names row.1),
      owners-bag all n rows there.1,
      sum_by-cons (row_weight n (λ (e : End). cond {A = ℕ} (is_owner all e) 0 1)) row rows,
    )
  where
    none : (id : ℕ) → cond {A = ℕ} (is_owner all (record { owner = row.0; id = id })) 0 1 ≡ 0
    none id =
        let same : eqb row.0.index row.0.index ≡ true = eq-eqb row.0.index row.0.index refl in
        rw (there.0, same) refl

pub listed-live : (last : ℕ) (rows : List (Key × Entry)) → Rises 0 (births rows) last → (n : ℕ) (es : List End)
    → ((w : End → ℕ) → sum_by w es ≡ bag_in rows n w) → AllByRecursion (λ (e : End). IsLive rows e.owner) es
listed-live last rows rises n es is =
    all-imply (λ (e : End). is_owner rows e ≡ true) (λ (e : End). IsLive rows e.owner) (λ e at. owner-live rows e at) es
    (all-of (is_owner rows) es (is (λ (e : End). cond {A = ℕ} (is_owner rows e) 0 1) ∙ owners-bag rows n rows (each-there 0 last rows rises)))

pub head-live : (last : ℕ) (rows : List (Key × Entry)) → Rises 0 (births rows) last → HasWeakLists rows → (n : ℕ)
    → IfSome (head_in rows n) (λ e. IsLive rows e.owner)
head-live last rows rises good n =
    let list = good.lists n in
    head-has (cell_in rows) (λ (e : End). IsLive rows e.owner) (head_in rows n) list.0 list.1.0 (listed-live last rows rises n list.0 list.1.1)

-- the entry of a name was written
module _ (last : ℕ) (rows : List (Key × Entry)) (rises : Rises 0 (births rows) last) (good : HasWeakLists rows) (o : Key) (live : IsLive rows o) (x y : Entry)
    (there : object_at rows o.birth ≡ Some x) where
  abbrev pub now : List (Key × Entry)
  now = edit o.birth (λ _. y) rows

  abbrev pub own : ℕ → End
  own id = record { owner = o; id = id }

  pub there-now : object_at now o.birth ≡ Some y
  there-now = object-here o.birth (λ _. y) rows ∙ ap (option_map (λ _. y)) there

  pub rises-now : Rises 0 (births now) last
  rises-now = rw (births-edit o.birth (λ _. y) rows) rises

  pub numbered-there : IsNumbered (o, x)
  numbered-there = all-object (λ (n : ℕ) (e : Entry). IsNumbered (o, e)) rows
      (all-imply IsNumbered (λ (row : Key × Entry). IsNumbered (o, row.1)) (λ row is. is) rows good.numbered) o.birth x there

  numbered-now : IsNumbered (o, y) → AllByRecursion IsNumbered now
  numbered-now new = all-edit IsNumbered IsNumbered o.birth (λ _. y) step rows good.numbered
    where
      step : (row : Key × Entry) → IsNumbered row → IsNumbered (edited o.birth (λ _. y) row)
      step row old = go (eqb row.0.birth o.birth) refl
        where
          go : (b : Bool) → eqb row.0.birth o.birth ≡ b → IsNumbered (edited o.birth (λ _. y) row)
          go true is = rw is new
          go false is = rw is old

  weights : (n : ℕ) (w : End → ℕ)
      → bag_in now n w + named_weight n w o x.links.nodes (names x) ≡ bag_in rows n w + named_weight n w o y.links.nodes (names y)
  weights n w = sum-named (row_weight n w) o (λ _. y) 0 last rows rises live x there

  pub heads : y.links.first ≡ x.links.first → (n : ℕ) → head_in now n ≡ head_in rows n
  heads same n = go (eqb n o.birth) refl
    where
      go : (b : Bool) → eqb n o.birth ≡ b → head_in now n ≡ head_in rows n
      go true is =
          let here : n ≡ o.birth = eqb-true n o.birth is in
          subst (λ (k : ℕ). head_in now k ≡ head_in rows k) (sym here)
          (ap (option_and_then (λ (e : Entry). e.links.first)) there-now ∙ same ∙ sym (ap (option_and_then (λ (e : Entry). e.links.first)) there))
      go false is = ap (option_and_then (λ (e : Entry). e.links.first)) (object-other o.birth (λ _. y) n is rows)

  -- a link that stands where it stood
  cells : (e : End) → (eqb o.birth e.owner.birth ≡ true → node_of y.links.nodes e.id ≡ node_of x.links.nodes e.id) → cell_in now e ≡ cell_in rows e
  cells e same = go (eqb e.owner.birth o.birth) refl
    where
      go : (b : Bool) → eqb e.owner.birth o.birth ≡ b → cell_in now e ≡ cell_in rows e
      go true is =
          let here : e.owner.birth ≡ o.birth = eqb-true e.owner.birth o.birth is in
          subst (λ (k : ℕ). option_and_then (λ (z : Entry). node_of z.links.nodes e.id) (object_at now k)
          ≡ option_and_then (λ (z : Entry). node_of z.links.nodes e.id) (object_at rows k)) (sym here)
          (ap (option_and_then (λ (z : Entry). node_of z.links.nodes e.id)) there-now ∙ same (eq-eqb o.birth e.owner.birth (sym here))
          ∙ sym (ap (option_and_then (λ (z : Entry). node_of z.links.nodes e.id)) there))
      go false is = ap (option_and_then (λ (z : Entry). node_of z.links.nodes e.id)) (object-other o.birth (λ _. y) e.owner.birth is rows)

  own-cell : (k : ℕ) (l : Node) → y.links ≡ x.links → slice_get x.links.nodes k ≡ Some l → cell_in now (own l.id) ≡ Some l
  own-cell k l same at =
      ap (option_and_then (λ (z : Entry). node_of z.links.nodes l.id)) there-now
      ∙ ap (λ (links : _). node_of links.nodes l.id) same ∙ node-at x.links.nodes numbered-there.1 k l at

  -- its links stay
  module _ (links : y.links ≡ x.links) where
    same-cells : (e : End) → cell_in now e ≡ cell_in rows e
    same-cells e = cells e (λ _. ap (λ (l : _). node_of l.nodes e.id) links)

    same-heads : (n : ℕ) → head_in now n ≡ head_in rows n
    same-heads = heads (ap (λ (l : _). l.first) links)

    lists-before : (n : ℕ) → IsListed (cell_in now) (head_in now n) (bag_in rows n)
    lists-before n =
        listed-as (cell_in rows) (cell_in now) (head_in rows n) (head_in now n) (bag_in rows n) (bag_in rows n) (same-heads n) (λ w. refl)
        (λ es is. all-same es) (good.lists n)
      where
        all-same : (es : List End) → AllByRecursion (λ (e : End). cell_in now e ≡ cell_in rows e) es
        all-same [] = tt
        all-same (e ∷ es) = (same-cells e, all-same es)

    -- and so does what they name
    pub same-lists : names y ≡ names x → HasWeakLists now
    same-lists same =
        record {
          lists = λ n.
              let list = lists-before n in
              (list.0, (list.1.0, λ w. list.1.1 w ∙ omega (arith, weights n w, named n w)));
          numbered = numbered-now (
            ap (λ (l : _). length l.nodes) links ∙ numbered-there.0 ∙ sym (ap (λ (l : List (Option Key)). length l) same),
            subst (λ (l : _). NumbersRise l.nodes) (sym links) numbered-there.1,
          );
        }
      where
        named : (n : ℕ) (w : End → ℕ) → named_weight n w o y.links.nodes (names y) ≡ named_weight n w o x.links.nodes (names x)
        named n w = ap₂ (λ (l : _) (ts : List (Option Key)). named_weight n w o l.nodes ts) links same

    -- one of them names another object
    module _ (k : ℕ) (l : Node) (was to : Option Key) (at : slice_get x.links.nodes k ≡ Some l) (had : slice_get (names x) k ≡ Some was)
        (put : names y ≡ slice_set (names x) k to) where
      put-weights : (n : ℕ) (w : End → ℕ) → bag_in now n w + weighs n w o l was ≡ bag_in rows n w + weighs n w o l to
      put-weights n w =
          omega (
            arith,
            weights n w,
            ap₂ (λ (ks : _) (ts : List (Option Key)). named_weight n w o ks.nodes ts) links put,
            put-weighs n w o k x.links.nodes (names x) l to was at had,
          )

      put-numbered : AllByRecursion IsNumbered now
      put-numbered =
          numbered-now (
            ap (λ (ks : _). length ks.nodes) links ∙ numbered-there.0 ∙ sym (length-set (names x) k to) ∙ sym (ap (λ (ts : List (Option Key)). length ts) put),
            subst (λ (ks : _). NumbersRise ks.nodes) (sym links) numbered-there.1,
          )
        where
          length-set : (ts : List (Option Key)) (i : ℕ) (t : Option Key) → length (slice_set ts i t) ≡ length ts
          length-set [] i t = refl
          length-set (u ∷ us) zero t = refl
          length-set (u ∷ us) (suc i) t = ap suc (length-set us i t)

  one-weighs : (n : ℕ) (w : End → ℕ) (l : Node) (t : Key) → eqb t.birth n ≡ true → weighs n w o l (Some t) ≡ w (own l.id)
  one-weighs n w l t is = rw is refl

  no-weighs : (n : ℕ) (w : End → ℕ) (l : Node) (t : Key) → eqb t.birth n ≡ false → weighs n w o l (Some t) ≡ 0
  no-weighs n w l t is = rw is refl

  exact-self : (e : End) → one_exact e e ≡ 1
  exact-self e =
      let i : eqb e.owner.index e.owner.index ≡ true = eq-eqb e.owner.index e.owner.index refl in
      rw (i, same-self e) refl

  pub known-now : (m : ℕ) → is_some (object_at rows m) ≡ true → is_some (object_at now m) ≡ true
  known-now m some = go (eqb m o.birth) refl
    where
      go : (b : Bool) → eqb m o.birth ≡ b → is_some (object_at now m) ≡ true
      go true is =
          let here : m ≡ o.birth = eqb-true m o.birth is in
          subst (λ (k : ℕ). is_some (object_at now k) ≡ true) (sym here) (ap is_some there-now)
      go false is = ap is_some (object-other o.birth (λ _. y) m is rows) ∙ some

  -- one of its links names an object no more, and is taken out of the list
  module _ (links : y.links ≡ x.links) (k : ℕ) (l : Node) (t : Key) (at : slice_get x.links.nodes k ≡ Some l) (had : slice_get (names x) k ≡ Some (Some t))
      (put : names y ≡ slice_set (names x) k None) where
    less : (w : End → ℕ) → bag_in now t.birth w + w (own l.id) ≡ bag_in rows t.birth w
    less w =
        omega (arith, put-weights links k l (Some t) None at had put t.birth w, one-weighs t.birth w l t (eq-eqb t.birth t.birth refl))

    others-same : (n : ℕ) → eqb n t.birth ≡ false → (w : End → ℕ) → bag_in now n w ≡ bag_in rows n w
    others-same n differ w =
        let turned : eqb t.birth n ≡ false = grind (arith, differ) in
        omega (arith, put-weights links k l (Some t) None at had put n w, no-weighs n w l t turned)

    counted : 0 < bag_in rows t.birth (one_exact (own l.id))
    counted = omega (arith, less (one_exact (own l.id)), exact-self (own l.id))

    pub left-lists : is_some (object_at rows t.birth) ≡ true → HasWeakLists (unlinked_in t.birth l now)
    left-lists some =
        record {
          lists = out-listed now (bag_in rows) (apart-in last rows rises (rising-numbers rows good.numbered)) (lists-before links) (own l.id) l t.birth
              (own-cell k l links at) counted (known-now t.birth some) less others-same;
          numbered = unlinked-numbered t.birth l now (put-numbered links k l (Some t) None at had put);
        }

    -- what stands before it and behind it is there
    pub left-live : Neighbours (λ (e : End). IsLive rows e.owner) l
    left-live =
        let list = lists-before links t.birth in
        neighbours (cell_in now) (λ (e : End). IsLive rows e.owner) (head_in now t.birth) (own l.id) l list.0 list.1.0 (own-cell k l links at)
        (omega (arith, counted, list.1.1 (one_exact (own l.id)))) (listed-live last rows rises t.birth list.0 list.1.1)

  -- one of its links names an object, and is put at the front of the list
  module _ (links : y.links ≡ x.links) (k : ℕ) (l : Node) (t : Key) (at : slice_get x.links.nodes k ≡ Some l) (had : slice_get (names x) k ≡ Some None)
      (put : names y ≡ slice_set (names x) k (Some t)) where
    more : (w : End → ℕ) → bag_in now t.birth w ≡ bag_in rows t.birth w + w (own l.id)
    more w = omega (arith, put-weights links k l None (Some t) at had put t.birth w, one-weighs t.birth w l t (eq-eqb t.birth t.birth refl))

    rest-same : (n : ℕ) → eqb n t.birth ≡ false → (w : End → ℕ) → bag_in now n w ≡ bag_in rows n w
    rest-same n differ w =
        let turned : eqb t.birth n ≡ false = grind (arith, differ) in
        omega (arith, put-weights links k l None (Some t) at had put n w, no-weighs n w l t turned)

    pub joined-lists : is_some (object_at rows t.birth) ≡ true → HasWeakLists (linked_in t.birth (own l.id) (head_in now t.birth) now)
    joined-lists some =
        let numbered : AllByRecursion IsNumbered now = put-numbered links k l None (Some t) at had put in
        record {
          lists = into-listed now (bag_in rows) (apart-in last rows rises (rising-numbers rows good.numbered))
              (apart-in last now rises-now (rising-numbers now numbered)) (lists-before links) (own l.id) l t.birth
              (own-cell k l links at) (known-now t.birth some) more rest-same;
          numbered = linked-numbered t.birth (own l.id) (head_in now t.birth) now numbered;
        }

  -- who has the first link that names an object is there
  pub first-live : y.links ≡ x.links → (n : ℕ) → IfSome (head_in now n) (λ e. IsLive rows e.owner)
  first-live links n = subst (λ (h : Option End). IfSome h (λ e. IsLive rows e.owner)) (sym (same-heads links n)) (head-live last rows rises good n)

  -- lists over nodes that are others, but for a link that is in none
  module _ (firsts : y.links.first ≡ x.links.first) (s : End) (born : s.owner.birth ≡ o.birth) (free : (n : ℕ) → bag_in rows n (one_end s) ≡ 0)
      (nodes : (j : ℕ) → eqb s.id j ≡ false → node_of y.links.nodes j ≡ node_of x.links.nodes j)
      (weighing : (n : ℕ) (w : End → ℕ) → named_weight n w o y.links.nodes (names y) ≡ named_weight n w o x.links.nodes (names x)) where
    free-cells : (es : List End) → IsApart s es → AllByRecursion (λ (e : End). cell_in now e ≡ cell_in rows e) es
    free-cells [] far = tt
    free-cells (e ∷ es) far = (cells e (λ is. nodes e.id (differ is far.0)), free-cells es far.1)
      where
        parts : (a b : Bool) → (a && b) ≡ false → a ≡ true → b ≡ false
        parts true false e p = refl
        parts true true e p = cc
        parts false b e p = cc

        differ : eqb o.birth e.owner.birth ≡ true → same_end s e ≡ false → eqb s.id e.id ≡ false
        differ is apart =
            parts (s.owner.birth == e.owner.birth) (s.id == e.id) apart
            (eq-eqb s.owner.birth e.owner.birth (born ∙ eqb-true o.birth e.owner.birth is))

    free-lists : IsNumbered (o, y) → HasWeakLists now
    free-lists numbered =
        record {
          lists = λ n. listed-as (cell_in rows) (cell_in now) (head_in rows n) (head_in now n) (bag_in rows n) (bag_in now n) (heads firsts n)
              (λ w. omega (arith, weights n w, weighing n w)) (λ es is. free-cells es (apart-none s es (is (one_end s) ∙ free n))) (good.lists n);
          numbered = numbered-now numbered;
        }

  -- a weak link more, which names nothing
  pub added-lists : (id : ℕ) → AllByRecursion (λ (z : Node). z.id < id) x.links.nodes → y.links.first ≡ x.links.first
      → y.links.nodes ≡ x.links.nodes ++ new_node id ∷ [] → names y ≡ names x ++ None ∷ [] → HasWeakLists now
  added-lists id below firsts nodes named =
      free-lists firsts (own id) refl
      (λ n. let none : spans (own id) rows ≡ 0 = spans-new (own id) 0 last rows rises x there below in omega (arith, none, bag-one (own id) n rows))
      (λ j differ. ap (λ (ns : List Node). node_of ns j) nodes ∙ node-added id j differ x.links.nodes)
      (λ n w. ap₂ (λ (ns : List Node) (ts : List (Option Key)). named_weight n w o ns ts) nodes named
      ∙ added-weighs n w o x.links.nodes (names x) (new_node id) numbered-there.0) (
        ap (λ (ns : List Node). length ns) nodes ∙ omega (arith, numbered-there.0, one-more x.links.nodes (new_node id), one-more (names x) None)
            ∙ sym (ap (λ (ts : List (Option Key)). length ts) named),
        subst NumbersRise (sym nodes) (rise-added x.links.nodes id numbered-there.1 below),
      )
    where
      one-more : {X : Type 0} (zs : List X) (z : X) → length (zs ++ z ∷ []) ≡ length zs + 1
      one-more [] z = omega arith
      one-more (u ∷ us) z = omega (arith, one-more us z)

  -- a weak link less, which named nothing
  pub removed-lists : (k : ℕ) (l : Node) → slice_get x.links.nodes k ≡ Some l → slice_get (names x) k ≡ Some None → y.links.first ≡ x.links.first
      → y.links.nodes ≡ remove x.links.nodes k → names y ≡ remove (names x) k → HasWeakLists now
  removed-lists k l at had firsts nodes named =
      free-lists firsts (own l.id) refl
      (λ n. omega (
        arith,
        free-named n (own l.id) 0 last rows rises x there k l None at had refl refl,
        spans-once (own l.id) 0 last rows rises (rising-numbers rows good.numbered),
      ))
      (λ j differ. ap (λ (ns : List Node). node_of ns j) nodes ∙ node-removed k j x.links.nodes l at differ)
      (λ n w. ap₂ (λ (ns : List Node) (ts : List (Option Key)). named_weight n w o ns ts) nodes named ∙ removed-weighs n w o k x.links.nodes (names x) had) (
        ap (λ (ns : List Node). length ns) nodes ∙ one-less k x.links.nodes (names x) numbered-there.0 ∙ sym (ap (λ (ts : List (Option Key)). length ts) named),
        subst NumbersRise (sym nodes) (rise-removed k x.links.nodes numbered-there.1),
      )
    where
      one-less : (i : ℕ) (xs : List Node) (ts : List (Option Key)) → length xs ≡ length ts → length (remove xs i) ≡ length (remove ts i)
      one-less i [] [] size = two i
        where
          two : (j : ℕ) → length (remove {X = Node} [] j) ≡ length (remove {X = Option Key} [] j)
          two zero = refl
          two (suc j) = refl
      one-less i [] (t ∷ ts) size = absurd (omega (arith, size))
      one-less i (z ∷ zs) [] size = absurd (omega (arith, size))
      one-less zero (z ∷ zs) (t ∷ ts) size = omega (arith, size)
      one-less (suc i) (z ∷ zs) (t ∷ ts) size = ap suc (one-less i zs ts (omega (arith, size)))

  -- weak links that name nothing, where there were none
  pub fresh-lists : x.links.nodes ≡ [] → y.links.first ≡ x.links.first → AllByRecursion (λ (t : Option Key). t ≡ None) (names y) → IsNumbered (o, y)
      → HasWeakLists now
  fresh-lists bare firsts none numbered =
      record {
        lists = λ n.
            let list = good.lists n in (
              list.0,
              (
                subst (λ (h : Option End). IsChain (cell_in now) None h list.0) (sym (heads firsts n))
                    (chain-same (cell_in rows) (cell_in now) None (head_in rows n) list.0 (apart-cells None (head_in rows n) list.0 list.1.0) list.1.0),
                λ w. list.1.1 w ∙ omega (arith, weights n w, none-weighs n w o y.links.nodes (names y) none, nothing n w),
              ),
            );
        numbered = numbered-now numbered;
      }
    where
      nothing : (n : ℕ) (w : End → ℕ) → named_weight n w o x.links.nodes (names x) ≡ 0
      nothing n w = ap (λ (ns : List Node). named_weight n w o ns (names x)) bare

      no-cell : (e : End) → eqb o.birth e.owner.birth ≡ true → cell_in rows e ≡ None
      no-cell e is =
          let here : o.birth ≡ e.owner.birth = eqb-true o.birth e.owner.birth is in
          ap (λ (k : ℕ). option_and_then (λ (z : Entry). node_of z.links.nodes e.id) (object_at rows k)) (sym here)
          ∙ ap (option_and_then (λ (z : Entry). node_of z.links.nodes e.id)) there ∙ ap (λ (ns : List Node). node_of ns e.id) bare

      apart-cells : (prev cur : Option End) (es : List End) → IsChain (cell_in rows) prev cur es
          → AllByRecursion (λ (e : End). cell_in now e ≡ cell_in rows e) es
      apart-cells prev cur [] chain = tt
      apart-cells prev cur (e ∷ es) chain =
          let l : Node = chain.1.0 in (
            cells e (λ is. absurd (cc (no-cell e is, chain.1.1.0))),
            apart-cells (Some e) l.next es chain.1.1.1.1,
          )
