-- The object of the least birth above a number that has a weak link to an object is found along the list of the links that name it.
use Rattle.std.proofs.Common.{◌≡◌, ◌⊎◌, inl, inr, refl, ap, ap₂, sym, subst, ◌∙◌, ℕ, ◌+◌, ◌<◌, ◌≤◌, Bool, true, false, ◌&&◌, ◌||◌, ◌==◌, cond, eqb, nat_lt, List, [], ◌∷◌, length, sum_by, count_by, Option, Some, None, IfSome, arith}
use Rattle.std.specs.List.{AllByRecursion, list_any}
use Rattle.std.specs.Option.{option_and_then}
use Rattle.std.proofs.lemmas.Bool.{and_parts, eqb-true, eq-eqb, or_parts}
use Rattle.std.proofs.lemmas.Bool.Decides.{nat_tests}
use Rattle.std.proofs.lemmas.Option.{same_Some}
use Rattle.std.proofs.lemmas.List.Sums.{sum_by-cons}
use Rattle.qo_slots.specs.declared.keys.Key.{Key}
use Rattle.qo_object.specs.declared.slots.Slot.TheVariants.{Plain, Child, Link, Alias}
use Rattle.qo_object.specs.Slots.{Named, is_born, names_weakly}
use Rattle.qo_object.specs.Content.{Content}
use Rattle.qo_heap.specs.Keeping.{plain}
use Rattle.qo_heap.specs.Rows.{IsLive, Rises, births, object_at}
use Rattle.qo_heap.specs.WeakEnds.{is_weak_owner, nearer, weak_count, weak_owner_above}
use Rattle.qo_heap.specs.WeakLinks.{node_of, weak_names}
use Rattle.qo_heap.specs.WeakLists.{IsChain, IsNumbered, bag_in, cell_in, head_in, named_weight, row_weight}
use Rattle.qo_heap.specs.declared.entries.Entry.{Entry}
use Rattle.qo_heap.specs.declared.weak_links.End.{End}
use Rattle.qo_heap.specs.declared.weak_links.Node.{Node}
use Rattle.qo_heap.proofs.InsideObjects.{IsInside, entries, objects_inside}
use Rattle.qo_heap.proofs.RowsLemmas.{rows-rise, same_key}
use Rattle.qo_heap.proofs.WeakChanges.{listed-live, nothing-weighs}
use Rattle.qo_heap.proofs.WeakEnds.{count-named}
use Rattle.qo_heap.specs.declared.heap.Heap.TheInside.{Inside}

-- what the links of an owner weigh that name an object

abbrev by_owner : (Key → Bool) → End → ℕ
by_owner p e = cond {A = ℕ} (p e.owner) 1 0

-- an object above a number; one above it that is before another; and that one
abbrev is_above : ℕ → Key → Bool
is_above above o = nat_lt above o.birth

abbrev is_between : ℕ → Key → Key → Bool
is_between above k o = nat_lt above o.birth && nat_lt o.birth k.birth

abbrev is_key : Key → Key → Bool
is_key k o = (o.index == k.index) && (o.birth == k.birth)

none-named : (n : ℕ) (w : End → ℕ) (owner : Key) (xs : List Node) (slots : List Named) → list_any (λ (s : Named). names_weakly n s.1) slots ≡ false
    → named_weight n w owner xs (weak_names slots) ≡ 0
none-named n w owner [] [] none = refl
none-named n w owner (x ∷ xs) [] none = refl
none-named n w owner xs ((name, Plain val) ∷ slots) none = none-named n w owner xs slots none
none-named n w owner xs ((name, Child key) ∷ slots) none = none-named n w owner xs slots none
none-named n w owner xs ((name, Link ty true target) ∷ slots) none = none-named n w owner xs slots none
none-named n w owner xs ((name, Alias key of) ∷ slots) none = none-named n w owner xs slots none
none-named n w owner [] ((name, Link ty false target) ∷ slots) none = refl
none-named n w owner (x ∷ xs) ((name, Link ty false target) ∷ slots) none =
    let parts = or_parts (is_born n target) (list_any (λ (s : Named). names_weakly n s.1) slots) none in
    let here : cond {A = ℕ} (is_born n target) (w (record { owner = owner; id = x.id })) 0 ≡ 0 =
    ap (λ (b : Bool). cond {A = ℕ} b (w (record { owner = owner; id = x.id })) 0) parts.0 in
    omega (arith, here, none-named n w owner xs slots parts.1)

some-named : (n : ℕ) (w : End → ℕ) (owner : Key) (xs : List Node) (slots : List Named) → length xs ≡ length (weak_names slots)
    → ((id : ℕ) → w (record { owner = owner; id = id }) ≡ 1) → list_any (λ (s : Named). names_weakly n s.1) slots ≡ true
    → 0 < named_weight n w owner xs (weak_names slots)
some-named n w owner [] [] size one some = cc
some-named n w owner (x ∷ xs) [] size one some = absurd (omega (arith, size))
some-named n w owner xs ((name, Plain val) ∷ slots) size one some = some-named n w owner xs slots size one some
some-named n w owner xs ((name, Child key) ∷ slots) size one some = some-named n w owner xs slots size one some
some-named n w owner xs ((name, Link ty true target) ∷ slots) size one some = some-named n w owner xs slots size one some
some-named n w owner xs ((name, Alias key of) ∷ slots) size one some = some-named n w owner xs slots size one some
some-named n w owner [] ((name, Link ty false target) ∷ slots) size one some = absurd (omega (arith, size))
some-named n w owner (x ∷ xs) ((name, Link ty false target) ∷ slots) size one some =
    go (is_born n target) some (some-named n w owner xs slots (omega (arith, size)) one)
  where
    go : (b : Bool) → (b || list_any (λ (s : Named). names_weakly n s.1) slots) ≡ true
        → (list_any (λ (s : Named). names_weakly n s.1) slots ≡ true → 0 < named_weight n w owner xs (weak_names slots))
        → 0 < cond {A = ℕ} b (w (record { owner = owner; id = x.id })) 0 + named_weight n w owner xs (weak_names slots)
    go true is rest = omega (arith, one x.id)
    go false is rest = let more = rest is in omega (arith, more)

-- the first of rows that has one, by what the links weigh

module _ (n above : ℕ) where
  find-none : (rows : List (Key × Entry)) → AllByRecursion IsNumbered rows → bag_in rows n (by_owner (is_above above)) ≡ 0
      → weak_owner_above n above (plain rows) ≡ None
  find-none [] numbered none = refl
  find-none (row ∷ rows) numbered none =
      go (nat_lt above row.0.birth) refl (is_weak_owner n row.1.object) refl (find-none rows numbered.1 (omega (arith, none, split)))
    where
      split : bag_in (row ∷ rows) n (by_owner (is_above above))
          ≡ row_weight n (by_owner (is_above above)) row + bag_in rows n (by_owner (is_above above))
      split = sum_by-cons (row_weight n (by_owner (is_above above))) row rows

      go : (s : Bool) → nat_lt above row.0.birth ≡ s → (t : Bool) → is_weak_owner n row.1.object ≡ t
          → weak_owner_above n above (plain rows) ≡ None → weak_owner_above n above (plain (row ∷ rows)) ≡ None
      go false p t q rest = rw p rest
      go true p false q rest = rw (p, q) rest
      go true p true q rest =
          let some = some-named n (by_owner (is_above above)) row.0 row.1.links.nodes row.1.object.slots numbered.0.0
          (λ id. ap (λ (b : Bool). cond {A = ℕ} b 1 0) p) q in
          absurd (omega (arith, some, none, split))

  module _ (k : Key) (up : above < k.birth) where
    other : (o : Key) → eqb o.birth k.birth ≡ false → is_key k o ≡ false
    other o differ = go (eqb o.index k.index)
      where
        go : (b : Bool) → (b && (o.birth == k.birth)) ≡ false
        go true = differ
        go false = refl

    later-none : (low last : ℕ) (rows : List (Key × Entry)) → k.birth ≤ low → Rises low (births rows) last → bag_in rows n (by_owner (is_key k)) ≡ 0
    later-none low last [] le rises = refl
    later-none low last (row ∷ rows) le rises =
        let far : low < row.0.birth = rises.0 in
        let differ : eqb row.0.birth k.birth ≡ false = grind arith in
        omega (
          arith,
          nothing-weighs n (by_owner (is_key k)) row.0 (λ id. ap (λ (b : Bool). cond {A = ℕ} b 1 0) (other row.0 differ)) row.1.links.nodes
              (weak_names row.1.object.slots),
          later-none row.0.birth last rows (omega arith) rises.1,
          sum_by-cons (row_weight n (by_owner (is_key k))) row rows,
        )

    find-some : (low last : ℕ) (rows : List (Key × Entry)) → Rises low (births rows) last → AllByRecursion IsNumbered rows
        → bag_in rows n (by_owner (is_between above k)) ≡ 0 → 0 < bag_in rows n (by_owner (is_key k)) → weak_owner_above n above (plain rows) ≡ Some k
    find-some low last [] rises numbered none some = absurd (omega (arith, some))
    find-some low last (row ∷ rows) rises numbered none some =
        go (nat_lt above row.0.birth) refl (is_weak_owner n row.1.object) refl
        (λ zero_it. find-some row.0.birth last rows rises.1 numbered.1 (omega (arith, none, split)) (omega (arith, some, parts, zero_it)))
      where
        split : bag_in (row ∷ rows) n (by_owner (is_between above k)) ≡ row_weight n (by_owner (is_between above k)) row + bag_in rows n (by_owner (is_between above k))
        split = sum_by-cons (row_weight n (by_owner (is_between above k))) row rows

        parts : bag_in (row ∷ rows) n (by_owner (is_key k)) ≡ row_weight n (by_owner (is_key k)) row + bag_in rows n (by_owner (is_key k))
        parts = sum_by-cons (row_weight n (by_owner (is_key k))) row rows

        apart : is_key k row.0 ≡ false → row_weight n (by_owner (is_key k)) row ≡ 0
        apart differ =
            nothing-weighs n (by_owner (is_key k)) row.0 (λ id. ap (λ (b : Bool). cond {A = ℕ} b 1 0) differ) row.1.links.nodes (weak_names row.1.object.slots)

        low_enough : nat_lt above row.0.birth ≡ true → is_weak_owner n row.1.object ≡ true → nat_lt row.0.birth k.birth ≡ true → ⊥
        low_enough p q r =
            let here : is_between above k row.0 ≡ true = ap₂ (λ (a b : Bool). a && b) p r in
            let one = some-named n (by_owner (is_between above k)) row.0 row.1.links.nodes row.1.object.slots numbered.0.0
            (λ id. ap (λ (b : Bool). cond {A = ℕ} b 1 0) here) q in
            omega (arith, one, none, split)

        is : nat_lt above row.0.birth ≡ true → is_weak_owner n row.1.object ≡ true → (t : Bool) → is_key k row.0 ≡ t → (s : Bool)
            → nat_lt row.0.birth k.birth ≡ s → row.0 ≡ k
        is p q true e s r =
            let both = and_parts (row.0.index == k.index) (row.0.birth == k.birth) e in
            same_key row.0 k (eqb-true row.0.index k.index both.0) (eqb-true row.0.birth k.birth both.1)
        is p q false e true r = absurd (low_enough p q r)
        is p q false e false r =
            let high : k.birth ≤ row.0.birth = grind (arith, nat_tests, r) in
            absurd (omega (arith, some, parts, apart e, later-none row.0.birth last rows high rises.1))

        go : (s : Bool) → nat_lt above row.0.birth ≡ s → (t : Bool) → is_weak_owner n row.1.object ≡ t
            → (row_weight n (by_owner (is_key k)) row ≡ 0 → weak_owner_above n above (plain rows) ≡ Some k) → weak_owner_above n above (plain (row ∷ rows)) ≡ Some k
        go false p t q rest =
            let differ : eqb row.0.birth k.birth ≡ false = grind (arith, nat_tests, p) in
            rw p (rest (apart (other row.0 differ)))
        go true p false q rest = rw (p, q) (rest (none-named n (by_owner (is_key k)) row.0 row.1.links.nodes row.1.object.slots q))
        go true p true q rest = rw (p, q) (ap Some (is p q (is_key k row.0) refl (nat_lt row.0.birth k.birth) refl))

-- the nearest of the owners of links

abbrev pub nearest : ℕ → Option Key → List End → Option Key
nearest above found [] = found
nearest above found (e ∷ es) = nearest above (nearer above found e.owner) es

near-none : (above : ℕ) (found : Option Key) (es : List End) → nearest above found es ≡ None
    → (found ≡ None) × (sum_by (by_owner (is_above above)) es ≡ 0)
near-none above found [] e = (e, refl)
near-none above found (x ∷ es) e =
    let rest = near-none above (nearer above found x.owner) es e in
    let here = one found rest.0 in
    (here.0, omega (arith, ap (λ (b : Bool). cond {A = ℕ} b 1 0) here.1, rest.1, sum_by-cons (by_owner (is_above above)) x es))
  where
    one : (o : Option Key) → nearer above o x.owner ≡ None → (o ≡ None) × (nat_lt above x.owner.birth ≡ false)
    one None q = go (nat_lt above x.owner.birth) q
      where
        go : (b : Bool) → cond {A = Option Key} b (Some x.owner) None ≡ None → (◌≡◌ {A = Option Key} None None) × (b ≡ false)
        go true r = cc
        go false r = (refl, refl)
    one (Some f) q = go (nat_lt above x.owner.birth && nat_lt x.owner.birth f.birth) q
      where
        go : (b : Bool) → cond {A = Option Key} b (Some x.owner) (Some f) ≡ None → (Some f ≡ None) × (nat_lt above x.owner.birth ≡ false)
        go true r = cc
        go false r = cc

-- what one link more makes of what was found
record Step (above : ℕ) (found : Option Key) (key : Key) (now : Option Key) : Type 0 where
  high : IfSome now (λ x. above < x.birth)
  low : nat_lt above key.birth ≡ true → (x : Key) × ((now ≡ Some x) × (x.birth ≤ key.birth))
  old : IfSome found (λ f. (x : Key) × ((now ≡ Some x) × (x.birth ≤ f.birth)))
  which : (now ≡ found) ⊎ (now ≡ Some key)

step : (above : ℕ) (found : Option Key) (key : Key) → IfSome found (λ x. above < x.birth) → Step above found key (nearer above found key)
step above None key high = go (nat_lt above key.birth) refl
  where
    go : (b : Bool) → nat_lt above key.birth ≡ b → Step above None key (cond {A = Option Key} b (Some key) None)
    go true e = record {
      high = let up : above < key.birth = grind (arith, nat_tests, e) in up;
      low = λ _. (key, (refl, omega arith));
      old = tt;
      which = inr refl;
    }
    go false e = record { high = tt; low = λ q. cc (e, q); old = tt; which = inl refl }
step above (Some f) key high = go (nat_lt above key.birth) refl (nat_lt key.birth f.birth) refl
  where
    go : (s : Bool) → nat_lt above key.birth ≡ s → (t : Bool) → nat_lt key.birth f.birth ≡ t
        → Step above (Some f) key (cond {A = Option Key} (s && t) (Some key) (Some f))
    go true e true r = record {
      high = let up : above < key.birth = grind (arith, nat_tests, e) in up;
      low = λ _. (key, (refl, omega arith));
      old = let down : key.birth ≤ f.birth = grind (arith, nat_tests, r) in (key, (refl, down));
      which = inr refl;
    }
    go true e false r = record {
      high = high;
      low = λ _. let down : f.birth ≤ key.birth = grind (arith, nat_tests, r) in (f, (refl, down));
      old = (f, (refl, omega arith));
      which = inl refl;
    }
    go false e t r = record { high = high; low = λ q. cc (e, q); old = (f, (refl, omega arith)); which = inl refl }

record Nearest (above : ℕ) (k : Key) (found : Option Key) (es : List End) : Type 0 where
  up : above < k.birth
  none : sum_by (by_owner (is_between above k)) es ≡ 0
  there : (found ≡ Some k) ⊎ (0 < sum_by (by_owner (is_key k)) es)
  first : IfSome found (λ f. k.birth ≤ f.birth)

near-next : (above : ℕ) (found : Option Key) (x : End) (es : List End) (k : Key) → Step above found x.owner (nearer above found x.owner)
    → Nearest above k (nearer above found x.owner) es → Nearest above k found (x ∷ es)
near-next above found x es k s rest =
    record {
      up = rest.up;
      none = omega (arith, zero_here (nat_lt above x.owner.birth) refl, rest.none, sum_by-cons (by_owner (is_between above k)) x es);
      there = where_from s.which rest.there;
      first = before found s.old;
    }
  where
    least : (y : Key) → nearer above found x.owner ≡ Some y → k.birth ≤ y.birth
    least y is = subst (λ (o : Option Key). IfSome o (λ f. k.birth ≤ f.birth)) is rest.first

    zero_here : (b : Bool) → nat_lt above x.owner.birth ≡ b → by_owner (is_between above k) x ≡ 0
    zero_here true p =
        let found_it = s.low p in
        let le : k.birth ≤ found_it.0.birth = least found_it.0 found_it.1.0 in
        let under : found_it.0.birth ≤ x.owner.birth = found_it.1.1 in
        let not : nat_lt x.owner.birth k.birth ≡ false = grind (arith, nat_tests) in
        ap₂ (λ (a b : Bool). cond {A = ℕ} (a && b) 1 0) p not
    zero_here false p = ap (λ (a : Bool). cond {A = ℕ} (a && nat_lt x.owner.birth k.birth) 1 0) p

    split : sum_by (by_owner (is_key k)) (x ∷ es) ≡ by_owner (is_key k) x + sum_by (by_owner (is_key k)) es
    split = sum_by-cons (by_owner (is_key k)) x es

    self : (o : Key) → o ≡ k → by_owner (is_key k) (record { owner = o; id = x.id }) ≡ 1
    self o is =
        let a : eqb o.index k.index ≡ true = eq-eqb o.index k.index (ap (λ (y : Key). y.index) is) in
        let b : eqb o.birth k.birth ≡ true = eq-eqb o.birth k.birth (ap (λ (y : Key). y.birth) is) in
        ap₂ (λ (p q : Bool). cond {A = ℕ} (p && q) 1 0) a b

    where_from : (nearer above found x.owner ≡ found) ⊎ (nearer above found x.owner ≡ Some x.owner)
        → (nearer above found x.owner ≡ Some k) ⊎ (0 < sum_by (by_owner (is_key k)) es) → (found ≡ Some k) ⊎ (0 < sum_by (by_owner (is_key k)) (x ∷ es))
    where_from which (inr more) = inr (omega (arith, more, split))
    where_from (inl old) (inl is) = inl (sym old ∙ is)
    where_from (inr new) (inl is) =
        let one = self x.owner (same_Some x.owner k (sym new ∙ is)) in
        inr (omega (arith, one, split))

    before : (o : Option Key) → IfSome o (λ f. (y : Key) × ((nearer above found x.owner ≡ Some y) × (y.birth ≤ f.birth))) → IfSome o (λ f. k.birth ≤ f.birth)
    before None old = tt
    before (Some f) old =
        let le : k.birth ≤ old.0.birth = least old.0 old.1.0 in
        let under : old.0.birth ≤ f.birth = old.1.1 in
        let down : k.birth ≤ f.birth = omega arith in down

near-some : (above : ℕ) (found : Option Key) (es : List End) (k : Key) → IfSome found (λ x. above < x.birth) → nearest above found es ≡ Some k
    → Nearest above k found es
near-some above found [] k high e = record {
  up = subst (λ (o : Option Key). IfSome o (λ x. above < x.birth)) e high;
  none = refl;
  there = inl e;
  first = subst (λ (o : Option Key). IfSome o (λ f. k.birth ≤ f.birth)) (sym e) (let le : k.birth ≤ k.birth = omega arith in le);
}
near-some above found (x ∷ es) k high e =
    let s : Step above found x.owner (nearer above found x.owner) = step above found x.owner high in
    near-next above found x es k s (near-some above (nearer above found x.owner) es k s.high e)

pub nearest-is : (n above last : ℕ) (rows : List (Key × Entry)) → Rises 0 (births rows) last → AllByRecursion IsNumbered rows → (es : List End)
    → ((w : End → ℕ) → sum_by w es ≡ bag_in rows n w) → nearest above None es ≡ weak_owner_above n above (plain rows)
nearest-is n above last rows rises numbered es sums = go (nearest above None es) refl
  where
    go : (o : Option Key) → nearest above None es ≡ o → nearest above None es ≡ weak_owner_above n above (plain rows)
    go None e =
        e ∙ sym (find-none n above rows numbered
        (sym (sums (by_owner (is_above above))) ∙ (near-none above None es e).1))
    go (Some k) e = by (near-some above None es k tt e)
      where
        by : Nearest above k None es → nearest above None es ≡ weak_owner_above n above (plain rows)
        by s = of s.there
          where
            of : (None ≡ Some k) ⊎ (0 < sum_by (by_owner (is_key k)) es)
                → nearest above None es ≡ weak_owner_above n above (plain rows)
            of (inl clash) = cc
            of (inr some) =
                e ∙ sym (find-some n above k s.up 0 last rows rises numbered
                (sym (sums (by_owner (is_between above k))) ∙ s.none)
                (omega (arith, some, sums (by_owner (is_key k)))))

-- how many there are

ones : (es : List End) → sum_by (λ (e : End). 1) es ≡ length es
ones [] = refl
ones (e ∷ es) = omega (arith, ones es, sum_by-cons (λ (x : End). 1) e es)

counted : (n : ℕ) (rows : List (Key × Entry)) → AllByRecursion IsNumbered rows → bag_in rows n (λ (e : End). 1) ≡ weak_count n (plain rows)
counted n [] numbered = refl
counted n (row ∷ rows) numbered =
    omega (
      arith,
      count-named n row.0 row.1.links.nodes row.1.object.slots numbered.0.0,
      counted n rows numbered.1,
      sum_by-cons (row_weight n (λ (e : End). 1)) row rows,
      sum_by-cons (λ (r : Key × Content). count_by (λ (s : Named). names_weakly n s.1) r.1.slots) (row.0, row.1.object) (plain rows),
    )

-- the walk along the list: these are still to come, each for a step
pub record Walk (rows : List (Key × Entry)) (above : ℕ) (next : Option End) (owner found : Option Key) (now bound : ℕ) : Type 0 where
  pub prev : Option End
  pub rest : List End
  pub chain : IsChain (cell_in rows) prev next rest
  pub live : AllByRecursion (λ (e : End). IsLive rows e.owner) rest
  pub near : nearest above owner rest ≡ found
  pub cost : now + length rest ≤ bound

pub walk-init : (h : Inside) → IsInside h → (o : Key) (x : Entry) → object_at (entries h) o.birth ≡ Some x → (first : Option End)
    → first ≡ x.links.first → (above was now : ℕ) → now ≡ was + 1
    → Walk (entries h) above first None (weak_owner_above o.birth above (objects_inside h).rows) now
    (was + (1 + weak_count o.birth (objects_inside h).rows))
walk-init h good o x there first is above was now one =
    let list = good.1.1.1.0.lists o.birth in
    let head : head_in (entries h) o.birth ≡ first = ap (option_and_then (λ (e : Entry). e.links.first)) there ∙ sym is in
    record {
      prev = None;
      rest = list.0;
      chain = subst (λ (c : Option End). IsChain (cell_in (entries h)) None c list.0) head list.1.0;
      live = listed-live h.table.born (entries h) (rows-rise h.table h.order.items good.1.0) o.birth list.0 list.1.1;
      near =
          nearest-is o.birth above h.table.born (entries h) (rows-rise h.table h.order.items good.1.0) good.1.1.1.0.numbered list.0 list.1.1;
      cost = omega (arith, one, ones list.0, list.1.1 (λ (e : End). 1), counted o.birth (entries h) good.1.1.1.0.numbered);
    }

module _ (rows : List (Key × Entry)) (above : ℕ) (link : End) (owner found : Option Key) (now bound : ℕ) where
  pub walk-live : Walk rows above (Some link) owner found now bound → IsLive rows link.owner
  walk-live w = go w.rest w.chain w.live
    where
      go : (es : List End) → IsChain (cell_in rows) w.prev (Some link) es → AllByRecursion (λ (e : End). IsLive rows e.owner) es → IsLive rows link.owner
      go [] chain live = cc
      go (e ∷ es) chain live = subst (λ (y : End). IsLive rows y.owner) (sym (same_Some link e chain.0)) live.0

  pub walk-next : (w : Walk rows above (Some link) owner found now bound) → (y : Entry) → object_at rows link.owner.birth ≡ Some y → (next : Option End)
      → next ≡ option_and_then (λ (x : Node). x.next) (node_of y.links.nodes link.id) → (later : ℕ) → later ≡ now + 1
      → Walk rows above next (nearer above owner link.owner) found later bound
  walk-next w y there next is later one = go w.rest w.chain w.live w.near w.cost
    where
      go : (es : List End) → IsChain (cell_in rows) w.prev (Some link) es → AllByRecursion (λ (e : End). IsLive rows e.owner) es → nearest above owner es ≡ found
          → now + length es ≤ bound → Walk rows above next (nearer above owner link.owner) found later bound
      go [] chain live near cost = cc
      go (e ∷ es) chain live near cost =
          let same : link ≡ e = same_Some link e chain.0 in
          let node : Node = chain.1.0 in
          let cell : cell_in rows link ≡ Some node = ap (cell_in rows) same ∙ chain.1.1.0 in
          let read : cell_in rows link ≡ node_of y.links.nodes link.id = ap (option_and_then (λ (x : Entry). node_of x.links.nodes link.id)) there in
          let at : next ≡ node.next = is ∙ ap (option_and_then (λ (x : Node). x.next)) (sym read ∙ cell) in
          record {
            prev = Some e;
            rest = es;
            chain = subst (λ (c : Option End). IsChain (cell_in rows) (Some e) c es) (sym at) chain.1.1.1.1;
            live = live.1;
            near = ap (λ (x : End). nearest above (nearer above owner x.owner) es) same ∙ near;
            cost = omega (arith, cost, one);
          }

pub walk-end : (rows : List (Key × Entry)) (above : ℕ) (owner found : Option Key) (now bound : ℕ) → Walk rows above None owner found now bound
    → (owner ≡ found) × (now ≤ bound)
walk-end rows above owner found now bound w = go w.rest w.chain w.near w.cost
  where
    go : (es : List End) → IsChain (cell_in rows) w.prev None es → nearest above owner es ≡ found → now + length es ≤ bound → (owner ≡ found) × (now ≤ bound)
    go [] chain near cost = (near, omega (arith, cost))
    go (e ∷ es) chain near cost = cc

-- the walk for an object of a heap
abbrev pub WalkIn : Inside → Key → ℕ → ℕ → Option End → Option Key → ℕ → Type 0
WalkIn h o above was next owner now =
    Walk (entries h) above next owner (weak_owner_above o.birth above (objects_inside h).rows) now (was + (1 + weak_count o.birth (objects_inside h).rows))

module _ (h : Inside) (o : Key) (above was now : ℕ) (next : Option End) (owner : Option Key) (w : WalkIn h o above was next owner now) where
  module _ (link : End) (is : next ≡ Some link) where
    at : WalkIn h o above was (Some link) owner now
    at = subst (λ (x : Option End). WalkIn h o above was x owner now) is w

    pub in-live : IsLive (entries h) link.owner
    in-live = walk-live (entries h) above link owner _ now _ at

    pub in-next : (y : Entry) → object_at (entries h) link.owner.birth ≡ Some y → (x : Option End)
        → x ≡ option_and_then (λ (l : Node). l.next) (node_of y.links.nodes link.id) → (later : ℕ) → later ≡ now + 1 → (nearest_so_far : Option Key)
        → nearest_so_far ≡ nearer above owner link.owner → WalkIn h o above was x nearest_so_far later
    in-next y there x read later one so_far near =
        subst (λ (k : Option Key). WalkIn h o above was x k later) (sym near) (walk-next (entries h) above link owner _ now _ at y there x read later one)

  pub in-end : next ≡ None
      → (owner ≡ weak_owner_above o.birth above (objects_inside h).rows) × (now ≤ was + (1 + weak_count o.birth (objects_inside h).rows))
  in-end is = walk-end (entries h) above owner _ now _ (subst (λ (x : Option End). WalkIn h o above was x owner now) is w)
