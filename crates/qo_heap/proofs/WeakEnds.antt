-- The weak links that end with an object: what each of them is, and what is so where none is left.
use Rattle.std.proofs.Common.{◌≡◌, refl, ap, ap₂, sym, subst, ◌∙◌, ℕ, zero, suc, ◌+◌, ◌<◌, ◌≤◌, Bool, true, false, not, ◌||◌, ◌==◌, cond, eqb, List, [], ◌∷◌, map, length, position, slice_get, sum_by, count_by, Option, Some, None, is_some, IfSome, IfNone, arith}
use Rattle.std.specs.List.{AllByRecursion}
use Rattle.std.specs.Option.{option_and_then, option_map_or}
use Rattle.std.proofs.lemmas.Bool.{eqb-true, eq-eqb}
use Rattle.std.proofs.lemmas.Option.{same_Some}
use Rattle.std.proofs.lemmas.List.Sums.{sum_by-cons}
use Rattle.qo_values.proofs.ListLemmas.{position-find, position-none}
use Rattle.qo_slots.specs.declared.keys.Key.{Key}
use Rattle.qo_object.specs.declared.slots.Slot.{Slot}
use Rattle.qo_object.specs.declared.slots.Slot.TheVariants.{Plain, Child, Link, Alias}
use Rattle.qo_object.specs.Slots.{Named, each_changed, forgotten_in, is_born, named_in, names_weakly, slot_in, target_of, weak_target}
use Rattle.qo_object.specs.Content.{Content, dropped_at}
use Rattle.qo_heap.specs.Keeping.{entry_forgets, plain, with_object}
use Rattle.qo_heap.specs.Rows.{IsLive, Rises, births, object_at, without}
use Rattle.qo_heap.specs.Objects.{forgets}
use Rattle.qo_heap.specs.WeakEnds.{DropsLink, IsLinked, IsWeakEnd, naming, own, weak_ends, weak_ends_in}
use Rattle.qo_heap.specs.WeakLinks.{is_weak_at, node_of, one_end, weak_before, weak_name, weak_names, weak_place}
use Rattle.qo_heap.specs.WeakLists.{HasWeakLists, IsChain, IsListed, IsNumbered, bag_in, cell_in, head_in, loose_at, named_weight, names, node_at, row_weight}
use Rattle.qo_heap.specs.declared.entries.Entry.{Entry}
use Rattle.qo_heap.specs.declared.entries.Loose.{Loose}
use Rattle.qo_heap.specs.declared.weak_links.End.{End}
use Rattle.qo_heap.specs.declared.weak_links.Node.{Node}
use Rattle.qo_heap.proofs.KeptEnds.{only-one}
use Rattle.qo_heap.proofs.RowsLemmas.{same_key}
use Rattle.qo_heap.proofs.WeakChains.{all-of, listed-as, same-self}
use Rattle.qo_heap.proofs.WeakChanges.{head-live, rising-numbers}
use Rattle.qo_heap.proofs.WeakNodes.{node-at, none-weighs}
use Rattle.qo_heap.proofs.WeakRows.{free-named, spans-once}
use Rattle.qo_heap.proofs.WeakSlots.{named-place, paired, place_before}

-- a slot that is a weak link and names an object
pub weak-named : (i : ℕ) (slots : List Named) (k : ℕ) (t : Key) → weak_place slots i ≡ Some k → named_in slots i ≡ Some t
    → option_and_then weak_target (slot_in slots i) ≡ Some t
weak-named i slots k t at named = go (slot_in slots i) weak named
  where
    by : (b : Bool) → weak_place slots i ≡ cond b (Some (weak_before i slots)) None → b ≡ true
    by true is = refl
    by false is = absurd (cc (at, is))

    weak : option_map_or (λ (s : Slot). is_some (weak_name s)) (slot_in slots i) false ≡ true
    weak = by (is_weak_at slots i) (place_before i slots)

    go : (o : Option Slot) → option_map_or (λ (s : Slot). is_some (weak_name s)) o false ≡ true → option_and_then target_of o ≡ Some t
        → option_and_then weak_target o ≡ Some t
    go None is names_it = cc
    go (Some (Plain val)) is names_it = cc
    go (Some (Child key)) is names_it = cc
    go (Some (Link ty true target)) is names_it = cc
    go (Some (Link ty false target)) is names_it = names_it
    go (Some (Alias key of)) is names_it = cc

named-weak : (o : Option Slot) (t : Key) → option_and_then weak_target o ≡ Some t → option_and_then target_of o ≡ Some t
named-weak None t is = cc
named-weak (Some (Plain val)) t is = cc
named-weak (Some (Child key)) t is = cc
named-weak (Some (Link ty true target)) t is = cc
named-weak (Some (Link ty false target)) t is = is
named-weak (Some (Alias key of)) t is = cc

-- the node of a weak link at a place
pub record Node_at (e : Entry) (i : ℕ) (x : Node) : Type 0 where
  pub k : ℕ
  pub place : weak_place e.object.slots i ≡ Some k
  pub node : slice_get e.links.nodes k ≡ Some x

pub node-there : (e : Entry) (i : ℕ) (x : Node) → node_at e i ≡ Some x → Node_at e i x
node-there e i x at = go (weak_place e.object.slots i) refl at
  where
    go : (p : Option ℕ) → weak_place e.object.slots i ≡ p → option_and_then (λ (k : ℕ). slice_get e.links.nodes k) p ≡ Some x → Node_at e i x
    go None place node = cc
    go (Some k) place node = record { k = k; place = place; node = node }

-- what one link weighs among those of its owner that name its target, and among those of rows
named-within : (n : ℕ) (w : End → ℕ) (owner : Key) (k : ℕ) (xs : List Node) (ts : List (Option Key)) (x : Node) (t : Key) → slice_get xs k ≡ Some x
    → slice_get ts k ≡ Some (Some t) → eqb t.birth n ≡ true → w (record { owner = owner; id = x.id }) ≤ named_weight n w owner xs ts
named-within n w owner k [] ts x t at had is = cc
named-within n w owner k (y ∷ ys) [] x t at had is = cc
named-within n w owner zero (y ∷ ys) (u ∷ us) x t at had is =
    let node : y ≡ x = cc at in
    let name : u ≡ Some t = cc had in
    let here : cond {A = ℕ} (is_born n u) (w (record { owner = owner; id = y.id })) 0 ≡ w (record { owner = owner; id = x.id }) =
    ap₂ (λ (o : Option Key) (z : Node). cond {A = ℕ} (is_born n o) (w (record { owner = owner; id = z.id })) 0) name node
    ∙ ap (λ (b : Bool). cond {A = ℕ} b (w (record { owner = owner; id = x.id })) 0) is in
    omega (arith, here)
named-within n w owner (suc k) (y ∷ ys) (u ∷ us) x t at had is = omega (arith, named-within n w owner k ys us x t at had is)

bag-within : (n : ℕ) (w : End → ℕ) (o : Key) (x : Entry) (rows : List (Key × Entry)) → IsLive rows o → object_at rows o.birth ≡ Some x
    → row_weight n w (o, x) ≤ bag_in rows n w
bag-within n w o x [] live there = absurd live
bag-within n w o x (row ∷ rows) live there = go (eqb row.0.birth o.birth) refl (bag-within n w o x rows)
  where
    go : (b : Bool) → eqb row.0.birth o.birth ≡ b
        → (IsLive rows o → object_at rows o.birth ≡ Some x → row_weight n w (o, x) ≤ bag_in rows n w) → row_weight n w (o, x) ≤ bag_in (row ∷ rows) n w
    go true is rest =
        let at : row.0.index ≡ o.index = rw is at live in
        let key : row.0 ≡ o = same_key row.0 o at (eqb-true row.0.birth o.birth is) in
        let here : row.1 ≡ x = cc (rw is at there) in
        let same : row_weight n w row ≡ row_weight n w (o, x) = ap₂ (λ (k : Key) (y : Entry). row_weight n w (k, y)) key here in
        omega (arith, same, sum_by-cons (row_weight n w) row rows)
    go false is rest =
        let more = rest (rw is at live) (rw is at there) in
        omega (arith, more, sum_by-cons (row_weight n w) row rows)

-- a link that ends with the object of a birth: it is listed for the object that it names
pub record Ends (rows : List (Key × Entry)) (n : ℕ) (l : End) : Type 0 where
  pub named : ℕ
  pub listed : 0 < bag_in rows named (one_end l)
  pub near : (named == n || l.owner.birth == n) ≡ true
  pub live : IsLive rows l.owner
  pub cell : is_some (cell_in rows l) ≡ true

or-right : (a b : Bool) → b ≡ true → (a || b) ≡ true
or-right true b is = refl
or-right false b is = is

module _ (last : ℕ) (rows : List (Key × Entry)) (rises : Rises 0 (births rows) last) (good : HasWeakLists rows) (o : Key) (live : IsLive rows o) (x : Entry)
    (there : object_at rows o.birth ≡ Some x) (numbered : IsNumbered (o, x)) where
  one-self : (l : End) → one_end l l ≡ 1
  one-self l = ap (λ (b : Bool). cond {A = ℕ} b 1 0) (same-self l)

  first-ends : (l : End) → x.links.first ≡ Some l → Ends rows o.birth l
  first-ends l is = go (good.lists o.birth).0 (good.lists o.birth).1.0 (good.lists o.birth).1.1
    where
      head : head_in rows o.birth ≡ Some l
      head = ap (option_and_then (λ (e : Entry). e.links.first)) there ∙ is

      go : (es : List End) → IsChain (cell_in rows) None (head_in rows o.birth) es → ((w : End → ℕ) → sum_by w es ≡ bag_in rows o.birth w) → Ends rows o.birth l
      go [] chain sums = absurd (let none : head_in rows o.birth ≡ None = chain in cc (head, none))
      go (e ∷ es) chain sums =
          let same : l ≡ e = same_Some l e (sym head ∙ chain.0) in
          let one : one_end l e ≡ 1 = ap (one_end l) (sym same) ∙ one-self l in
          record {
            named = o.birth;
            listed = omega (arith, one, sums (one_end l), sum_by-cons (one_end l) e es);
            near = ap (λ (b : Bool). b || (l.owner.birth == o.birth)) (eq-eqb o.birth o.birth refl);
            live = subst (λ (h : Option End). IfSome h (λ y. IsLive rows y.owner)) head (head-live last rows rises good o.birth);
            cell = ap (λ (y : End). is_some (cell_in rows y)) same ∙ ap is_some chain.1.1.0;
          }

  own-ends : (l : End) → IsLinked o x l → Ends rows o.birth l
  own-ends l link = go (option_and_then weak_target (slot_in x.object.slots link.at)) refl link.named
    where
      node : Node_at x link.at link.node
      node = node-there x link.at link.node link.there

      go : (t : Option Key) → option_and_then weak_target (slot_in x.object.slots link.at) ≡ t → is_some t ≡ true → Ends rows o.birth l
      go None at some = cc
      go (Some t) at some =
          let is : l ≡ record { owner = o; id = link.node.id } = link.is in
          let had : slice_get (names x) node.k ≡ Some (Some t) =
          named-place link.at x.object.slots node.k node.place ∙ ap Some (named-weak (slot_in x.object.slots link.at) t at) in
          let within : one_end l (record { owner = o; id = link.node.id }) ≤ named_weight t.birth (one_end l) o x.links.nodes (names x) =
          named-within t.birth (one_end l) o node.k x.links.nodes (names x) link.node t node.node had (eq-eqb t.birth t.birth refl) in
          let one : one_end l (record { owner = o; id = link.node.id }) ≡ 1 = ap (one_end l) (sym is) ∙ one-self l in
          let all : row_weight t.birth (one_end l) (o, x) ≤ bag_in rows t.birth (one_end l) = bag-within t.birth (one_end l) o x rows live there in
          record {
            named = t.birth;
            listed = omega (arith, within, one, all);
            near = or-right (t.birth == o.birth) (l.owner.birth == o.birth) (eq-eqb l.owner.birth o.birth (ap (λ (y : End). y.owner.birth) is));
            live = subst (λ (y : End). IsLive rows y.owner) (sym is) live;
            cell = ap (λ (y : End). is_some (cell_in rows y)) is
                ∙ ap (λ (e : Option Entry). is_some (option_and_then (λ (z : Entry). node_of z.links.nodes link.node.id) e)) there
                ∙ ap is_some (node-at x.links.nodes numbered.1 node.k link.node node.node);
          }

  pub weak-ends : (l : End) → IsWeakEnd o x l → Ends rows o.birth l
  weak-ends l (naming is) = first-ends l is
  weak-ends l (own link) = own-ends l link

-- what its slot names
pub ends-named : (last : ℕ) (rows : List (Key × Entry)) → Rises 0 (births rows) last → HasWeakLists rows → (n : ℕ) (l : End) (d : Ends rows n l) (y : Entry)
    → object_at rows l.owner.birth ≡ Some y → (k : ℕ) (x : Node) (t : Option Key) → slice_get y.links.nodes k ≡ Some x → slice_get (names y) k ≡ Some t
    → x.id ≡ l.id → is_born d.named t ≡ true
ends-named last rows rises good n l d y there k x t at had number = go (is_born d.named t) refl
  where
    go : (b : Bool) → is_born d.named t ≡ b → is_born d.named t ≡ true
    go true is = is
    go false is =
        absurd (omega (
          arith,
          d.listed,
          free-named d.named l 0 last rows rises y there k x t at had number is,
          spans-once l 0 last rows rises (rising-numbers rows good.numbered),
        ))

-- nothing names an object whose list is empty and whose own weak links are empty

pub count-named : (n : ℕ) (owner : Key) (xs : List Node) (slots : List Named) → length xs ≡ length (weak_names slots)
    → named_weight n (λ (e : End). 1) owner xs (weak_names slots) ≡ count_by (λ (s : Named). names_weakly n s.1) slots
count-named n owner [] [] size = refl
count-named n owner (x ∷ xs) [] size = absurd (omega (arith, size))
count-named n owner xs ((name, Plain val) ∷ slots) size =
    omega (arith, count-named n owner xs slots size, sum_by-cons (λ (s : Named). cond {A = ℕ} (names_weakly n s.1) 1 0) (name, Plain val) slots)
count-named n owner xs ((name, Child key) ∷ slots) size =
    omega (arith, count-named n owner xs slots size, sum_by-cons (λ (s : Named). cond {A = ℕ} (names_weakly n s.1) 1 0) (name, Child key) slots)
count-named n owner xs ((name, Link ty true target) ∷ slots) size =
    omega (arith, count-named n owner xs slots size, sum_by-cons (λ (s : Named). cond {A = ℕ} (names_weakly n s.1) 1 0) (name, Link ty true target) slots)
count-named n owner xs ((name, Alias key of) ∷ slots) size =
    omega (arith, count-named n owner xs slots size, sum_by-cons (λ (s : Named). cond {A = ℕ} (names_weakly n s.1) 1 0) (name, Alias key of) slots)
count-named n owner [] ((name, Link ty false target) ∷ slots) size = absurd (omega (arith, size))
count-named n owner (x ∷ xs) ((name, Link ty false target) ∷ slots) size =
    omega (
      arith,
      count-named n owner xs slots (omega (arith, size)),
      sum_by-cons (λ (s : Named). cond {A = ℕ} (names_weakly n s.1) 1 0) (name, Link ty false target) slots,
    )

none-targets : (slots : List Named) → AllByRecursion (λ (t : Option Key). t ≡ None) (weak_names slots)
    → count_by (λ (s : Named). is_some (weak_target s.1)) slots ≡ 0
none-targets [] all = refl
none-targets ((name, Plain val) ∷ slots) all = omega (arith, none-targets slots all, sum_by-cons (λ (s : Named). cond {A = ℕ} (is_some (weak_target s.1)) 1 0) (name, Plain val) slots)
none-targets ((name, Child key) ∷ slots) all = omega (arith, none-targets slots all, sum_by-cons (λ (s : Named). cond {A = ℕ} (is_some (weak_target s.1)) 1 0) (name, Child key) slots)
none-targets ((name, Link ty true target) ∷ slots) all =
    omega (arith, none-targets slots all, sum_by-cons (λ (s : Named). cond {A = ℕ} (is_some (weak_target s.1)) 1 0) (name, Link ty true target) slots)
none-targets ((name, Alias key of) ∷ slots) all = omega (arith, none-targets slots all, sum_by-cons (λ (s : Named). cond {A = ℕ} (is_some (weak_target s.1)) 1 0) (name, Alias key of) slots)
none-targets ((name, Link ty false target) ∷ slots) all =
    let none : cond {A = ℕ} (is_some target) 1 0 ≡ 0 = ap (λ (t : Option Key). cond {A = ℕ} (is_some t) 1 0) all.0 in
    omega (arith, none, none-targets slots all.1, sum_by-cons (λ (s : Named). cond {A = ℕ} (is_some (weak_target s.1)) 1 0) (name, Link ty false target) slots)

none-ends : (n : ℕ) (c : Content) → AllByRecursion (λ (t : Option Key). t ≡ None) (weak_names c.slots) → (rows : List (Key × Entry))
    → AllByRecursion (λ (row : Key × Content). eqb row.0.birth n ≡ true → row.1 ≡ c) (plain rows) → AllByRecursion IsNumbered rows
    → bag_in rows n (λ (e : End). 1) ≡ 0 → weak_ends n (plain rows) ≡ 0
none-ends n c all [] one numbered bag = refl
none-ends n c all (row ∷ rows) one numbered bag =
    omega (
      arith,
      own_ends (eqb row.0.birth n) refl,
      none-ends n c all rows one.1 numbered.1 (omega (arith, bag, bags)),
      sum_by-cons (weak_ends_in n) (row.0, row.1.object) (plain rows),
    )
  where
    bags : bag_in (row ∷ rows) n (λ (e : End). 1) ≡ row_weight n (λ (e : End). 1) row + bag_in rows n (λ (e : End). 1)
    bags = sum_by-cons (row_weight n (λ (e : End). 1)) row rows

    own_ends : (b : Bool) → eqb row.0.birth n ≡ b
        → cond b (count_by (λ (s : Named). is_some (weak_target s.1)) row.1.object.slots) (count_by (λ (s : Named). names_weakly n s.1) row.1.object.slots) ≡ 0
    own_ends true is =
        let same : row.1.object ≡ c = one.0 is in
        ap (λ (d : Content). count_by (λ (s : Named). is_some (weak_target s.1)) d.slots) same ∙ none-targets c.slots all
    own_ends false is = omega (arith, bag, bags, count-named n row.0 row.1.links.nodes row.1.object.slots numbered.0.0)

pub no-ends : (last : ℕ) (rows : List (Key × Entry)) → Rises 0 (births (plain rows)) last → HasWeakLists rows → (n : ℕ) (x : Entry) → object_at rows n ≡ Some x
    → object_at (plain rows) n ≡ Some x.object → x.links.first ≡ None → AllByRecursion (λ (t : Option Key). t ≡ None) (names x)
    → weak_ends n (plain rows) ≡ 0
no-ends last rows rises good n x there seen none all =
    none-ends n x.object all rows (only-one n 0 last x.object (plain rows) rises seen) good.numbered
    (sym ((good.lists n).1.1 (λ (e : End). 1)) ∙ ap (λ (es : List End). sum_by (λ (e : End). 1) es) (empty (good.lists n).0 (good.lists n).1.0))
  where
    head : head_in rows n ≡ None
    head = ap (option_and_then (λ (e : Entry). e.links.first)) there ∙ none

    empty : (es : List End) → IsChain (cell_in rows) None (head_in rows n) es → es ≡ []
    empty [] chain = refl
    empty (e ∷ es) chain = absurd (let some : head_in rows n ≡ Some e = chain.0 in cc (head, some))

-- an object goes that ends no weak link

none-forgotten : (n : ℕ) (slots : List Named) → count_by (λ (s : Named). names_weakly n s.1) slots ≡ 0 → each_changed (forgotten_in n) slots ≡ slots
none-forgotten n [] none = refl
none-forgotten n (s ∷ slots) none =
    ap₂ (λ (x : Slot) (l : List Named). (s.0, x) ∷ l) (one s.1 (omega (arith, none, split))) (none-forgotten n slots (omega (arith, none, split)))
  where
    split : count_by (λ (x : Named). names_weakly n x.1) (s ∷ slots)
        ≡ cond {A = ℕ} (names_weakly n s.1) 1 0 + count_by (λ (x : Named). names_weakly n x.1) slots
    split = sum_by-cons (λ (x : Named). cond {A = ℕ} (names_weakly n x.1) 1 0) s slots

    one : (x : Slot) → cond {A = ℕ} (names_weakly n x) 1 0 ≡ 0 → forgotten_in n x ≡ x
    one (Plain val) is = refl
    one (Child key) is = refl
    one (Link ty true target) is = refl
    one (Alias key of) is = refl
    one (Link ty false None) is = refl
    one (Link ty false (Some key)) is = go (eqb key.birth n) refl
      where
        go : (b : Bool) → eqb key.birth n ≡ b → forgotten_in n (Link ty false (Some key)) ≡ Link ty false (Some key)
        go true e = absurd (let all : cond {A = ℕ} (eqb key.birth n) 1 0 ≡ 1 = ap (λ (b : Bool). cond {A = ℕ} b 1 0) e in omega (arith, all, is))
        go false e = rw e refl

-- what a row of another birth, and one of the birth itself, then name
ends-cons : (n : ℕ) (row : Key × Entry) (rows : List (Key × Entry)) → weak_ends n (plain (row ∷ rows)) ≡ 0
    → (weak_ends_in n (row.0, row.1.object) ≡ 0) × (weak_ends n (plain rows) ≡ 0)
ends-cons n row rows none = (
  omega (arith, none, sum_by-cons (weak_ends_in n) (row.0, row.1.object) (plain rows)),
  omega (arith, none, sum_by-cons (weak_ends_in n) (row.0, row.1.object) (plain rows)),
)

other-ends : (n : ℕ) (row : Key × Entry) → eqb row.0.birth n ≡ false → weak_ends_in n (row.0, row.1.object) ≡ 0
    → count_by (λ (s : Named). names_weakly n s.1) row.1.object.slots ≡ 0
other-ends n row is none = rw is at none

pub none-forgets : (n : ℕ) (rows : List (Key × Content)) → weak_ends n rows ≡ 0 → without n rows ≡ map (forgets n) (without n rows)
none-forgets n [] none = refl
none-forgets n (row ∷ rows) none = go (eqb row.0.birth n) refl here (none-forgets n rows (omega (arith, none, split)))
  where
    split : weak_ends n (row ∷ rows) ≡ weak_ends_in n row + weak_ends n rows
    split = sum_by-cons (weak_ends_in n) row rows

    here : weak_ends_in n row ≡ 0
    here = omega (arith, none, split)

    go : (b : Bool) → eqb row.0.birth n ≡ b
        → cond b (count_by (λ (s : Named). is_some (weak_target s.1)) row.1.slots) (count_by (λ (s : Named). names_weakly n s.1) row.1.slots) ≡ 0
        → without n rows ≡ map (forgets n) (without n rows) → without n (row ∷ rows) ≡ map (forgets n) (without n (row ∷ rows))
    go true is zero_it rest = rw is rest
    go false is zero_it rest =
        rw is (ap₂ (λ (slots : List Named) (l : List (Key × Content)). (row.0, record row.1 { slots = slots }) ∷ l) (sym (none-forgotten n row.1.slots zero_it)) rest)

pub none-left : (n : ℕ) (rows : List (Key × Entry)) → weak_ends n (plain rows) ≡ 0 → without n rows ≡ map (entry_forgets n) (without n rows)
none-left n [] none = refl
none-left n (row ∷ rows) none = go (eqb row.0.birth n) refl (none-left n rows (ends-cons n row rows none).1)
  where
    go : (b : Bool) → eqb row.0.birth n ≡ b → without n rows ≡ map (entry_forgets n) (without n rows)
        → without n (row ∷ rows) ≡ map (entry_forgets n) (without n (row ∷ rows))
    go true is rest = rw is rest
    go false is rest =
        let same : each_changed (forgotten_in n) row.1.object.slots ≡ row.1.object.slots =
        none-forgotten n row.1.object.slots (other-ends n row is (ends-cons n row rows none).0) in
        rw is (ap₂ (λ (slots : List Named) (l : List (Key × Entry)). (row.0, record row.1 { object = record row.1.object { slots = slots } }) ∷ l) (sym same) rest)

empty-own : (slots : List Named) → count_by (λ (s : Named). is_some (weak_target s.1)) slots ≡ 0
    → AllByRecursion (λ (t : Option Key). t ≡ None) (weak_names slots)
empty-own [] none = tt
empty-own (s ∷ slots) none = one s (empty-own slots (omega (arith, none, split))) (omega (arith, none, split))
  where
    split : count_by (λ (x : Named). is_some (weak_target x.1)) (s ∷ slots)
        ≡ cond {A = ℕ} (is_some (weak_target s.1)) 1 0 + count_by (λ (x : Named). is_some (weak_target x.1)) slots
    split = sum_by-cons (λ (x : Named). cond {A = ℕ} (is_some (weak_target x.1)) 1 0) s slots

    one : (x : Named) → AllByRecursion (λ (t : Option Key). t ≡ None) (weak_names slots) → cond {A = ℕ} (is_some (weak_target x.1)) 1 0 ≡ 0
        → AllByRecursion (λ (t : Option Key). t ≡ None) (weak_names (x ∷ slots))
    one (name, Plain val) rest is = rest
    one (name, Child key) rest is = rest
    one (name, Link ty true target) rest is = rest
    one (name, Alias key of) rest is = rest
    one (name, Link ty false None) rest is = (refl, rest)
    one (name, Link ty false (Some key)) rest is = absurd (omega (arith, is))

own-weighs : (n m : ℕ) (w : End → ℕ) (row : Key × Entry) → eqb row.0.birth n ≡ true → weak_ends_in n (row.0, row.1.object) ≡ 0 → row_weight m w row ≡ 0
own-weighs n m w row is none = none-weighs m w row.0 row.1.links.nodes (names row.1) (empty-own row.1.object.slots (rw is at none))

-- the links of others
bag-left : (n m : ℕ) (w : End → ℕ) (rows : List (Key × Entry)) → weak_ends n (plain rows) ≡ 0 → bag_in (without n rows) m w ≡ bag_in rows m w
bag-left n m w [] none = refl
bag-left n m w (row ∷ rows) none = go (eqb row.0.birth n) refl (bag-left n m w rows (ends-cons n row rows none).1)
  where
    go : (b : Bool) → eqb row.0.birth n ≡ b → bag_in (without n rows) m w ≡ bag_in rows m w
        → bag_in (without n (row ∷ rows)) m w ≡ bag_in (row ∷ rows) m w
    go true is rest = rw is (omega (arith, rest, own-weighs n m w row is (ends-cons n row rows none).0, sum_by-cons (row_weight m w) row rows))
    go false is rest = rw is (omega (arith, rest, sum_by-cons (row_weight m w) row rows, sum_by-cons (row_weight m w) row (without n rows)))

-- none of them is of the object that goes
abbrev foreign : ℕ → End → Bool
foreign n e = not (e.owner.birth == n)

weighs-foreign : (n m : ℕ) (owner : Key) → eqb owner.birth n ≡ false → (xs : List Node) (ts : List (Option Key))
    → named_weight m (λ (e : End). cond {A = ℕ} (foreign n e) 0 1) owner xs ts ≡ 0
weighs-foreign n m owner is [] ts = refl
weighs-foreign n m owner is (x ∷ xs) [] = refl
weighs-foreign n m owner is (x ∷ xs) (t ∷ ts) = omega (arith, two (is_born m t), weighs-foreign n m owner is xs ts)
  where
    here : cond {A = ℕ} (not (owner.birth == n)) 0 1 ≡ 0
    here = ap (λ (b : Bool). cond {A = ℕ} (not b) 0 1) is

    two : (b : Bool) → cond {A = ℕ} b (cond {A = ℕ} (not (owner.birth == n)) 0 1) 0 ≡ 0
    two true = here
    two false = refl

bag-foreign : (n m : ℕ) (rows : List (Key × Entry)) → weak_ends n (plain rows) ≡ 0 → bag_in rows m (λ (e : End). cond {A = ℕ} (foreign n e) 0 1) ≡ 0
bag-foreign n m [] none = refl
bag-foreign n m (row ∷ rows) none =
    omega (
      arith,
      go (eqb row.0.birth n) refl,
      bag-foreign n m rows (ends-cons n row rows none).1,
      sum_by-cons (row_weight m (λ (e : End). cond {A = ℕ} (foreign n e) 0 1)) row rows,
    )
  where
    go : (b : Bool) → eqb row.0.birth n ≡ b → row_weight m (λ (e : End). cond {A = ℕ} (foreign n e) 0 1) row ≡ 0
    go true is = own-weighs n m (λ (e : End). cond {A = ℕ} (foreign n e) 0 1) row is (ends-cons n row rows none).0
    go false is = weighs-foreign n m row.0 is row.1.links.nodes (names row.1)

object-left : (n x : ℕ) → eqb x n ≡ false → (rows : List (Key × Entry)) → object_at (without n rows) x ≡ object_at rows x
object-left n x other [] = refl
object-left n x other (row ∷ rows) = go (eqb row.0.birth n) refl (eqb row.0.birth x) refl (object-left n x other rows)
  where
    go : (a : Bool) → eqb row.0.birth n ≡ a → (b : Bool) → eqb row.0.birth x ≡ b → object_at (without n rows) x ≡ object_at rows x
        → object_at (without n (row ∷ rows)) x ≡ object_at (row ∷ rows) x
    go true p true q rest =
        absurd (let a : row.0.birth ≡ n = eqb-true row.0.birth n p in let b : row.0.birth ≡ x = eqb-true row.0.birth x q in grind arith)
    go true p false q rest = rw (p, q) rest
    go false p true q rest = rw (p, q) refl
    go false p false q rest = rw (p, q) rest

object-gone : (n : ℕ) (rows : List (Key × Entry)) → object_at (without n rows) n ≡ None
object-gone n [] = refl
object-gone n (row ∷ rows) = go (eqb row.0.birth n) refl (object-gone n rows)
  where
    go : (b : Bool) → eqb row.0.birth n ≡ b → object_at (without n rows) n ≡ None → object_at (without n (row ∷ rows)) n ≡ None
    go true is rest = rw is rest
    go false is rest = rw (is, is) rest

numbered-left : (n : ℕ) (rows : List (Key × Entry)) → AllByRecursion IsNumbered rows → AllByRecursion IsNumbered (without n rows)
numbered-left n [] all = tt
numbered-left n (row ∷ rows) all = go (eqb row.0.birth n) refl (numbered-left n rows all.1)
  where
    go : (b : Bool) → eqb row.0.birth n ≡ b → AllByRecursion IsNumbered (without n rows) → AllByRecursion IsNumbered (without n (row ∷ rows))
    go true is rest = rw is rest
    go false is rest = rw is (all.0, rest)

unnamed-weighs : (n : ℕ) (w : End → ℕ) (owner : Key) (xs : List Node) (slots : List Named)
    → count_by (λ (s : Named). names_weakly n s.1) slots ≡ 0 → named_weight n w owner xs (weak_names slots) ≡ 0
unnamed-weighs n w owner [] slots none = refl
unnamed-weighs n w owner (x ∷ xs) [] none = refl
unnamed-weighs n w owner (x ∷ xs) ((name, Plain val) ∷ slots) none =
    unnamed-weighs n w owner (x ∷ xs) slots
    (omega (arith, none, sum_by-cons (λ (y : Named). cond {A = ℕ} (names_weakly n y.1) 1 0) (name, Plain val) slots))
unnamed-weighs n w owner (x ∷ xs) ((name, Child key) ∷ slots) none =
    unnamed-weighs n w owner (x ∷ xs) slots
    (omega (arith, none, sum_by-cons (λ (y : Named). cond {A = ℕ} (names_weakly n y.1) 1 0) (name, Child key) slots))
unnamed-weighs n w owner (x ∷ xs) ((name, Link ty true target) ∷ slots) none =
    unnamed-weighs n w owner (x ∷ xs) slots
    (omega (arith, none, sum_by-cons (λ (y : Named). cond {A = ℕ} (names_weakly n y.1) 1 0) (name, Link ty true target) slots))
unnamed-weighs n w owner (x ∷ xs) ((name, Alias key of) ∷ slots) none =
    unnamed-weighs n w owner (x ∷ xs) slots
    (omega (arith, none, sum_by-cons (λ (y : Named). cond {A = ℕ} (names_weakly n y.1) 1 0) (name, Alias key of) slots))
unnamed-weighs n w owner (x ∷ xs) ((name, Link ty false target) ∷ slots) none =
    omega (
      arith,
      by (is_born n target) (omega (arith, none, split)),
      unnamed-weighs n w owner xs slots (omega (arith, none, split)),
    )
  where
    split : count_by (λ (y : Named). names_weakly n y.1) ((name, Link ty false target) ∷ slots)
        ≡ cond {A = ℕ} (is_born n target) 1 0 + count_by (λ (y : Named). names_weakly n y.1) slots
    split = sum_by-cons (λ (y : Named). cond {A = ℕ} (names_weakly n y.1) 1 0) (name, Link ty false target) slots

    by : (b : Bool) → cond {A = ℕ} b 1 0 ≡ 0 → cond {A = ℕ} b (w (record { owner = owner; id = x.id })) 0 ≡ 0
    by true e = absurd (omega (arith, e))
    by false e = refl

gone-bag : (n : ℕ) (w : End → ℕ) (rows : List (Key × Entry)) → weak_ends n (plain rows) ≡ 0 → bag_in (without n rows) n w ≡ 0
gone-bag n w [] none = refl
gone-bag n w (row ∷ rows) none = go (eqb row.0.birth n) refl (gone-bag n w rows (ends-cons n row rows none).1)
  where
    go : (b : Bool) → eqb row.0.birth n ≡ b → bag_in (without n rows) n w ≡ 0 → bag_in (without n (row ∷ rows)) n w ≡ 0
    go true is rest = rw is rest
    go false is rest =
        rw is (omega (
          arith,
          rest,
          unnamed-weighs n w row.0 row.1.links.nodes row.1.object.slots (other-ends n row is (ends-cons n row rows none).0),
          sum_by-cons (row_weight n w) row (without n rows),
        ))

pub lists-left : (n : ℕ) (rows : List (Key × Entry)) → HasWeakLists rows → weak_ends n (plain rows) ≡ 0 → HasWeakLists (without n rows)
lists-left n rows good none =
    record { lists = λ m. list m (eqb m n) refl; numbered = numbered-left n rows good.numbered }
  where
    left : List (Key × Entry)
    left = without n rows

    all-same : (es : List End) → AllByRecursion (λ (e : End). foreign n e ≡ true) es → AllByRecursion (λ (e : End). cell_in left e ≡ cell_in rows e) es
    all-same [] all = tt
    all-same (e ∷ es) all =
        (ap (option_and_then (λ (x : Entry). node_of x.links.nodes e.id)) (object-left n e.owner.birth (by (eqb e.owner.birth n) all.0) rows), all-same es all.1)
      where
        by : (b : Bool) → not b ≡ true → b ≡ false
        by true is = cc
        by false is = refl

    list : (m : ℕ) (b : Bool) → eqb m n ≡ b → IsListed (cell_in left) (head_in left m) (bag_in left m)
    list m true is =
        let here : m ≡ n = eqb-true m n is in (
          [],
          (
            ap (λ (k : ℕ). head_in left k) here ∙ ap (option_and_then (λ (x : Entry). x.links.first)) (object-gone n rows),
            λ w. sym (ap (λ (k : ℕ). bag_in left k w) here ∙ gone-bag n w rows none),
          ),
        )
    list m false is =
        listed-as (cell_in rows) (cell_in left) (head_in rows m) (head_in left m) (bag_in rows m) (bag_in left m)
        (ap (option_and_then (λ (x : Entry). x.links.first)) (object-left n m is rows)) (λ w. bag-left n m w rows none)
        (λ es sums. all-same es (all-of (foreign n) es (sums (λ (e : End). cond {A = ℕ} (foreign n e) 0 1) ∙ bag-foreign n m rows none)))
        (good.lists m)

-- what the calls on one object find

pub if-none : {X : Type 0} {P : Type 0} (o : Option X) → P → IfNone o P
if-none None p = p
if-none (Some x) p = tt

-- a weak link with a target has a node
pub linked-node : (e : Entry) → length e.links.nodes ≡ length (names e) → (i : ℕ)
    → is_some (option_and_then weak_target (slot_in e.object.slots i)) ≡ true → node_at e i ≡ None → ⊥
linked-node e size i linked none = go (weak_place e.object.slots i) refl
  where
    weak : (o : Option Slot) → is_some (option_and_then weak_target o) ≡ true → option_map_or (λ (s : Slot). is_some (weak_name s)) o false ≡ true
    weak None is = cc
    weak (Some (Plain val)) is = cc
    weak (Some (Child key)) is = cc
    weak (Some (Link ty true target)) is = cc
    weak (Some (Link ty false target)) is = refl
    weak (Some (Alias key of)) is = cc

    placed : weak_place e.object.slots i ≡ Some (weak_before i e.object.slots)
    placed = place_before i e.object.slots
        ∙ ap (λ (b : Bool). cond b (Some (weak_before i e.object.slots)) None) (weak (slot_in e.object.slots i) linked)

    go : (p : Option ℕ) → weak_place e.object.slots i ≡ p → ⊥
    go None is = absurd (cc (placed, is))
    go (Some k) is =
        let (x, found) = paired e.links.nodes (names e) k (named_in e.object.slots i) size (named-place i e.object.slots k is) in
        let there : node_at e i ≡ Some x = ap (option_and_then (λ (j : ℕ). slice_get e.links.nodes j)) is ∙ found in
        absurd (cc (none, there))

number-of : (nodes : List Node) (id : ℕ) (x : Node) → node_of nodes id ≡ Some x → x.id ≡ id
number-of [] id x found = cc
number-of (y ∷ ys) id x found = go (eqb y.id id) refl (number-of ys id x)
  where
    go : (b : Bool) → eqb y.id id ≡ b → (node_of ys id ≡ Some x → x.id ≡ id) → x.id ≡ id
    go true is rest = let same : y ≡ x = cc (rw is at found) in ap (λ (z : Node). z.id) (sym same) ∙ eqb-true y.id id is
    go false is rest = rest (rw is at found)

below : {X : Type 0} (xs : List X) (k : ℕ) (x : X) → slice_get xs k ≡ Some x → k < length xs
below [] k x at = cc
below (y ∷ xs) zero x at = omega arith
below (y ∷ xs) (suc k) x at = omega (arith, below xs k x at)

-- the place of a node that is there
module _ (e : Entry) (id : ℕ) (known : is_some (node_of e.links.nodes id) ≡ true) where
  pub link-missed : position (λ (x : Node). x.id == id) e.links.nodes ≡ None → ⊥
  link-missed none = absurd (let gone : node_of e.links.nodes id ≡ None = position-none (λ (x : Node). x.id == id) e.links.nodes none in cc (known, gone))

  found : (place : ℕ) → position (λ (x : Node). x.id == id) e.links.nodes ≡ Some place → (x : Node) × ((slice_get e.links.nodes place ≡ Some x) × (x.id ≡ id))
  found place at = go (node_of e.links.nodes id) refl known
    where
      go : (o : Option Node) → node_of e.links.nodes id ≡ o → is_some o ≡ true → (x : Node) × ((slice_get e.links.nodes place ≡ Some x) × (x.id ≡ id))
      go None is some = absurd (cc some)
      go (Some x) is some = (x, (position-find (λ (y : Node). y.id == id) e.links.nodes place at ∙ is, number-of e.links.nodes id x is))

  pub link-past : length e.links.nodes ≡ length (names e) → (place : ℕ) → position (λ (x : Node). x.id == id) e.links.nodes ≡ Some place
      → length (names e) ≤ place → ⊥
  link-past size place at past =
      let (x, (node, number)) = found place at in
      absurd (omega (arith, size, past, below e.links.nodes place x node))

  pub link-found : (place at : ℕ) → position (λ (x : Node). x.id == id) e.links.nodes ≡ Some place → weak_place e.object.slots at ≡ Some place → (w : Entry)
      (loose : Option Loose) → w ≡ with_object (dropped_at at) e → loose ≡ loose_at e at → DropsLink id e w loose
  link-found place at is weak w loose now what =
      let (x, (node, number)) = found place is in
      record {
        at = at;
        node = x;
        there = ap (option_and_then (λ (k : ℕ). slice_get e.links.nodes k)) weak ∙ node;
        number = number;
        now = now;
        loose = what;
      }
