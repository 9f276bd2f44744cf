-- The lists of weak links are right again once a slot was let go, pointed, added or cut.
use Rattle.std.proofs.Common.{◌≡◌, refl, ap, ap₂, sym, subst, ◌∙◌, ℕ, ◌<◌, ◌≤◌, Bool, true, false, eqb, List, [], ◌∷◌, ◌++◌, length, slice_get, slice_set, remove, option_to_list, Option, Some, None, option_map, is_some, IfSome, arith}
use Rattle.std.specs.List.{AllByRecursion}
use Rattle.std.specs.Option.{option_and_then, option_map_or}
use Rattle.std.proofs.lemmas.List.Sums.{sum_by-append, sum_by-cons}
use Rattle.qo_values.specs.declared.kinds.TypeId.{TypeId}
use Rattle.qo_slots.specs.declared.keys.Key.{Key}
use Rattle.qo_object.specs.declared.slots.Slot.{Slot}
use Rattle.qo_object.specs.declared.slots.Slot.TheVariants.{Plain, Child, Link, Alias}
use Rattle.qo_object.specs.Slots.{is_empty_link, named_in, slot_in, target_of, weak_target}
use Rattle.qo_object.specs.Content.{Content, cut_at, dropped_at, empty_link_at, fresh, named_at, pointed_at, with_slot}
use Rattle.qo_heap.specs.Keeping.{IsCounted, IsKept, IsShort, all_less, all_more, hold_at, hold_of, less_held, more_held, owners, plain, unheld, with_object}
use Rattle.qo_heap.specs.Rows.{IsLive, Rises, births, edit, edited, object_at}
use Rattle.qo_heap.specs.WeakLinks.{Links, NumbersRise, new_node, node_of, weak_name, weak_names, weak_place, with_both, with_next, with_prev}
use Rattle.qo_heap.specs.WeakLists.{HasWeakLists, IsNumbered, added_links, bag_in, cell_in, cut_links, head_in, joined_in, led_in, loose_at, loose_of, loosed_in, named_weight, names, node_at, row_weight, turned_in, with_first, with_links, with_node}
use Rattle.qo_heap.specs.declared.entries.Entry.{Entry}
use Rattle.qo_heap.specs.declared.entries.Hold.{Hold}
use Rattle.qo_heap.specs.declared.entries.Loose.{Loose}
use Rattle.qo_heap.specs.declared.weak_links.End.{End}
use Rattle.qo_heap.specs.declared.weak_links.Node.{Node}
use Rattle.qo_heap.proofs.HeapLemmas.{live-edit}
use Rattle.qo_heap.proofs.KeepingLemmas.{all-edit, plain-same}
use Rattle.qo_heap.proofs.WeakChains.{Neighbours, listed-as}
use Rattle.qo_heap.proofs.WeakChanges.{added-lists, joined-lists, left-lists, left-live, numbered-there, removed-lists, known-now, rises-now, same-lists, there-now}
use Rattle.qo_heap.proofs.WeakRows.{read-same, sum-same}
use Rattle.qo_heap.proofs.WeakSlots.{added-names, dropped-names, get-last, named-place, paired, pointed-names, put-last, put-same, put_at, removed-names, removed_at, weak-holds-none, weak-stays}

-- an edit that leaves all of weak links leaves their lists
module _ (n : ℕ) (g : Entry → Entry) (links : (x : Entry) → (g x).links ≡ x.links) (named : (x : Entry) → names (g x) ≡ names x) (rows : List (Key × Entry)) where
  abbrev after : List (Key × Entry)
  after = edit n g rows

  edit-cell : (e : End) → cell_in after e ≡ cell_in rows e
  edit-cell e = read-same n g (λ (x : Entry). node_of x.links.nodes e.id) (λ x. ap (λ (l : Links). node_of l.nodes e.id) (links x)) rows e.owner.birth

  pub edit-head : (m : ℕ) → head_in after m ≡ head_in rows m
  edit-head m = read-same n g (λ (x : Entry). x.links.first) (λ x. ap (λ (l : Links). l.first) (links x)) rows m

  edit-bag : (m : ℕ) (w : End → ℕ) → bag_in after m w ≡ bag_in rows m w
  edit-bag m w = sum-same n g (row_weight m w) (λ row. ap₂ (λ (l : Links) (ts : List (Option Key)). named_weight m w row.0 l.nodes ts) (links row.1) (named row.1)) rows

  pub edit-lists : HasWeakLists rows → HasWeakLists after
  edit-lists good =
      record {
        lists = λ m.
            listed-as (cell_in rows) (cell_in after) (head_in rows m) (head_in after m) (bag_in rows m) (bag_in after m) (edit-head m) (edit-bag m)
            (λ es is. all-same es) (good.lists m);
        numbered = all-edit IsNumbered IsNumbered n g step rows good.numbered;
      }
    where
      all-same : (es : List End) → AllByRecursion (λ (e : End). cell_in after e ≡ cell_in rows e) es
      all-same [] = tt
      all-same (e ∷ es) = (edit-cell e, all-same es)

      step : (row : Key × Entry) → IsNumbered row → IsNumbered (edited n g row)
      step row old = go (eqb row.0.birth n) refl
        where
          go : (b : Bool) → eqb row.0.birth n ≡ b → IsNumbered (edited n g row)
          go true is = rw is (
            ap (λ (l : Links). length l.nodes) (links row.1) ∙ old.0 ∙ sym (ap (λ (ts : List (Option Key)). length ts) (named row.1)),
            subst (λ (l : Links). NumbersRise l.nodes) (sym (links row.1)) old.1,
          )
          go false is = rw is old

pub more-lists : (owner : Key) (hs : List Hold) (rows : List (Key × Entry)) → HasWeakLists rows → HasWeakLists (all_more owner hs rows)
more-lists owner [] rows good = good
more-lists owner (h ∷ hs) rows good =
    more-lists owner hs (edit h.key.birth (more_held h.child owner) rows)
    (edit-lists h.key.birth (more_held h.child owner) (λ x. refl) (λ x. refl) rows good)

pub head-more : (owner : Key) (hs : List Hold) (rows : List (Key × Entry)) (n : ℕ) → head_in (all_more owner hs rows) n ≡ head_in rows n
head-more owner [] rows n = refl
head-more owner (h ∷ hs) rows n =
    head-more owner hs (edit h.key.birth (more_held h.child owner) rows) n
    ∙ edit-head h.key.birth (more_held h.child owner) (λ x. refl) (λ x. refl) rows n

pub less-lists : (hs : List Hold) (rows : List (Key × Entry)) → HasWeakLists rows → HasWeakLists (all_less hs rows)
less-lists [] rows good = good
less-lists (h ∷ hs) rows good =
    less-lists hs (edit h.key.birth (less_held h.child) rows) (edit-lists h.key.birth (less_held h.child) (λ x. refl) (λ x. refl) rows good)

-- an edit that leaves the objects and what is kept of holders
pub kept-edit : (n : ℕ) (g : Entry → Entry) → ((x : Entry) → (g x).object ≡ x.object) → ((x : Entry) → (g x).held ≡ x.held) → ((x : Entry) → (g x).parent ≡ x.parent)
    → (rows : List (Key × Entry)) → IsKept rows → IsKept (edit n g rows)
kept-edit n g object held parent rows kept =
    let same : plain (edit n g rows) ≡ plain rows = plain-same n g object rows in
    record {
      once = λ x. subst (λ (l : List (Key × Content)). owners x l ≤ 1) (sym same) (kept.once x);
      short = subst (λ (l : List (Key × Content)). AllByRecursion IsShort l) (sym same) kept.short;
      counts = subst (λ (l : List (Key × Content)). AllByRecursion (IsCounted l) (edit n g rows)) (sym same)
          (all-edit (IsCounted (plain rows)) (IsCounted (plain rows)) n g step rows kept.counts);
    }
  where
    step : (row : Key × Entry) → IsCounted (plain rows) row → IsCounted (plain rows) (edited n g row)
    step row old = go (eqb row.0.birth n) refl
      where
        go : (b : Bool) → eqb row.0.birth n ≡ b → IsCounted (plain rows) (edited n g row)
        go true is = rw is (record { held = held row.1 ∙ old.held; parent = parent row.1 ∙ old.parent })
        go false is = rw is old

kept-turned : (o p : Option End) (rows : List (Key × Entry)) → IsKept rows → IsKept (turned_in o p rows)
kept-turned None p rows kept = kept
kept-turned (Some e) p rows kept = kept-edit e.owner.birth (with_node e.id (with_prev p)) (λ x. refl) (λ x. refl) (λ x. refl) rows kept

pub kept-loosed : (l : Option Loose) (rows : List (Key × Entry)) → IsKept rows → IsKept (loosed_in l rows)
kept-loosed None rows kept = kept
kept-loosed (Some l) rows kept =
    led l.target.birth l.node.prev l.node.next (turned_in l.node.next l.node.prev rows) (kept-turned l.node.next l.node.prev rows kept)
  where
    led : (m : ℕ) (o nx : Option End) (rs : List (Key × Entry)) → IsKept rs → IsKept (led_in m o nx rs)
    led m None nx rs kept = kept-edit m (with_first nx) (λ x. refl) (λ x. refl) (λ x. refl) rs kept
    led m (Some e) nx rs kept = kept-edit e.owner.birth (with_node e.id (with_next nx)) (λ x. refl) (λ x. refl) (λ x. refl) rs kept

pub kept-joined : (owner : Key) (id : Option ℕ) (t : Option Key) (rows : List (Key × Entry)) → IsKept rows → IsKept (joined_in owner id t rows)
kept-joined owner None t rows kept = kept
kept-joined owner (Some id) None rows kept = kept
kept-joined owner (Some id) (Some t) rows kept =
    let link : End = record { owner = owner; id = id } in
    let old : Option End = head_in rows t.birth in
    kept-turned old (Some link) (edit owner.birth (with_node id (with_both None old)) (edit t.birth (with_first (Some link)) rows))
    (kept-edit owner.birth (with_node id (with_both None old)) (λ x. refl) (λ x. refl) (λ x. refl) (edit t.birth (with_first (Some link)) rows)
    (kept-edit t.birth (with_first (Some link)) (λ x. refl) (λ x. refl) (λ x. refl) rows kept))

-- a link without a target names nothing
nothing-named : (c : Content) (i : ℕ) → empty_link_at c i ≡ true → named_at c i ≡ None
nothing-named c i empty = go (slot_in c.slots i) empty
  where
    go : (s : Option Slot) → option_map_or is_empty_link s false ≡ true → option_and_then target_of s ≡ None
    go None is = cc
    go (Some (Plain val)) is = cc
    go (Some (Child key)) is = cc
    go (Some (Link ty strong None)) is = refl
    go (Some (Link ty strong (Some key))) is = cc
    go (Some (Alias key of)) is = cc

-- what is written last stands
edit-twice : (n : ℕ) (a b : Entry) (rows : List (Key × Entry)) → edit n (λ _. b) (edit n (λ _. a) rows) ≡ edit n (λ _. b) rows
edit-twice n a b [] = refl
edit-twice n a b (row ∷ rows) = go (eqb row.0.birth n) refl (edit-twice n a b rows)
  where
    go : (t : Bool) → eqb row.0.birth n ≡ t → edit n (λ _. b) (edit n (λ _. a) rows) ≡ edit n (λ _. b) rows
        → edit n (λ _. b) (edit n (λ _. a) (row ∷ rows)) ≡ edit n (λ _. b) (row ∷ rows)
    go true is rest = rw (is, is) (ap (λ (l : List (Key × Entry)). (row.0, b) ∷ l) rest)
    go false is rest = rw (is, is) (ap (λ (l : List (Key × Entry)). row ∷ l) rest)

append-none : {X : Type 0} (xs : List X) → xs ++ [] ≡ xs
append-none [] = refl
append-none (x ∷ xs) = ap (λ (l : List _). x ∷ l) (append-none xs)

module _ (last : ℕ) (rows : List (Key × Entry)) (rises : Rises 0 (births rows) last) (good : HasWeakLists rows) (o : Key) (live : IsLive rows o) (x : Entry)
    (there : object_at rows o.birth ≡ Some x) where
  size : length x.links.nodes ≡ length (names x)
  size = (numbered-there last rows rises good o live x x there).0

  -- a slot is let go
  module _ (i : ℕ) where
    abbrev pub dropped : Entry
    dropped = with_object (dropped_at i) x

    abbrev known : Loose → Type 0
    known l = is_some (object_at rows l.target.birth) ≡ true

    left-of : (k : ℕ) (l : Node) (t : Key) → weak_place x.object.slots i ≡ Some k → slice_get x.links.nodes k ≡ Some l → named_at x.object i ≡ Some t
        → (slice_get (names x) k ≡ Some (Some t)) × (names dropped ≡ slice_set (names x) k None)
    left-of k l t at node named = (
      named-place i x.object.slots k at ∙ ap Some named,
      dropped-names i x.object.slots ∙ ap (λ (p : Option ℕ). put_at p None (names x)) at,
    )

    pub dropped-lists : IfSome (loose_at x i) known
        → HasWeakLists (loosed_in (loose_at x i) (all_less (option_to_list (hold_at x.object.slots i)) (edit o.birth (λ _. dropped) rows)))
    dropped-lists = go (weak_place x.object.slots i) refl (named_at x.object i) refl (node_at x i) refl
      where
        hs : List Hold
        hs = option_to_list (hold_at x.object.slots i)

        quiet : names dropped ≡ names x → HasWeakLists (all_less (option_to_list (hold_at x.object.slots i)) (edit o.birth (λ _. dropped) rows))
        quiet same = less-lists (option_to_list (hold_at x.object.slots i)) (edit o.birth (λ _. dropped) rows)
            (same-lists last rows rises good o live x dropped there refl same)

        go : (p : Option ℕ) → weak_place x.object.slots i ≡ p → (n : Option Key) → named_at x.object i ≡ n → (m : Option Node)
            → option_and_then (λ (k : ℕ). slice_get x.links.nodes k) p ≡ m → IfSome (loose_of n m) known
            → HasWeakLists (loosed_in (loose_of n m) (all_less (option_to_list (hold_at x.object.slots i)) (edit o.birth (λ _. dropped) rows)))
        go None at n named (Some l) node some = cc
        go None at None named None node some = quiet (dropped-names i x.object.slots ∙ ap (λ (p : Option ℕ). put_at p None (names x)) at)
        go None at (Some t) named None node some = quiet (dropped-names i x.object.slots ∙ ap (λ (p : Option ℕ). put_at p None (names x)) at)
        go (Some k) at n named None node some =
            let (l, found) = paired x.links.nodes (names x) k (named_in x.object.slots i) size (named-place i x.object.slots k at) in
            absurd (cc (found, node))
        go (Some k) at None named (Some l) node some =
            quiet (dropped-names i x.object.slots ∙ ap (λ (p : Option ℕ). put_at p None (names x)) at
            ∙ put-same (names x) k None (named-place i x.object.slots k at ∙ ap Some named))
        go (Some k) at (Some t) named (Some l) node some =
            let parts = left-of k l t at node named in
            rw (weak-holds-none i x.object.slots k at)
            (left-lists last rows rises good o live x dropped there refl k l t node parts.0 parts.1 some)

    -- what stands before a weak link and behind it is there
    pub loose-live : IfSome (loose_at x i) (λ l. Neighbours (λ (e : End). IsLive rows e.owner) l.node)
    loose-live = go (weak_place x.object.slots i) refl (named_at x.object i) refl (node_at x i) refl
      where
        go : (p : Option ℕ) → weak_place x.object.slots i ≡ p → (n : Option Key) → named_at x.object i ≡ n → (m : Option Node)
            → option_and_then (λ (k : ℕ). slice_get x.links.nodes k) p ≡ m
            → IfSome (loose_of n m) (λ l. Neighbours (λ (e : End). IsLive rows e.owner) l.node)
        go None at n named (Some l) node = cc
        go p at None named m node = tt
        go None at (Some t) named None node = tt
        go (Some k) at (Some t) named None node = tt
        go (Some k) at (Some t) named (Some l) node =
            let parts = left-of k l t at node named in
            left-live last rows rises good o live x dropped there refl k l t node parts.0 parts.1

  -- a link is pointed
  module _ (i : ℕ) (t : Key) (empty : empty_link_at x.object i ≡ true) (known : is_some (object_at rows t.birth) ≡ true) where
    abbrev pub pointed : Entry
    pointed = with_object (pointed_at t i) x

    pub pointed-lists : HasWeakLists (joined_in o (option_map (λ (l : Node). l.id) (node_at x i)) (Some t)
        (all_more o (option_to_list (hold_at (pointed_at t i x.object).slots i)) (edit o.birth (λ _. pointed) rows)))
    pointed-lists = go (weak_place x.object.slots i) refl (node_at x i) refl
      where
        go : (p : Option ℕ) → weak_place x.object.slots i ≡ p → (m : Option Node) → option_and_then (λ (k : ℕ). slice_get x.links.nodes k) p ≡ m
            → HasWeakLists (joined_in o (option_map (λ (l : Node). l.id) m) (Some t)
            (all_more o (option_to_list (hold_at (pointed_at t i x.object).slots i)) (edit o.birth (λ _. pointed) rows)))
        go None at (Some l) node = cc
        go None at None node =
            more-lists o (option_to_list (hold_at (pointed_at t i x.object).slots i)) (edit o.birth (λ _. pointed) rows)
            (same-lists last rows rises good o live x pointed there refl
            (pointed-names t i x.object.slots ∙ ap (λ (p : Option ℕ). put_at p (Some t) (names x)) at))
        go (Some k) at None node =
            let (l, found) = paired x.links.nodes (names x) k (named_in x.object.slots i) size (named-place i x.object.slots k at) in
            absurd (cc (found, node))
        go (Some k) at (Some l) node =
            rw (weak-stays t i x.object.slots k at)
            (joined-lists last rows rises good o live x pointed there refl k l t node (named-place i x.object.slots k at ∙ ap Some (nothing-named x.object i empty))
            (pointed-names t i x.object.slots ∙ ap (λ (p : Option ℕ). put_at p (Some t) (names x)) at) known)

  -- a link without a target is cut
  pub cut-lists : (i : ℕ) → empty_link_at x.object i ≡ true
      → HasWeakLists (edit o.birth (λ _. with_links (cut_links i x) (with_object (cut_at i) x)) rows)
  cut-lists i empty = go (weak_place x.object.slots i) refl
    where
      go : (p : Option ℕ) → weak_place x.object.slots i ≡ p
          → HasWeakLists (edit o.birth (λ _. with_links (option_map_or (λ (k : ℕ). record x.links { nodes = remove x.links.nodes k }) p x.links) (with_object (cut_at i) x)) rows)
      go None at =
          same-lists last rows rises good o live x (with_object (cut_at i) x) there refl
          (removed-names i x.object.slots ∙ ap (λ (p : Option ℕ). removed_at p (names x)) at)
      go (Some k) at =
          let (l, node) = paired x.links.nodes (names x) k (named_in x.object.slots i) size (named-place i x.object.slots k at) in
          removed-lists last rows rises good o live x (with_links (record x.links { nodes = remove x.links.nodes k }) (with_object (cut_at i) x)) there k l node
          (named-place i x.object.slots k at ∙ ap Some (nothing-named x.object i empty)) refl refl
          (removed-names i x.object.slots ∙ ap (λ (p : Option ℕ). removed_at p (names x)) at)

  -- a slot is added
  module _ (name : List ℕ) where
    abbrev pub with_added : Slot → Option ℕ → Entry
    with_added slot id = with_links (added_links id x.links) (with_object (with_slot name slot) x)

    -- no weak link
    other-added : (slot : Slot) → weak_names ((name, slot) ∷ []) ≡ []
        → HasWeakLists (all_more o (option_to_list (hold_of slot)) (edit o.birth (λ _. with_added slot None) rows))
    other-added slot none =
        more-lists o (option_to_list (hold_of slot)) (edit o.birth (λ _. with_added slot None) rows)
        (same-lists last rows rises good o live x (with_added slot None) there refl
        (added-names name slot x.object.slots ∙ ap (λ (ts : List (Option Key)). names x ++ ts) none ∙ append-none (names x)))

    empty-added : (ty : TypeId) (k : ℕ) → AllByRecursion (λ (z : Node). z.id < k) x.links.nodes
        → HasWeakLists (edit o.birth (λ _. with_added (Link ty false None) (Some k)) rows)
    empty-added ty k above =
        added-lists last rows rises good o live x (with_added (Link ty false None) (Some k)) there k above refl refl
        (added-names name (Link ty false None) x.object.slots)

    full-added : (ty : TypeId) (k : ℕ) (t : Key) → AllByRecursion (λ (z : Node). z.id < k) x.links.nodes → is_some (object_at rows t.birth) ≡ true
        → HasWeakLists (joined_in o (Some k) (Some t) (edit o.birth (λ _. with_added (Link ty false (Some t)) (Some k)) rows))
    full-added ty k t above some =
        let y : Entry = with_added (Link ty false None) (Some k) in
        let z : Entry = with_added (Link ty false (Some t)) (Some k) in
        let between : List (Key × Entry) = edit o.birth (λ _. y) rows in
        let named : names y ≡ names x ++ None ∷ [] = added-names name (Link ty false None) x.object.slots in
        let had : slice_get (names y) (length x.links.nodes) ≡ Some None =
        ap₂ (λ (ts : List (Option Key)) (i : ℕ). slice_get ts i) named size ∙ get-last (names x) None in
        let put : names z ≡ slice_set (names y) (length x.links.nodes) (Some t) =
        added-names name (Link ty false (Some t)) x.object.slots ∙ sym (put-last (names x) None (Some t))
        ∙ sym (ap₂ (λ (ts : List (Option Key)) (i : ℕ). slice_set ts i (Some t)) named size) in
        subst (λ (l : List (Key × Entry)). HasWeakLists (joined_in o (Some k) (Some t) l)) (edit-twice o.birth y z rows)
        (joined-lists last between (rises-now last rows rises good o live x y there) (empty-added ty k above) o (live-edit o.birth (λ _. y) rows o live) y z
        (there-now last rows rises good o live x y there) refl (length x.links.nodes) (new_node k) t (get-last x.links.nodes (new_node k)) had put
        (known-now last rows rises good o live x y there t.birth some))

    pub slot-added-lists : (slot : Slot) (id : Option ℕ) → is_some id ≡ is_some (weak_name slot)
        → IfSome id (λ k. AllByRecursion (λ (z : Node). z.id < k) x.links.nodes) → IfSome (weak_target slot) (λ t. is_some (object_at rows t.birth) ≡ true)
        → HasWeakLists (joined_in o id (weak_target slot) (all_more o (option_to_list (hold_of slot)) (edit o.birth (λ _. with_added slot id) rows)))
    slot-added-lists (Plain val) None weak above known = other-added (Plain val) refl
    slot-added-lists (Child key) None weak above known = other-added (Child key) refl
    slot-added-lists (Alias key of) None weak above known = other-added (Alias key of) refl
    slot-added-lists (Link ty true target) None weak above known = other-added (Link ty true target) refl
    slot-added-lists (Link ty false target) None weak above known = cc
    slot-added-lists (Plain val) (Some k) weak above known = cc
    slot-added-lists (Child key) (Some k) weak above known = cc
    slot-added-lists (Alias key of) (Some k) weak above known = cc
    slot-added-lists (Link ty true target) (Some k) weak above known = cc
    slot-added-lists (Link ty false None) (Some k) weak above known = empty-added ty k above
    slot-added-lists (Link ty false (Some t)) (Some k) weak above known = full-added ty k t above known

-- no object is there
pub no-lists : HasWeakLists []
no-lists = record { lists = λ n. ([], (refl, λ w. refl)); numbered = tt }

-- an object is made
read-more : {A : Type 0} (g : Entry → Option A) (row : Key × Entry) → g row.1 ≡ None → (rows : List (Key × Entry)) (m : ℕ)
    → option_and_then g (object_at (rows ++ row ∷ []) m) ≡ option_and_then g (object_at rows m)
read-more g row none [] m = go (eqb row.0.birth m) refl
  where
    go : (b : Bool) → eqb row.0.birth m ≡ b → option_and_then g (object_at (row ∷ []) m) ≡ None
    go true is = rw is none
    go false is = rw is refl
read-more g row none (r ∷ rows) m = go (eqb r.0.birth m) refl (read-more g row none rows m)
  where
    go : (b : Bool) → eqb r.0.birth m ≡ b → option_and_then g (object_at (rows ++ row ∷ []) m) ≡ option_and_then g (object_at rows m)
        → option_and_then g (object_at (r ∷ rows ++ row ∷ []) m) ≡ option_and_then g (object_at (r ∷ rows) m)
    go true is rest = rw is refl
    go false is rest = rw is rest

pub made-lists : (rows : List (Key × Entry)) → HasWeakLists rows → (key : Key) (kind : TypeId) → HasWeakLists (rows ++ (key, unheld (fresh kind)) ∷ [])
made-lists rows good key kind =
    record {
      lists = λ n.
          listed-as (cell_in rows) (cell_in (rows ++ (key, unheld (fresh kind)) ∷ [])) (head_in rows n) (head_in (rows ++ (key, unheld (fresh kind)) ∷ []) n) (bag_in rows n) (bag_in (rows ++ (key, unheld (fresh kind)) ∷ []) n)
          (read-more (λ (x : Entry). x.links.first) (key, unheld (fresh kind)) refl rows n)
          (λ w. omega (arith, sum_by-append (row_weight n w) rows ((key, unheld (fresh kind)) ∷ []), sum_by-cons (row_weight n w) (key, unheld (fresh kind)) []))
          (λ es is. all-same es) (good.lists n);
      numbered = last rows good.numbered;
    }
  where
    all-same : (es : List End) → AllByRecursion (λ (e : End). cell_in (rows ++ (key, unheld (fresh kind)) ∷ []) e ≡ cell_in rows e) es
    all-same [] = tt
    all-same (e ∷ es) = (read-more (λ (x : Entry). node_of x.links.nodes e.id) (key, unheld (fresh kind)) refl rows e.owner.birth, all-same es)

    last : (rs : List (Key × Entry)) → AllByRecursion IsNumbered rs → AllByRecursion IsNumbered (rs ++ (key, unheld (fresh kind)) ∷ [])
    last [] all = ((refl, tt), tt)
    last (r ∷ rs) all = (all.0, last rs all.1)
