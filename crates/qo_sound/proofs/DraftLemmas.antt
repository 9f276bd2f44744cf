-- A new device is made, property by property, while it is held from outside: the tree stays sound, and what was there before stays as it was.
use Rattle.std.proofs.Common.{◌≡◌, refl, rules, ap, sym, subst, ◌∙◌, ℕ, ◌+◌, ◌<◌, ◌≤◌, Bool, true, false, cond, ◌==◌, eqb, List, [], ◌∷◌, ◌++◌, map, find, codes, Option, Some, None, is_some, option_map, arith}
use Rattle.qo_model.proofs.Common.{⊤, AllByRecursion, IsDistinct, cons_option, option_map_or, bytes_eq, TypeId, Board, Record, Slot, plain, child, strong, weak, alias, record_of, kind_of, is_live, add, fresh, with_added, among, leads, child_named, init_notes, first_value, fresh_record, child_of, children_in, children_of, aliased, drafted, owned, property_made, properties_made, with_kid, with_new, refs, edited, is_clock_slot, is_open, lasting, PassesTo, slots_of, types, property_name}
use Rattle.qo_model.specs.declared.notes.Note.{Note}
use Rattle.qo_model.specs.declared.properties.Property.{Property}
use Rattle.qo_model.specs.declared.properties.PropertyRole.{PropertyRole}
use Rattle.std.specs.Prelude.{option_and_then}
use Rattle.std.proofs.lemmas.Bool.{eqb-true, eq-eqb}
use Rattle.std.proofs.lemmas.List.{map-append}
use Rattle.std.proofs.lemmas.List.Sums.{sum_by-cons}
use Rattle.std.proofs.lemmas.Option.{same_Some}
use Rattle.std.proofs.lemmas.Slice.Eq.{bytes_eq-Decides}
use Rattle.qo_values.proofs.EachLemmas.{each}
use Rattle.qo_model.specs.declared.properties.PropertyRole.TheVariants as row
use Rattle.qo_model.proofs.GraphLemmas.{births_at}
use Rattle.qo_model.proofs.StepLemmas.{found_at, found-edited, found-birth}
use Rattle.qo_sound.proofs.RecordLemmas.{all-append}
use Rattle.qo_sound.proofs.SlotLemmas.{clocks_in, names_in, one_child}
use Rattle.qo_sound.proofs.FirmBoardLemmas.{WellFormed, Linked, parents_of, edited-leads, firm-beside}
use Rattle.qo_sound.proofs.NewSlotLemmas.{fresh-names, new-lone}
use Rattle.qo_sound.proofs.TestLemmas.{decide, clash}
use Rattle.qo_sound.proofs.NewObjectLemmas.{IsNew, children-none, grown, grown-leads, grown-near, grown-new, grown-old, grown-parents, new-absent}
use Rattle.qo_sound.proofs.ChildSlotLemmas.{IsNameless, Step, stayed, new_one, leads-first, named-near, named-parents, named-step}
use Rattle.qo_sound.proofs.WorkLemmas.{InvariantBut}
use Rattle.qo_sound.proofs.AddLemmas.{absent-parents}
use Rattle.qo_sound.proofs.SlotGrowthLemmas.{children-added, near-added, none-child, sum-added}

-- a board with n held from outside once more
abbrev pub pinned_once : ℕ → Board → Board
pinned_once n b = record b { pins = n ∷ b.pins }

pub near-pinned_once : (n : ℕ) (b : Board) → InvariantBut (Some n) b → InvariantBut None (pinned_once n b)
near-pinned_once n b h =
    record {
      firm = firm-beside b (pinned_once n b) h.firm;
      aliases = h.aliases;
      used = used;
    }
  where
    used : (m : ℕ) → is_live b m ≡ true → refs (pinned_once n b) m ≡ 0 → None ≡ Some m
    used m there none = go (n == m) refl
      where
        go : (t : Bool) → (n == m) ≡ t → None ≡ Some m
        go true p =
            let one : cond {A = ℕ} (n == m) 1 0 ≡ 1 = rw p refl in
            absurd (let clash : 0 < 0 = omega (arith, none, one, sum_by-cons (λ (k : ℕ). cond {A = ℕ} (k == m) 1 0) n b.pins) in omega arith)
        go false p =
            let is : n ≡ m = same_Some n m (h.used m there (omega (arith, none, sum_by-cons (λ (k : ℕ). cond {A = ℕ} (k == m) 1 0) n b.pins))) in
            absurd (let clash : true ≡ false = sym (eq-eqb n m is) ∙ p in cc)

-- and without the pin n alone may have none
pub near-let_down : (n : ℕ) (b : Board) → InvariantBut None (pinned_once n b) → InvariantBut (Some n) b
near-let_down n b h =
    record {
      firm = firm-beside (pinned_once n b) b h.firm;
      aliases = h.aliases;
      used = used;
    }
  where
    used : (m : ℕ) → is_live b m ≡ true → refs b m ≡ 0 → Some n ≡ Some m
    used m there none = go (n == m) refl
      where
        go : (t : Bool) → (n == m) ≡ t → Some n ≡ Some m
        go true p = ap Some (eqb-true n m p)
        go false p =
            let zero_here : cond {A = ℕ} (n == m) 1 0 ≡ 0 = rw p refl in
            absurd (let clash : None ≡ Some m = h.used m there (omega (arith, none, zero_here, sum_by-cons (λ (k : ℕ). cond {A = ℕ} (k == m) 1 0) n b.pins)) in
            cc)

-- a strong link that is empty, or another slot
abbrev pub HoldsNone : Slot → Type 0
HoldsNone (strong t (Some m)) = ⊥
HoldsNone s = ⊤

-- an alias passes on to the clock
abbrev pub OfClock : Property → Type 0
OfClock p = elim p.role as (λ _. Type 0) [ row.Alias owner of ↦ bytes_eq (property_name owner) (codes "clk") ≡ true | _ ↦ ⊤ ]

abbrev pub row_names : List Property → List (List ℕ)
row_names ps = map (λ (p : Property). (property_name p.name)) ps

-- what is known of a board on which a device n is being made, with these properties still to come, from a board b
pub record Drafts (b : Board) (n : ℕ) (t : TypeId) (ps : List Property) (c : Board) : Type 0 where
  pub near : InvariantBut None c
  pub owner : Record
  pub found : record_of c n ≡ Some owner
  pub kind : owner.kind ≡ t
  pub low : n ≤ c.born
  pub free : AllByRecursion (λ (p : Property). AllByRecursion (λ name. bytes_eq name (property_name p.name) ≡ false) (names_in owner.slots)) ps
  pub apart : IsDistinct bytes_eq (row_names ps)
  pub clocked : AllByRecursion OfClock ps
  pub empty : AllByRecursion (λ (s : List ℕ × Slot). HoldsNone s.1) owner.slots
  pub old : (x : ℕ) (r : Record) → record_of b x ≡ Some r → record_of c x ≡ Some r
  pub alone : parents_of c n ≡ 0
  pub upward : (x y : ℕ) → n ≤ x → leads (children_of c) x y ≡ true → n < y

-- names that stay free where one more is taken
free-more : (name : List ℕ) (s : Slot) (slots : List (List ℕ × Slot)) (ps : List Property)
    → AllByRecursion (λ (p : Property). AllByRecursion (λ x. bytes_eq x (property_name p.name) ≡ false) (names_in slots)) ps
    → AllByRecursion (λ x. bytes_eq name x ≡ false) (row_names ps)
    → AllByRecursion (λ (p : Property). AllByRecursion (λ x. bytes_eq x (property_name p.name) ≡ false) (names_in (slots ++ (name, s) ∷ []))) ps
free-more name s slots [] h k = tt
free-more name s slots (p ∷ ps) h k = (
  subst (AllByRecursion (λ x. bytes_eq x (property_name p.name) ≡ false)) (sym (map-append (λ (x : List ℕ × Slot). x.0) slots ((name, s) ∷ [])))
      (all-append (λ x. bytes_eq x (property_name p.name) ≡ false) (names_in slots) (name ∷ []) h.0 (k.0, tt)),
  free-more name s slots ps h.1 k.1,
)

-- the object that was changed, and the others
own-record : (n : ℕ) (change : Record → Record) → ((r : Record) → (change r).birth ≡ r.birth) → (rs : List Record) (owner : Record) → found_at n rs ≡ Some owner
    → found_at n (map (edited n change) rs) ≡ Some (change owner)
own-record n change same rs owner e =
    let own : (owner.birth == n) ≡ true = eq-eqb owner.birth n (found-birth n rs owner e) in
    found-edited n change same n rs ∙ ap (option_map (edited n change)) e ∙ rw (edited, own) refl

pub other-record : (n : ℕ) (change : Record → Record) → ((r : Record) → (change r).birth ≡ r.birth) → (rs : List Record) (x : ℕ) (r : Record) → (x == n) ≡ false
    → found_at x rs ≡ Some r → found_at x (map (edited n change) rs) ≡ Some r
other-record n change same rs x r apart e =
    let own : (r.birth == n) ≡ false = ap (λ (k : ℕ). k == n) (found-birth x rs r e) ∙ apart in
    found-edited n change same x rs ∙ ap (option_map (edited n change)) e ∙ rw (edited, own) refl

-- what is there has a birth that is not above the births so far
pub found-low : (k x : ℕ) (rs : List Record) (r : Record) → AllByRecursion (λ n. n ≤ k) (births_at rs) → found_at x rs ≡ Some r → x ≤ k
found-low k x [] r h e = cc
found-low k x (y ∷ rs) r h e = go (y.birth == x) refl (found-low k x rs r h.1)
  where
    go : (t : Bool) → (y.birth == x) ≡ t → (found_at x rs ≡ Some r → x ≤ k) → x ≤ k
    go true p rest = subst (λ (z : ℕ). z ≤ k) (eqb-true y.birth x p) h.0
    go false p rest = rest (rw p at e)

-- above all births nothing is there
pub absent-above : (b : Board) → WellFormed b → (x : ℕ) → b.born < x → record_of b x ≡ None
absent-above b firm x high = go (record_of b x) refl
  where
    go : (o : Option Record) → record_of b x ≡ o → record_of b x ≡ None
    go None e = e
    go (Some r) e = absurd (let low : x ≤ b.born = found-low b.born x b.records r firm.within e in omega (arith, high, low))

-- who is there is apart from who is not
pub live-apart : (b : Board) (x y : ℕ) → is_live b x ≡ false → is_live b y ≡ true → (x == y) ≡ false
live-apart b x y none there = decide (x == y) (λ p. clash (sym there ∙ sym (ap (is_live b) (eqb-true x y p)) ∙ none)) (λ p. p)

-- the child of the clock's name is among the clocks
clock-found : (slots : List (List ℕ × Slot)) (m : ℕ) → option_and_then child_named (option_map (λ (s : List ℕ × Slot). s.1) (find is_clock_slot slots)) ≡ Some m
    → among (clocks_in slots) m ≡ true
clock-found [] m e = absurd (let clash : None ≡ Some m = e in cc)
clock-found (s ∷ slots) m e = go (is_clock_slot s) refl (clock-found slots m)
  where
    first : (x : Slot) → child_named x ≡ Some m → among (cons_option (child_of x) (clocks_in slots)) m ≡ true
    first (plain v) k = absurd (let clash : None ≡ Some m = k in cc)
    first (child j) k = let same : eqb m j ≡ true = eq-eqb m j (sym (same_Some j m k)) in rw same refl
    first (strong t target) k = absurd (let clash : None ≡ Some m = k in cc)
    first (weak t target) k = absurd (let clash : None ≡ Some m = k in cc)
    first (alias j name) k = absurd (let clash : None ≡ Some m = k in cc)

    go : (t : Bool) → is_clock_slot s ≡ t
        → (option_and_then child_named (option_map (λ (x : List ℕ × Slot). x.1) (find is_clock_slot slots)) ≡ Some m → among (clocks_in slots) m ≡ true)
        → among (clocks_in (s ∷ slots)) m ≡ true
    go true p rest = rw p (first s.1 (rw p at e))
    go false p rest = rw p (rest (rw p at e))

module _ (b : Board) (n : ℕ) (t : TypeId) (absent : record_of b n ≡ None) (not_open : is_open n ≡ false) where
  differs : (x : ℕ) (r : Record) → record_of b x ≡ Some r → (x == n) ≡ false
  differs x r e = go (x == n) refl
    where
      go : (t : Bool) → (x == n) ≡ t → (x == n) ≡ false
      go false p = p
      go true p = absurd (let clash : Some r ≡ None = sym e ∙ ap (record_of b) (eqb-true x n p) ∙ absent in cc)

  -- a slot more that names no child
  drafts-slot : (p : Property) (ps : List Property) (c : Board) (s : Slot) → child_of s ≡ None → HoldsNone s → Linked (kind_of c) s
      → (h : Drafts b n t (p ∷ ps) c) → PassesTo (lasting h.owner) s → Drafts b n t ps (add n (property_name p.name) s c)
  unfolding add IsDistinct
  drafts-slot p ps c s none holds links h passes =
      record {
        near = near-added None c n (property_name p.name) s h.owner h.found h.free.0 none links passes h.near;
        owner = with_added (property_name p.name) s h.owner;
        found = own-record n (with_added (property_name p.name) s) (λ r. refl) c.records h.owner h.found;
        kind = h.kind;
        low = h.low;
        free = free-more (property_name p.name) s h.owner.slots ps h.free.1 h.apart.0;
        apart = h.apart.1;
        clocked = h.clocked.1;
        empty = all-append (λ (x : List ℕ × Slot). HoldsNone x.1) h.owner.slots ((property_name p.name, s) ∷ []) h.empty (holds, tt);
        old = λ x r e. other-record n (with_added (property_name p.name) s) (λ y. refl) c.records x r (differs x r e) (h.old x r e);
        alone =
            let nothing : one_child n (property_name p.name, s) ≡ 0 = none-child n s none in
            omega (arith, h.alone, nothing, sum-added (one_child n) n (property_name p.name) s c.records h.near.firm.rising h.owner h.found);
        upward =
            λ x y le e. h.upward x y le (edited-leads n (with_added (property_name p.name) s) (λ r. refl) (λ r. refl) c
            (λ r z q k. rw (children-added (property_name p.name) s r.slots none) at k) x y e);
      }

  -- a further object is made and joined
  drafts-kid : (p : Property) (ps : List Property) (c : Board) (of : TypeId) → Drafts b n t (p ∷ ps) c
      → Drafts b n t ps (with_kid n (property_name p.name) of c)
  unfolding add IsDistinct
  drafts-kid p ps c of h =
      record {
        near = named-near g n (c.born + 1) (property_name p.name) bare near_g;
        owner = with_added (property_name p.name) (child (c.born + 1)) h.owner;
        found =
            own-record n (with_added (property_name p.name) (child (c.born + 1))) (λ r. refl) g.records h.owner
            (grown-old c k notes h.near.firm new n h.owner h.found);
        kind = h.kind;
        low = omega (arith, low);
        free = free-more (property_name p.name) (child (c.born + 1)) h.owner.slots ps h.free.1 h.apart.0;
        apart = h.apart.1;
        clocked = h.clocked.1;
        empty = all-append (λ (x : List ℕ × Slot). HoldsNone x.1) h.owner.slots ((property_name p.name, child (c.born + 1)) ∷ []) h.empty (tt, tt);
        old =
            λ x r e. other-record n (with_added (property_name p.name) (child (c.born + 1))) (λ y. refl) g.records x r (differs x r e)
            (grown-old c k notes h.near.firm new x r (h.old x r e));
        alone =
            let other : (c.born + 1 == n) ≡ false = grind (arith, low) in
            let nothing : one_child n (property_name p.name, child (c.born + 1)) ≡ 0 = rw other refl in
            omega (arith, h.alone, nothing, named-parents g n (c.born + 1) (property_name p.name) bare near_g n, grown-parents c k notes h.near.firm new n);
        upward = λ x y le e. up x y le (named-step g n (c.born + 1) (property_name p.name) bare near_g x y e);
      }
    where
      k : Record
      k = fresh_record (c.born + 1) of

      notes : List Note
      notes = c.notes ++ init_notes (c.born + 1) of

      g : Board
      g = grown c k notes

      low : n ≤ c.born
      low = h.low

      new : IsNew c k
      new = record { birth = refl; names = fresh-names of; lone = new-lone c of }

      near_g : InvariantBut (Some (c.born + 1)) g
      near_g = grown-near c k notes h.near.firm new h.near

      bare : IsNameless g n (c.born + 1) (property_name p.name)
      bare =
          record {
            owner = h.owner;
            found = grown-old c k notes h.near.firm new n h.owner h.found;
            free_name = h.free.0;
            there = ap (λ (x : Option Record). is_some (option_map (λ (y : Record). y.kind) x)) (grown-new c k notes h.near.firm new);
            no_parent = grown-parents c k notes h.near.firm new (c.born + 1) ∙ absent-parents (kind_of c) (c.born + 1)
                (ap (option_map (λ (y : Record). y.kind)) (new-absent c k notes h.near.firm new)) c.records h.near.firm.linked;
            none_back = leads-first (children_of g) (ap (λ (x : Option Record). children_in (option_map_or (λ (y : Record). y.slots) x []))
                (grown-new c k notes h.near.firm new) ∙ children-none c k.slots (new-lone c of));
            apart = grind (arith, low);
          }

      up : (x y : ℕ) → n ≤ x → Step (children_of g) n (c.born + 1) x y → n < y
      up x y le (stayed e) = h.upward x y le (grown-leads c k notes h.near.firm new x y e)
      up x y le (new_one is_n is_m) = omega (arith, low, is_m)

  -- what stays to come where nothing is to be done for a property
  drafts-skip : (p : Property) (ps : List Property) (c : Board) → Drafts b n t (p ∷ ps) c → Drafts b n t ps c
  unfolding IsDistinct
  drafts-skip p ps c h =
      record {
        near = h.near;
        owner = h.owner;
        found = h.found;
        kind = h.kind;
        low = h.low;
        free = h.free.1;
        apart = h.apart.1;
        clocked = h.clocked.1;
        empty = h.empty;
        old = h.old;
        alone = h.alone;
        upward = h.upward;
      }

  drafts-alias : (p : Property) (ps : List Property) (c : Board) (owner property : List ℕ) → bytes_eq owner (codes "clk") ≡ true → Drafts b n t (p ∷ ps) c
      → (o : Option ℕ) → owned c n owner ≡ o → Drafts b n t ps (aliased n (property_name p.name) property o c)
  drafts-alias p ps c owner property clock h None e = drafts-skip p ps c h
  drafts-alias p ps c owner property clock h (Some m) e = drafts-slot p ps c (alias m property) refl tt tt h passes
    where
      named : owned c n (codes "clk") ≡ Some m
      named = ap (owned c n) (sym ((bytes_eq-Decides owner (codes "clk")).0 clock)) ∙ e

      in_slots : option_and_then child_named (option_map (λ (s : List ℕ × Slot). s.1) (find is_clock_slot h.owner.slots)) ≡ Some m
      in_slots = sym (ap (λ (o : Option Record). option_and_then child_named
          (option_map (λ (s : List ℕ × Slot). s.1) (find is_clock_slot (option_map_or (λ (r : Record). r.slots) o [])))) h.found) ∙ named

      passes : among (lasting h.owner) m ≡ true
      passes =
          let shut : is_open h.owner.birth ≡ false = ap is_open (found-birth n c.records h.owner h.found) ∙ not_open in
          rw shut (clock-found h.owner.slots m in_slots)

  drafts-row : (p : Property) (ps : List Property) (c : Board) → Drafts b n t (p ∷ ps) c → Drafts b n t ps (property_made n t (property_name p.name) p.role c)
  drafts-row p ps c h = go p.role refl
    where
      go : (kind : PropertyRole) → p.role ≡ kind → Drafts b n t ps (property_made n t (property_name p.name) p.role c)
      go (row.Plain type first) e = rw e (drafts-slot p ps c (plain (first_value t first)) refl tt tt h tt)
      go (row.Link target true) e = rw e (drafts-slot p ps c (strong target None) refl tt tt h tt)
      go (row.Link target false) e = rw e (drafts-slot p ps c (weak target None) refl tt tt h tt)
      go (row.Child type) e = rw e (drafts-kid p ps c type h)
      go (row.Alias owner of) e =
          rw e (drafts-alias p ps c (property_name owner) (property_name of) (rw e at h.clocked.0) h (owned c n (property_name owner)) refl)

  pub drafts-rows : (ps : List Property) (c : Board) → Drafts b n t ps c → Drafts b n t [] (properties_made n t ps c)
  drafts-rows [] c h = h
  drafts-rows (p ∷ ps) c h = drafts-rows ps (property_made n t (property_name p.name) p.role c) (drafts-row p ps c h)

-- the rows of types: their names differ, and an alias passes on to the clock
row-names : (t : TypeId) → IsDistinct bytes_eq (row_names (slots_of t))
unfolding types IsDistinct
row-names = each (λ (t : TypeId). IsDistinct bytes_eq (row_names (slots_of t))) (search rules)

row-clocks : (t : TypeId) → AllByRecursion OfClock (slots_of t)
unfolding types
row-clocks = each (λ (t : TypeId). AllByRecursion OfClock (slots_of t)) (search rules)

all-free : (ps : List Property) → AllByRecursion (λ (p : Property). AllByRecursion (λ x. bytes_eq x (property_name p.name) ≡ false) []) ps
all-free [] = tt
all-free (p ∷ ps) = (tt, all-free ps)

-- the device as it begins, held from outside
pub drafts-begun : (b : Board) (t : TypeId) → InvariantBut None b
    → Drafts b (b.born + 1) t (slots_of t) (pinned_once (b.born + 1) (with_new (fresh (b.born + 1) t) b))
unfolding IsDistinct
drafts-begun b t h =
    record {
      near = near-pinned_once (b.born + 1) g (grown-near b k notes h.firm new h);
      owner = k;
      found = grown-new b k notes h.firm new;
      kind = refl;
      low = omega arith;
      free = all-free (slots_of t);
      apart = row-names t;
      clocked = row-clocks t;
      empty = tt;
      old = grown-old b k notes h.firm new;
      alone = grown-parents b k notes h.firm new (b.born + 1)
          ∙ absent-parents (kind_of b) (b.born + 1) (ap (option_map (λ (y : Record). y.kind)) (new-absent b k notes h.firm new)) b.records h.firm.linked;
      upward = up;
    }
  where
    k : Record
    k = fresh (b.born + 1) t

    notes : List Note
    notes = b.notes ++ init_notes (b.born + 1) t

    g : Board
    g = grown b k notes

    new : IsNew b k
    new = record { birth = refl; names = tt; lone = tt }

    up : (x y : ℕ) → b.born + 1 ≤ x → leads (children_of g) x y ≡ true → b.born + 1 < y
    up x y le e = go (record_of b x) refl
      where
        before : leads (children_of b) x y ≡ true
        before = grown-leads b k notes h.firm new x y e

        go : (o : Option Record) → record_of b x ≡ o → b.born + 1 < y
        go None q = absurd
            (let clash : false ≡ true = sym (ap (λ (o : Option Record). among (children_in (option_map_or (λ (z : Record). z.slots) o [])) y) q) ∙ before in cc)
        go (Some r) q =
            absurd (let high : x ≤ b.born = found-low b.born x b.records r h.firm.within q in let clash : 0 < 0 = omega (arith, high, le) in omega arith)

-- a board with other pins
abbrev pub with_pins : List ℕ → Board → Board
with_pins q c = record c { pins = q }

-- no row sees the pins
pub rows-blind : (q : List ℕ) (n : ℕ) (t : TypeId) (ps : List Property) (c : Board)
    → properties_made n t ps (with_pins q c) ≡ with_pins q (properties_made n t ps c)
unfolding add
rows-blind q n t [] c = refl
rows-blind q n t (p ∷ ps) c = ap (properties_made n t ps) (by p.role) ∙ rows-blind q n t ps (property_made n t (property_name p.name) p.role c)
  where
    joined : (o : Option ℕ) (property : List ℕ)
        → aliased n (property_name p.name) property o (with_pins q c) ≡ with_pins q (aliased n (property_name p.name) property o c)
    joined None property = refl
    joined (Some m) property = refl

    by : (kind : PropertyRole) → property_made n t (property_name p.name) kind (with_pins q c) ≡ with_pins q (property_made n t (property_name p.name) kind c)
    by (row.Plain type first) = refl
    by (row.Link target true) = refl
    by (row.Link target false) = refl
    by (row.Child type) = refl
    by (row.Alias owner of) = joined (owned c n (property_name owner)) (property_name of)

-- no row changes the pins
pub rows-pins : (n : ℕ) (t : TypeId) (ps : List Property) (c : Board) → (properties_made n t ps c).pins ≡ c.pins
unfolding add
rows-pins n t [] c = refl
rows-pins n t (p ∷ ps) c = rows-pins n t ps (property_made n t (property_name p.name) p.role c) ∙ by p.role
  where
    joined : (o : Option ℕ) (property : List ℕ) → (aliased n (property_name p.name) property o c).pins ≡ c.pins
    joined None property = refl
    joined (Some m) property = refl

    by : (kind : PropertyRole) → (property_made n t (property_name p.name) kind c).pins ≡ c.pins
    by (row.Plain type first) = refl
    by (row.Link target true) = refl
    by (row.Link target false) = refl
    by (row.Child type) = refl
    by (row.Alias owner of) = joined (owned c n (property_name owner)) (property_name of)

rows-pinned_once : (n : ℕ) (t : TypeId) (ps : List Property) (c : Board) → properties_made n t ps (pinned_once n c) ≡ pinned_once n (properties_made n t ps c)
rows-pinned_once n t ps c = rows-blind (n ∷ c.pins) n t ps c ∙ ap (λ (q : List ℕ). with_pins (n ∷ q) (properties_made n t ps c)) (sym (rows-pins n t ps c))

-- the device as it is made, still held
pub drafted-drafts : (b : Board) (t : TypeId) → is_open (b.born + 1) ≡ false → InvariantBut None b
    → Drafts b (b.born + 1) t [] (pinned_once (b.born + 1) (drafted b t))
drafted-drafts b t not_open h =
    subst (Drafts b (b.born + 1) t []) (rows-pinned_once (b.born + 1) t (slots_of t) (with_new (fresh (b.born + 1) t) b))
    (drafts-rows b (b.born + 1) t (absent-above b h.firm (b.born + 1) (omega arith)) not_open (slots_of t)
    (pinned_once (b.born + 1) (with_new (fresh (b.born + 1) t) b)) (drafts-begun b t h))
