-- Where the objects of a board in order stand, and their paths.
use Rattle.std.proofs.Common.{◌≡◌, inl, inr, refl, ap, sym, subst, ◌∙◌, ℕ, ◌<◌, ◌≤◌, suc, Bool, true, false, not, ◌==◌, ◌&&◌, List, [], ◌∷◌, ◌++◌, filter, filter_map, length, map, Option, Some, None, is_some, is_none, option_map, codes, arith}
use Rattle.qo_model.proofs.Common.{⊤, AllByRecursion, bytes_eq, ANONYMOUS_BIRTH, MACHINE_BIRTH, MEMORY_BUS_BIRTH, OBJECTS_BIRTH, PERIPHERAL_BIRTH, ROOT_BIRTH, ROOT_BUS_BIRTH, SYSTEM_CLOCK_BIRTH, TypeId, Board, Record, Slot, plain, child, strong, weak, alias, is_live, kind_of, record_of, slots_at, detached, child_of, children_of, components, is_of, opening_board, path_down_to, path_turn, place_of, walk, SoundGraph, is_a, types}
use Rattle.std.proofs.lemmas.Bool.{and_parts, eqb-true, ne_eqb}
use Rattle.std.proofs.lemmas.Option.{same_Some}
use Rattle.std.proofs.lemmas.Slice.Eq.{bytes_eq-Decides}
use Rattle.qo_values.proofs.ListLemmas.{found-has, found-passes}
use Rattle.qo_model.proofs.TreeLemmas.{paths_lem}
use Rattle.qo_model.specs.Properties.{path_text}
use Rattle.qo_model.specs.SoundGraph.{Rises}
use Rattle.qo_save.specs.Described.{is_describable}
use Rattle.qo_sound.proofs.FirmBoardLemmas.{WellFormed}
use Rattle.qo_sound.proofs.TestLemmas.{clash, clash-back, decide}
use Rattle.qo_sound.proofs.ViewLemmas.{rest-from_sound}
use Rattle.qo_sound_devices.specs.SoundPlaces.{child_entries, child_entry, has_entry, listed, stands}
use Rattle.qo_sound_devices.proofs.LocationLemmas.{place-named}
use Rattle.qo_sound_devices.proofs.PathLemmas.{peripheral-steps}
use Rattle.qo_sound_shapes.specs.SoundShape.{unvalued}
use Rattle.qo_ways.specs.Ways.{IsInOrder}
use Rattle.qo_ways.proofs.WayLemmas.{placed}
use Rattle.qo_ways.proofs.WaysLawLemmas.{ways_lem}
use Rattle.qo_good.specs.Good.{device_path, object_path, OneOf}
use Rattle.qo_good.proofs.ItemLemmas.{births_in, all-some}

-- ---- entries

pub entries-children : (slots : List (List ℕ × Slot)) → births_in (filter_map child_entry slots) ≡ filter_map (λ (s : List ℕ × Slot). child_of s.1) slots
entries-children [] = refl
entries-children ((name, plain v) ∷ slots) = entries-children slots
entries-children ((name, child m) ∷ slots) = ap (λ ms. m ∷ ms) (entries-children slots)
entries-children ((name, strong t target) ∷ slots) = entries-children slots
entries-children ((name, weak t target) ∷ slots) = entries-children slots
entries-children ((name, alias m property) ∷ slots) = entries-children slots

-- what all have, one has
pub all-entry : (P : List ℕ × ℕ → Type 0) (e : List ℕ × ℕ) (es : List (List ℕ × ℕ)) → AllByRecursion P es → has_entry e es ≡ true → P e
all-entry P e [] h there = clash-back there
all-entry P e (x ∷ es) h there = decide (x.1 == e.1 && bytes_eq x.0 e.0) here (λ q. all-entry P e es h.1 (rw q at there))
  where
    here : (x.1 == e.1 && bytes_eq x.0 e.0) ≡ true → P e
    here q =
        let two = and_parts (x.1 == e.1) (bytes_eq x.0 e.0) q in
        subst (λ (name : List ℕ). P (name, e.1)) ((bytes_eq-Decides x.0 e.0).0 two.1) (subst (λ (m : ℕ). P (x.0, m)) (eqb-true x.1 e.1 two.0) h.0)

pub one-entry : (e : List ℕ × ℕ) (es : List (List ℕ × ℕ)) → has_entry e es ≡ true → OneOf (λ (x : List ℕ × ℕ). (x.0 ≡ e.0) × (x.1 ≡ e.1)) es
one-entry e [] there = clash-back there
one-entry e (x ∷ es) there = decide (x.1 == e.1 && bytes_eq x.0 e.0) here (λ q. inr (one-entry e es (rw q at there)))
  where
    here : (x.1 == e.1 && bytes_eq x.0 e.0) ≡ true → OneOf (λ (y : List ℕ × ℕ). (y.0 ≡ e.0) × (y.1 ≡ e.1)) (x ∷ es)
    here q =
        let two = and_parts (x.1 == e.1) (bytes_eq x.0 e.0) q in
        inl ((bytes_eq-Decides x.0 e.0).0 two.1, eqb-true x.1 e.1 two.0)

pub one-listed : (m : ℕ) (es : List (List ℕ × ℕ)) → listed m es ≡ true → OneOf (λ (x : List ℕ × ℕ). x.1 ≡ m) es
one-listed m [] there = clash-back there
one-listed m (x ∷ es) there = decide (x.1 == m) (λ q. inl (eqb-true x.1 m q)) (λ q. inr (one-listed m es (rw q at there)))

above-all : (p : ℕ) (es : List (List ℕ × ℕ)) → AllByRecursion (λ m. p < m) (births_in es) → AllByRecursion (λ (e : List ℕ × ℕ). p < e.1) es
above-all p [] h = tt
above-all p (e ∷ es) h = (h.0, above-all p es h.1)

-- slots without their values have the same children
pub entries-unvalued : (slots : List (List ℕ × Slot)) → filter_map child_entry (unvalued slots) ≡ filter_map child_entry slots
entries-unvalued [] = refl
entries-unvalued ((name, plain v) ∷ slots) = entries-unvalued slots
entries-unvalued ((name, child m) ∷ slots) = ap (λ (es : List (List ℕ × ℕ)). (name, m) ∷ es) (entries-unvalued slots)
entries-unvalued ((name, strong t target) ∷ slots) = entries-unvalued slots
entries-unvalued ((name, weak t target) ∷ slots) = entries-unvalued slots
entries-unvalued ((name, alias m property) ∷ slots) = entries-unvalued slots

root-opens : child_entries opening_board ROOT_BIRTH ≡ (codes "machine", MACHINE_BIRTH) ∷ (codes "objects", OBJECTS_BIRTH) ∷ []
unfolding opening_board types
root-opens = refl

machine-opens : child_entries opening_board MACHINE_BIRTH
    ≡ (codes "peripheral", PERIPHERAL_BIRTH) ∷ (codes "peripheral-anon", ANONYMOUS_BIRTH) ∷ (codes "sysclk", SYSTEM_CLOCK_BIRTH)
    ∷ (codes "root.0", ROOT_BUS_BIRTH)
    ∷ (codes "mem.0", MEMORY_BUS_BIRTH)
    ∷ []
unfolding opening_board types
machine-opens = refl

-- ---- lists that are empty

pub none-long : {X : Type 0} (xs : List X) → (length xs == 0) ≡ true → xs ≡ []
none-long [] e = refl
none-long (x ∷ xs) e = absurd (let long : suc (length xs) ≡ 0 = eqb-true (suc (length xs)) 0 e in omega arith)

pub none-passes : {X : Type 0} (test : X → Bool) (xs : List X) → filter test xs ≡ [] → AllByRecursion (λ (x : X). test x ≡ false) xs
none-passes test [] e = tt
none-passes test (x ∷ xs) e = go (test x) refl (none-passes test xs)
  where
    go : (t : Bool) → test x ≡ t → (filter test xs ≡ [] → AllByRecursion (λ y. test y ≡ false) xs) → AllByRecursion (λ y. test y ≡ false) (x ∷ xs)
    go true q rest = absurd (let clash : x ∷ filter test xs ≡ [] = rw q at e in cc)
    go false q rest = (q, rest (rw q at e))

none-mapped : {X Y : Type 0} (f : X → Y) (xs : List X) → map f xs ≡ [] → xs ≡ []
none-mapped f [] e = refl
none-mapped f (x ∷ xs) e = absurd (let clash : f x ∷ map f xs ≡ [] = e in cc)

-- ---- objects

-- the type of an object that is of a name
pub record OfKind (b : Board) (name : List ℕ) (n : ℕ) : Type 0 where
  pub kind : TypeId
  pub its : kind_of b n ≡ Some kind
  pub is : is_a kind name ≡ true

pub of-kind : (b : Board) (name : List ℕ) (n : ℕ) → is_of b name n ≡ true → OfKind b name n
of-kind b name n e = go (kind_of b n) refl
  where
    go : (o : Option TypeId) → kind_of b n ≡ o → OfKind b name n
    go None q = clash-back (rw q at e)
    go (Some t) q = record { kind = t; its = q; is = rw q at e }

-- where a path leads
abbrev pub at : Board → List ℕ → Option ℕ
at b path = walk b ROOT_BIRTH (components path)

module _ (b : Board) (h : IsInOrder b) where
  pub firm : WellFormed b
  firm = (rest-from_sound b h.devices.tree).used.firm

  abbrev pub sound : SoundGraph b
  sound = h.devices.tree.0

  pub rises : (p : ℕ) → Rises (p ∷ births_in (child_entries b p))
  rises p = subst (λ (ms : List ℕ). Rises (p ∷ ms)) (sym (entries-children (slots_at b p))) (h.order.children p)

  pub older : (p : ℕ) (e : List ℕ × ℕ) → has_entry e (child_entries b p) ≡ true → p < e.1
  older p e there = all-entry (λ (x : List ℕ × ℕ). p < x.1) e (child_entries b p) (above-all p (child_entries b p) (rises p).0) there

  pub apart : (p : ℕ) (e : List ℕ × ℕ) → ROOT_BIRTH ≤ p → has_entry e (child_entries b p) ≡ true → (e.1 == ROOT_BIRTH) ≡ false
  apart p e low there = let old : p < e.1 = older p e there in ne_eqb e.1 ROOT_BIRTH (λ is. omega arith)

  -- a fact of each child of each object is one of an object and its place
  pub placed-at : (P : ℕ → List ℕ × ℕ → Type 0) → ((p : ℕ) → AllByRecursion (P p) (child_entries b p)) → (n : ℕ) (u : ℕ × List ℕ) → place_of b n ≡ Some u
      → P u.0 (u.1, n)
  placed-at P all n u e = all-entry (P u.0) (u.1, n) (child_entries b u.0) (all u.0) (placed-there n u e)
    where
      placed-there : (n : ℕ) (u : ℕ × List ℕ) → place_of b n ≡ Some u → has_entry (u.1, n) (child_entries b u.0) ≡ true
      placed-there n u e = (placed (λ x. ⊤) b firm (λ p. all-some (λ x. ⊤) (λ x. tt) (child_entries b p)) n u e).there

  pub place-there : (n : ℕ) (u : ℕ × List ℕ) → place_of b n ≡ Some u → has_entry (u.1, n) (child_entries b u.0) ≡ true
  place-there n u e = (placed (λ x. ⊤) b firm (λ p. all-some (λ x. ⊤) (λ x. tt) (child_entries b p)) n u e).there

  -- ---- paths

  pub below : (p x : ℕ) (name above : List ℕ) → (x == ROOT_BIRTH) ≡ false → has_entry (name, x) (child_entries b p) ≡ true → path_down_to b p ≡ Some above
      → path_down_to b x ≡ Some (above ++ 47 ∷ name)
  below p x name above other there is =
      let place : place_of b x ≡ Some (p, name) = place-named b firm p x name there in
      paths_lem.steps_by_parent b sound x ∙ rw (path_turn, other, place) (ap (option_map (λ (way : List ℕ). way ++ 47 ∷ name)) is)

  pub root-way : path_down_to b ROOT_BIRTH ≡ Some []
  root-way = paths_lem.steps_by_parent b sound ROOT_BIRTH

  pub root-entries : child_entries b ROOT_BIRTH ≡ (codes "machine", MACHINE_BIRTH) ∷ (codes "objects", OBJECTS_BIRTH) ∷ []
  root-entries =
      sym (entries-unvalued (slots_at b ROOT_BIRTH)) ∙ ap (filter_map child_entry) h.shape.fixed.0 ∙ entries-unvalued (slots_at opening_board ROOT_BIRTH)
      ∙ root-opens

  pub machine-entries : child_entries b MACHINE_BIRTH
      ≡ (codes "peripheral", PERIPHERAL_BIRTH) ∷ (codes "peripheral-anon", ANONYMOUS_BIRTH) ∷ (codes "sysclk", SYSTEM_CLOCK_BIRTH)
      ∷ (codes "root.0", ROOT_BUS_BIRTH)
      ∷ (codes "mem.0", MEMORY_BUS_BIRTH)
      ∷ []
  machine-entries =
      sym (entries-unvalued (slots_at b MACHINE_BIRTH)) ∙ ap (filter_map child_entry) h.shape.fixed.1.0
      ∙ entries-unvalued (slots_at opening_board MACHINE_BIRTH)
      ∙ machine-opens

  pub machine-way : path_down_to b MACHINE_BIRTH ≡ Some (codes "/machine")
  machine-way = below ROOT_BIRTH MACHINE_BIRTH (codes "machine") [] refl (ap (has_entry (codes "machine", MACHINE_BIRTH)) root-entries) root-way

  pub objects-way : path_down_to b OBJECTS_BIRTH ≡ Some (codes "/objects")
  objects-way = below ROOT_BIRTH OBJECTS_BIRTH (codes "objects") [] refl (ap (has_entry (codes "objects", OBJECTS_BIRTH)) root-entries) root-way

  pub part-way : (n : ℕ) (name : List ℕ) → (n == ROOT_BIRTH) ≡ false → has_entry (name, n)
      ((codes "peripheral", PERIPHERAL_BIRTH) ∷ (codes "peripheral-anon", ANONYMOUS_BIRTH) ∷ (codes "sysclk", SYSTEM_CLOCK_BIRTH)
      ∷ (codes "root.0", ROOT_BUS_BIRTH)
      ∷ (codes "mem.0", MEMORY_BUS_BIRTH)
      ∷ []) ≡ true
      → path_down_to b n ≡ Some (codes "/machine/" ++ name)
  part-way n name other there = below MACHINE_BIRTH n name (codes "/machine") other (ap (has_entry (name, n)) machine-entries ∙ there) machine-way

  pub root_bus-way : path_down_to b ROOT_BUS_BIRTH ≡ Some (codes "/machine/root.0")
  root_bus-way = part-way ROOT_BUS_BIRTH (codes "root.0") refl refl

  pub memory_bus-way : path_down_to b MEMORY_BUS_BIRTH ≡ Some (codes "/machine/mem.0")
  memory_bus-way = part-way MEMORY_BUS_BIRTH (codes "mem.0") refl refl

  pub object-way : (n : ℕ) (id : List ℕ) → has_entry (id, n) (child_entries b OBJECTS_BIRTH) ≡ true → path_down_to b n ≡ Some (object_path id)
  object-way n id there = below OBJECTS_BIRTH n id (codes "/objects") (apart OBJECTS_BIRTH (id, n) (omega arith) there) there objects-way

  pub device-way : (n : ℕ) (id : List ℕ) → has_entry (id, n) (child_entries b PERIPHERAL_BIRTH) ≡ true → path_down_to b n ≡ Some (device_path id)
  device-way n id there = peripheral-steps b sound firm h.devices.places.1.rooted n id (apart PERIPHERAL_BIRTH (id, n) (omega arith) there) there

  -- a part of a device
  pub inner-way : (d n : ℕ) (id name : List ℕ) → has_entry (id, d) (child_entries b PERIPHERAL_BIRTH) ≡ true → has_entry (name, n) (child_entries b d) ≡ true
      → path_down_to b n ≡ Some (device_path id ++ 47 ∷ name)
  inner-way d n id name device there =
      let old : PERIPHERAL_BIRTH < d = older PERIPHERAL_BIRTH (id, d) device in
      below d n name (device_path id) (apart d (name, n) (omega arith) there) there (device-way d id device)

  -- what stands below `/` is told by its steps, which lead to it
  pub told : (n : ℕ) (path : List ℕ) → (n == ROOT_BIRTH) ≡ false → path_down_to b n ≡ Some path → path_text b n ≡ path
  told n path other is = rw (other, is) refl

  pub leads : (n : ℕ) (path : List ℕ) → path_down_to b n ≡ Some path → at b path ≡ Some n
  leads n path is = ways_lem.steps b h.devices.tree (ways_lem.named b h) n path is

  pub one-at : (n m : ℕ) (path : List ℕ) → path_down_to b n ≡ Some path → path_down_to b m ≡ Some path → n ≡ m
  one-at n m path e f = same_Some n m (sym (leads n path e) ∙ leads m path f)

  -- ---- describable boards

  module _ (says : is_describable b ≡ true) where
    pub parts : ((length (detached b) == 0) ≡ true) × ((length b.pending == 0) ≡ true) × ((length (children_of b ANONYMOUS_BIRTH) == 0) ≡ true)
    parts =
        let two = and_parts ((length (detached b) == 0) && (length b.pending == 0)) (length (children_of b ANONYMOUS_BIRTH) == 0) says in
        let first = and_parts (length (detached b) == 0) (length b.pending == 0) two.0 in
        (first.0, first.1, two.1)

    -- each device has an id
    pub none-anonymous : child_entries b ANONYMOUS_BIRTH ≡ []
    none-anonymous =
        none-mapped (λ (e : List ℕ × ℕ). e.1) (child_entries b ANONYMOUS_BIRTH)
        (entries-children (slots_at b ANONYMOUS_BIRTH) ∙ none-long (children_of b ANONYMOUS_BIRTH) parts.2)

    pub stands-named : (d : ℕ) → stands b d ≡ true → listed d (child_entries b PERIPHERAL_BIRTH) ≡ true
    stands-named d e =
        decide (listed d (child_entries b PERIPHERAL_BIRTH)) (λ q. q)
        (λ q. clash-back (let none : listed d (child_entries b ANONYMOUS_BIRTH) ≡ false = ap (listed d) none-anonymous in rw (q, none) at e))

    -- each object but `/` has a place
    abbrev is_lost : Record → Bool
    is_lost r = not (r.birth == ROOT_BIRTH) && is_none (place_of b r.birth)

    pub settled : (n : ℕ) → is_live b n ≡ true → (n == ROOT_BIRTH) ≡ false → (u : ℕ × List ℕ) × (place_of b n ≡ Some u)
    settled n live other = go (record_of b n) refl
      where
        found : AllByRecursion (λ (r : Record). is_lost r ≡ false) b.records
        found = none-passes is_lost b.records (none-long (detached b) parts.0)

        by : (o : Option (ℕ × List ℕ)) → place_of b n ≡ o → is_none (place_of b n) ≡ false → (u : ℕ × List ℕ) × (place_of b n ≡ Some u)
        by None q k = clash (sym (ap is_none q) ∙ k)
        by (Some u) q k = (u, q)

        go : (o : Option Record) → record_of b n ≡ o → (u : ℕ × List ℕ) × (place_of b n ≡ Some u)
        go None q = clash-back (sym (ap is_some q) ∙ live)
        go (Some r) q =
            let its : is_lost r ≡ false = found-has (λ (r : Record). is_lost r ≡ false) (λ (r : Record). r.birth == n) b.records r found q in
            let is : r.birth ≡ n = eqb-true r.birth n (found-passes (λ (r : Record). r.birth == n) b.records r q) in
            let own : (not (n == ROOT_BIRTH) && is_none (place_of b n)) ≡ false =
            subst (λ (m : ℕ). (not (m == ROOT_BIRTH) && is_none (place_of b m)) ≡ false) is its in
            by (place_of b n) refl (rw other at own)
