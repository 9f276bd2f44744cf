-- A board with a description has no more objects than the description says.
use Rattle.std.proofs.Common.{◌≡◌, ◌⊎◌, inl, inr, refl, ap, sym, subst, ◌∙◌, ℕ, suc, ◌+◌, ◌≤◌, true, false, ◌==◌, ◌&&◌, eqb, List, [], ◌∷◌, ◌++◌, filter_map, length, map, sum_by, Option, Some, None, option_map, codes, arith}
use Rattle.std.specs.Cmp.{IsEquivalence}
use Rattle.std.specs.List.{flat_map}
use Rattle.std.proofs.lemmas.Bool.{and_parts, eq-eqb, eqb-true}
use Rattle.std.proofs.lemmas.List.{length-append, length-map}
use Rattle.std.proofs.lemmas.List.Sums.{sum_by-cons}
use Rattle.std.proofs.lemmas.Map.Made.{length-le_from_is_member}
use Rattle.std.proofs.lemmas.Slice.Eq.{bytes_eq-Decides}
use Rattle.std.proofs.Math.Bool.{or-true}
use Rattle.qo_model.proofs.Common.{AllByRecursion, IsDistinct, list_any, nat_eq_equiv, option_map_or, bytes_eq, ANONYMOUS_BIRTH, MACHINE_BIRTH, MEMORY_BUS_BIRTH, OBJECTS_BIRTH, PERIPHERAL_BIRTH, ROOT_BIRTH, ROOT_BUS_BIRTH, SYSTEM_CLOCK_BIRTH, TypeId, Container, Machine, Board, Record, is_live, kind_of, record_of, slots_at, among, births, children_of, objects_in, is_a}
use Rattle.qo_values.proofs.ListLemmas.{all-imply}
use Rattle.qo_values.specs.declared.births.TheConstants.{OPENING_OBJECTS}
use Rattle.qo_model.proofs.StepLemmas.{live-among}
use Rattle.qo_model.specs.Types.{TypeInfo, type_named}
use Rattle.qo_save.specs.Described.{description, is_describable}
use Rattle.qo_sound.proofs.TestLemmas.{clash, clash-back, decide}
use Rattle.qo_sound_devices.specs.SoundPlaces.{child_entries, child_entry, has_entry}
use Rattle.qo_sound_devices.proofs.DropLemmas.{names-at}
use Rattle.qo_sound_shapes.specs.SoundOwners.{containers}
use Rattle.qo_good.specs.Good.{objects_of, OneOf}
use Rattle.qo_good.specs.GoodBoards.{IsWhole}
use Rattle.qo_good.proofs.BusLemmas.{device-no_shelf, Stood, stood-all}
use Rattle.qo_good.proofs.ItemLemmas.{births_in}
use Rattle.qo_good.proofs.LayoutLemmas.{driver-said}
use Rattle.qo_good.proofs.LinkLemmas.{entries-distinct, ids_in}
use Rattle.qo_good.proofs.PartLemmas.{device-entry, device_as, devices-said, inner, IsInner, is_shelf, object_as, objects-said, part-device, parts_of}
use Rattle.qo_good.proofs.PlaceLemmas.{all-entry, entries-children, firm, machine-entries, none-anonymous, place-there, root-entries, settled}
use Rattle.qo_good.proofs.RoomLemmas.{objects-by_type, rises-distinct}
use Rattle.qo_good.proofs.ValueLemmas.{Its, its-record}

-- ---- lists

bytes_eq_equiv : IsEquivalence bytes_eq
bytes_eq_equiv =
    record {
      refl = λ x. (bytes_eq-Decides x x).1 refl;
      symm = turned;
      congr = λ x y z e. ap (λ (name : List ℕ). bytes_eq name z) ((bytes_eq-Decides x y).0 e);
    }
  where
    back : (x y : List ℕ) → bytes_eq x y ≡ true → bytes_eq y x ≡ true
    back x y e = (bytes_eq-Decides y x).1 (sym ((bytes_eq-Decides x y).0 e))

    turned : (x y : List ℕ) → bytes_eq x y ≡ bytes_eq y x
    turned x y =
        decide (bytes_eq x y) (λ q. q ∙ sym (back x y q))
        (λ q. decide (bytes_eq y x) (λ r. clash (sym (back y x r) ∙ q)) (λ r. q ∙ sym r))

-- one that is among some is among more
among-front : (xs ys : List ℕ) (n : ℕ) → among xs n ≡ true → among (xs ++ ys) n ≡ true
among-front [] ys n e = clash-back e
among-front (x ∷ xs) ys n e = decide (eqb n x) (λ q. rw q refl) (λ q. rw q (among-front xs ys n (rw q at e)))

among-back : (xs ys : List ℕ) (n : ℕ) → among ys n ≡ true → among (xs ++ ys) n ≡ true
among-back [] ys n e = e
among-back (x ∷ xs) ys n e = rw (among-back xs ys n e) (or-true (eqb n x))

among-flat : (f : ℕ → List ℕ) (ns : List ℕ) (m n : ℕ) → among ns m ≡ true → among (f m) n ≡ true → among (flat_map f ns) n ≡ true
among-flat f [] m n e k = clash-back e
among-flat f (x ∷ ns) m n e k =
    decide (eqb m x)
    (λ q. among-front (f x) (flat_map f ns) n (subst (λ (p : ℕ). among (f p) n ≡ true) (eqb-true m x q) k))
    (λ q. among-back (f x) (flat_map f ns) n (among-flat f ns m n (rw q at e) k))

entry-among : (e : List ℕ × ℕ) (es : List (List ℕ × ℕ)) → has_entry e es ≡ true → among (births_in es) e.1 ≡ true
entry-among e [] there = clash-back there
entry-among e (x ∷ es) there =
    decide (x.1 == e.1 && bytes_eq x.0 e.0)
    (λ q.
    let two = and_parts (x.1 == e.1) (bytes_eq x.0 e.0) q in
    let own : eqb e.1 x.1 ≡ true = eq-eqb e.1 x.1 (sym (eqb-true x.1 e.1 two.0)) in
    rw own refl)
    (λ q. rw (entry-among e es (rw q at there)) (or-true (eqb e.1 x.1)))

-- ---- the parts of a device

named-part : (b : Board) (t : TypeId) (fs : List (List ℕ × TypeId)) (e : List ℕ × ℕ)
    → OneOf (λ (f : List ℕ × TypeId). (f.0 ≡ e.0) × (kind_of b e.1 ≡ Some f.1)) fs
    → list_any (bytes_eq e.0) (map (λ (f : List ℕ × TypeId). f.0) fs) ≡ true
named-part b t [] e one = absurd one
named-part b t (f ∷ fs) e (inl h) = let own : bytes_eq e.0 f.0 ≡ true = (bytes_eq-Decides e.0 f.0).1 (sym h.0) in rw own refl
named-part b t (f ∷ fs) e (inr one) = rw (named-part b t fs e one) (or-true (bytes_eq e.0 f.0))

one-named : (P : List ℕ → Type 0) (name : List ℕ) (es : List (List ℕ × ℕ)) → AllByRecursion (λ (e : List ℕ × ℕ). P e.0) es
    → list_any (bytes_eq name) (ids_in es) ≡ true → P name
one-named P name [] h e = clash-back e
one-named P name (x ∷ es) h e =
    decide (bytes_eq name x.0) (λ q. subst P (sym ((bytes_eq-Decides name x.0).0 q)) h.0) (λ q. one-named P name es h.1 (rw q at e))

module _ (b : Board) (h : IsWhole b) (says : is_describable b ≡ true) where
  ids-distinct : (n : ℕ) (t : TypeId) → kind_of b n ≡ Some t → IsDistinct bytes_eq (ids_in (child_entries b n))
  ids-distinct n t kind =
      let its : Its b n t = its-record b h.order.shape n t kind in
      subst (λ (o : Option Record). IsDistinct bytes_eq (ids_in (filter_map child_entry (option_map_or (λ (r : Record). r.slots) o [])))) (sym its.there)
      (entries-distinct its.of.slots (names-at b (firm b h.order) n its.of its.there))

  -- a device has no more children than its type has parts
  few-parts : (e : List ℕ × ℕ) (k : Stood b e) → length (child_entries b e.1) ≤ length (parts_of k.here.kind)
  few-parts e k =
      let t : TypeId = k.here.kind in
      let its : kind_of b e.1 ≡ Some t = k.here.its in
      let names : List (List ℕ) = map (λ (f : List ℕ × TypeId). f.0) (parts_of t) in
      let all : AllByRecursion (λ (x : List ℕ × ℕ). list_any (bytes_eq x.0) names ≡ true) (child_entries b e.1) =
      all-imply (IsInner b t) (λ (x : List ℕ × ℕ). list_any (bytes_eq x.0) names ≡ true) (λ x one. named-part b t (parts_of t) x one)
      (child_entries b e.1) (inner b h.order e.1 t its (device-no_shelf t k.here.wants)) in
      let few : length (ids_in (child_entries b e.1)) ≤ length names =
      length-le_from_is_member bytes_eq_equiv (ids_in (child_entries b e.1)) names (ids-distinct e.1 t its)
      (λ name on. one-named (λ (x : List ℕ). list_any (bytes_eq x) names ≡ true) name (child_entries b e.1) all on) in
      let ids : length (ids_in (child_entries b e.1)) ≡ length (child_entries b e.1) = length-map (child_entries b e.1) (λ (x : List ℕ × ℕ). x.0) in
      let parts : length names ≡ length (parts_of t) = length-map (parts_of t) (λ (f : List ℕ × TypeId). f.0) in
      omega (arith, few, ids, parts)

  objects-many : (e : List ℕ × ℕ) (k : Stood b e) → suc (length (children_of b e.1)) ≤ objects_of (device_as b e)
  objects-many e k =
      let long : length (child_entries b e.1) ≡ length (children_of b e.1) =
      sym (length-map (child_entries b e.1) (λ (x : List ℕ × ℕ). x.1)) ∙ ap length (entries-children (slots_at b e.1)) in
      let is : objects_of (device_as b e) ≡ suc (length (parts_of k.here.kind)) =
      ap (λ (n : List ℕ). option_map_or (λ (r : TypeInfo). objects_in r.id) (type_named n) 0) (driver-said b h says e k) ∙ objects-by_type k.here.kind in
      omega (arith, is, long, few-parts e k)

  abbrev parts_below : List ℕ → List ℕ
  parts_below ns = flat_map (children_of b) ns

  devices-many : (es : List (List ℕ × ℕ)) → AllByRecursion (Stood b) es
      → length es + length (parts_below (births_in es)) ≤ sum_by objects_of (map (device_as b) es)
  devices-many [] k = omega arith
  devices-many (e ∷ es) k =
      let many : suc (length (children_of b e.1)) ≤ objects_of (device_as b e) = objects-many e k.0 in
      let rest : length es + length (parts_below (births_in es)) ≤ sum_by objects_of (map (device_as b) es) = devices-many es k.1 in
      let more : sum_by objects_of (map (device_as b) (e ∷ es)) ≡ objects_of (device_as b e) + sum_by objects_of (map (device_as b) es) =
      sum_by-cons objects_of (device_as b e) (map (device_as b) es) in
      let long : length (parts_below (births_in (e ∷ es))) ≡ length (children_of b e.1) + length (parts_below (births_in es)) =
      length-append (children_of b e.1) (parts_below (births_in es)) in
      omega (arith, many, rest, more, long)

  -- ---- each object is one that the description says

  abbrev of_root : List (List ℕ × ℕ)
  of_root = (codes "machine", MACHINE_BIRTH) ∷ (codes "objects", OBJECTS_BIRTH) ∷ []

  abbrev of_machine : List (List ℕ × ℕ)
  of_machine =
      (codes "peripheral", PERIPHERAL_BIRTH) ∷ (codes "peripheral-anon", ANONYMOUS_BIRTH) ∷ (codes "sysclk", SYSTEM_CLOCK_BIRTH)
      ∷ (codes "root.0", ROOT_BUS_BIRTH)
      ∷ (codes "mem.0", MEMORY_BUS_BIRTH)
      ∷ []

  abbrev firsts : List ℕ
  firsts =
      ROOT_BIRTH ∷ MACHINE_BIRTH ∷ PERIPHERAL_BIRTH ∷ ANONYMOUS_BIRTH ∷ SYSTEM_CLOCK_BIRTH ∷ ROOT_BUS_BIRTH ∷ MEMORY_BUS_BIRTH ∷ OBJECTS_BIRTH ∷ []

  abbrev users_born : List ℕ
  users_born = births_in (child_entries b OBJECTS_BIRTH)

  abbrev devices_born : List ℕ
  devices_born = births_in (child_entries b PERIPHERAL_BIRTH)

  abbrev said : List ℕ
  said = firsts ++ (users_born ++ (devices_born ++ parts_below devices_born))

  first-said : (n : ℕ) → among firsts n ≡ true → among said n ≡ true
  first-said n e = among-front firsts (users_born ++ (devices_born ++ parts_below devices_born)) n e

  user-said : (n : ℕ) → among users_born n ≡ true → among said n ≡ true
  user-said n e =
      among-back firsts (users_born ++ (devices_born ++ parts_below devices_born)) n
      (among-front users_born (devices_born ++ parts_below devices_born) n e)

  device-said : (n : ℕ) → among devices_born n ≡ true → among said n ≡ true
  device-said n e =
      among-back firsts (users_born ++ (devices_born ++ parts_below devices_born)) n
      (among-back users_born (devices_born ++ parts_below devices_born) n (among-front devices_born (parts_below devices_born) n e))

  part-said : (n : ℕ) → among (parts_below devices_born) n ≡ true → among said n ≡ true
  part-said n e =
      among-back firsts (users_born ++ (devices_born ++ parts_below devices_born)) n
      (among-back users_born (devices_born ++ parts_below devices_born) n (among-back devices_born (parts_below devices_born) n e))

  root-first : (n : ℕ) → among (births_in of_root) n ≡ true → among firsts n ≡ true
  root-first n e =
      decide (eqb n MACHINE_BIRTH) (λ q. subst (λ (m : ℕ). among firsts m ≡ true) (sym (eqb-true n MACHINE_BIRTH q)) refl)
      (λ q. decide (eqb n OBJECTS_BIRTH) (λ r. subst (λ (m : ℕ). among firsts m ≡ true) (sym (eqb-true n OBJECTS_BIRTH r)) refl)
      (λ r. clash-back (rw (q, r) at e)))

  machine-first : (n : ℕ) → among (births_in of_machine) n ≡ true → among firsts n ≡ true
  machine-first n e =
      let more : among ((PERIPHERAL_BIRTH ∷ ANONYMOUS_BIRTH ∷ SYSTEM_CLOCK_BIRTH ∷ ROOT_BUS_BIRTH ∷ MEMORY_BUS_BIRTH ∷ []) ++ OBJECTS_BIRTH ∷ []) n ≡ true =
      among-front (PERIPHERAL_BIRTH ∷ ANONYMOUS_BIRTH ∷ SYSTEM_CLOCK_BIRTH ∷ ROOT_BUS_BIRTH ∷ MEMORY_BUS_BIRTH ∷ []) (OBJECTS_BIRTH ∷ []) n e in
      among-back (ROOT_BIRTH ∷ MACHINE_BIRTH ∷ [])
      ((PERIPHERAL_BIRTH ∷ ANONYMOUS_BIRTH ∷ SYSTEM_CLOCK_BIRTH ∷ ROOT_BUS_BIRTH ∷ MEMORY_BUS_BIRTH ∷ []) ++ OBJECTS_BIRTH ∷ []) n more

  module _ (n : ℕ) (name : List ℕ) where
    below-shelf : (p : ℕ) (k : TypeId) → kind_of b p ≡ Some k → is_shelf k ≡ true → has_entry (name, n) (child_entries b p) ≡ true → among said n ≡ true
    below-shelf p Machine kind e there =
        let on : has_entry (name, n) (child_entries b MACHINE_BIRTH) ≡ true =
        subst (λ (q : ℕ). has_entry (name, n) (child_entries b q) ≡ true) (h.order.owners.lone p kind) there in
        first-said n (machine-first n (entry-among (name, n) of_machine (sym (ap (has_entry (name, n)) (machine-entries b h.order)) ∙ on)))
    below-shelf p Container kind e there = go (h.order.owners.shelves p kind)
      where
        on : (q : ℕ) → eqb p q ≡ true → has_entry (name, n) (child_entries b q) ≡ true
        on q same = subst (λ (m : ℕ). has_entry (name, n) (child_entries b m) ≡ true) (eqb-true p q same) there

        go : among containers p ≡ true → among said n ≡ true
        go k =
            decide (eqb p ROOT_BIRTH)
            (λ q. first-said n (root-first n (entry-among (name, n) of_root (sym (ap (has_entry (name, n)) (root-entries b h.order)) ∙ on ROOT_BIRTH q))))
            (λ q. decide (eqb p PERIPHERAL_BIRTH)
            (λ r. device-said n (entry-among (name, n) (child_entries b PERIPHERAL_BIRTH) (on PERIPHERAL_BIRTH r)))
            (λ r. decide (eqb p ANONYMOUS_BIRTH)
            (λ v. clash-back (sym (ap (has_entry (name, n)) (none-anonymous b h.order says)) ∙ on ANONYMOUS_BIRTH v))
            (λ v. decide (eqb p OBJECTS_BIRTH)
            (λ w. user-said n (entry-among (name, n) (child_entries b OBJECTS_BIRTH) (on OBJECTS_BIRTH w)))
            (λ w. clash-back (rw (q, r, v, w) at k)))))
    below-shelf p k kind e there = clash-back e

    below-device : (p : ℕ) (k : TypeId) → kind_of b p ≡ Some k → is_shelf k ≡ false → has_entry (name, n) (child_entries b p) ≡ true → among said n ≡ true
    below-device p k kind e there = by (part-device k)
      where
        one : IsInner b k (name, n)
        one = all-entry (IsInner b k) (name, n) (child_entries b p) (inner b h.order p k kind e) there

        by : (parts_of k ≡ []) ⊎ (is_a k (codes "device") ≡ true) → among said n ≡ true
        by (inl none) = absurd (subst (OneOf (λ (f : List ℕ × TypeId). (f.0 ≡ name) × (kind_of b n ≡ Some f.1))) none one)
        by (inr is) =
            let (id, own) = device-entry b h.order says p k kind e is in
            let device : among devices_born p ≡ true = entry-among (id, p) (child_entries b PERIPHERAL_BIRTH) own in
            let child_is : among (children_of b p) n ≡ true =
            subst (λ (ns : List ℕ). among ns n ≡ true) (entries-children (slots_at b p)) (entry-among (name, n) (child_entries b p) there) in
            part-said n (among-flat (children_of b) devices_born p n device child_is)

  born-said : (n : ℕ) → is_live b n ≡ true → among said n ≡ true
  born-said n live =
      decide (n == ROOT_BIRTH) (λ q. subst (λ (m : ℕ). among said m ≡ true) (sym (eqb-true n ROOT_BIRTH q)) refl)
      (λ q.
      let (u, place) = settled b h.order says n live q in
      by u (place-there b h.order n u place) (kind_of b u.0) refl)
    where
      no-entries : (u : ℕ × List ℕ) → kind_of b u.0 ≡ None → has_entry (u.1, n) (child_entries b u.0) ≡ false
      no-entries u r = bare (record_of b u.0) refl
        where
          bare : (o : Option Record) → record_of b u.0 ≡ o → has_entry (u.1, n) (child_entries b u.0) ≡ false
          bare None v = rw v refl
          bare (Some x) v = absurd (let clash : Some x.kind ≡ None = sym (ap (option_map (λ (y : Record). y.kind)) v) ∙ r in cc)

      by : (u : ℕ × List ℕ) → has_entry (u.1, n) (child_entries b u.0) ≡ true → (o : Option TypeId) → kind_of b u.0 ≡ o → among said n ≡ true
      by u on None r = clash-back (sym (no-entries u r) ∙ on)
      by u on (Some k) r = decide (is_shelf k) (λ v. below-shelf n u.1 u.0 k r v on) (λ v. below-device n u.1 u.0 k r v on)

  -- there are no more
  pub records-said : length b.records ≤ OPENING_OBJECTS + length (description b).objects + sum_by objects_of (description b).devices
  records-said =
      let most : length (births b) ≤ length said =
      length-le_from_is_member nat_eq_equiv (births b) said (rises-distinct (births b) (firm b h.order).rising)
      (λ n e. born-said n (live-among b n ∙ e)) in
      let records : length (births b) ≡ length b.records = length-map b.records (λ (r : Record). r.birth) in
      let users_long : length users_born ≡ length (child_entries b OBJECTS_BIRTH) = length-map (child_entries b OBJECTS_BIRTH) (λ (e : List ℕ × ℕ). e.1) in
      let devices_long : length devices_born ≡ length (child_entries b PERIPHERAL_BIRTH) =
      length-map (child_entries b PERIPHERAL_BIRTH) (λ (e : List ℕ × ℕ). e.1) in
      let objects_long : length (description b).objects ≡ length (child_entries b OBJECTS_BIRTH) =
      ap length (objects-said b h.order) ∙ length-map (child_entries b OBJECTS_BIRTH) (object_as b) in
      let devices_sum : sum_by objects_of (description b).devices ≡ sum_by objects_of (map (device_as b) (child_entries b PERIPHERAL_BIRTH)) =
      ap (sum_by objects_of) (devices-said b h.order) in
      let many = devices-many (child_entries b PERIPHERAL_BIRTH) (stood-all b h.order says) in
      let third : length (devices_born ++ parts_below devices_born) ≡ length devices_born + length (parts_below devices_born) =
      length-append devices_born (parts_below devices_born) in
      let second : length (users_born ++ (devices_born ++ parts_below devices_born)) ≡ length users_born + length (devices_born ++ parts_below devices_born) =
      length-append users_born (devices_born ++ parts_below devices_born) in
      let first : length said ≡ 8 + length (users_born ++ (devices_born ++ parts_below devices_born)) =
      length-append firsts (users_born ++ (devices_born ++ parts_below devices_born)) in
      omega (arith, most, records, users_long, devices_long, objects_long, devices_sum, many, third, second, first)
