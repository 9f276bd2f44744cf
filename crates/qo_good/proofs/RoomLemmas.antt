-- The objects of a description are no more than those of the board.
use Rattle.std.proofs.Common.{◌≡◌, ◌⊎◌, inl, inr, refl, ap, sym, subst, ◌∙◌, rules, ℕ, suc, ◌+◌, ◌<◌, ◌≤◌, Bool, true, false, ◌==◌, ◌&&◌, ◌||◌, eqb, List, [], ◌∷◌, ◌++◌, length, map, sum_by, Option, Some, None, is_some, option_map, codes, arith}
use Rattle.qo_model.proofs.Common.{AllByRecursion, IsDistinct, nat_eq, nat_eq_equiv, option_map_or, bytes_eq, type_name, ANONYMOUS_BIRTH, MACHINE_BIRTH, MEMORY_BUS_BIRTH, OBJECTS_BIRTH, PERIPHERAL_BIRTH, ROOT_BIRTH, ROOT_BUS_BIRTH, SYSTEM_CLOCK_BIRTH, TypeId, MemDimm, SlotBridge, SlotTimer, SlotUart, Board, Record, is_live, kind_of, record_of, slots_at, among, births, children_of, objects_in, place_of, is_a, types}
use Rattle.std.specs.List.{flat_map}
use Rattle.std.proofs.lemmas.Bool.{and_parts, ne_eqb}
use Rattle.std.proofs.lemmas.List.{length-append, length-map}
use Rattle.std.proofs.lemmas.List.Sums.{sum_by-cons}
use Rattle.std.proofs.lemmas.Map.Made.{length-le_from_is_member}
use Rattle.std.proofs.lemmas.Option.{same_Some}
use Rattle.std.proofs.lemmas.Slice.Eq.{bytes_eq-Decides}
use Rattle.qo_values.proofs.EachLemmas.{each}
use Rattle.qo_values.proofs.ListLemmas.{all-imply}
use Rattle.qo_values.specs.declared.births.TheConstants.{OPENING_OBJECTS}
use Rattle.qo_values.specs.declared.limits.TheConstants.{LIVE_OBJECTS_MAX}
use Rattle.qo_model.proofs.AmongLemmas.{among-all, among-apart}
use Rattle.qo_model.proofs.StepLemmas.{live-among}
use Rattle.qo_model.specs.SoundGraph.{Rises}
use Rattle.qo_model.specs.Types.{TypeInfo, type_named}
use Rattle.qo_save.specs.Described.{description, is_describable}
use Rattle.qo_sound.proofs.TestLemmas.{clash, clash-back, decide}
use Rattle.qo_sound_devices.specs.SoundPlaces.{child_entries, has_entry}
use Rattle.qo_sound_devices.proofs.AttachmentLemmas.{parent-is}
use Rattle.qo_sound_devices.proofs.PlacesLemmas.{child-live}
use Rattle.qo_good.specs.Good.{objects_of}
use Rattle.qo_good.specs.GoodBoards.{IsWhole}
use Rattle.qo_good.proofs.BusLemmas.{ClockAt, clock-at, listed-entry, own-bus, Stood, stood-all}
use Rattle.qo_good.proofs.ClaimLemmas.{device-four}
use Rattle.qo_good.proofs.ItemLemmas.{all-append, all-here, births_in}
use Rattle.qo_good.proofs.LayoutLemmas.{driver-said}
use Rattle.qo_good.proofs.PartLemmas.{anonymous-kind, device_as, devices-said, machine-kind, memory_bus-kind, object_as, objects-kind, objects-said, parts_of, peripheral-kind, root_bus-kind, root-kind, system-kind}
use Rattle.qo_good.proofs.PlaceLemmas.{apart, entries-children, firm, machine-entries, rises, root-entries}

-- ---- lists

pub rises-distinct : (ns : List ℕ) → Rises ns → IsDistinct nat_eq ns
unfolding IsDistinct
rises-distinct [] h = tt
rises-distinct (n ∷ ns) h = (all-imply (λ m. n < m) (λ m. nat_eq n m ≡ false) (λ m low. ne_eqb n m (λ is. omega arith)) ns h.0, rises-distinct ns h.1)

pub distinct-append : (xs ys : List ℕ) → IsDistinct nat_eq xs → IsDistinct nat_eq ys → ((n : ℕ) → among xs n ≡ true → among ys n ≡ true → ⊥)
    → IsDistinct nat_eq (xs ++ ys)
unfolding IsDistinct
distinct-append [] ys d e apart = e
distinct-append (x ∷ xs) ys d e apart =
    let own : eqb x x ≡ true = (nat_eq_equiv).refl x in
    let here : among (x ∷ xs) x ≡ true = rw own refl in
    let away : among ys x ≡ false = decide (among ys x) (λ q. absurd (apart x here q)) (λ q. q) in (
      all-append (λ y. nat_eq x y ≡ false) xs ys d.0 (among-apart x ys away),
      distinct-append xs ys d.1 e (λ n p q. apart n (later (eqb n x) (among xs n) p) q),
    )
  where
    later : (t u : Bool) → u ≡ true → (t || u) ≡ true
    later true u e = refl
    later false u e = e

map-all : {X : Type 0} (P : ℕ → Type 0) (f : X → ℕ) (xs : List X) → AllByRecursion (λ (x : X). P (f x)) xs → AllByRecursion P (map f xs)
map-all P f [] h = tt
map-all P f (x ∷ xs) h = (h.0, map-all P f xs h.1)

all-flat : (P : ℕ → Type 0) (f : ℕ → List ℕ) (ns : List ℕ) → AllByRecursion (λ n. AllByRecursion P (f n)) ns → AllByRecursion P (flat_map f ns)
all-flat P f [] h = tt
all-flat P f (n ∷ ns) h = all-append P (f n) (flat_map f ns) h.0 (all-flat P f ns h.1)

one-long : (e : List ℕ × ℕ) (es : List (List ℕ × ℕ)) → has_entry e es ≡ true → 1 ≤ length es
one-long e [] there = clash-back there
one-long e (x ∷ es) there = omega arith

two-long : (e f : List ℕ × ℕ) (es : List (List ℕ × ℕ)) → bytes_eq e.0 f.0 ≡ false → has_entry e es ≡ true → has_entry f es ≡ true → 2 ≤ length es
two-long e f [] other there also = clash-back there
two-long e f (x ∷ []) other there also =
    let first : x.0 ≡ e.0 = own e there in
    let second : x.0 ≡ f.0 = own f also in
    clash (sym ((bytes_eq-Decides e.0 f.0).1 (sym first ∙ second)) ∙ other)
  where
    own : (y : List ℕ × ℕ) → has_entry y (x ∷ []) ≡ true → x.0 ≡ y.0
    own y k =
        decide (x.1 == y.1 && bytes_eq x.0 y.0) (λ q. (bytes_eq-Decides x.0 y.0).0 (and_parts (x.1 == y.1) (bytes_eq x.0 y.0) q).1)
        (λ q. clash-back (rw q at k))
two-long e f (x ∷ y ∷ es) other there also = omega arith

-- ---- how many objects a device is

pub objects-by_type : (t : TypeId) → option_map_or (λ (r : TypeInfo). objects_in r.id) (type_named (type_name t)) 0 ≡ suc (length (parts_of t))
unfolding types
objects-by_type = each (λ (t : TypeId). option_map_or (λ (r : TypeInfo). objects_in r.id) (type_named (type_name t)) 0 ≡ suc (length (parts_of t))) (search rules)

slot-devices : (is_a SlotUart (codes "slot-device") ≡ true) × (is_a SlotTimer (codes "slot-device") ≡ true) × (is_a SlotBridge (codes "slot-device") ≡ true)
unfolding types
slot-devices = (refl, refl, refl)

module _ (b : Board) (h : IsWhole b) (says : is_describable b ≡ true) where
  parts-long : (e : List ℕ × ℕ) (k : Stood b e) → length (parts_of k.here.kind) ≤ length (child_entries b e.1)
  parts-long e k = by (device-four k.here.kind k.here.concrete k.here.wants)
    where
      turned : (t : TypeId) → k.here.kind ≡ t → length (parts_of t) ≤ length (child_entries b e.1)
          → length (parts_of k.here.kind) ≤ length (child_entries b e.1)
      turned t is low = subst (λ (u : TypeId). length (parts_of u) ≤ length (child_entries b e.1)) (sym is) low

      clocked : is_a k.here.kind (codes "slot-device") ≡ true → (c : ℕ) × (has_entry (codes "clk", c) (child_entries b e.1) ≡ true)
      clocked is = let c : ClockAt b e = clock-at b h.order says e k is in (c.clock, c.there)

      by : (k.here.kind ≡ SlotUart) ⊎ ((k.here.kind ≡ MemDimm) ⊎ ((k.here.kind ≡ SlotTimer) ⊎ (k.here.kind ≡ SlotBridge)))
          → length (parts_of k.here.kind) ≤ length (child_entries b e.1)
      by (inl is) =
          let (c, on) = clocked (ap (λ (t : TypeId). is_a t (codes "slot-device")) is ∙ slot-devices.0) in
          turned SlotUart is (one-long (codes "clk", c) (child_entries b e.1) on)
      by (inr (inl is)) = turned MemDimm is (omega arith)
      by (inr (inr (inl is))) =
          let (c, on) = clocked (ap (λ (t : TypeId). is_a t (codes "slot-device")) is ∙ slot-devices.1) in
          turned SlotTimer is (one-long (codes "clk", c) (child_entries b e.1) on)
      by (inr (inr (inr is))) =
          let (c, on) = clocked (ap (λ (t : TypeId). is_a t (codes "slot-device")) is ∙ slot-devices.2) in
          let (m, also) = own-bus b h.order says e k is in
          turned SlotBridge is (two-long (codes "clk", c) (codes "bus.0", m) (child_entries b e.1) refl on also)

  objects-few : (e : List ℕ × ℕ) (k : Stood b e) → objects_of (device_as b e) ≤ suc (length (children_of b e.1))
  objects-few e k =
      let long : length (child_entries b e.1) ≡ length (children_of b e.1) =
      sym (length-map (child_entries b e.1) (λ (x : List ℕ × ℕ). x.1)) ∙ ap length (entries-children (slots_at b e.1)) in
      let is : objects_of (device_as b e) ≡ suc (length (parts_of k.here.kind)) =
      ap (λ (n : List ℕ). option_map_or (λ (r : TypeInfo). objects_in r.id) (type_named n) 0) (driver-said b h says e k) ∙ objects-by_type k.here.kind in
      omega (arith, is, long, parts-long e k)

  abbrev parts_below : List ℕ → List ℕ
  parts_below ns = flat_map (children_of b) ns

  devices-few : (es : List (List ℕ × ℕ)) → AllByRecursion (Stood b) es
      → sum_by objects_of (map (device_as b) es) ≤ length es + length (parts_below (births_in es))
  devices-few [] k = omega (arith, sum_by-nil)
    where
      sum_by-nil : sum_by objects_of [] ≡ 0
      sum_by-nil = refl
  devices-few (e ∷ es) k =
      let few : objects_of (device_as b e) ≤ suc (length (children_of b e.1)) = objects-few e k.0 in
      let rest : sum_by objects_of (map (device_as b) es) ≤ length es + length (parts_below (births_in es)) = devices-few es k.1 in
      let more : sum_by objects_of (map (device_as b) (e ∷ es)) ≡ objects_of (device_as b e) + sum_by objects_of (map (device_as b) es) =
      sum_by-cons objects_of (device_as b e) (map (device_as b) es) in
      let long : length (parts_below (births_in (e ∷ es))) ≡ length (children_of b e.1) + length (parts_below (births_in es)) =
      length-append (children_of b e.1) (parts_below (births_in es)) in
      omega (arith, few, rest, more, long)

  -- ---- whose child an object is

  abbrev above : ℕ → Option ℕ
  above n = option_map (λ (u : ℕ × List ℕ). u.0) (place_of b n)

  entries-above : (p : ℕ) → AllByRecursion (λ n. above n ≡ Some p) (births_in (child_entries b p))
  entries-above p =
      map-all (λ n. above n ≡ Some p) (λ (e : List ℕ × ℕ). e.1) (child_entries b p)
      (all-imply (λ e. has_entry e (child_entries b p) ≡ true) (λ (e : List ℕ × ℕ). above e.1 ≡ Some p)
      (λ e there. parent-is b (firm b h.order) p e.1 (listed-entry e (child_entries b p) there)) (child_entries b p) (all-here (child_entries b p)))

  children-above : (p : ℕ) → AllByRecursion (λ n. above n ≡ Some p) (children_of b p)
  children-above p = subst (AllByRecursion (λ n. above n ≡ Some p)) (entries-children (slots_at b p)) (entries-above p)

  entries-live : (p : ℕ) → AllByRecursion (λ n. is_live b n ≡ true) (births_in (child_entries b p))
  entries-live p =
      map-all (λ n. is_live b n ≡ true) (λ (e : List ℕ × ℕ). e.1) (child_entries b p)
      (all-imply (λ e. has_entry e (child_entries b p) ≡ true) (λ (e : List ℕ × ℕ). is_live b e.1 ≡ true)
      (λ e there. child-live b (firm b h.order) p e.1 (listed-entry e (child_entries b p) there)) (child_entries b p) (all-here (child_entries b p)))

  children-live : (p : ℕ) → AllByRecursion (λ n. is_live b n ≡ true) (children_of b p)
  children-live p = subst (AllByRecursion (λ n. is_live b n ≡ true)) (entries-children (slots_at b p)) (entries-live p)

  children-distinct : (p : ℕ) → IsDistinct nat_eq (children_of b p)
  children-distinct p = rises-distinct (children_of b p) (h.order.order.children p).1

  -- an object below one of some
  abbrev IsBelow : (ℕ → Type 0) → ℕ → Type 0
  IsBelow P n = (c : ℕ) × (P c × (above n ≡ Some c))

  parts-above : (P : ℕ → Type 0) (ns : List ℕ) → AllByRecursion P ns → AllByRecursion (IsBelow P) (parts_below ns)
  parts-above P ns all =
      all-flat (IsBelow P) (children_of b) ns
      (all-imply P (λ n. AllByRecursion (IsBelow P) (children_of b n))
      (λ n p. all-imply (λ m. above m ≡ Some n) (IsBelow P) (λ m is. (n, (p, is))) (children_of b n) (children-above n)) ns all)

  parts-distinct : (ns : List ℕ) → Rises ns → IsDistinct nat_eq (parts_below ns)
  unfolding IsDistinct
  parts-distinct [] r = tt
  parts-distinct (n ∷ ns) r =
      distinct-append (children_of b n) (parts_below ns) (children-distinct n) (parts-distinct ns r.1) (λ m p q.
      let own : above m ≡ Some n = among-all (λ x. above x ≡ Some n) (children_of b n) (children-above n) m p in
      let (c, (high, is)) = among-all (IsBelow (λ c. n < c)) (parts_below ns) (parts-above (λ c. n < c) ns r.0) m q in
      let same : n ≡ c = same_Some n c (sym own ∙ is) in
      let low : n < c = high in
      omega arith)

  -- ---- all of them

  abbrev firsts : List ℕ
  firsts =
      ROOT_BIRTH ∷ MACHINE_BIRTH ∷ PERIPHERAL_BIRTH ∷ ANONYMOUS_BIRTH ∷ SYSTEM_CLOCK_BIRTH ∷ ROOT_BUS_BIRTH ∷ MEMORY_BUS_BIRTH ∷ OBJECTS_BIRTH ∷ []

  abbrev users_born : List ℕ
  users_born = births_in (child_entries b OBJECTS_BIRTH)

  abbrev devices_born : List ℕ
  devices_born = births_in (child_entries b PERIPHERAL_BIRTH)

  kind-live : (n : ℕ) (t : TypeId) → kind_of b n ≡ Some t → is_live b n ≡ true
  kind-live n t its = go (record_of b n) refl
    where
      go : (o : Option Record) → record_of b n ≡ o → is_live b n ≡ true
      go None q =
          clash-back (let none : is_some (kind_of b n) ≡ false = ap (λ (o : Option Record). is_some (option_map (λ (r : Record). r.kind) o)) q in
          sym none ∙ ap is_some its)
      go (Some r) q = ap is_some q

  firsts-live : AllByRecursion (λ n. is_live b n ≡ true) firsts
  firsts-live = (
    kind-live ROOT_BIRTH _ (root-kind b h.order),
    (
      kind-live MACHINE_BIRTH _ (machine-kind b h.order),
      (
        kind-live PERIPHERAL_BIRTH _ (peripheral-kind b h.order),
        (
          kind-live ANONYMOUS_BIRTH _ (anonymous-kind b h.order),
          (
            kind-live SYSTEM_CLOCK_BIRTH _ (system-kind b h.order),
            (
              kind-live ROOT_BUS_BIRTH _ (root_bus-kind b h.order),
              (kind-live MEMORY_BUS_BIRTH _ (memory_bus-kind b h.order), (kind-live OBJECTS_BIRTH _ (objects-kind b h.order), tt)),
            ),
          ),
        ),
      ),
    ),
  )

  -- they stand at the root or below it or the machine
  abbrev IsFirst : ℕ → Type 0
  IsFirst n = (n ≡ ROOT_BIRTH) ⊎ ((above n ≡ Some ROOT_BIRTH) ⊎ (above n ≡ Some MACHINE_BIRTH))

  at-root : AllByRecursion (λ n. above n ≡ Some ROOT_BIRTH) (MACHINE_BIRTH ∷ OBJECTS_BIRTH ∷ [])
  at-root = subst (λ (es : List (List ℕ × ℕ)). AllByRecursion (λ n. above n ≡ Some ROOT_BIRTH) (births_in es)) (root-entries b h.order) (entries-above ROOT_BIRTH)

  at-machine : AllByRecursion (λ n. above n ≡ Some MACHINE_BIRTH)
      (PERIPHERAL_BIRTH ∷ ANONYMOUS_BIRTH ∷ SYSTEM_CLOCK_BIRTH ∷ ROOT_BUS_BIRTH ∷ MEMORY_BUS_BIRTH ∷ [])
  at-machine =
      subst (λ (es : List (List ℕ × ℕ)). AllByRecursion (λ n. above n ≡ Some MACHINE_BIRTH) (births_in es)) (machine-entries b h.order)
      (entries-above MACHINE_BIRTH)

  firsts-above : AllByRecursion IsFirst firsts
  firsts-above = (
    inl refl,
    (
      inr (inl at-root.0),
      (
        inr (inr at-machine.0),
        (
          inr (inr at-machine.1.0),
          (inr (inr at-machine.1.1.0), (inr (inr at-machine.1.1.1.0), (inr (inr at-machine.1.1.1.1.0), (inr (inl at-root.1.0), tt)))),
        ),
      ),
    ),
  )

  -- others stand below another object
  abbrev IsOther : ℕ → Type 0
  IsOther n = ((n == ROOT_BIRTH) ≡ false) × (IsBelow (λ c. MACHINE_BIRTH < c) n)

  first-other : (n : ℕ) → IsFirst n → IsOther n → ⊥
  first-other n (inl root) (away, k) = clash (sym (ap (λ (m : ℕ). m == ROOT_BIRTH) root) ∙ away)
  first-other n (inr (inl at)) (away, (c, (high, is))) =
      let same : ROOT_BIRTH ≡ c = same_Some ROOT_BIRTH c (sym at ∙ is) in
      let low : MACHINE_BIRTH < c = high in
      omega arith
  first-other n (inr (inr at)) (away, (c, (high, is))) =
      let same : MACHINE_BIRTH ≡ c = same_Some MACHINE_BIRTH c (sym at ∙ is) in
      let low : MACHINE_BIRTH < c = high in
      omega arith

  others-in : (p : ℕ) → MACHINE_BIRTH < p → AllByRecursion IsOther (births_in (child_entries b p))
  others-in p high =
      map-all IsOther (λ (e : List ℕ × ℕ). e.1) (child_entries b p)
      (all-imply (λ e. has_entry e (child_entries b p) ≡ true) (λ (e : List ℕ × ℕ). IsOther e.1)
      (λ e there. (
        apart b h.order p e (omega arith) there,
        (p, (high, parent-is b (firm b h.order) p e.1 (listed-entry e (child_entries b p) there))),
      ))
      (child_entries b p) (all-here (child_entries b p)))

  others-below : (p : ℕ) → MACHINE_BIRTH < p → AllByRecursion IsOther (children_of b p)
  others-below p high = subst (AllByRecursion IsOther) (entries-children (slots_at b p)) (others-in p high)

  devices-young : AllByRecursion (λ n. PERIPHERAL_BIRTH < n) devices_born
  devices-young = (rises b h.order PERIPHERAL_BIRTH).0

  others-parts : AllByRecursion IsOther (parts_below devices_born)
  others-parts =
      all-flat IsOther (children_of b) devices_born
      (all-imply (λ n. PERIPHERAL_BIRTH < n) (λ n. AllByRecursion IsOther (children_of b n)) (λ n young. others-below n (omega arith)) devices_born devices-young)

  -- no device's part stands in a container
  parts-inner : AllByRecursion (IsBelow (λ c. among devices_born c ≡ true)) (parts_below devices_born)
  parts-inner = parts-above (λ c. among devices_born c ≡ true) devices_born (all-among devices_born)
    where
      all-among : (ns : List ℕ) → AllByRecursion (λ c. among ns c ≡ true) ns
      all-among [] = tt
      all-among (n ∷ ns) =
          let own : eqb n n ≡ true = (nat_eq_equiv).refl n in
          (rw own refl, all-imply (λ c. among ns c ≡ true) (λ c. among (n ∷ ns) c ≡ true) (λ c e. later (eqb c n) (among ns c) e) ns (all-among ns))
        where
          later : (t u : Bool) → u ≡ true → (t || u) ≡ true
          later true u e = refl
          later false u e = e

  -- no device is a container
  device-no_place : (n : ℕ) → among devices_born n ≡ true → (p : ℕ) → (above p ≡ Some ROOT_BIRTH) ⊎ (above p ≡ Some MACHINE_BIRTH) → n ≡ p → ⊥
  device-no_place n e p at same = go at
    where
      own : above n ≡ Some PERIPHERAL_BIRTH
      own = among-all (λ x. above x ≡ Some PERIPHERAL_BIRTH) devices_born (entries-above PERIPHERAL_BIRTH) n e

      go : (above p ≡ Some ROOT_BIRTH) ⊎ (above p ≡ Some MACHINE_BIRTH) → ⊥
      go (inl is) =
          let clash : PERIPHERAL_BIRTH ≡ ROOT_BIRTH = same_Some PERIPHERAL_BIRTH ROOT_BIRTH (sym own ∙ ap above same ∙ is) in omega arith
      go (inr is) =
          let clash : PERIPHERAL_BIRTH ≡ MACHINE_BIRTH = same_Some PERIPHERAL_BIRTH MACHINE_BIRTH (sym own ∙ ap above same ∙ is) in omega arith

  apart-below : (p q : ℕ) → (p ≡ q → ⊥) → (xs ys : List ℕ) → AllByRecursion (λ n. above n ≡ Some p) xs → AllByRecursion (λ n. above n ≡ Some q) ys
      → (n : ℕ) → among xs n ≡ true → among ys n ≡ true → ⊥
  apart-below p q differ xs ys all other n e f =
      differ (same_Some p q (sym (among-all (λ x. above x ≡ Some p) xs all n e) ∙ among-all (λ x. above x ≡ Some q) ys other n f))

  others-all : AllByRecursion IsOther (users_born ++ (devices_born ++ parts_below devices_born))
  others-all =
      all-append IsOther users_born (devices_born ++ parts_below devices_born) (others-in OBJECTS_BIRTH (omega arith))
      (all-append IsOther devices_born (parts_below devices_born) (others-in PERIPHERAL_BIRTH (omega arith)) others-parts)

  inner-apart : (p : ℕ) → (above p ≡ Some ROOT_BIRTH) ⊎ (above p ≡ Some MACHINE_BIRTH) → (xs : List ℕ) → AllByRecursion (λ n. above n ≡ Some p) xs → (n : ℕ)
      → among xs n ≡ true → among (parts_below devices_born) n ≡ true → ⊥
  inner-apart p at xs all n e f =
      let (c, (device, is)) = among-all (IsBelow (λ c. among devices_born c ≡ true)) (parts_below devices_born) parts-inner n f in
      device-no_place c device p at (same_Some c p (sym is ∙ among-all (λ x. above x ≡ Some p) xs all n e))

  firsts-distinct : IsDistinct nat_eq firsts
  unfolding IsDistinct
  firsts-distinct = search rules

  born-distinct : IsDistinct nat_eq (firsts ++ (users_born ++ (devices_born ++ parts_below devices_born)))
  born-distinct =
      distinct-append firsts (users_born ++ (devices_born ++ parts_below devices_born)) firsts-distinct
      (distinct-append users_born (devices_born ++ parts_below devices_born) (rises-distinct users_born (rises b h.order OBJECTS_BIRTH).1)
      (distinct-append devices_born (parts_below devices_born) (rises-distinct devices_born (rises b h.order PERIPHERAL_BIRTH).1)
      (parts-distinct devices_born (rises b h.order PERIPHERAL_BIRTH).1)
      (inner-apart PERIPHERAL_BIRTH (inr at-machine.0) devices_born (entries-above PERIPHERAL_BIRTH)))
      (λ n e f. two n e (either devices_born (parts_below devices_born) n f)))
      (λ n e f. first-other n (among-all IsFirst firsts firsts-above n e) (among-all IsOther (users_born ++ (devices_born ++ parts_below devices_born)) others-all n f))
    where
      either : (xs ys : List ℕ) (n : ℕ) → among (xs ++ ys) n ≡ true → (among xs n ≡ true) ⊎ (among ys n ≡ true)
      either [] ys n e = inr e
      either (x ∷ xs) ys n e =
          decide (eqb n x) (λ q. inl (rw q refl)) (λ q. more q (either xs ys n (rw q at e)))
        where
          more : eqb n x ≡ false → (among xs n ≡ true) ⊎ (among ys n ≡ true) → (among (x ∷ xs) n ≡ true) ⊎ (among ys n ≡ true)
          more q (inl k) = inl (rw (q, k) refl)
          more q (inr k) = inr k

      two : (n : ℕ) → among users_born n ≡ true → (among devices_born n ≡ true) ⊎ (among (parts_below devices_born) n ≡ true) → ⊥
      two n e (inl f) =
          apart-below OBJECTS_BIRTH PERIPHERAL_BIRTH (λ is. omega arith) users_born devices_born (entries-above OBJECTS_BIRTH) (entries-above PERIPHERAL_BIRTH) n e f
      two n e (inr f) = inner-apart OBJECTS_BIRTH (inl at-root.1.0) users_born (entries-above OBJECTS_BIRTH) n e f

  born-live : AllByRecursion (λ n. is_live b n ≡ true) (firsts ++ (users_born ++ (devices_born ++ parts_below devices_born)))
  born-live =
      all-append (λ n. is_live b n ≡ true) firsts (users_born ++ (devices_born ++ parts_below devices_born)) firsts-live
      (all-append (λ n. is_live b n ≡ true) users_born (devices_born ++ parts_below devices_born) (entries-live OBJECTS_BIRTH)
      (all-append (λ n. is_live b n ≡ true) devices_born (parts_below devices_born) (entries-live PERIPHERAL_BIRTH)
      (all-flat (λ n. is_live b n ≡ true) (children_of b) devices_born
      (all-imply (λ n. PERIPHERAL_BIRTH < n) (λ n. AllByRecursion (λ m. is_live b m ≡ true) (children_of b n)) (λ n young. children-live n) devices_born devices-young))))

  pub room-good : OPENING_OBJECTS + length (description b).objects + sum_by objects_of (description b).devices ≤ LIVE_OBJECTS_MAX
  room-good =
      let most : length (firsts ++ (users_born ++ (devices_born ++ parts_below devices_born))) ≤ length (births b) =
      length-le_from_is_member nat_eq_equiv (firsts ++ (users_born ++ (devices_born ++ parts_below devices_born))) (births b) born-distinct (λ n e.
      sym (live-among b n)
      ∙ among-all (λ m. is_live b m ≡ true) (firsts ++ (users_born ++ (devices_born ++ parts_below devices_born))) born-live n e) in
      let room : length b.records ≤ LIVE_OBJECTS_MAX = h.bounds.room in
      let records : length (births b) ≡ length b.records = length-map b.records (λ (r : Record). r.birth) in
      let users_long : length users_born ≡ length (child_entries b OBJECTS_BIRTH) = length-map (child_entries b OBJECTS_BIRTH) (λ (e : List ℕ × ℕ). e.1) in
      let devices_long : length devices_born ≡ length (child_entries b PERIPHERAL_BIRTH) =
      length-map (child_entries b PERIPHERAL_BIRTH) (λ (e : List ℕ × ℕ). e.1) in
      let objects_long : length (description b).objects ≡ length (child_entries b OBJECTS_BIRTH) =
      ap length (objects-said b h.order) ∙ length-map (child_entries b OBJECTS_BIRTH) (object_as b) in
      let devices_sum : sum_by objects_of (description b).devices ≡ sum_by objects_of (map (device_as b) (child_entries b PERIPHERAL_BIRTH)) =
      ap (sum_by objects_of) (devices-said b h.order) in
      let few = devices-few (child_entries b PERIPHERAL_BIRTH) (stood-all b h.order says) in
      let third : length (devices_born ++ parts_below devices_born) ≡ length devices_born + length (parts_below devices_born) =
      length-append devices_born (parts_below devices_born) in
      let second : length (users_born ++ (devices_born ++ parts_below devices_born)) ≡ length users_born + length (devices_born ++ parts_below devices_born) =
      length-append users_born (devices_born ++ parts_below devices_born) in
      let first : length (firsts ++ (users_born ++ (devices_born ++ parts_below devices_born))) ≡ 8 + length (users_born ++ (devices_born ++ parts_below devices_born)) =
      length-append firsts (users_born ++ (devices_born ++ parts_below devices_born)) in
      omega (arith, most, room, records, users_long, devices_long, objects_long, devices_sum, few, third, second, first)
