-- The devices of a description are good.
use Rattle.std.proofs.Common.{◌≡◌, ◌≢◌, inl, inr, refl, ap, ap₂, sym, subst, ◌∙◌, ℕ, suc, ◌%◌, ◌<◌, ◌≤◌, true, false, ◌==◌, List, [], ◌∷◌, ◌++◌, map, Option, Some, None, unwrap_or, codes, arith}
use Rattle.qo_model.proofs.Common.{AllByRecursion, list_any, option_map_or, bytes_eq, type_name, BUS_DEPTH_MAX, BUS_SLOTS, DIMM_ALIGN, MEMORY_BUS_BIRTH, OBJECTS_BIRTH, PERIPHERAL_BIRTH, ROOT_BIRTH, ROOT_BUS_BIRTH, TypeId, Clock, Container, Machine, MemBus, MemDimm, MemoryBackendRam, Object, SlotBridge, SlotBus, SlotTimer, SlotUart, Range, range_at, Registers, is_in_window, overlap, Board, Ring, kind_of, slots_at, Given, kid_at, kids_of, text_at, is_absolute, is_of, path_down_to, size_of, has_ring, text_for, is_a}
use Rattle.std.proofs.lemmas.Option.{same_Some}
use Rattle.std.proofs.lemmas.Slice.Eq.{bytes_eq-Decides}
use Rattle.qo_model.proofs.AmongLemmas.{among-all}
use Rattle.qo_model.specs.Plug.{bus_type}
use Rattle.qo_model.specs.Properties.{path_text}
use Rattle.qo_model.specs.SoundGraph.{Rises}
use Rattle.qo_save.specs.Described.{description, is_describable, ring_item}
use Rattle.qo_save.specs.Description.{Description, DeviceItem, ObjectItem, RingItem}
use Rattle.qo_sound.proofs.TestLemmas.{clash, clash-back, decide}
use Rattle.qo_sound_claims.specs.SoundClaims.{HasRange as RangeKept, is_dimm_on, is_uart_on, NamesRing as RingNamed}
use Rattle.qo_sound_devices.specs.SoundPlaces.{bridges as owned_by, child_entries, has_entry}
use Rattle.qo_sound_devices.proofs.DetachmentLemmas.{listed-kid}
use Rattle.qo_good.specs.Good.{bridges, bus, bus_path, clock, device, device_path, EachAfter, first, first_objects, HasBus, HasRange, IsGiven, IsGoodDevice, IsLaidOut, IsMemory, IsThere, Layout, memory, NamesRing, no_ring, object, object_path, OneOf, ring, root}
use Rattle.qo_good.specs.GoodBoards.{IsWhole}
use Rattle.qo_good.proofs.BusLemmas.{bridge_bus, bus-told, its-bus, memory_bus, memory-only, own-bus, owns-bus, root_bus, slot-only, Stood, stood-all, WhichBus}
use Rattle.qo_good.proofs.ClaimLemmas.{as_dimm, as_other, as_uart, device-no_memory, memory-one, named-dimm, range_given, ring_given, Says, says-of}
use Rattle.qo_good.proofs.ItemLemmas.{all-after, all-both, all-front, all-map, births_in, each-mapped, one-before, one-both, one-imply, one-map, one-none, one-of, one-unmap, rises-before}
use Rattle.qo_good.proofs.LayoutLemmas.{bridges-laid, bus-said, clock-fits, clocks-laid, depth-said, driver-said, l, range_kept, range_on, root_depth-laid, root_period-laid}
use Rattle.qo_good.proofs.ObjectLemmas.{memory-size}
use Rattle.qo_good.proofs.PartLemmas.{device_as, devices, devices-said, Here, memory_bus-kind, object_as, objects-said, root_bus-kind, there, users}
use Rattle.qo_good.proofs.PlaceLemmas.{apart, at, device-way, inner-way, leads, memory_bus-way, object-way, OfKind, of-kind, older, one-at, one-entry, rises, root_bus-way, told}

-- ---- memory backends

-- a memory backend is a user's object
record MemoryAt (b : Board) (m : ℕ) : Type 0 where
  id : List ℕ
  entry : has_entry (id, m) (child_entries b OBJECTS_BIRTH) ≡ true
  kind : kind_of b m ≡ Some MemoryBackendRam

none-first : (path : List ℕ) → OneOf (λ (o : List ℕ × TypeId). (path ≡ o.0) × (MemoryBackendRam ≡ o.1)) first_objects → ⊥
none-first path (inl e) = let clash : MemoryBackendRam ≡ Container = e.1 in cc
none-first path (inr (inl e)) = let clash : MemoryBackendRam ≡ Machine = e.1 in cc
none-first path (inr (inr (inl e))) = let clash : MemoryBackendRam ≡ Container = e.1 in cc
none-first path (inr (inr (inr (inl e)))) = let clash : MemoryBackendRam ≡ Container = e.1 in cc
none-first path (inr (inr (inr (inr (inl e))))) = let clash : MemoryBackendRam ≡ Clock = e.1 in cc
none-first path (inr (inr (inr (inr (inr (inl e)))))) = let clash : MemoryBackendRam ≡ SlotBus = e.1 in cc
none-first path (inr (inr (inr (inr (inr (inr (inl e))))))) = let clash : MemoryBackendRam ≡ MemBus = e.1 in cc
none-first path (inr (inr (inr (inr (inr (inr (inr (inl e)))))))) = let clash : MemoryBackendRam ≡ Container = e.1 in cc
none-first path (inr (inr (inr (inr (inr (inr (inr (inr e)))))))) = e

pub ring-text : (id : List ℕ) → text_for (ring_given id) (codes "chardev") ≡ id
ring-text [] = refl
ring-text (c ∷ cs) = refl

pub ring-no_memory : (id : List ℕ) → text_for (ring_given id) (codes "memdev") ≡ []
ring-no_memory [] = refl
ring-no_memory (c ∷ cs) = refl

rings-one : (id : List ℕ) (rings : List Ring) → list_any (λ (r : Ring). bytes_eq r.id id) rings ≡ true → OneOf (λ (r : RingItem). r.id ≡ id) (map ring_item rings)
rings-one id [] e = clash-back e
rings-one id (r ∷ rings) e =
    decide (bytes_eq r.id id) (λ q. inl ((bytes_eq-Decides r.id id).0 q)) (λ q. inr (rings-one id rings (rw q at e)))

module _ (b : Board) (h : IsWhole b) (says : is_describable b ≡ true) where
  abbrev d : Description
  d = description b

  abbrev laid : Layout
  laid = l b h says

  -- the path of a user's object, read from its text
  pub text-way : (m : ℕ) (id : List ℕ) → path_text b m ≡ object_path id → path_down_to b m ≡ Some (object_path id)
  text-way m id e = decide (m == ROOT_BIRTH) top other
    where
      top : (m == ROOT_BIRTH) ≡ true → path_down_to b m ≡ Some (object_path id)
      top q = absurd (let clash : codes "/" ≡ object_path id = rw q at e in cc)

      other : (m == ROOT_BIRTH) ≡ false → path_down_to b m ≡ Some (object_path id)
      other q = go (path_down_to b m) refl
        where
          go : (o : Option (List ℕ)) → path_down_to b m ≡ o → path_down_to b m ≡ Some (object_path id)
          go None r = clash-back (let text = rw (q, r) at e in ap is_absolute text)
          go (Some path) r = r ∙ ap Some (rw (q, r) at e)

  memory-at : (m : ℕ) → is_of b (codes "memory-backend") m ≡ true → MemoryAt b m
  memory-at m is = by (there b h.order says m MemoryBackendRam kind)
    where
      of : OfKind b (codes "memory-backend") m
      of = of-kind b (codes "memory-backend") m is

      kind : kind_of b m ≡ Some MemoryBackendRam
      kind = of.its ∙ ap Some (memory-one of.kind (h.order.order.concrete m of.kind of.its) of.is)

      by : IsThere d (path_text b m) MemoryBackendRam → MemoryAt b m
      by (first one) = absurd (none-first (path_text b m) one)
      by (object one) =
          let (e, (k, same)) =
          one-of (λ (e : List ℕ × ℕ). Here b OBJECTS_BIRTH (codes "user-creatable") e × ((path_text b m ≡ object_path e.0) × ((object_as b e).kind ≡ type_name MemoryBackendRam)))
          (child_entries b OBJECTS_BIRTH)
          (one-both (Here b OBJECTS_BIRTH (codes "user-creatable"))
          (λ (e : List ℕ × ℕ). (path_text b m ≡ object_path e.0) × ((object_as b e).kind ≡ type_name MemoryBackendRam)) (child_entries b OBJECTS_BIRTH)
          (users b h.order)
          (one-unmap (λ (o : ObjectItem). (path_text b m ≡ object_path o.id) × (o.kind ≡ type_name MemoryBackendRam)) (object_as b) (child_entries b OBJECTS_BIRTH)
          (subst (OneOf (λ (o : ObjectItem). (path_text b m ≡ object_path o.id) × (o.kind ≡ type_name MemoryBackendRam))) (objects-said b h.order) one))) in
          let own : e.1 ≡ m = one-at b h.order e.1 m (object_path e.0) (object-way b h.order e.1 e.0 k.there) (text-way m e.0 same.0) in
          record { id = e.0; entry = subst (λ (n : ℕ). has_entry (e.0, n) (child_entries b OBJECTS_BIRTH) ≡ true) own k.there; kind = kind }
      by (device one) =
          absurd (one-none (Here b PERIPHERAL_BIRTH (codes "device"))
          (λ (e : List ℕ × ℕ). (path_text b m ≡ device_path e.0) × ((device_as b e).driver ≡ type_name MemoryBackendRam)) (λ e k same.
          let named : type_name k.kind ≡ type_name MemoryBackendRam = ap (λ (o : Option TypeId). type_name (unwrap_or o Object)) (sym k.its) ∙ same.1 in
          clash (sym ((bytes_eq-Decides (type_name k.kind) (type_name MemoryBackendRam)).1 named) ∙ device-no_memory k.kind k.wants))
          (child_entries b PERIPHERAL_BIRTH) (devices b h.order)
          (one-unmap (λ (x : DeviceItem). (path_text b m ≡ device_path x.id) × (x.driver ≡ type_name MemoryBackendRam)) (device_as b) (child_entries b PERIPHERAL_BIRTH)
          (subst (OneOf (λ (x : DeviceItem). (path_text b m ≡ device_path x.id) × (x.driver ≡ type_name MemoryBackendRam))) (devices-said b h.order) one)))
      by (clock one type) = absurd (let clash : MemoryBackendRam ≡ Clock = type in cc)
      by (bus one type) = absurd (let clash : MemoryBackendRam ≡ SlotBus = type in cc)

  memory-told : (m : ℕ) (k : MemoryAt b m) → path_text b m ≡ object_path k.id
  memory-told m k =
      let way : path_down_to b m ≡ Some (object_path k.id) = object-way b h.order m k.id k.entry in
      told b h.order m (object_path k.id) (apart b h.order OBJECTS_BIRTH (k.id, m) (omega arith) k.entry) way

  -- ---- what is given, after the devices before

  abbrev Before : List ℕ × ℕ → List ℕ × ℕ → Type 0
  Before e y = Stood b y × (y.1 < e.1)

  range-said : (e : List ℕ × ℕ) (k : Stood b e) (r : RangeKept b e.1) → laid.range e.0 ≡ r.range
  range-said e k r =
      let found : at b (device_path e.0) ≡ Some e.1 = leads b h.order e.1 (device_path e.0) (device-way b h.order e.1 e.0 k.here.there) in
      ap (λ (o : Option ℕ). option_map_or (range_on b) o (range_at 0 0)) found ∙ ap (λ (o : Option Registers). option_map_or range_kept o (range_at 0 0)) r.stands

  module _ (e : List ℕ × ℕ) (k : Stood b e) (done : List (List ℕ × ℕ)) (before : AllByRecursion (Before e) done) where
    each-before : (Q : DeviceItem → Type 0) → ((y : List ℕ × ℕ) → Before e y → Q (device_as b y)) → AllByRecursion Q (map (device_as b) done)
    each-before Q from = all-map (Before e) Q (device_as b) from done before

    earlier : (y : List ℕ × ℕ) → Before e y → y.1 ≡ e.1 → ⊥
    earlier y j same = let low : y.1 < e.1 = j.1 in omega arith

    -- a ring
    ring-alone : (id : List ℕ) → id ≢ [] → text_at b e.1 (codes "chardev") ≡ Some id → is_uart_on b e.1 ≡ true → (y : List ℕ × ℕ) → Before e y
        → text_for (device_as b y).props (codes "chardev") ≢ id
    ring-alone id some chardev on y j same = by (says-of b h says y j.0)
      where
        by : Says b y.1 j.0.here.kind (device_as b y).props → ⊥
        by (as_uart is other its lit props) =
            let own : other ≡ id = sym (ring-text other) ∙ ap (λ (ps : List Given). text_for ps (codes "chardev")) (sym props) ∙ same in
            earlier y j (h.backends.claims.one_uart y.1 e.1 id lit on some (its ∙ ap Some own) chardev)
        by (as_dimm is r lit props) = some (sym same ∙ ap (λ (ps : List Given). text_for ps (codes "chardev")) props)
        by (as_other which props) = some (sym same ∙ ap (λ (ps : List Given). text_for ps (codes "chardev")) props)

    ring-named : (id : List ℕ) → text_at b e.1 (codes "chardev") ≡ Some id → is_uart_on b e.1 ≡ true → (device_as b e).props ≡ ring_given id
        → NamesRing d (map (device_as b) done) (device_as b e)
    ring-named [] chardev on props = no_ring props
    ring-named (c ∷ cs) chardev on props =
        ring (c ∷ cs) props (rings-one (c ∷ cs) b.rings there_is)
        (each-before (λ (y : DeviceItem). text_for y.props (codes "chardev") ≢ c ∷ cs) (ring-alone (c ∷ cs) (λ z. cc) chardev on))
      where
        there_is : has_ring b (c ∷ cs) ≡ true
        there_is =
            let r : RingNamed b e.1 = h.backends.claims.rings e.1 on in
            let own : r.id ≡ c ∷ cs = same_Some r.id (c ∷ cs) (sym r.chardev ∙ chardev) in
            subst (λ (x : List ℕ). has_ring b x ≡ true) own (r.there (λ z. let clash : c ∷ cs ≡ [] = sym own ∙ z in cc))

    -- a range
    memory-alone : (r : RangeKept b e.1) (m : MemoryAt b r.backend) → is_dimm_on b e.1 ≡ true → (y : List ℕ × ℕ) → Before e y
        → text_for (device_as b y).props (codes "memdev") ≢ object_path m.id
    memory-alone r m on y j same = by (says-of b h says y j.0)
      where
        by : Says b y.1 j.0.here.kind (device_as b y).props → ⊥
        by (as_uart is other its lit props) =
            let clash : [] ≡ object_path m.id = sym (ring-no_memory other) ∙ ap (λ (ps : List Given). text_for ps (codes "memdev")) (sym props) ∙ same in cc
        by (as_dimm is s lit props) =
            let text : path_text b s.backend ≡ object_path m.id = ap (λ (ps : List Given). text_for ps (codes "memdev")) (sym props) ∙ same in
            let own : s.backend ≡ r.backend =
            one-at b h.order s.backend r.backend (object_path m.id) (text-way s.backend m.id text) (object-way b h.order r.backend m.id m.entry) in
            earlier y j (h.backends.claims.one_dimm y.1 e.1 r.backend lit on (s.memdev ∙ ap Some own) r.memdev)
        by (as_other which props) = let clash : [] ≡ object_path m.id = ap (λ (ps : List Given). text_for ps (codes "memdev")) (sym props) ∙ same in cc

    range-apart : (r : RangeKept b e.1) → is_dimm_on b e.1 ≡ true → (y : List ℕ × ℕ) → Before e y → (device_as b y).driver ≡ type_name MemDimm
        → overlap (laid.range e.0) (laid.range y.0) ≡ false
    range-apart r on y j named = by (says-of b h says y j.0)
      where
        dimm : j.0.here.kind ≡ MemDimm
        dimm = named-dimm j.0.here.kind ((bytes_eq-Decides (type_name j.0.here.kind) (type_name MemDimm)).1 (sym (driver-said b h says y j.0) ∙ named))

        by : Says b y.1 j.0.here.kind (device_as b y).props → overlap (laid.range e.0) (laid.range y.0) ≡ false
        by (as_uart is other its lit props) = absurd (let clash : SlotUart ≡ MemDimm = sym is ∙ dimm in cc)
        by (as_other (inl is) props) = absurd (let clash : SlotTimer ≡ MemDimm = sym is ∙ dimm in cc)
        by (as_other (inr is) props) = absurd (let clash : SlotBridge ≡ MemDimm = sym is ∙ dimm in cc)
        by (as_dimm is s lit props) =
            ap₂ overlap (range-said e k r) (range-said y j.0 s)
            ∙ h.backends.claims.apart e.1 y.1 r.range s.range on lit (λ same. earlier y j (sym same)) r.stands s.stands

    range-good : (r : RangeKept b e.1) → is_dimm_on b e.1 ≡ true → (device_as b e).props ≡ range_given r.range.at (path_text b r.backend)
        → HasRange d laid (map (device_as b) done) (device_as b e)
    range-good r on props =
        let m : MemoryAt b r.backend = memory-at r.backend r.memory in
        let own : laid.range e.0 ≡ r.range = range-said e k r in
        record {
          backend = m.id;
          props = props ∙ ap₂ range_given (ap (λ (x : Range). x.at) (sym own)) (memory-told r.backend m);
          memory = subst (OneOf (IsMemory m.id (laid.range e.0).size)) (sym (objects-said b h.order))
              (one-map (λ (x : List ℕ × ℕ). (x.0 ≡ m.id) × (x.1 ≡ r.backend)) (IsMemory m.id (laid.range e.0).size) (object_as b) (is-memory m own)
              (child_entries b OBJECTS_BIRTH) (one-entry (m.id, r.backend) (child_entries b OBJECTS_BIRTH) m.entry));
          alone = each-before (λ (y : DeviceItem). text_for y.props (codes "memdev") ≢ object_path m.id) (memory-alone r m on);
          aligned = subst (λ (x : Range). x.at % DIMM_ALIGN ≡ 0) (sym own) r.aligned;
          window = subst (λ (x : Range). is_in_window x ≡ true) (sym own) r.window;
          apart = each-before (λ (y : DeviceItem). y.driver ≡ type_name MemDimm → overlap (laid.range e.0) (laid.range y.id) ≡ false) (range-apart r on);
        }
      where
        is-memory : (m : MemoryAt b r.backend) → laid.range e.0 ≡ r.range → (x : List ℕ × ℕ) → (x.0 ≡ m.id) × (x.1 ≡ r.backend)
            → IsMemory m.id (laid.range e.0).size (object_as b x)
        is-memory m own x same =
            let kind : kind_of b x.1 ≡ Some MemoryBackendRam = ap (kind_of b) same.1 ∙ m.kind in
            record {
              id = same.0;
              kind = ap (λ (o : Option TypeId). type_name (unwrap_or o Object)) kind;
              size = memory-size b h.order.shape x.1 kind
                  ∙ ap Some (ap (size_of b) same.1 ∙ sym r.size ∙ ap (λ (y : Range). y.size) (sym own));
            }

    -- what is given to it
    given-good : IsGiven d laid (map (device_as b) done) (device_as b e) k.here.kind
    given-good = by (says-of b h says e k)
      where
        turned : (t : TypeId) → k.here.kind ≡ t → IsGiven d laid (map (device_as b) done) (device_as b e) t
            → IsGiven d laid (map (device_as b) done) (device_as b e) k.here.kind
        turned t is g = subst (IsGiven d laid (map (device_as b) done) (device_as b e)) (sym is) g

        by : Says b e.1 k.here.kind (device_as b e).props → IsGiven d laid (map (device_as b) done) (device_as b e) k.here.kind
        by (as_uart is id chardev on props) = turned SlotUart is (ring-named id chardev on props)
        by (as_dimm is r on props) = turned MemDimm is (range-good r on props)
        by (as_other (inl is) props) = turned SlotTimer is props
        by (as_other (inr is) props) = turned SlotBridge is props

    -- ---- its bus and its slot

    free-of : (y : List ℕ × ℕ) → Before e y → (device_as b y).bus ≡ (device_as b e).bus → (device_as b y).slot ≢ (device_as b e).slot
    free-of y j same slots =
        let bus_same : j.0.on.bus ≡ k.on.bus =
        same_Some j.0.on.bus k.on.bus
        (sym (bus-told b h.order says y j.0) ∙ ap (at b) (sym (bus-said b h says y j.0) ∙ same ∙ bus-said b h says e k) ∙ bus-told b h.order says e k) in
        let slot_same : j.0.on.slot ≡ k.on.slot =
        ap (λ (o : Option ℕ). unwrap_or o 0) (sym j.0.on.at) ∙ slots ∙ ap (λ (o : Option ℕ). unwrap_or o 0) k.on.at in
        let kids : Some y.1 ≡ Some e.1 = sym j.0.on.there ∙ ap₂ (kid_at b) bus_same slot_same ∙ k.on.there in
        earlier y j (same_Some y.1 e.1 kids)

    suits-bus : (t : TypeId) → kind_of b k.on.bus ≡ Some t → is_a t (bus_type k.here.kind) ≡ true
    suits-bus t kind =
        sym (ap (λ (o : Option TypeId). option_map_or (λ (u : TypeId). is_a u (bus_type k.here.kind)) o false) kind)
        ∙ sym (ap (λ (o : Option TypeId). option_map_or (λ (u : TypeId). is_of b (bus_type u) k.on.bus) o false) k.here.its)
        ∙ k.on.fits

    bus-good : (more : List (List ℕ × ℕ)) → child_entries b PERIPHERAL_BIRTH ≡ done ++ e ∷ more
        → HasBus (map (device_as b) done) (device_as b e).bus (bus_type k.here.kind)
    bus-good more split = by (its-bus b h.order says e k)
      where
        by : WhichBus b k.on.bus → HasBus (map (device_as b) done) (device_as b e).bus (bus_type k.here.kind)
        by (root_bus is) =
            root (bus-said b h says e k ∙ ap (path_text b) is ∙ told b h.order ROOT_BUS_BIRTH (codes "/machine/root.0") refl (root_bus-way b h.order))
            (slot-only k.here.kind (suits-bus SlotBus (ap (kind_of b) is ∙ root_bus-kind b h.order)))
        by (memory_bus is) =
            memory (bus-said b h says e k ∙ ap (path_text b) is ∙ told b h.order MEMORY_BUS_BIRTH (codes "/machine/mem.0") refl (memory_bus-way b h.order))
            (memory-only k.here.kind (suits-bus MemBus (ap (kind_of b) is ∙ memory_bus-kind b h.order)))
        by (bridge_bus p there_is kind on its) =
            let old : p.1 < k.on.bus = older b h.order p.1 (codes "bus.0", k.on.bus) on in
            let young : k.on.bus < e.1 =
            among-all (λ (m : ℕ). k.on.bus < m) (kids_of b k.on.bus) (h.order.order.kids k.on.bus k.on.is_bus).0 e.1 (listed-kid e.1 (slots_at b k.on.bus) k.kid) in
            let rising : Rises (births_in (done ++ e ∷ more)) = subst (λ (es : List (List ℕ × ℕ)). Rises (births_in es)) split (rises b h.order PERIPHERAL_BIRTH).1 in
            let one : OneOf (λ (x : List ℕ × ℕ). x.1 ≡ p.1) (done ++ e ∷ more) =
            subst (OneOf (λ (x : List ℕ × ℕ). x.1 ≡ p.1)) split
            (one-imply (λ (x : List ℕ × ℕ). (x.0 ≡ p.0) × (x.1 ≡ p.1)) (λ (x : List ℕ × ℕ). x.1 ≡ p.1) (λ x q. q.1) (child_entries b PERIPHERAL_BIRTH)
            (one-entry p (child_entries b PERIPHERAL_BIRTH) there_is)) in
            let first_of : OneOf (λ (x : List ℕ × ℕ). x.1 ≡ p.1) done = one-before p.1 done e more rising (omega arith) one in
            bridges (one-map (λ (y : List ℕ × ℕ). Before e y × (y.1 ≡ p.1))
            (λ (y : DeviceItem). (y.driver ≡ type_name SlotBridge) × ((device_as b e).bus ≡ bus_path y.id)) (device_as b) (λ y q. (
              ap (λ (o : Option TypeId). type_name (unwrap_or o Object)) (ap (kind_of b) q.1 ∙ kind),
              bus-said b h says e k ∙ bus-path y q.0.0 (subst (λ (m : ℕ). has_entry (codes "bus.0", k.on.bus) (child_entries b m) ≡ true) (sym q.1) on),
            ))
            done (one-both (Before e) (λ (y : List ℕ × ℕ). y.1 ≡ p.1) done before first_of))
            (slot-only k.here.kind (suits-bus SlotBus its))
          where
            bus-path : (y : List ℕ × ℕ) → Stood b y → has_entry (codes "bus.0", k.on.bus) (child_entries b y.1) ≡ true → path_text b k.on.bus ≡ bus_path y.0
            bus-path y j on =
                let old : PERIPHERAL_BIRTH < y.1 = older b h.order PERIPHERAL_BIRTH y j.here.there in
                told b h.order k.on.bus (bus_path y.0) (apart b h.order y.1 (codes "bus.0", k.on.bus) (omega arith) on)
                (inner-way b h.order y.1 k.on.bus y.0 (codes "bus.0") j.here.there on)

    -- how deep a bridge is
    shallow-good : k.here.kind ≡ SlotBridge → laid.depth (device_as b e).bus < BUS_DEPTH_MAX
    shallow-good is =
        let (m, on) = own-bus b h.order says e k is in
        let owned = owns-bus b h.order says e m on in
        let most : h.order.devices.places.0 m ≤ BUS_DEPTH_MAX = h.order.devices.places.1.shallow.most m (owned_by e.1 k.stood owned) in
        let next : h.order.devices.places.0 m ≡ suc (h.order.devices.places.0 k.on.bus) =
        h.order.devices.places.1.shallow.below e.1 k.on.bus m k.stood k.on.on owned in
        let same : laid.depth (device_as b e).bus ≡ h.order.devices.places.0 k.on.bus = depth-said b h says e k in
        omega arith

  device-good : (done : List (List ℕ × ℕ)) (e : List ℕ × ℕ) (more : List (List ℕ × ℕ)) → child_entries b PERIPHERAL_BIRTH ≡ done ++ e ∷ more
      → IsGoodDevice d laid (map (device_as b) done) (device_as b e)
  device-good done e more split =
      let all : AllByRecursion (Stood b) (done ++ e ∷ more) = subst (AllByRecursion (Stood b)) split (stood-all b h.order says) in
      let k : Stood b e = (all-after (Stood b) done (e ∷ more) all).0 in
      let rising : Rises (births_in (done ++ e ∷ more)) = subst (λ (es : List (List ℕ × ℕ)). Rises (births_in es)) split (rises b h.order PERIPHERAL_BIRTH).1 in
      let before : AllByRecursion (Before e) done =
      all-both (Stood b) (λ (y : List ℕ × ℕ). y.1 < e.1) done (all-front (Stood b) done (e ∷ more) all) (rises-before done e more rising) in
      record {
        kind = k.here.kind;
        driver = driver-said b h says e k;
        concrete = k.here.concrete;
        device = k.here.wants;
        id = k.here.id;
        bus = bus-good e k done before more split;
        slot = subst (λ (s : ℕ). s < BUS_SLOTS) (sym (ap (λ (o : Option ℕ). unwrap_or o 0) k.on.at)) k.on.low;
        free = all-map (Before e) (λ (y : DeviceItem). y.bus ≡ (device_as b e).bus → y.slot ≢ (device_as b e).slot) (device_as b) (free-of e k done before) done before;
        shallow = shallow-good e k done before;
        props = given-good e k done before;
        clock = clock-fits b h says e k;
      }

  pub laid-out : IsLaidOut d laid
  laid-out =
      record {
        root_depth = root_depth-laid b h says;
        root_period = root_period-laid b h says;
        bridges = bridges-laid b h says;
        devices = subst (EachAfter (IsGoodDevice d laid) []) (sym (devices-said b h.order))
            (each-mapped (IsGoodDevice d laid) (device_as b) (child_entries b PERIPHERAL_BIRTH) device-good [] (child_entries b PERIPHERAL_BIRTH) refl);
        clocks = clocks-laid b h says;
      }
