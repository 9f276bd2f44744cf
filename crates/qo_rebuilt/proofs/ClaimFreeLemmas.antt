-- What a good device claims is free: its ring, its memory backend and its range.
use Rattle.std.proofs.Common.{◌≡◌, ◌≢◌, inl, inr, refl, ap, ap₂, sym, subst, ◌∙◌, ℕ, Bool, true, false, ◌==◌, ◌&&◌, List, [], ◌∷◌, filter, map, Option, Some, None, option_map, option_and_then, unwrap_or, codes, arith}
use Rattle.std.specs.List.{flat_map}
use Rattle.std.proofs.lemmas.Bool.{and_parts, eqb-true}
use Rattle.std.proofs.lemmas.List.Folds.{list_any-append}
use Rattle.std.proofs.lemmas.Option.{same_Some}
use Rattle.std.proofs.lemmas.Slice.Eq.{bytes_eq-Decides}
use Rattle.qo_model.proofs.Common.{AllByRecursion, list_any, option_map_or, bytes_eq, type_name, OBJECTS_BIRTH, PERIPHERAL_BIRTH, TypeId, MemDimm, MemoryBackendRam, Object, SlotBridge, SlotTimer, SlotUart, Range, range_at, overlap, overlaps_any, Registers, bare, bridge, dimm, timer, uart, fresh_registers, Board, Record, Ring, Slot, kind_of, record_of, slot_named, Given, claims_ring, dimms, has_backend, has_ring, is_dimm, is_realized, number_for, path_down_to, plain_in, property_named, range_in, ranges_of, ring_barred, size_of, strong_in, text_at, text_for, text_in, is_a, types}
use Rattle.qo_values.specs.Registers.{is_like}
use Rattle.qo_model.specs.Properties.{path_text}
use Rattle.qo_save.specs.Described.{description, is_describable, ring_item}
use Rattle.qo_save.specs.Description.{DeviceItem, RingItem}
use Rattle.qo_sound.proofs.TestLemmas.{clash-back, decide}
use Rattle.qo_sound_claims.specs.SoundClaims.{HasRange as RangeKept}
use Rattle.qo_sound_devices.specs.SoundPlaces.{child_entries, stands}
use Rattle.qo_good.specs.Good.{HasRange, IsGiven, IsGoodDevice, IsMemory, Layout, object_path, OneOf}
use Rattle.qo_good.specs.GoodBoards.{IsWhole}
use Rattle.qo_good.proofs.BusLemmas.{Stood, stood-all}
use Rattle.qo_good.proofs.ClaimLemmas.{as_dimm, as_other, as_uart, named-dimm, named-memory, range_given, Says, says-of}
use Rattle.qo_good.proofs.DeviceLemmas.{ring-text, text-way}
use Rattle.qo_good.proofs.ItemLemmas.{one-both, one-of, one-unmap}
use Rattle.qo_good.proofs.LayoutLemmas.{driver-said}
use Rattle.qo_good.proofs.ObjectLemmas.{memory-size}
use Rattle.qo_good.proofs.PartLemmas.{device_as, devices-said, Here, object_as, objects-said, users}
use Rattle.qo_good.proofs.PlaceLemmas.{apart, object-way, one-at, one-listed, stands-named, told}
use Rattle.qo_good.proofs.ValueLemmas.{unnamed}

-- ---- lists

pub all-unmap : {X Y : Type 0} (Q : Y → Type 0) (f : X → Y) (xs : List X) → AllByRecursion Q (map f xs) → AllByRecursion (λ (x : X). Q (f x)) xs
all-unmap Q f [] h = tt
all-unmap Q f (x ∷ xs) h = (h.0, all-unmap Q f xs h.1)

-- none of what is made of those that pass is found
none-kept : {X : Type 0} (p : X → Bool) (f : X → ℕ) (q : ℕ → Bool) → ((x : X) → p x ≡ true → q (f x) ≡ false) → (xs : List X)
    → list_any q (map f (filter p xs)) ≡ false
none-kept p f q never [] = refl
none-kept p f q never (x ∷ xs) =
    decide (p x) (λ e. rw e (rw (never x e, none-kept p f q never xs) refl)) (λ e. rw e (none-kept p f q never xs))

none-flat : {X Y : Type 0} (p : X → Bool) (f : X → ℕ) (g : ℕ → List Y) (q : Y → Bool) → ((x : X) → p x ≡ true → list_any q (g (f x)) ≡ false)
    → (xs : List X) → list_any q (flat_map g (map f (filter p xs))) ≡ false
none-flat p f g q never [] = refl
none-flat p f g q never (x ∷ xs) =
    let rest : list_any q (flat_map g (map f (filter p xs))) ≡ false = none-flat p f g q never xs in
    decide (p x) (λ e. rw e (list_any-append q (g (f x)) (flat_map g (map f (filter p xs))) ∙ rw (never x e, rest) refl)) (λ e. rw e rest)

-- a ring that is told is there
ring-there : (id : List ℕ) (rings : List Ring) → OneOf (λ (r : RingItem). r.id ≡ id) (map ring_item rings)
    → list_any (λ (r : Ring). bytes_eq r.id id) rings ≡ true
ring-there id [] one = absurd one
ring-there id (r ∷ rings) (inl is) = let own : bytes_eq r.id id ≡ true = (bytes_eq-Decides r.id id).1 is in rw own refl
ring-there id (r ∷ rings) (inr one) = decide (bytes_eq r.id id) (λ q. rw q refl) (λ q. rw q (ring-there id rings one))

-- ---- rows

chardev-rowless : (property_named MemDimm (codes "chardev") ≡ None)
    × ((property_named SlotTimer (codes "chardev") ≡ None) × (property_named SlotBridge (codes "chardev") ≡ None))
unfolding types
chardev-rowless = (refl, (refl, refl))

memdev-rowless : (property_named SlotUart (codes "memdev") ≡ None)
    × ((property_named SlotTimer (codes "memdev") ≡ None) × (property_named SlotBridge (codes "memdev") ≡ None))
unfolding types
memdev-rowless = (refl, (refl, refl))

-- registers that are no DIMM's have no range
abbrev IsRangeless : Registers → Type 0
IsRangeless old = (r : Registers) → is_like r old ≡ true → range_in r ≡ []

uart-rangeless : IsRangeless (fresh_registers SlotUart)
uart-rangeless (uart r) like = refl
uart-rangeless (timer r) like = refl
uart-rangeless (bridge r) like = refl
uart-rangeless (dimm r) like = clash-back like
uart-rangeless bare like = refl

timer-rangeless : IsRangeless (fresh_registers SlotTimer)
timer-rangeless (uart r) like = refl
timer-rangeless (timer r) like = refl
timer-rangeless (bridge r) like = refl
timer-rangeless (dimm r) like = clash-back like
timer-rangeless bare like = refl

bridge-rangeless : IsRangeless (fresh_registers SlotBridge)
bridge-rangeless (uart r) like = refl
bridge-rangeless (timer r) like = refl
bridge-rangeless (bridge r) like = refl
bridge-rangeless (dimm r) like = clash-back like
bridge-rangeless bare like = refl

-- ---- a memory backend at its path

pub record Backend (b : Board) (id : List ℕ) (long : ℕ) : Type 0 where
  pub m : ℕ
  pub way : path_down_to b m ≡ Some (object_path id)
  pub told : path_text b m ≡ object_path id
  pub kind : kind_of b m ≡ Some MemoryBackendRam
  pub size : size_of b m ≡ long

-- a device that is realized, of which something is said
pub record Said (b : Board) (P : DeviceItem → Type 0) (n : ℕ) : Type 0 where
  pub e : List ℕ × ℕ
  pub stood : Stood b e
  pub is : e.1 ≡ n
  pub says : P (device_as b e)

module _ (b : Board) (h : IsWhole b) (says : is_describable b ≡ true) where
  pub backend-found : (id : List ℕ) (long : ℕ) → OneOf (IsMemory id long) (description b).objects → Backend b id long
  backend-found id long one =
      let mine : OneOf (λ (e : List ℕ × ℕ). IsMemory id long (object_as b e)) (child_entries b OBJECTS_BIRTH) =
      one-unmap (IsMemory id long) (object_as b) (child_entries b OBJECTS_BIRTH) (subst (OneOf (IsMemory id long)) (objects-said b h.order) one) in
      let (e, (k, m)) =
      one-of (λ (e : List ℕ × ℕ). Here b OBJECTS_BIRTH (codes "user-creatable") e × IsMemory id long (object_as b e)) (child_entries b OBJECTS_BIRTH)
      (one-both (Here b OBJECTS_BIRTH (codes "user-creatable")) (λ (e : List ℕ × ℕ). IsMemory id long (object_as b e)) (child_entries b OBJECTS_BIRTH)
      (users b h.order) mine) in
      let named : type_name k.kind ≡ type_name MemoryBackendRam = ap (λ (o : Option TypeId). type_name (unwrap_or o Object)) (sym k.its) ∙ m.kind in
      let type : k.kind ≡ MemoryBackendRam = named-memory k.kind ((bytes_eq-Decides (type_name k.kind) (type_name MemoryBackendRam)).1 named) in
      let kind : kind_of b e.1 ≡ Some MemoryBackendRam = k.its ∙ ap Some type in
      let way : path_down_to b e.1 ≡ Some (object_path id) = object-way b h.order e.1 e.0 k.there ∙ ap (λ (x : List ℕ). Some (object_path x)) m.id in
      record {
        m = e.1;
        way = way;
        told = told b h.order e.1 (object_path id) (apart b h.order OBJECTS_BIRTH e (omega arith) k.there) way;
        kind = kind;
        size = same_Some (size_of b e.1) long (sym (memory-size b h.order.shape e.1 kind) ∙ m.size);
      }

  -- each device that is realized is told
  pub realized-said : (P : DeviceItem → Type 0) → AllByRecursion P (description b).devices → (n : ℕ) → is_realized b n ≡ true → Said b P n
  realized-said P all n lit =
      let stood : stands b n ≡ true = h.order.devices.places.1.only n lit in
      let one : OneOf (λ (x : List ℕ × ℕ). x.1 ≡ n) (child_entries b PERIPHERAL_BIRTH) =
      one-listed n (child_entries b PERIPHERAL_BIRTH) (stands-named b h.order says n stood) in
      let each : AllByRecursion (λ (e : List ℕ × ℕ). P (device_as b e)) (child_entries b PERIPHERAL_BIRTH) =
      all-unmap P (device_as b) (child_entries b PERIPHERAL_BIRTH) (subst (AllByRecursion P) (devices-said b h.order) all) in
      let (e, (k, (p, is))) =
      one-of (λ (e : List ℕ × ℕ). Stood b e × (P (device_as b e) × (e.1 ≡ n))) (child_entries b PERIPHERAL_BIRTH)
      (one-both (Stood b) (λ (e : List ℕ × ℕ). P (device_as b e) × (e.1 ≡ n)) (child_entries b PERIPHERAL_BIRTH) (stood-all b h.order says)
      (one-both (λ (e : List ℕ × ℕ). P (device_as b e)) (λ (e : List ℕ × ℕ). e.1 ≡ n) (child_entries b PERIPHERAL_BIRTH) each one)) in
      record { e = e; stood = k; is = is; says = p }

  -- ---- rings

  unclaimed : (id : List ℕ) → AllByRecursion (λ (y : DeviceItem). text_for y.props (codes "chardev") ≢ id) (description b).devices → (r : Record)
      → claims_ring b id r ≡ false
  unclaimed id alone r = decide (is_realized b r.birth) lit (λ q. off (is_a r.kind (codes "slot-uart")) q)
    where
      off : (u : Bool) → is_realized b r.birth ≡ false
          → (u && is_realized b r.birth && option_map_or (bytes_eq id) (text_at b r.birth (codes "chardev")) false) ≡ false
      off true q = rw q refl
      off false q = refl

      none : (u v : Bool) → (u && v && false) ≡ false
      none true true = refl
      none true false = refl
      none false v = refl

      by_text : option_map_or (bytes_eq id) (text_at b r.birth (codes "chardev")) false ≡ false → claims_ring b id r ≡ false
      by_text q = rw q (none (is_a r.kind (codes "slot-uart")) (is_realized b r.birth))

      lit : is_realized b r.birth ≡ true → claims_ring b id r ≡ false
      lit on = by_text (at_own (realized-said (λ (y : DeviceItem). text_for y.props (codes "chardev") ≢ id) alone r.birth on))
        where
          bare-slot : (n : ℕ) → slot_named b n (codes "chardev") ≡ None → option_map_or (bytes_eq id) (text_at b n (codes "chardev")) false ≡ false
          bare-slot n q = ap (λ (o : Option Slot). option_map_or (bytes_eq id) (option_and_then text_in (option_and_then plain_in o)) false) q

          own : (s : Said b (λ (y : DeviceItem). text_for y.props (codes "chardev") ≢ id) r.birth) → Says b s.e.1 s.stood.here.kind (device_as b s.e).props
              → option_map_or (bytes_eq id) (text_at b s.e.1 (codes "chardev")) false ≡ false
          own s (as_uart is other its lit props) =
              ap (λ (o : Option (List ℕ)). option_map_or (bytes_eq id) o false) its
              ∙ decide (bytes_eq id other)
              (λ q. absurd (s.says (ap (λ (ps : List Given). text_for ps (codes "chardev")) props ∙ ring-text other ∙ sym ((bytes_eq-Decides id other).0 q))))
              (λ q. q)
          own s (as_dimm is k lit props) =
              bare-slot s.e.1
              (unnamed b h.order.shape s.e.1 MemDimm (s.stood.here.its ∙ ap Some is) (codes "chardev") (λ t x. x) chardev-rowless.0)
          own s (as_other (inl is) props) =
              bare-slot s.e.1
              (unnamed b h.order.shape s.e.1 SlotTimer (s.stood.here.its ∙ ap Some is) (codes "chardev") (λ t x. x) chardev-rowless.1.0)
          own s (as_other (inr is) props) =
              bare-slot s.e.1
              (unnamed b h.order.shape s.e.1 SlotBridge (s.stood.here.its ∙ ap Some is) (codes "chardev") (λ t x. x) chardev-rowless.1.1)

          at_own : Said b (λ (y : DeviceItem). text_for y.props (codes "chardev") ≢ id) r.birth
              → option_map_or (bytes_eq id) (text_at b r.birth (codes "chardev")) false ≡ false
          at_own s =
              subst (λ (n : ℕ). option_map_or (bytes_eq id) (text_at b n (codes "chardev")) false ≡ false) s.is (own s (says-of b h says s.e s.stood))

  all-never : (p : Record → Bool) → ((r : Record) → p r ≡ false) → (rs : List Record) → list_any p rs ≡ false
  all-never p never [] = refl
  all-never p never (r ∷ rs) = rw (never r, all-never p never rs) refl

  pub ring-free : (id : List ℕ) → OneOf (λ (r : RingItem). r.id ≡ id) (description b).rings
      → AllByRecursion (λ (y : DeviceItem). text_for y.props (codes "chardev") ≢ id) (description b).devices → ring_barred b id ≡ None
  ring-free [] one alone = refl
  ring-free (c ∷ cs) one alone =
      let there : has_ring b (c ∷ cs) ≡ true = ring-there (c ∷ cs) b.rings one in
      let free : list_any (claims_ring b (c ∷ cs)) b.records ≡ false = all-never (claims_ring b (c ∷ cs)) (unclaimed (c ∷ cs) alone) b.records in
      rw (there, free) refl

  -- ---- memory backends

  module _ (id : List ℕ) (m : ℕ) (told_is : path_text b m ≡ object_path id)
      (alone : AllByRecursion (λ (y : DeviceItem). text_for y.props (codes "memdev") ≢ object_path id) (description b).devices) where
    abbrev Alone : DeviceItem → Type 0
    Alone y = text_for y.props (codes "memdev") ≢ object_path id

    bare-link : (n : ℕ) → slot_named b n (codes "memdev") ≡ None → has_backend b m n ≡ false
    bare-link n q = ap (λ (o : Option Slot). option_map_or (λ (k : ℕ). k == m) (option_and_then strong_in o) false) q

    unbacked : (n : ℕ) (s : Said b Alone n) → Says b s.e.1 s.stood.here.kind (device_as b s.e).props → has_backend b m s.e.1 ≡ false
    unbacked n s (as_uart is other its lit props) =
        bare-link s.e.1 (unnamed b h.order.shape s.e.1 SlotUart (s.stood.here.its ∙ ap Some is) (codes "memdev") (λ t x. x) memdev-rowless.0)
    unbacked n s (as_dimm is k lit props) =
        ap (λ (o : Option ℕ). option_map_or (λ (j : ℕ). j == m) o false) k.memdev
        ∙ decide (k.backend == m)
        (λ q. absurd (s.says (ap (λ (ps : List Given). text_for ps (codes "memdev")) props ∙ ap (path_text b) (eqb-true k.backend m q) ∙ told_is))) (λ q. q)
    unbacked n s (as_other (inl is) props) =
        bare-link s.e.1 (unnamed b h.order.shape s.e.1 SlotTimer (s.stood.here.its ∙ ap Some is) (codes "memdev") (λ t x. x) memdev-rowless.1.0)
    unbacked n s (as_other (inr is) props) =
        bare-link s.e.1 (unnamed b h.order.shape s.e.1 SlotBridge (s.stood.here.its ∙ ap Some is) (codes "memdev") (λ t x. x) memdev-rowless.1.1)

    pub backend-free : list_any (has_backend b m) (dimms b) ≡ false
    backend-free =
        none-kept (λ (r : Record). is_dimm r && is_realized b r.birth) (λ (r : Record). r.birth) (has_backend b m)
        (λ r e. let s : Said b Alone r.birth = realized-said Alone alone r.birth (and_parts (is_dimm r) (is_realized b r.birth) e).1 in
        subst (λ (n : ℕ). has_backend b m n ≡ false) s.is (unbacked r.birth s (says-of b h says s.e s.stood))) b.records

  -- ---- ranges

  -- the range that a layout says of a good DIMM is its own
  range-same : (l : Layout) (before : List DeviceItem) (e : List ℕ × ℕ) (k : Stood b e) → k.here.kind ≡ MemDimm → (s : RangeKept b e.1)
      → (device_as b e).props ≡ range_given s.range.at (path_text b s.backend) → IsGoodDevice (description b) l before (device_as b e) → l.range e.0 ≡ s.range
  range-same l before e k is s props good =
      let type : good.kind ≡ MemDimm =
      named-dimm good.kind ((bytes_eq-Decides (type_name good.kind) (type_name MemDimm)).1 (sym good.driver ∙ driver-said b h says e k ∙ ap type_name is)) in
      let r : HasRange (description b) l before (device_as b e) = subst (IsGiven (description b) l before (device_as b e)) type good.props in
      let at : (l.range e.0).at ≡ s.range.at =
      same_Some (l.range e.0).at s.range.at (ap (λ (ps : List Given). number_for ps (codes "addr")) (sym r.props ∙ props)) in
      let text : path_text b s.backend ≡ object_path r.backend = ap (λ (ps : List Given). text_for ps (codes "memdev")) (sym props ∙ r.props) in
      let m : Backend b r.backend (l.range e.0).size = backend-found r.backend (l.range e.0).size r.memory in
      let same : s.backend ≡ m.m = one-at b h.order s.backend m.m (object_path r.backend) (text-way b h says s.backend r.backend text) m.way in
      let size : (l.range e.0).size ≡ s.range.size = sym m.size ∙ ap (size_of b) (sym same) ∙ sym s.size in
      ap₂ range_at at size

  abbrev range_of_record : ℕ → List Range
  range_of_record n = option_map_or (λ (r : Record). range_in r.registers) (record_of b n) []

  rangeless : (n : ℕ) (t : TypeId) → kind_of b n ≡ Some t → IsRangeless (fresh_registers t) → range_of_record n ≡ []
  rangeless n t kind less = go (record_of b n) refl
    where
      go : (o : Option Record) → record_of b n ≡ o → range_of_record n ≡ []
      go None q = ap (λ (o : Option Record). option_map_or (λ (r : Record). range_in r.registers) o []) q
      go (Some r) q =
          let same : r.kind ≡ t = same_Some r.kind t (sym (ap (option_map (λ (x : Record). x.kind)) q) ∙ kind) in
          let like : is_like r.registers (fresh_registers t) ≡ true =
          subst (λ (k : TypeId). is_like r.registers (fresh_registers k) ≡ true) same (h.order.shape.shaped n r q).registers in
          ap (λ (o : Option Record). option_map_or (λ (x : Record). range_in x.registers) o []) q ∙ less r.registers like

  module _ (l : Layout) (g : Range) where
    abbrev pub Away : DeviceItem → Type 0
    Away y =
        (y.driver ≡ type_name MemDimm → overlap g (l.range y.id) ≡ false) × ((before : List DeviceItem) × IsGoodDevice (description b) l before y)

    none-over : (n : ℕ) → range_of_record n ≡ [] → list_any (overlap g) (range_of_record n) ≡ false
    none-over n q = ap (list_any (overlap g)) q

    away : (n : ℕ) (s : Said b Away n) → Says b s.e.1 s.stood.here.kind (device_as b s.e).props → list_any (overlap g) (range_of_record s.e.1) ≡ false
    away n s (as_uart is other its lit props) =
        none-over s.e.1 (rangeless s.e.1 SlotUart (s.stood.here.its ∙ ap Some is) uart-rangeless)
    away n s (as_other (inl is) props) = none-over s.e.1 (rangeless s.e.1 SlotTimer (s.stood.here.its ∙ ap Some is) timer-rangeless)
    away n s (as_other (inr is) props) = none-over s.e.1 (rangeless s.e.1 SlotBridge (s.stood.here.its ∙ ap Some is) bridge-rangeless)
    away n s (as_dimm is k lit props) =
        let (before, good) = s.says.1 in
        let own : l.range s.e.0 ≡ k.range = range-same l before s.e s.stood is k props good in
        let apart_is : overlap g k.range ≡ false =
        ap (overlap g) (sym own) ∙ s.says.0 (driver-said b h says s.e s.stood ∙ ap type_name is) in
        let there : range_of_record s.e.1 ≡ k.range ∷ [] = go (record_of b s.e.1) refl k.stands in
        ap (list_any (overlap g)) there ∙ rw apart_is refl
      where
        go : (o : Option Record) → record_of b s.e.1 ≡ o
            → option_map (λ (x : Record). x.registers) (record_of b s.e.1) ≡ Some (dimm (record { address = k.range.at; size = k.range.size }))
            → range_of_record s.e.1 ≡ k.range ∷ []
        go None q stands = absurd (let clash : None ≡ Some (dimm (record { address = k.range.at; size = k.range.size })) =
            sym (ap (option_map (λ (x : Record). x.registers)) q) ∙ stands in cc)
        go (Some r) q stands =
            let its : r.registers ≡ dimm (record { address = k.range.at; size = k.range.size }) =
            same_Some r.registers (dimm (record { address = k.range.at; size = k.range.size }))
            (sym (ap (option_map (λ (x : Record). x.registers)) q) ∙ stands) in
            ap (λ (o : Option Record). option_map_or (λ (x : Record). range_in x.registers) o []) q ∙ ap range_in its

    pub ranges-free : AllByRecursion Away (description b).devices → overlaps_any g (ranges_of b) ≡ false
    ranges-free all =
        none-flat (λ (r : Record). is_dimm r && is_realized b r.birth) (λ (r : Record). r.birth) range_of_record (overlap g)
        (λ r e. let s : Said b Away r.birth = realized-said Away all r.birth (and_parts (is_dimm r) (is_realized b r.birth) e).1 in
        subst (λ (n : ℕ). list_any (overlap g) (range_of_record n) ≡ false) s.is (away r.birth s (says-of b h says s.e s.stood))) b.records
