-- Devices of a describable board, the buses that they are on, and their clocks.
use Rattle.std.proofs.Common.{◌≡◌, inl, inr, refl, ap, sym, subst, ◌∙◌, rules, ℕ, ◌<◌, Bool, true, false, ◌==◌, ◌&&◌, List, [], ◌∷◌, filter_map, find, Option, Some, None, option_map, option_and_then, codes, arith}
use Rattle.qo_model.proofs.Common.{⊤, AllByRecursion, list_any, option_map_or, bytes_eq, MEMORY_BUS_BIRTH, PERIPHERAL_BIRTH, ROOT_BUS_BIRTH, TypeId, Clock, MemBus, SlotBridge, SlotBus, SlotDevice, SlotTimer, SlotUart, Board, Slot, plain, child, strong, weak, alias, kind_of, slot_named, slots_at, clock_of, clock_name, child_named, is_realized, is_of, path_down_to, property_named, is_a, types}
use Rattle.std.proofs.lemmas.Bool.{and_parts, eq-eqb}
use Rattle.std.proofs.lemmas.Option.{same_Some}
use Rattle.std.proofs.lemmas.Slice.Eq.{bytes_eq-Decides}
use Rattle.std.proofs.Math.Bool.{or-true}
use Rattle.qo_values.proofs.EachLemmas.{each}
use Rattle.qo_values.proofs.ListLemmas.{all-imply}
use Rattle.qo_model.specs.Plug.{bus_type}
use Rattle.qo_model.specs.Properties.{path_text}
use Rattle.qo_model.specs.Types.{property}
use Rattle.qo_model.specs.declared.properties.Access.TheVariants.{Never}
use Rattle.qo_model.specs.declared.properties.Property.{Property}
use Rattle.qo_model.specs.declared.properties.PropertyName.TheVariants as prop
use Rattle.qo_model.specs.declared.properties.PropertyRole.TheVariants as row
use Rattle.qo_save.specs.Described.{is_describable}
use Rattle.qo_sound.proofs.TestLemmas.{clash, clash-back, decide}
use Rattle.qo_sound_devices.specs.DeviceFacts.{IsOnBus}
use Rattle.qo_sound_devices.specs.SoundPlaces.{bridges, child_entries, child_entry, has_entry, HasOwner, IsHome, kid_entries, listed, machines, owns, owns_it, stands}
use Rattle.qo_sound_devices.proofs.AttachmentLemmas.{owns-listed}
use Rattle.qo_sound_devices.proofs.FactLemmas.{devices_say_lem}
use Rattle.qo_sound_devices.proofs.LocationLemmas.{Entry, entry-of}
use Rattle.qo_sound_devices.proofs.PlugLemmas.{stands-device}
use Rattle.qo_sound_phases.proofs.ReachLemmas.{two-cases}
use Rattle.qo_sound_shapes.specs.SoundShape.{HasRole}
use Rattle.qo_sound_shapes.proofs.FactLemmas.{shapes_say_lem}
use Rattle.qo_ways.specs.Ways.{IsInOrder}
use Rattle.qo_good.specs.Good.{bus_path, clock_path, OneOf}
use Rattle.qo_good.proofs.ItemLemmas.{all-some}
use Rattle.qo_good.proofs.PartLemmas.{devices, Here, inner, is_shelf, IsInner, parts_of}
use Rattle.qo_good.proofs.PlaceLemmas.{all-entry, apart, at, inner-way, leads, memory_bus-way, OfKind, of-kind, older, root_bus-way, stands-named, told}

-- ---- entries

pub listed-entry : (e : List ℕ × ℕ) (es : List (List ℕ × ℕ)) → has_entry e es ≡ true → listed e.1 es ≡ true
listed-entry e [] there = clash-back there
listed-entry e (x ∷ es) there =
    decide (x.1 == e.1 && bytes_eq x.0 e.0) (λ q. rw ((and_parts (x.1 == e.1) (bytes_eq x.0 e.0) q).0) refl)
    (λ q. rw (listed-entry e es (rw q at there)) (or-true (x.1 == e.1)))

-- a slot of a name that is a child
pub child-there : (name : List ℕ) (m : ℕ) (slots : List (List ℕ × Slot))
    → option_map (λ (s : List ℕ × Slot). s.1) (find (λ (s : List ℕ × Slot). bytes_eq s.0 name) slots) ≡ Some (child m)
    → has_entry (name, m) (filter_map child_entry slots) ≡ true
child-there name m [] e = absurd (let clash : None ≡ Some (child m) = e in cc)
child-there name m (x ∷ slots) e = go (bytes_eq x.0 name) refl (child-there name m slots)
  where
    own : (m == m) ≡ true
    own = eq-eqb m m refl

    here : (y : List ℕ × Slot) → bytes_eq y.0 name ≡ true → y.1 ≡ child m → has_entry (name, m) (filter_map child_entry (y ∷ slots)) ≡ true
    here (other, plain v) p q = absurd (let clash : plain v ≡ child m = q in cc)
    here (other, child j) p q =
        let same : j ≡ m = (let is : child j ≡ child m = q in cc) in
        let at : (j == m) ≡ true = eq-eqb j m same in
        rw (at, p) refl
    here (other, strong t target) p q = absurd (let clash : strong t target ≡ child m = q in cc)
    here (other, weak t target) p q = absurd (let clash : weak t target ≡ child m = q in cc)
    here (other, alias j of) p q = absurd (let clash : alias j of ≡ child m = q in cc)

    later : (y : List ℕ × Slot) → has_entry (name, m) (filter_map child_entry slots) ≡ true → has_entry (name, m) (filter_map child_entry (y ∷ slots)) ≡ true
    later (other, plain v) h = h
    later (other, child j) h = rw h (or-true (j == m && bytes_eq other name))
    later (other, strong t target) h = h
    later (other, weak t target) h = h
    later (other, alias j of) h = h

    go : (u : Bool) → bytes_eq x.0 name ≡ u
        → (option_map (λ (s : List ℕ × Slot). s.1) (find (λ (s : List ℕ × Slot). bytes_eq s.0 name) slots) ≡ Some (child m)
        → has_entry (name, m) (filter_map child_entry slots) ≡ true) → has_entry (name, m) (filter_map child_entry (x ∷ slots)) ≡ true
    go true p rest = here x p (same_Some x.1 (child m) (rw p at e))
    go false p rest = later x (rest (rw p at e))

owns-entry : (name : List ℕ) (m : ℕ) (es : List (List ℕ × ℕ)) → bytes_eq name clock_name ≡ false → has_entry (name, m) es ≡ true → list_any (owns_it m) es ≡ true
owns-entry name m [] other there = clash-back there
owns-entry name m (x ∷ es) other there = decide (x.1 == m && bytes_eq x.0 name) here (λ q. rw (owns-entry name m es other (rw q at there)) (or-true (owns_it m x)))
  where
    here : (x.1 == m && bytes_eq x.0 name) ≡ true → list_any (owns_it m) (x ∷ es) ≡ true
    here q =
        let two = and_parts (x.1 == m) (bytes_eq x.0 name) q in
        let apart : bytes_eq x.0 clock_name ≡ false = ap (λ (n : List ℕ). bytes_eq n clock_name) ((bytes_eq-Decides x.0 name).0 two.1) ∙ other in
        rw (two.0, apart) refl

-- ---- rows of devices

abbrev clk_row : Property
clk_row = property prop.Clk (row.Child Clock) Never

abbrev pub bus_row : Property
bus_row = property prop.Bus0 (row.Child SlotBus) Never

clk-named : (t : TypeId) → is_a t (codes "slot-device") ≡ true → property_named t (codes "clk") ≡ Some clk_row
unfolding types
clk-named = each (λ (t : TypeId). is_a t (codes "slot-device") ≡ true → property_named t (codes "clk") ≡ Some clk_row) (search rules)

pub bus-named : property_named SlotBridge (codes "bus.0") ≡ Some bus_row
unfolding types
bus-named = refl

clk-fits : (s : Slot) → HasRole clk_row.role s → (c : ℕ) × (s ≡ child c)
clk-fits (plain v) h = absurd h
clk-fits (child m) h = (m, refl)
clk-fits (strong t target) h = absurd h
clk-fits (weak t target) h = absurd h
clk-fits (alias m of) h = absurd h

pub bus-fits : (s : Slot) → HasRole bus_row.role s → (c : ℕ) × (s ≡ child c)
bus-fits (plain v) h = absurd h
bus-fits (child m) h = (m, refl)
bus-fits (strong t target) h = absurd h
bus-fits (weak t target) h = absurd h
bus-fits (alias m of) h = absurd h

clock-no_bus : is_a Clock (codes "bus") ≡ false
unfolding types
clock-no_bus = refl

pub slot-only : (t : TypeId) → is_a SlotBus (bus_type t) ≡ true → bus_type t ≡ codes "slot-bus"
unfolding types
slot-only = each (λ (t : TypeId). is_a SlotBus (bus_type t) ≡ true → bus_type t ≡ codes "slot-bus") (search rules)

pub memory-only : (t : TypeId) → is_a MemBus (bus_type t) ≡ true → bus_type t ≡ codes "mem-bus"
unfolding types
memory-only = each (λ (t : TypeId). is_a MemBus (bus_type t) ≡ true → bus_type t ≡ codes "mem-bus") (search rules)

pub device-no_shelf : (t : TypeId) → is_a t (codes "device") ≡ true → is_shelf t ≡ false
unfolding types
device-no_shelf = each (λ (t : TypeId). is_a t (codes "device") ≡ true → is_shelf t ≡ false) (search rules)

-- ---- devices

-- a device in its place
pub record Stood (b : Board) (e : List ℕ × ℕ) : Type 0 where
  pub here : Here b PERIPHERAL_BIRTH (codes "device") e
  pub stood : stands b e.1 ≡ true
  pub realized : is_realized b e.1 ≡ true
  pub on : IsOnBus b e.1
  pub kid : listed e.1 (kid_entries b on.bus) ≡ true
  pub owner : HasOwner b on.bus

-- which bus one is: of the machine, or of a bridge
pub data WhichBus (b : Board) (q : ℕ) : Type 0 where
  root_bus : q ≡ ROOT_BUS_BIRTH → WhichBus b q
  memory_bus : q ≡ MEMORY_BUS_BIRTH → WhichBus b q
  bridge_bus : (e : List ℕ × ℕ) → has_entry e (child_entries b PERIPHERAL_BIRTH) ≡ true → kind_of b e.1 ≡ Some SlotBridge
      → has_entry (codes "bus.0", q) (child_entries b e.1) ≡ true → kind_of b q ≡ Some SlotBus → WhichBus b q

-- and where it is
pub record BusAt (b : Board) (q : ℕ) : Type 0 where
  pub path : List ℕ
  pub way : path_down_to b q ≡ Some path
  pub told : path_text b q ≡ path

module _ (b : Board) (h : IsInOrder b) (says : is_describable b ≡ true) where
  pub stood-all : AllByRecursion (Stood b) (child_entries b PERIPHERAL_BIRTH)
  stood-all = all-imply (Here b PERIPHERAL_BIRTH (codes "device")) (Stood b) one (child_entries b PERIPHERAL_BIRTH) (devices b h)
    where
      one : (e : List ℕ × ℕ) → Here b PERIPHERAL_BIRTH (codes "device") e → Stood b e
      one e k =
          let listed_there : listed e.1 (child_entries b PERIPHERAL_BIRTH) ≡ true = listed-entry e (child_entries b PERIPHERAL_BIRTH) k.there in
          let stood : stands b e.1 ≡ true = rw listed_there refl in
          let realized : is_realized b e.1 ≡ true = h.devices.places.1.each e.1 stood refl in
          let on : IsOnBus b e.1 = devices_say_lem.on_bus b h.devices e.1 realized in
          let home : IsHome b e.1 = h.devices.places.1.home e.1 stood (λ z. cc) in
          let same : home.bus ≡ on.bus = same_Some home.bus on.bus (sym home.on ∙ on.on) in
          record {
            here = k;
            stood = stood;
            realized = realized;
            on = on;
            kid = subst (λ (q : ℕ). listed e.1 (kid_entries b q) ≡ true) same home.kid;
            owner = h.devices.places.1.owner e.1 on.bus stood on.on;
          }

  -- the bus of a device
  bus-part : (q : ℕ) (name : List ℕ) (t : TypeId) → OneOf (λ (f : List ℕ × TypeId). (f.0 ≡ name) × (kind_of b q ≡ Some f.1)) (parts_of t)
      → is_of b (codes "bus") q ≡ true → (t ≡ SlotBridge) × ((codes "bus.0" ≡ name) × (kind_of b q ≡ Some SlotBus))
  bus-part q name t one is = by t one
    where
      no_clock : kind_of b q ≡ Some Clock → ⊥
      no_clock its =
          clash (sym is ∙ ap (λ (o : Option TypeId). option_map_or (λ (k : TypeId). is_a k (codes "bus")) o false) its ∙ clock-no_bus)

      by : (u : TypeId) → OneOf (λ (f : List ℕ × TypeId). (f.0 ≡ name) × (kind_of b q ≡ Some f.1)) (parts_of u)
          → (u ≡ SlotBridge) × ((codes "bus.0" ≡ name) × (kind_of b q ≡ Some SlotBus))
      by SlotDevice (inl f) = absurd (no_clock f.1)
      by SlotDevice (inr f) = absurd f
      by SlotUart (inl f) = absurd (no_clock f.1)
      by SlotUart (inr f) = absurd f
      by SlotTimer (inl f) = absurd (no_clock f.1)
      by SlotTimer (inr f) = absurd f
      by SlotBridge (inl f) = absurd (no_clock f.1)
      by SlotBridge (inr (inl f)) = (refl, (f.0, f.1))
      by SlotBridge (inr (inr f)) = absurd f
      by u f = absurd f

  pub which-bus : (q : ℕ) → is_of b (codes "bus") q ≡ true → HasOwner b q → WhichBus b q
  which-bus q is (machines u) = two-cases q u root_bus memory_bus
  which-bus q is (bridges p s o) =
      let k : Entry (λ (x : List ℕ × ℕ). ⊤) q (child_entries b p) =
      entry-of (λ x. ⊤) q (child_entries b p) (all-some (λ x. ⊤) (λ x. tt) (child_entries b p)) (owns-listed q (child_entries b p) o) in
      let of : OfKind b (codes "device") p = of-kind b (codes "device") p (stands-device h.devices.places.0 None (λ x. false) b h.devices.places.1 p s) in
      let own : Entry (λ (x : List ℕ × ℕ). ⊤) p (child_entries b PERIPHERAL_BIRTH) =
      entry-of (λ x. ⊤) p (child_entries b PERIPHERAL_BIRTH) (all-some (λ x. ⊤) (λ x. tt) (child_entries b PERIPHERAL_BIRTH)) (stands-named b h says p s) in
      let (bridge, (name, kind)) =
      bus-part q k.name of.kind
      (all-entry (IsInner b of.kind) (k.name, q) (child_entries b p) (inner b h p of.kind of.its (device-no_shelf of.kind of.is)) k.there) is in
      bridge_bus (own.name, p) own.there (of.its ∙ ap Some bridge) (subst (λ (n : List ℕ). has_entry (n, q) (child_entries b p) ≡ true) (sym name) k.there) kind

  pub bus-at : (q : ℕ) → WhichBus b q → BusAt b q
  bus-at q (root_bus is) =
      subst (BusAt b) (sym is) (record {
        path = codes "/machine/root.0";
        way = root_bus-way b h;
        told = told b h ROOT_BUS_BIRTH (codes "/machine/root.0") refl (root_bus-way b h);
      })
  bus-at q (memory_bus is) =
      subst (BusAt b) (sym is) (record {
        path = codes "/machine/mem.0";
        way = memory_bus-way b h;
        told = told b h MEMORY_BUS_BIRTH (codes "/machine/mem.0") refl (memory_bus-way b h);
      })
  bus-at q (bridge_bus e there kind on its) =
      let old : PERIPHERAL_BIRTH < e.1 = older b h PERIPHERAL_BIRTH e there in
      let way : path_down_to b q ≡ Some (bus_path e.0) = inner-way b h e.1 q e.0 (codes "bus.0") there on in
      record { path = bus_path e.0; way = way; told = told b h q (bus_path e.0) (apart b h e.1 (codes "bus.0", q) (omega arith) on) way }

  -- the bus of a device in its place
  pub its-bus : (e : List ℕ × ℕ) (k : Stood b e) → WhichBus b k.on.bus
  its-bus e k = which-bus k.on.bus k.on.is_bus k.owner

  pub bus-told : (e : List ℕ × ℕ) (k : Stood b e) → at b (path_text b k.on.bus) ≡ Some k.on.bus
  bus-told e k =
      let a : BusAt b k.on.bus = bus-at k.on.bus (its-bus e k) in
      ap (at b) a.told ∙ leads b h k.on.bus a.path a.way

  -- a device's part
  pub part-of : (e : List ℕ × ℕ) (k : Stood b e) (name : List ℕ) (m : ℕ) → slot_named b e.1 name ≡ Some (child m) → has_entry (name, m) (child_entries b e.1) ≡ true
  part-of e k name m at = child-there name m (slots_at b e.1) at

  -- the bus of a bridge
  pub own-bus : (e : List ℕ × ℕ) (k : Stood b e) → k.here.kind ≡ SlotBridge → (m : ℕ) × (has_entry (codes "bus.0", m) (child_entries b e.1) ≡ true)
  own-bus e k is =
      let row : property_named k.here.kind (codes "bus.0") ≡ Some bus_row = ap (λ (t : TypeId). property_named t (codes "bus.0")) is ∙ bus-named in
      let (s, (on, fits)) =
      shapes_say_lem.there b h.shape e.1 (codes "bus.0") bus_row k.stood (record { kind = k.here.kind; its = k.here.its; row = row }) in
      let (m, child_is) = bus-fits s fits in
      (m, part-of e k (codes "bus.0") m (on ∙ ap Some child_is))

  pub owns-bus : (e : List ℕ × ℕ) (m : ℕ) → has_entry (codes "bus.0", m) (child_entries b e.1) ≡ true → owns b e.1 m ≡ true
  owns-bus e m on = owns-entry (codes "bus.0") m (child_entries b e.1) refl on

-- the clock of a device, at its path
pub record ClockAt (b : Board) (e : List ℕ × ℕ) : Type 0 where
  pub clock : ℕ
  pub its : clock_of b e.1 ≡ Some clock
  pub there : has_entry (codes "clk", clock) (child_entries b e.1) ≡ true
  pub found : at b (clock_path e.0) ≡ Some clock
  pub told : path_text b clock ≡ clock_path e.0

module _ (b : Board) (h : IsInOrder b) (says : is_describable b ≡ true) where
  pub clock-at : (e : List ℕ × ℕ) (k : Stood b e) → is_a k.here.kind (codes "slot-device") ≡ true → ClockAt b e
  clock-at e k is =
      let (s, (on, fits)) =
      shapes_say_lem.there b h.shape e.1 (codes "clk") clk_row k.stood
      (record { kind = k.here.kind; its = k.here.its; row = clk-named k.here.kind is }) in
      let (c, child_is) = clk-fits s fits in
      let slot : slot_named b e.1 (codes "clk") ≡ Some (child c) = on ∙ ap Some child_is in
      let there : has_entry (codes "clk", c) (child_entries b e.1) ≡ true = child-there (codes "clk") c (slots_at b e.1) slot in
      let old : PERIPHERAL_BIRTH < e.1 = older b h PERIPHERAL_BIRTH e k.here.there in
      let way : path_down_to b c ≡ Some (clock_path e.0) = inner-way b h e.1 c e.0 (codes "clk") k.here.there there in
      record {
        clock = c;
        its = ap (option_and_then child_named) slot;
        there = there;
        found = leads b h c (clock_path e.0) way;
        told = told b h c (clock_path e.0) (apart b h e.1 (codes "clk", c) (omega arith) there) way;
      }
