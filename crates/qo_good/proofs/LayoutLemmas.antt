-- What a description leaves unsaid of a describable board, and the clocks of its devices.
use Rattle.std.proofs.Common.{◌≡◌, ◌≢◌, refl, ap, sym, subst, ◌∙◌, rules, ℕ, suc, ◌<◌, ◌^◌, Bool, true, false, not, ◌==◌, ◌&&◌, List, filter_map, Option, Some, None, option_map, option_and_then, unwrap_or, codes}
use Rattle.qo_model.proofs.Common.{AllByRecursion, if◌then◌else◌, option_map_or, bytes_eq, type_name, PERIPHERAL_BIRTH, ROOT_BUS_BIRTH, SYSTEM_CLOCK_BIRTH, TypeId, MemDimm, Object, SlotBridge, Range, range_at, Registers, bare, bridge, dimm, timer, uart, Board, Record, Slot, record_of, slot_named, child_period, period, scaled, scaled_by, mul_of, div_of, child_named, path_down_to, property_named, source_for, is_a, types}
use Rattle.std.proofs.lemmas.Slice.Eq.{bytes_eq-Decides}
use Rattle.qo_values.proofs.EachLemmas.{each}
use Rattle.qo_values.proofs.ListLemmas.{all-imply}
use Rattle.qo_model.proofs.PeriodLemmas.{period-fed, period-own}
use Rattle.qo_model.specs.Properties.{path_text, target_text}
use Rattle.qo_save.specs.Described.{clock_item, clock_item_of, description, is_describable}
use Rattle.qo_save.specs.Description.{ClockItem, DeviceItem}
use Rattle.qo_sound.proofs.TestLemmas.{decide}
use Rattle.qo_sound_bounds.proofs.ClockLemmas.{source-bridge, source-machines}
use Rattle.qo_sound_devices.specs.SoundPlaces.{child_entries}
use Rattle.qo_sound_phases.proofs.ResetTreeLemmas.{placed}
use Rattle.qo_sound_order.specs.SoundOrder.{is_abstract}
use Rattle.qo_good.specs.Good.{bus_path, clock_path, clock_said, device_path, has_clock, HasClock, IsBridgeLaid, Layout}
use Rattle.qo_good.specs.GoodBoards.{IsWhole}
use Rattle.qo_good.proofs.BusLemmas.{bus-told, ClockAt, clock-at, own-bus, owns-bus, Stood, stood-all}
use Rattle.qo_good.proofs.ItemLemmas.{all-map, filter_map-map, filter_map-same}
use Rattle.qo_good.proofs.ObjectLemmas.{system-free}
use Rattle.qo_good.proofs.PartLemmas.{device_as, devices-said}
use Rattle.qo_good.proofs.PlaceLemmas.{at, inner-way, leads, root_bus-way, told}
use Rattle.qo_good.proofs.ValueLemmas.{unnamed}

-- the range in registers
abbrev pub range_kept : Registers → Range
range_kept (dimm r) = range_at r.address r.size
range_kept (uart r) = range_at 0 0
range_kept (timer r) = range_at 0 0
range_kept (bridge r) = range_at 0 0
range_kept bare = range_at 0 0

abbrev pub range_on : Board → ℕ → Range
range_on b n = option_map_or range_kept (option_map (λ (r : Record). r.registers) (record_of b n)) (range_at 0 0)

-- by how deep buses are
abbrev pub laid : (ℕ → ℕ) → Board → Layout
laid depth b =
    record {
      depth = λ path. option_map_or depth (at b path) 0;
      period = λ path. option_map_or (λ (q : ℕ). child_period b (source_for b q)) (at b path) 0;
      mul = λ id. option_map_or (mul_of b) (at b (clock_path id)) 1;
      div = λ id. option_map_or (div_of b) (at b (clock_path id)) 1;
      range = λ id. option_map_or (range_on b) (at b (device_path id)) (range_at 0 0);
    }

-- ---- types of devices

pub named-bridge : (t : TypeId) → type_name t ≡ type_name SlotBridge → t ≡ SlotBridge
named-bridge t e = by t ((bytes_eq-Decides (type_name t) (type_name SlotBridge)).1 e)
  where
    by : (t : TypeId) → bytes_eq (type_name t) (type_name SlotBridge) ≡ true → t ≡ SlotBridge
    by = each (λ (t : TypeId). bytes_eq (type_name t) (type_name SlotBridge) ≡ true → t ≡ SlotBridge) (search rules)

pub clock-by_type : (t : TypeId) → has_clock (type_name t) ≡ is_a t (codes "slot-device")
unfolding types
clock-by_type = each (λ (t : TypeId). has_clock (type_name t) ≡ is_a t (codes "slot-device")) (search rules)

other-dimm : (t : TypeId) → is_abstract t ≡ false → is_a t (codes "device") ≡ true → is_a t (codes "slot-device") ≡ false → t ≡ MemDimm
unfolding types
other-dimm = each (λ (t : TypeId). is_abstract t ≡ false → is_a t (codes "device") ≡ true → is_a t (codes "slot-device") ≡ false → t ≡ MemDimm) (search rules)

dimm-no_clock : property_named MemDimm (codes "clk") ≡ None
unfolding types
dimm-no_clock = refl

pub bridge-slot : is_a SlotBridge (codes "slot-device") ≡ true
unfolding types
bridge-slot = refl

-- what is said of a clock, one way and the other
abbrev say : Bool → ℕ → ℕ → List ℕ → Option ClockItem
say has mul div path = if has && not ((mul == 1) && (div == 1)) then Some (record { div = div; mul = mul; path = path }) else None

either-way : {X : Type 0} (u : Bool) (x : X) → (if u then None else Some x) ≡ (if true && not u then Some x else None)
either-way true x = refl
either-way false x = refl

module _ (b : Board) (h : IsWhole b) (says : is_describable b ≡ true) where
  abbrev depth : ℕ → ℕ
  depth = h.order.devices.places.0

  abbrev pub l : Layout
  l = laid h.order.devices.places.0 b

  pub bus-said : (e : List ℕ × ℕ) (k : Stood b e) → (device_as b e).bus ≡ path_text b k.on.bus
  bus-said e k = ap (target_text b) k.on.on

  pub driver-said : (e : List ℕ × ℕ) (k : Stood b e) → (device_as b e).driver ≡ type_name k.here.kind
  driver-said e k = ap (λ (o : Option TypeId). type_name (unwrap_or o Object)) k.here.its

  bus-led : (e : List ℕ × ℕ) (k : Stood b e) → at b (device_as b e).bus ≡ Some k.on.bus
  bus-led e k = ap (at b) (bus-said e k) ∙ bus-told b h.order says e k

  pub depth-said : (e : List ℕ × ℕ) (k : Stood b e) → l.depth (device_as b e).bus ≡ h.order.devices.places.0 k.on.bus
  depth-said e k = ap (λ (o : Option ℕ). option_map_or h.order.devices.places.0 o 0) (bus-led e k)

  period-said : (e : List ℕ × ℕ) (k : Stood b e) → l.period (device_as b e).bus ≡ child_period b (source_for b k.on.bus)
  period-said e k = ap (λ (o : Option ℕ). option_map_or (λ (q : ℕ). child_period b (source_for b q)) o 0) (bus-led e k)

  mul-said : (e : List ℕ × ℕ) (c : ClockAt b e) → l.mul e.0 ≡ mul_of b c.clock
  mul-said e c = ap (λ (o : Option ℕ). option_map_or (mul_of b) o 1) c.found

  div-said : (e : List ℕ × ℕ) (c : ClockAt b e) → l.div e.0 ≡ div_of b c.clock
  div-said e c = ap (λ (o : Option ℕ). option_map_or (div_of b) o 1) c.found

  -- the period of those that go by a device's clock
  below-said : (e : List ℕ × ℕ) (k : Stood b e) (c : ClockAt b e) → scaled_by (l.mul e.0) (l.div e.0) (l.period (device_as b e).bus) ≡ child_period b c.clock
  below-said e k c =
      let fed : period b c.clock ≡ child_period b (source_for b k.on.bus) =
      period-fed b c.clock (source_for b k.on.bus) (h.sources.fed e.1 k.on.bus c.clock k.realized k.on.on c.its) in
      ap (λ (m : ℕ). scaled_by m (l.div e.0) (l.period (device_as b e).bus)) (mul-said e c)
      ∙ ap (λ (v : ℕ). scaled_by (mul_of b c.clock) v (l.period (device_as b e).bus)) (div-said e c)
      ∙ ap (scaled_by (mul_of b c.clock) (div_of b c.clock)) (period-said e k ∙ sym fed)

  pub clock-fits : (e : List ℕ × ℕ) (k : Stood b e) → is_a k.here.kind (codes "slot-device") ≡ true → HasClock l (device_as b e)
  clock-fits e k is =
      let c : ClockAt b e = clock-at b h.order says e k is in
      record {
        divides = subst (λ (v : ℕ). v ≢ 0) (sym (div-said e c)) (h.clocks.fit.divides c.clock);
        div = subst (λ (v : ℕ). v < 2 ^ 32) (sym (div-said e c)) (h.numbers c.clock).div;
        mul = subst (λ (v : ℕ). v < 2 ^ 32) (sym (mul-said e c)) (h.numbers c.clock).mul;
        fits = subst (λ (v : ℕ). v < 2 ^ 64) (sym (below-said e k c)) (h.clocks.fit.fits c.clock);
      }

  -- ---- bridges

  bridge-laid : (e : List ℕ × ℕ) (k : Stood b e) → k.here.kind ≡ SlotBridge → IsBridgeLaid l (device_as b e)
  bridge-laid e k is =
      let (m, on) = own-bus b h.order says e k is in
      let c : ClockAt b e = clock-at b h.order says e k (ap (λ (t : TypeId). is_a t (codes "slot-device")) is ∙ bridge-slot) in
      let way : path_down_to b m ≡ Some (bus_path e.0) = inner-way b h.order e.1 m e.0 (codes "bus.0") k.here.there on in
      let found : at b (bus_path e.0) ≡ Some m = leads b h.order m (bus_path e.0) way in
      let source : source_for b m ≡ c.clock =
      source-bridge b (placed b h.order.devices) e.1 m k.stood (owns-bus b h.order says e m on) ∙ ap (λ (o : Option ℕ). unwrap_or o SYSTEM_CLOCK_BIRTH) c.its in
      record {
        depth =
            ap (λ (o : Option ℕ). option_map_or h.order.devices.places.0 o 0) found
            ∙ h.order.devices.places.1.shallow.below e.1 k.on.bus m k.stood k.on.on (owns-bus b h.order says e m on)
            ∙ ap suc (sym (depth-said e k));
        period =
            ap (λ (o : Option ℕ). option_map_or (λ (q : ℕ). child_period b (source_for b q)) o 0) found ∙ ap (child_period b) source ∙ sym (below-said e k c);
      }

  pub bridges-laid : AllByRecursion (λ (x : DeviceItem). x.driver ≡ type_name SlotBridge → IsBridgeLaid l x) (description b).devices
  bridges-laid =
      subst (AllByRecursion (λ (x : DeviceItem). x.driver ≡ type_name SlotBridge → IsBridgeLaid l x)) (sym (devices-said b h.order))
      (all-map (Stood b) (λ (x : DeviceItem). x.driver ≡ type_name SlotBridge → IsBridgeLaid l x) (device_as b)
      (λ e k named. bridge-laid e k (named-bridge k.here.kind (sym (driver-said e k) ∙ named))) (child_entries b PERIPHERAL_BIRTH)
      (stood-all b h.order says))

  -- ---- the machine's bus

  root-found : at b (codes "/machine/root.0") ≡ Some ROOT_BUS_BIRTH
  root-found = leads b h.order ROOT_BUS_BIRTH (codes "/machine/root.0") (root_bus-way b h.order)

  pub root_depth-laid : l.depth (codes "/machine/root.0") ≡ 0
  root_depth-laid = ap (λ (o : Option ℕ). option_map_or h.order.devices.places.0 o 0) root-found ∙ h.order.devices.places.1.shallow.top.0

  pub root_period-laid : l.period (codes "/machine/root.0")
      ≡ scaled_by (description b).clock.mul (description b).clock.div (description b).clock.period
  root_period-laid =
      ap (λ (o : Option ℕ). option_map_or (λ (q : ℕ). child_period b (source_for b q)) o 0) root-found
      ∙ ap (child_period b) (source-machines b (placed b h.order.devices) ROOT_BUS_BIRTH refl)
      ∙ ap (scaled b SYSTEM_CLOCK_BIRTH) (period-own b SYSTEM_CLOCK_BIRTH (system-free b h))

  -- ---- what is said of clocks

  -- a DIMM has none
  pub no-clock : (e : List ℕ × ℕ) (k : Stood b e) → is_a k.here.kind (codes "slot-device") ≡ false → clock_item_of b e ≡ None
  no-clock e k is =
      let kind : k.here.kind ≡ MemDimm = other-dimm k.here.kind k.here.concrete k.here.wants is in
      let slot : slot_named b e.1 (codes "clk") ≡ None =
      unnamed b h.order.shape e.1 MemDimm (k.here.its ∙ ap Some kind) (codes "clk") (λ s x. x) dimm-no_clock in
      ap (λ (o : Option Slot). option_and_then (clock_item b) (option_and_then child_named o)) slot

  clock-same : (e : List ℕ × ℕ) (k : Stood b e) → clock_item_of b e ≡ clock_said l (device_as b e)
  clock-same e k = decide (is_a k.here.kind (codes "slot-device")) has none
    where
      own : has_clock (device_as b e).driver ≡ is_a k.here.kind (codes "slot-device")
      own = ap has_clock (driver-said e k) ∙ clock-by_type k.here.kind

      has : is_a k.here.kind (codes "slot-device") ≡ true → clock_item_of b e ≡ clock_said l (device_as b e)
      has is =
          let c : ClockAt b e = clock-at b h.order says e k is in
          ap (option_and_then (clock_item b)) c.its
          ∙ either-way ((mul_of b c.clock == 1) && (div_of b c.clock == 1))
          (record { div = div_of b c.clock; mul = mul_of b c.clock; path = path_text b c.clock })
          ∙ ap (say true (mul_of b c.clock) (div_of b c.clock)) c.told
          ∙ ap (λ (v : ℕ). say true (mul_of b c.clock) v (clock_path e.0)) (sym (div-said e c))
          ∙ ap (λ (m : ℕ). say true m (l.div e.0) (clock_path e.0)) (sym (mul-said e c))
          ∙ ap (λ (u : Bool). say u (l.mul e.0) (l.div e.0) (clock_path e.0)) (sym (own ∙ is))

      none : is_a k.here.kind (codes "slot-device") ≡ false → clock_item_of b e ≡ clock_said l (device_as b e)
      none is = no-clock e k is ∙ ap (λ (u : Bool). say u (l.mul e.0) (l.div e.0) (clock_path e.0)) (sym (own ∙ is))

  pub clocks-laid : (description b).clocks ≡ filter_map (clock_said l) (description b).devices
  clocks-laid =
      filter_map-same (clock_item_of b) (λ (e : List ℕ × ℕ). clock_said l (device_as b e)) (child_entries b PERIPHERAL_BIRTH)
      (all-imply (Stood b) (λ (e : List ℕ × ℕ). clock_item_of b e ≡ clock_said l (device_as b e)) clock-same (child_entries b PERIPHERAL_BIRTH)
      (stood-all b h.order says))
      ∙ sym (filter_map-map (device_as b) (clock_said l) (child_entries b PERIPHERAL_BIRTH))
      ∙ ap (filter_map (clock_said l)) (sym (devices-said b h.order))
