-- How the clocks of devices show, and the system's.
use Rattle.std.proofs.Common.{◌≡◌, ◌⊎◌, inl, inr, refl, ap, ap₂, sym, subst, ◌∙◌, ℕ, ◌<◌, Bool, true, false, ◌==◌, ◌&&◌, List, [], ◌∷◌, ◌++◌, filter_map, find, Option, Some, None, option_map, option_and_then, unwrap_or, codes, arith}
use Rattle.qo_model.proofs.Common.{AllByRecursion, option_map_or, bytes_eq, PERIPHERAL_BIRTH, ROOT_BIRTH, ROOT_BUS_BIRTH, MEMORY_BUS_BIRTH, SYSTEM_CLOCK_BIRTH, TypeId, Clock, SlotBridge, Board, Slot, plain, child, strong, weak, alias, kind_of, slot_named, number_in, plain_in, own_period, mul_of, div_of, source_of, among, property_named, source_for, is_a, types}
use Rattle.std.specs.List.{flat_map}
use Rattle.std.proofs.lemmas.Bool.{and_parts, eqb-true}
use Rattle.std.proofs.lemmas.List.{append_cancel_right}
use Rattle.std.proofs.lemmas.Option.{same_Some}
use Rattle.std.proofs.lemmas.Slice.Eq.{bytes_eq-Decides}
use Rattle.qo_values.proofs.ListLemmas.{all-imply}
use Rattle.qo_values.specs.declared.properties.Val.TheVariants as val
use Rattle.qo_model.specs.Clocks.{weak_in}
use Rattle.qo_model.specs.Properties.{path_text, target_text}
use Rattle.qo_model.specs.Types.{property}
use Rattle.qo_model.specs.declared.properties.Access.TheVariants.{Never}
use Rattle.qo_model.specs.declared.properties.Property.{Property}
use Rattle.qo_model.specs.declared.properties.PropertyName.TheVariants as prop
use Rattle.qo_model.specs.declared.properties.PropertyRole.TheVariants as row
use Rattle.qo_save.specs.Described.{clock_item, clock_item_of, description, factors_of, is_describable}
use Rattle.qo_save.specs.Description.{ClockItem, Description, DeviceItem}
use Rattle.qo_save.specs.Like.{names, sight}
use Rattle.qo_sound.proofs.TestLemmas.{clash, decide}
use Rattle.qo_sound_bounds.proofs.ClockLemmas.{source-bridge, source-machines}
use Rattle.qo_sound_devices.specs.SoundPlaces.{child_entries, has_entry}
use Rattle.qo_sound_phases.proofs.ResetTreeLemmas.{placed}
use Rattle.qo_sound_shapes.specs.SoundShape.{HasRole}
use Rattle.qo_sound_shapes.proofs.FactLemmas.{shapes_say_lem}
use Rattle.qo_good.specs.Good.{bus_path, clock_path, device_path, OneOf}
use Rattle.qo_good.specs.GoodBoards.{IsWhole}
use Rattle.qo_good.proofs.BusLemmas.{bridge_bus, ClockAt, clock-at, its-bus, memory_bus, owns-bus, root_bus, Stood, stood-all, WhichBus}
use Rattle.qo_good.proofs.ItemLemmas.{one-both, one-imply, one-map, one-of}
use Rattle.qo_good.proofs.LayoutLemmas.{bridge-slot, bus-said, no-clock}
use Rattle.qo_good.proofs.ObjectLemmas.{system-free}
use Rattle.qo_good.proofs.PartLemmas.{device_as, devices-said, system-kind}
use Rattle.qo_good.proofs.PlaceLemmas.{apart, at, inner-way, memory_bus-way, older, one-entry, part-way, root_bus-way, told}
use Rattle.qo_good.proofs.ValueLemmas.{named}
use Rattle.qo_alike.specs.AlikeBoards.{TellsTypes}
use Rattle.qo_alike.specs.Seen.{clock_said, clock_shows, seen_as, source_said}
use Rattle.qo_alike.proofs.LinkSaidLemmas.{find-flat}
use Rattle.qo_alike.proofs.SightLemmas.{sight-clock}

-- ---- lists

abbrev listed_of : {X : Type 0} → Option X → List X
listed_of None = []
listed_of (Some x) = x ∷ []

some-flat : {E X : Type 0} (f : E → Option X) (es : List E) → filter_map f es ≡ flat_map (λ (e : E). listed_of (f e)) es
some-flat f [] = refl
some-flat {X = X} f (e ∷ es) = go (f e) refl (some-flat f es)
  where
    go : (o : Option X) → f e ≡ o → filter_map f es ≡ flat_map (λ x. listed_of (f x)) es → filter_map f (e ∷ es) ≡ flat_map (λ x. listed_of (f x)) (e ∷ es)
    go None q rest = rw q rest
    go (Some x) q rest = rw q (ap (λ (xs : List X). x ∷ xs) rest)

same-id : (id other : List ℕ) → bus_path id ≡ bus_path other → device_path id ≡ device_path other
same-id id other e = append_cancel_right (device_path id) (device_path other) (codes "/bus.0") e

find-none : {X : Type 0} (test : X → Bool) (xs : List X) → AllByRecursion (λ (x : X). test x ≡ false) xs → find test xs ≡ None
find-none test [] h = refl
find-none test (x ∷ xs) h = rw h.0 (find-none test xs h.1)

-- what is found, where each that passes is told alike
find-alike : {X Y : Type 0} (test : X → Bool) (f : X → Y) (y : Y) (xs : List X) → AllByRecursion (λ (x : X). test x ≡ true → f x ≡ y) xs
    → OneOf (λ (x : X). test x ≡ true) xs → option_map f (find test xs) ≡ Some y
find-alike test f y [] h one = absurd one
find-alike {X = X} {Y = Y} test f y (x ∷ xs) h one = go (test x) refl one (find-alike test f y xs h.1)
  where
    go : (t : Bool) → test x ≡ t → OneOf (λ (z : X). test z ≡ true) (x ∷ xs) → (OneOf (λ (z : X). test z ≡ true) xs → option_map f (find test xs) ≡ Some y)
        → option_map f (find test (x ∷ xs)) ≡ Some y
    go true q k rest = rw q (ap Some (h.0 q))
    go false q (inl k) rest = clash (sym k ∙ q)
    go false q (inr k) rest = rw q (rest k)

map-or : {X Y : Type 0} (f : X → Y) (o : Option X) (y first : Y) → option_map f o ≡ Some y → option_map_or f o first ≡ y
map-or f None y first e = absurd (cc)
map-or f (Some x) y first e = same_Some (f x) y e

-- ---- the row of a source

abbrev source_row : Property
source_row = property prop.Source (row.Link Clock false) Never

source-named : property_named Clock (codes "source") ≡ Some source_row
unfolding types
source-named = refl

source-shape : (s : Slot) → HasRole source_row.role s → (target : Option ℕ) × (s ≡ weak Clock target)
source-shape (weak t target) e = (target, ap (λ (k : TypeId). weak k target) e)
source-shape (plain v) e = absurd e
source-shape (child m) e = absurd e
source-shape (strong t target) e = absurd e
source-shape (alias m of) e = absurd e

one-number : (v : ℕ) (first : ℕ) (o : Option Slot) → o ≡ Some (plain (val.Uint v)) → unwrap_or (option_and_then number_in (option_and_then plain_in o)) first ≡ v
one-number v first o e = ap (λ (k : Option Slot). unwrap_or (option_and_then number_in (option_and_then plain_in k)) first) e

module _ (b : Board) (h : IsWhole b) (tells : TellsTypes b) (says : is_describable b ≡ true) where
  abbrev d : Description
  d = description b

  -- a clock shows by its numbers and what it goes by
  clock-by : (c : ℕ) → kind_of b c ≡ Some Clock → (path : List ℕ) → path_text b c ≡ path
      → sight b c ≡ seen_as path Clock (clock_shows (own_period b c) (mul_of b c) (div_of b c) (target_text b (source_of b c))) []
  clock-by c kind path text =
      let all = shapes_say_lem.clock b h.order.shape c kind in
      let (period, at_period) = all.0 in
      let (mul, at_mul) = all.1.0 in
      let (div, at_div) = all.1.1.0 in
      let (s, (at_source, fits)) = named b h.order.shape c Clock kind (codes "source") source_row source-named refl in
      let (target, is) = source-shape s fits in
      let slot : slot_named b c (codes "source") ≡ Some (weak Clock target) = at_source ∙ ap Some is in
      let by : source_of b c ≡ target = ap (option_and_then weak_in) slot in
      sight-clock b h.order tells c kind path text (own_period b c) (mul_of b c) (div_of b c) (target_text b (source_of b c))
      (at_period ∙ ap (λ (n : ℕ). Some (plain (val.Uint n))) (sym (one-number period 0 (slot_named b c (codes "period")) at_period)))
      (at_mul ∙ ap (λ (n : ℕ). Some (plain (val.Uint n))) (sym (one-number mul 1 (slot_named b c (codes "mul")) at_mul)))
      (at_div ∙ ap (λ (n : ℕ). Some (plain (val.Uint n))) (sym (one-number div 1 (slot_named b c (codes "div")) at_div))) (weak Clock target) slot
      (ap (λ (o : Option ℕ). names (target_text b o)) (sym by))

  -- the system's
  pub system-sight : sight b SYSTEM_CLOCK_BIRTH ≡ seen_as (codes "/machine/sysclk") Clock (clock_shows d.clock.period d.clock.mul d.clock.div []) []
  system-sight =
      clock-by SYSTEM_CLOCK_BIRTH (system-kind b h.order) (codes "/machine/sysclk")
      (told b h.order SYSTEM_CLOCK_BIRTH (codes "/machine/sysclk") refl (part-way b h.order SYSTEM_CLOCK_BIRTH (codes "sysclk") refl refl))
      ∙ ap (λ (o : Option ℕ). seen_as (codes "/machine/sysclk") Clock (clock_shows d.clock.period d.clock.mul d.clock.div (target_text b o)) []) (system-free b h)

  -- ---- what is said of a device's clock

  module _ (e : List ℕ × ℕ) (k : Stood b e) (c : ClockAt b e) where
    abbrev es : List (List ℕ × ℕ)
    es = child_entries b PERIPHERAL_BIRTH

    abbrev test : ClockItem → Bool
    test y = bytes_eq y.path (clock_path e.0)

    -- that of a clock
    own-item : (m : ℕ) (id : List ℕ) → path_text b m ≡ clock_path id → (y : ClockItem) → clock_item b m ≡ Some y → y.path ≡ clock_path id
    own-item m id text y is = go ((mul_of b m == 1) && (div_of b m == 1)) refl
      where
        go : (t : Bool) → ((mul_of b m == 1) && (div_of b m == 1)) ≡ t → y.path ≡ clock_path id
        go true q = absurd (let clash : None ≡ Some y = rw q at is in cc)
        go false q = ap (λ (z : ClockItem). z.path) (sym (same_Some (factors_of b m) y (rw q at is))) ∙ text

    item-of : (x : List ℕ × ℕ) (j : ClockAt b x) → clock_item_of b x ≡ clock_item b j.clock
    item-of x j = ap (option_and_then (clock_item b)) j.its

    each-item : (x : List ℕ × ℕ) → Stood b x → (find test (listed_of (clock_item_of b x)) ≡ None) ⊎ (find test (listed_of (clock_item_of b x)) ≡ clock_item_of b e)
    each-item x j = decide (is_a j.here.kind (codes "slot-device")) has (λ q. inl (none q))
      where
        has : is_a j.here.kind (codes "slot-device") ≡ true
            → (find test (listed_of (clock_item_of b x)) ≡ None) ⊎ (find test (listed_of (clock_item_of b x)) ≡ clock_item_of b e)
        has q = by (clock_item_of b x) refl
          where
            on : ClockAt b x
            on = clock-at b h.order says x j q

            by : (o : Option ClockItem) → clock_item_of b x ≡ o → (find test (listed_of (clock_item_of b x)) ≡ None) ⊎ (find test (listed_of (clock_item_of b x)) ≡ clock_item_of b e)
            by None r = inl (ap (λ (o : Option ClockItem). find test (listed_of o)) r)
            by (Some y) r =
                let path : y.path ≡ clock_path x.0 = own-item on.clock x.0 on.told y (sym (item-of x on) ∙ r) in
                decide (test y)
                (λ t.
                let paths : clock_path x.0 ≡ clock_path e.0 = sym path ∙ (bytes_eq-Decides y.path (clock_path e.0)).0 t in
                let clocks : on.clock ≡ c.clock = same_Some on.clock c.clock (sym on.found ∙ ap (at b) paths ∙ c.found) in
                let here : find test (listed_of (Some y)) ≡ Some y = rw t refl in
                inr (ap (λ (o : Option ClockItem). find test (listed_of o)) r ∙ here ∙ sym r ∙ item-of x on ∙ ap (clock_item b) clocks ∙ sym (item-of e c)))
                (λ t. inl (ap (λ (o : Option ClockItem). find test (listed_of o)) r ∙ rw t refl))

        none : is_a j.here.kind (codes "slot-device") ≡ false → find test (listed_of (clock_item_of b x)) ≡ None
        none q = ap (λ (o : Option ClockItem). find test (listed_of o)) (no-clock b h says x j q)

    own-found : find test (listed_of (clock_item_of b e)) ≡ clock_item_of b e
    own-found = by (clock_item_of b e) refl
      where
        by : (o : Option ClockItem) → clock_item_of b e ≡ o → find test (listed_of (clock_item_of b e)) ≡ clock_item_of b e
        by None r = ap (λ (o : Option ClockItem). find test (listed_of o)) r ∙ sym r
        by (Some y) r =
            let path : y.path ≡ clock_path e.0 = own-item c.clock e.0 c.told y (sym (item-of e c) ∙ r) in
            let passes : test y ≡ true = (bytes_eq-Decides y.path (clock_path e.0)).1 path in
            let here : find test (listed_of (Some y)) ≡ Some y = rw passes refl in
            ap (λ (o : Option ClockItem). find test (listed_of o)) r ∙ here ∙ sym r

    found-item : find test d.clocks ≡ clock_item b c.clock
    found-item =
        ap (find test) (some-flat (clock_item_of b) es)
        ∙ find-flat test (λ (x : List ℕ × ℕ). listed_of (clock_item_of b x)) (clock_item_of b e) es
        (all-imply (Stood b) (λ (x : List ℕ × ℕ). (find test (listed_of (clock_item_of b x)) ≡ None) ⊎ (find test (listed_of (clock_item_of b x)) ≡ clock_item_of b e))
        each-item es (stood-all b h.order says))
        (one-imply (λ (x : List ℕ × ℕ). (x.0 ≡ e.0) × (x.1 ≡ e.1)) (λ (x : List ℕ × ℕ). find test (listed_of (clock_item_of b x)) ≡ clock_item_of b e)
        (λ x q. ap₂ (λ (n : List ℕ) (m : ℕ). find test (listed_of (clock_item_of b (n, m)))) q.0 q.1 ∙ own-found) es (one-entry e es k.here.there))
        ∙ item-of e c

    said : (part : ClockItem → ℕ) (v : ℕ) → part (factors_of b c.clock) ≡ v → (((mul_of b c.clock == 1) && (div_of b c.clock == 1)) ≡ true → 1 ≡ v)
        → clock_said d (clock_path e.0) part ≡ v
    said part v is one = ap (λ (o : Option ClockItem). option_map_or part o 1) found-item ∙ go ((mul_of b c.clock == 1) && (div_of b c.clock == 1)) refl
      where
        go : (t : Bool) → ((mul_of b c.clock == 1) && (div_of b c.clock == 1)) ≡ t → option_map_or part (clock_item b c.clock) 1 ≡ v
        go true q = rw q (one q)
        go false q = rw q is

    mul-said : clock_said d (clock_path e.0) (λ y. y.mul) ≡ mul_of b c.clock
    mul-said = said (λ y. y.mul) (mul_of b c.clock) refl (λ q. sym (eqb-true (mul_of b c.clock) 1 (and_parts (mul_of b c.clock == 1) (div_of b c.clock == 1) q).0))

    div-said : clock_said d (clock_path e.0) (λ y. y.div) ≡ div_of b c.clock
    div-said = said (λ y. y.div) (div_of b c.clock) refl (λ q. sym (eqb-true (div_of b c.clock) 1 (and_parts (mul_of b c.clock == 1) (div_of b c.clock == 1) q).1))

    -- ---- what it goes by

    system-text : path_text b SYSTEM_CLOCK_BIRTH ≡ codes "/machine/sysclk"
    system-text = told b h.order SYSTEM_CLOCK_BIRTH (codes "/machine/sysclk") refl (part-way b h.order SYSTEM_CLOCK_BIRTH (codes "sysclk") refl refl)

    abbrev source_test : List ℕ → DeviceItem → Bool
    source_test bus y = bytes_eq bus (bus_path y.id)

    none-bridge : (bus : List ℕ) → ((id : List ℕ) → bytes_eq bus (bus_path id) ≡ false) → source_said d bus ≡ codes "/machine/sysclk"
    none-bridge bus other =
        ap (λ (o : Option DeviceItem). option_map_or (λ (y : DeviceItem). clock_path y.id) o (codes "/machine/sysclk"))
        (find-none (source_test bus) d.devices (all-other d.devices))
      where
        all-other : (ys : List DeviceItem) → AllByRecursion (λ (y : DeviceItem). source_test bus y ≡ false) ys
        all-other [] = tt
        all-other (y ∷ ys) = (other y.id, all-other ys)

    source-text : path_text b (source_for b k.on.bus) ≡ source_said d (device_as b e).bus
    source-text = by (its-bus b h.order says e k)
      where
        bus_text : (path : List ℕ) → path_text b k.on.bus ≡ path → source_said d (device_as b e).bus ≡ source_said d path
        bus_text path text = ap (source_said d) (bus-said b h says e k ∙ text)

        bridge : (p : List ℕ × ℕ) → has_entry p (child_entries b PERIPHERAL_BIRTH) ≡ true → kind_of b p.1 ≡ Some SlotBridge
            → has_entry (codes "bus.0", k.on.bus) (child_entries b p.1) ≡ true → path_text b (source_for b k.on.bus) ≡ source_said d (device_as b e).bus
        bridge p there_is kind on =
            let (x, (j, same)) =
            one-of (λ (x : List ℕ × ℕ). Stood b x × ((x.0 ≡ p.0) × (x.1 ≡ p.1))) es
            (one-both (Stood b) (λ (x : List ℕ × ℕ). (x.0 ≡ p.0) × (x.1 ≡ p.1)) es (stood-all b h.order says) (one-entry p es there_is)) in
            let here : has_entry (codes "bus.0", k.on.bus) (child_entries b x.1) ≡ true =
            subst (λ (m : ℕ). has_entry (codes "bus.0", k.on.bus) (child_entries b m) ≡ true) (sym same.1) on in
            let slot : is_a j.here.kind (codes "slot-device") ≡ true =
            ap (λ (t : TypeId). is_a t (codes "slot-device")) (same_Some j.here.kind SlotBridge (sym j.here.its ∙ ap (kind_of b) same.1 ∙ kind)) ∙ bridge-slot in
            let o : ClockAt b x = clock-at b h.order says x j slot in
            let source : source_for b k.on.bus ≡ o.clock =
            source-bridge b (placed b h.order.devices) x.1 k.on.bus j.stood (owns-bus b h.order says x k.on.bus here)
            ∙ ap (λ (u : Option ℕ). unwrap_or u SYSTEM_CLOCK_BIRTH) o.its in
            let path : path_text b k.on.bus ≡ bus_path x.0 =
            told b h.order k.on.bus (bus_path x.0) (away x j here) (inner-way b h.order x.1 k.on.bus x.0 (codes "bus.0") j.here.there here) in
            ap (path_text b) source ∙ o.told ∙ sym (bus_text (bus_path x.0) path ∙ found x j)
          where
            away : (x : List ℕ × ℕ) → Stood b x → has_entry (codes "bus.0", k.on.bus) (child_entries b x.1) ≡ true → (k.on.bus == ROOT_BIRTH) ≡ false
            away x j here =
                let old : PERIPHERAL_BIRTH < x.1 = older b h.order PERIPHERAL_BIRTH x j.here.there in
                apart b h.order x.1 (codes "bus.0", k.on.bus) (omega arith) here

            found : (x : List ℕ × ℕ) (j : Stood b x) → source_said d (bus_path x.0) ≡ clock_path x.0
            found x j =
                map-or (λ (y : DeviceItem). clock_path y.id) (find (source_test (bus_path x.0)) d.devices) (clock_path x.0) (codes "/machine/sysclk")
                (find-alike (source_test (bus_path x.0)) (λ (y : DeviceItem). clock_path y.id) (clock_path x.0) d.devices (all-alike d.devices)
                (subst (OneOf (λ (y : DeviceItem). source_test (bus_path x.0) y ≡ true)) (sym (devices-said b h.order))
                (one-map (λ (z : List ℕ × ℕ). (z.0 ≡ x.0) × (z.1 ≡ x.1)) (λ (y : DeviceItem). source_test (bus_path x.0) y ≡ true) (device_as b)
                (λ z q. (bytes_eq-Decides (bus_path x.0) (bus_path z.0)).1 (ap bus_path (sym q.0))) es (one-entry x es j.here.there))))
              where
                all-alike : (ys : List DeviceItem) → AllByRecursion (λ (y : DeviceItem). source_test (bus_path x.0) y ≡ true → clock_path y.id ≡ clock_path x.0) ys
                all-alike [] = tt
                all-alike (y ∷ ys) =
                    ((λ q. ap (λ (way : List ℕ). way ++ codes "/clk") (same-id y.id x.0 (sym ((bytes_eq-Decides (bus_path x.0) (bus_path y.id)).0 q)))), all-alike ys)

        by : WhichBus b k.on.bus → path_text b (source_for b k.on.bus) ≡ source_said d (device_as b e).bus
        by (root_bus is) =
            ap (path_text b) (source-machines b (placed b h.order.devices) k.on.bus (ap (λ (m : ℕ). among (ROOT_BUS_BIRTH ∷ MEMORY_BUS_BIRTH ∷ []) m) is)) ∙ system-text
            ∙ sym (bus_text (codes "/machine/root.0") (ap (path_text b) is ∙ told b h.order ROOT_BUS_BIRTH (codes "/machine/root.0") refl (root_bus-way b h.order))
            ∙ none-bridge (codes "/machine/root.0") (λ id. refl))
        by (memory_bus is) =
            ap (path_text b) (source-machines b (placed b h.order.devices) k.on.bus (ap (λ (m : ℕ). among (ROOT_BUS_BIRTH ∷ MEMORY_BUS_BIRTH ∷ []) m) is)) ∙ system-text
            ∙ sym (bus_text (codes "/machine/mem.0") (ap (path_text b) is ∙ told b h.order MEMORY_BUS_BIRTH (codes "/machine/mem.0") refl (memory_bus-way b h.order))
            ∙ none-bridge (codes "/machine/mem.0") (λ id. refl))
        by (bridge_bus p there_is kind on its) = bridge p there_is kind on

    pub clock-sight : sight b c.clock
        ≡ seen_as (clock_path e.0) Clock
        (clock_shows 0 (clock_said d (clock_path e.0) (λ y. y.mul)) (clock_said d (clock_path e.0) (λ y. y.div)) (source_said d (device_as b e).bus)) []
    clock-sight =
        let source : source_of b c.clock ≡ Some (source_for b k.on.bus) = h.sources.fed e.1 k.on.bus c.clock k.realized k.on.on c.its in
        let kind : kind_of b c.clock ≡ Some Clock = h.sources.clocks e.1 c.clock k.realized c.its in
        let period : own_period b c.clock ≡ 0 = h.clocks.none_own c.clock (source_for b k.on.bus) source in
        clock-by c.clock kind (clock_path e.0) c.told
        ∙ ap (λ (n : ℕ). seen_as (clock_path e.0) Clock (clock_shows n (mul_of b c.clock) (div_of b c.clock) (target_text b (source_of b c.clock))) []) period
        ∙ ap (λ (n : ℕ). seen_as (clock_path e.0) Clock (clock_shows 0 n (div_of b c.clock) (target_text b (source_of b c.clock))) []) (sym mul-said)
        ∙ ap (λ (n : ℕ). seen_as (clock_path e.0) Clock (clock_shows 0 (clock_said d (clock_path e.0) (λ y. y.mul)) n (target_text b (source_of b c.clock))) [])
        (sym div-said)
        ∙ ap (λ (path : List ℕ). seen_as (clock_path e.0) Clock
        (clock_shows 0 (clock_said d (clock_path e.0) (λ y. y.mul)) (clock_said d (clock_path e.0) (λ y. y.div)) path) [])
        (ap (target_text b) source ∙ source-text)
