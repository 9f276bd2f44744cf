-- The factors of the clocks of a good description are written, one clock after another, and the board tells each after those before.
use Rattle.std.proofs.Common.{◌≡◌, refl, ap, sym, subst, ◌∙◌, ℕ, zero, suc, ◌<◌, ◌^◌, ◌==◌, ◌&&◌, Bool, true, false, eqb, List, [], ◌∷◌, ◌++◌, filter_map, map, Option, Some, None, option_and_then, unwrap_or, codes, Ok, append_assoc, append-nil, arith}
use Rattle.std.specs.List.{flat_map}
use Rattle.std.proofs.lemmas.Bool.{and_parts, eqb-true}
use Rattle.std.proofs.lemmas.Option.{same_Some}
use Rattle.qo_model.proofs.Common.{AllByRecursion, option_map_or, type_name, PERIPHERAL_BIRTH, ROOT_BIRTH, ROOT_BUS_BIRTH, SYSTEM_CLOCK_BIRTH, TypeId, Clock, SlotBridge, Board, Slot, kind_of, kids_of, slots_at, bus_type, canonical, child_named, child_period, clock_of, clock_scaled, div_of, mul_of, is_of, path_down_to, period, scaled, scaled_by, source_for, source_of, is_a}
use Rattle.qo_values.proofs.ListLemmas.{all-imply}
use Rattle.qo_model.specs.Paths.{parent_of}
use Rattle.qo_model.specs.Properties.{path_text}
use Rattle.qo_model.specs.SoundGraph.{Rises}
use Rattle.qo_model.proofs.AmongLemmas.{among-all}
use Rattle.qo_model.proofs.FirstSlotLemmas.{named_in}
use Rattle.qo_model.proofs.PeriodLemmas.{period-fed, period-own}
use Rattle.qo_save.specs.Described.{clock_item, clock_item_of, description, is_describable}
use Rattle.qo_save.specs.Description.{ClockItem, Description, DeviceItem}
use Rattle.qo_save.specs.Rebuilding.{all_done, factor_steps, set_number, Step}
use Rattle.qo_sound.proofs.RecordLemmas.{all-unmap}
use Rattle.qo_sound.proofs.TestLemmas.{decide}
use Rattle.qo_sound_bounds.proofs.ClockLemmas.{clock-listed, source-bridge, source-machines}
use Rattle.qo_sound_devices.specs.SoundPlaces.{child_entries, has_entry}
use Rattle.qo_sound_devices.proofs.AttachmentLemmas.{parent-is}
use Rattle.qo_sound_devices.proofs.DetachmentLemmas.{listed-kid}
use Rattle.qo_sound_phases.proofs.ResetTreeLemmas.{placed}
use Rattle.qo_good.specs.Good.{bus_path, clock_path, clock_said, EachAfter, factors, Good, has_clock, HasClock, IsBridgeLaid, IsGoodDevice, Layout}
use Rattle.qo_good.specs.GoodBoards.{IsWhole}
use Rattle.qo_good.proofs.BusLemmas.{bridge_bus, ClockAt, clock-at, its-bus, memory_bus, memory-only, owns-bus, root_bus, Stood, stood-all, WhichBus}
use Rattle.qo_good.proofs.ItemLemmas.{all-after, all-append, all-both, all-front, births_in, filter_map-map, filter_map-same, rises-after, rises-before}
use Rattle.qo_good.proofs.LayoutLemmas.{bridge-slot, bus-said, clock-by_type, driver-said}
use Rattle.qo_good.proofs.ObjectLemmas.{system-free}
use Rattle.qo_good.proofs.PartLemmas.{device_as, devices-said, memory_bus-kind}
use Rattle.qo_good.proofs.PlaceLemmas.{all-entry, apart, firm, inner-way, older, rises, root_bus-way, told}
use Rattle.qo_rebuilt.specs.FactorsMade.{FactorsMadeLaw}
use Rattle.qo_rebuilt.specs.Made.{Makes, Tells}
use Rattle.qo_rebuilt.proofs.ClockLemmas.{part-fits, then-done}
use Rattle.qo_rebuilt.proofs.FactorLemmas.{clock-new, clock-same, description-scaled, device-same, device-slots, Scaled, scaled-so}
use Rattle.qo_rebuilt.proofs.FitLemmas.{factor-taken, none-said}
use Rattle.qo_rebuilt.proofs.FrameLemmas.{item_of}
use Rattle.qo_rebuilt.proofs.NumberLemmas.{numbers_taken_lem}
use Rattle.qo_rebuilt.proofs.RingLemmas.{Has, has, says-so, then_all}

-- ---- what is said of a clock, and its numbers

no-memory : (t : TypeId) → is_a t (codes "slot-device") ≡ true → bus_type t ≡ codes "mem-bus" → ⊥
no-memory t is e = absurd (let no : codes "slot-bus" ≡ codes "mem-bus" = rw is at e in cc)

said-item : (l : Layout) (x : DeviceItem) (path : List ℕ) → path ≡ clock_path x.id → has_clock x.driver ≡ true
    → item_of (l.mul x.id) (l.div x.id) path ≡ clock_said l x
said-item l x path same has = ap (item_of (l.mul x.id) (l.div x.id)) same ∙ go ((l.mul x.id == 1) && (l.div x.id == 1)) refl
  where
    go : (t : Bool) → ((l.mul x.id == 1) && (l.div x.id == 1)) ≡ t → item_of (l.mul x.id) (l.div x.id) (clock_path x.id) ≡ clock_said l x
    go true e = rw (e, has) refl
    go false e = rw (e, has) refl

said-numbers : (l : Layout) (x : DeviceItem) (m v : ℕ) (path : List ℕ) → has_clock x.driver ≡ true → item_of m v path ≡ clock_said l x
    → (m ≡ l.mul x.id) × (v ≡ l.div x.id)
said-numbers l x m v path has same = go ((m == 1) && (v == 1)) refl ((l.mul x.id == 1) && (l.div x.id == 1)) refl
  where
    go : (t : Bool) → ((m == 1) && (v == 1)) ≡ t → (u : Bool) → ((l.mul x.id == 1) && (l.div x.id == 1)) ≡ u → (m ≡ l.mul x.id) × (v ≡ l.div x.id)
    go true p true q =
        let one = and_parts (m == 1) (v == 1) p in
        let two = and_parts (l.mul x.id == 1) (l.div x.id == 1) q in (
          eqb-true m 1 one.0 ∙ sym (eqb-true (l.mul x.id) 1 two.0),
          eqb-true v 1 one.1 ∙ sym (eqb-true (l.div x.id) 1 two.1),
        )
    go true p false q = absurd (let no : None ≡ Some (factors l x) = rw (p, has, q) at same in cc)
    go false p true q = absurd (let no : Some (record { div = v; mul = m; path = path }) ≡ None = rw (p, has, q) at same in cc)
    go false p false q =
        let is : (record { div = v; mul = m; path = path }) ≡ factors l x =
        same_Some (record { div = v; mul = m; path = path }) (factors l x) (rw (p, has, q) at same) in
        (ap (λ (c : ClockItem). c.mul) is, ap (λ (c : ClockItem). c.div) is)

-- ---- a description's devices, by entries

record IsLaidBy (d : Description) (l : Layout) (X : List ℕ × ℕ → DeviceItem) (es : List (List ℕ × ℕ)) : Type 0 where
  root : l.period (codes "/machine/root.0") ≡ scaled_by d.clock.mul d.clock.div d.clock.period
  bridges : AllByRecursion (λ (y : List ℕ × ℕ). (X y).driver ≡ type_name SlotBridge → IsBridgeLaid l (X y)) es
  clocks : AllByRecursion (λ (y : List ℕ × ℕ). has_clock (X y).driver ≡ true → HasClock l (X y)) es

module _ (d : Description) (l : Layout) (X : List ℕ × ℕ → DeviceItem) (es : List (List ℕ × ℕ)) (laid : IsLaidBy d l X es) where
  -- all of the description is told, but for clocks, and for links, of which there are none
  record Base (b : Board) : Type 0 where
    whole : IsWhole b
    says : is_describable b ≡ true
    quiet : b.notices ≡ []
    entries : child_entries b PERIPHERAL_BIRTH ≡ es
    same : AllByRecursion (λ (y : List ℕ × ℕ). device_as b y ≡ X y) es
    rest : record (description b) { clocks = [] } ≡ record d { clocks = []; links = [] }

  -- the clock of a device is told as the description says
  abbrev IsSaid : Board → List ℕ × ℕ → Type 0
  IsSaid b y = clock_item_of b y ≡ clock_said l (X y)

  module _ (b : Board) (f : Base b) where
    stood : AllByRecursion (Stood b) es
    stood = subst (AllByRecursion (Stood b)) f.entries (stood-all b f.whole.order f.says)

    driver-is : (y : List ℕ × ℕ) (k : Stood b y) → device_as b y ≡ X y → (X y).driver ≡ type_name k.here.kind
    driver-is y k same = ap (λ (x : DeviceItem). x.driver) (sym same) ∙ driver-said b f.whole f.says y k

    has-clock : (y : List ℕ × ℕ) (k : Stood b y) → device_as b y ≡ X y → has_clock (X y).driver ≡ is_a k.here.kind (codes "slot-device")
    has-clock y k same = ap has_clock (driver-is y k same) ∙ clock-by_type k.here.kind

    id-is : (y : List ℕ × ℕ) → device_as b y ≡ X y → (X y).id ≡ y.0
    id-is y same = ap (λ (x : DeviceItem). x.id) (sym same)

    -- the period that a device's clock has is that of its bus
    period-laid : (fuel : ℕ) (y : List ℕ × ℕ) (k : Stood b y) (c : ClockAt b y) → is_a k.here.kind (codes "slot-device") ≡ true → device_as b y ≡ X y
        → y.1 < fuel → AllByRecursion (λ (z : List ℕ × ℕ). z.1 < y.1 → IsSaid b z) es → period b c.clock ≡ l.period (X y).bus
    period-laid zero y k c is same low said = absurd (omega (arith, low))
    period-laid (suc fuel) y k c is same low said =
        fed ∙ by (its-bus b f.whole.order f.says y k) (λ z kz cz iz sz lz az. period-laid fuel z kz cz iz sz lz az)
      where
        h : IsWhole b
        h = f.whole

        fed : period b c.clock ≡ child_period b (source_for b k.on.bus)
        fed =
            period-fed b c.clock (source_for b k.on.bus) (f.whole.sources.fed y.1 k.on.bus c.clock k.realized k.on.on c.its)

        bus-is : (path : List ℕ) → path_text b k.on.bus ≡ path → l.period path ≡ l.period (X y).bus
        bus-is path way =
            ap l.period (sym way ∙ sym (bus-said b f.whole f.says y k) ∙ ap (λ (x : DeviceItem). x.bus) same)

        by : WhichBus b k.on.bus
            → ((z : List ℕ × ℕ) (kz : Stood b z) (cz : ClockAt b z) → is_a kz.here.kind (codes "slot-device") ≡ true → device_as b z ≡ X z → z.1 < fuel
            → AllByRecursion (λ (v : List ℕ × ℕ). v.1 < z.1 → IsSaid b v) es → period b cz.clock ≡ l.period (X z).bus)
            → child_period b (source_for b k.on.bus) ≡ l.period (X y).bus
        by (root_bus at) rest =
            ap (λ (q : ℕ). child_period b (source_for b q)) at
            ∙ ap (child_period b) (source-machines b (placed b f.whole.order.devices) ROOT_BUS_BIRTH refl)
            ∙ ap (scaled b SYSTEM_CLOCK_BIRTH) (period-own b SYSTEM_CLOCK_BIRTH (system-free b f.whole))
            ∙ ap (λ (x : Description). scaled_by x.clock.mul x.clock.div x.clock.period) f.rest
            ∙ sym laid.root
            ∙ bus-is (codes "/machine/root.0")
            (ap (path_text b) at ∙ told b f.whole.order ROOT_BUS_BIRTH (codes "/machine/root.0") refl (root_bus-way b f.whole.order))
        by (memory_bus at) rest =
            absurd (no-memory k.here.kind is (memory-only k.here.kind
            (sym (ap (λ (o : Option TypeId). option_map_or (λ (u : TypeId). is_a u (bus_type k.here.kind)) o false)
            (ap (kind_of b) at ∙ memory_bus-kind b f.whole.order))
            ∙ sym (ap (λ (o : Option TypeId). option_map_or (λ (u : TypeId). is_of b (bus_type u) k.on.bus) o false) k.here.its)
            ∙ k.on.fits)))
        by (bridge_bus p there kind on its) rest =
            let here : has_entry p es ≡ true = subst (λ (xs : List (List ℕ × ℕ)). has_entry p xs ≡ true) f.entries there in
            let kp : Stood b p = all-entry (Stood b) p es stood here in
            let bridge : kp.here.kind ≡ SlotBridge = same_Some kp.here.kind SlotBridge (sym kp.here.its ∙ kind) in
            let slot : is_a kp.here.kind (codes "slot-device") ≡ true = ap (λ (t : TypeId). is_a t (codes "slot-device")) bridge ∙ bridge-slot in
            let cp : ClockAt b p = clock-at b f.whole.order f.says p kp slot in
            let sp : device_as b p ≡ X p = all-entry (λ (z : List ℕ × ℕ). device_as b z ≡ X z) p es f.same here in
            let source : source_for b k.on.bus ≡ cp.clock =
            source-bridge b (placed b f.whole.order.devices) p.1 k.on.bus kp.stood (owns-bus b f.whole.order f.says p k.on.bus on)
            ∙ ap (λ (o : Option ℕ). unwrap_or o SYSTEM_CLOCK_BIRTH) cp.its in
            let old : p.1 < k.on.bus = older b f.whole.order p.1 (codes "bus.0", k.on.bus) on in
            let young : k.on.bus < y.1 =
            among-all (λ (m : ℕ). k.on.bus < m) (kids_of b k.on.bus) (f.whole.order.order.kids k.on.bus k.on.is_bus).0 y.1
            (listed-kid y.1 (slots_at b k.on.bus) k.kid) in
            let before : p.1 < y.1 = omega (arith, old, young) in
            let own : period b cp.clock ≡ l.period (X p).bus =
            rest p kp cp slot sp (omega (arith, before, low))
            (all-imply (λ (z : List ℕ × ℕ). z.1 < y.1 → IsSaid b z) (λ (z : List ℕ × ℕ). z.1 < p.1 → IsSaid b z)
            (λ z from less. from (omega (arith, less, before))) es said) in
            let its_item : IsSaid b p = all-entry (λ (z : List ℕ × ℕ). z.1 < y.1 → IsSaid b z) p es said here before in
            let numbers = said-numbers l (X p) (mul_of b cp.clock) (div_of b cp.clock) (path_text b cp.clock) (has-clock p kp sp ∙ slot)
            (sym (ap (option_and_then (clock_item b)) cp.its) ∙ its_item) in
            let lp : IsBridgeLaid l (X p) =
            all-entry (λ (z : List ℕ × ℕ). (X z).driver ≡ type_name SlotBridge → IsBridgeLaid l (X z)) p es laid.bridges here
            (driver-is p kp sp ∙ ap type_name bridge) in
            let peripheral : PERIPHERAL_BIRTH < p.1 = older b f.whole.order PERIPHERAL_BIRTH p there in
            let way : path_text b k.on.bus ≡ bus_path p.0 =
            told b f.whole.order k.on.bus (bus_path p.0) (apart b f.whole.order p.1 (codes "bus.0", k.on.bus) (omega (arith, peripheral)) on)
            (inner-way b f.whole.order p.1 k.on.bus p.0 (codes "bus.0") there on) in
            ap (child_period b) source
            ∙ ap (λ (m : ℕ). scaled_by m (div_of b cp.clock) (period b cp.clock)) numbers.0
            ∙ ap (λ (v : ℕ). scaled_by (l.mul (X p).id) v (period b cp.clock)) numbers.1
            ∙ ap (scaled_by (l.mul (X p).id) (l.div (X p).id)) own
            ∙ sym lp.period
            ∙ ap (λ (id : List ℕ). l.period (bus_path id)) (id-is p sp)
            ∙ bus-is (bus_path p.0) way

  -- ---- one write

  module _ (b c : Board) (f : Base b) (e : List ℕ × ℕ) (k : Stood b e) (clk mul div : ℕ) (its : clock_of b e.1 ≡ Some clk) (s : Scaled b c clk mul div) where
    clk-kind : kind_of b clk ≡ Some Clock
    clk-kind = f.whole.sources.clocks e.1 clk k.realized its

    clk-source : source_of b clk ≡ Some (source_for b k.on.bus)
    clk-source = f.whole.sources.fed e.1 k.on.bus clk k.realized k.on.on its

    no-system : eqb SYSTEM_CLOCK_BIRTH clk ≡ false
    no-system =
        decide (eqb SYSTEM_CLOCK_BIRTH clk)
        (λ q.
        absurd
        (let no : None ≡ Some (source_for b k.on.bus) =
        sym (system-free b f.whole) ∙ ap (source_of b) (eqb-true SYSTEM_CLOCK_BIRTH clk q) ∙ clk-source in
        cc))
        (λ q. q)

    parent-of : (y : List ℕ × ℕ) (n : ℕ) → clock_of b y.1 ≡ Some n → parent_of b n ≡ Some y.1
    parent-of y n at = parent-is b (firm b f.whole.order) y.1 n (clock-listed b (firm b f.whole.order) y.1 n at)

    other-clock : (y : List ℕ × ℕ) → (y.1 ≡ e.1 → ⊥) → (n : ℕ) → clock_of b y.1 ≡ Some n → eqb n clk ≡ false
    other-clock y other n at =
        decide (eqb n clk)
        (λ q.
        absurd
        (other
        (same_Some y.1 e.1 (sym (parent-of y n at) ∙ ap (parent_of b) (eqb-true n clk q) ∙ parent-of e clk its))))
        (λ q. q)

    item-kept : (y : List ℕ × ℕ) → Stood b y → (y.1 ≡ e.1 → ⊥) → clock_item_of c y ≡ clock_item_of b y
    item-kept y j other = clock-same b c f.whole f.says clk mul div clk-kind s y j (other-clock y other)

    item-new : clock_item_of c e ≡ item_of mul div (path_text b clk)
    item-new = clock-new b c f.whole f.says clk mul div clk-kind s e k its

    base-kept : Base c
    base-kept =
        record {
          whole = s.whole;
          says = s.says;
          quiet = s.notices ∙ f.quiet;
          entries = s.shape.children PERIPHERAL_BIRTH ∙ f.entries;
          same =
              all-imply (λ (y : List ℕ × ℕ). Stood b y × (device_as b y ≡ X y)) (λ (y : List ℕ × ℕ). device_as c y ≡ X y)
              (λ y both. device-same b c f.whole f.says clk mul div clk-kind s y both.0 ∙ both.1) es
              (all-both (Stood b) (λ (y : List ℕ × ℕ). device_as b y ≡ X y) es (stood b f) f.same);
          rest = ap (λ (x : Description). record x { clocks = [] }) (description-scaled b c f.whole f.says clk mul div clk-kind s no-system) ∙ f.rest;
        }

  -- ---- the clock of the next device

  record Front (b : Board) (done more : List (List ℕ × ℕ)) : Type 0 where
    base : Base b
    split : es ≡ done ++ more
    told_so : AllByRecursion (IsSaid b) done
    unsaid : AllByRecursion (λ (y : List ℕ × ℕ). clock_item_of b y ≡ None) more

  -- commands are taken, and lead to such a board
  record Reached (steps : List Step) (b : Board) (done more : List (List ℕ × ℕ)) : Type 0 where
    board : Board
    taken : all_done steps b ≡ Ok board
    front : Front board done more

  module _ (b : Board) (done : List (List ℕ × ℕ)) (e : List ℕ × ℕ) (more : List (List ℕ × ℕ)) (f : Front b done (e ∷ more)) where
    rising : Rises (births_in (done ++ e ∷ more))
    rising =
        subst (λ (xs : List (List ℕ × ℕ)). Rises (births_in xs)) (f.base.entries ∙ f.split) (rises b f.base.whole.order PERIPHERAL_BIRTH).1

    older-done : AllByRecursion (λ (y : List ℕ × ℕ). y.1 < e.1) done
    older-done = rises-before done e more rising

    younger-more : AllByRecursion (λ (y : List ℕ × ℕ). e.1 < y.1) more
    younger-more = rises-after done e more rising

    all-stood : AllByRecursion (Stood b) (done ++ e ∷ more)
    all-stood = subst (AllByRecursion (Stood b)) f.split (stood b f.base)

    all-same : AllByRecursion (λ (y : List ℕ × ℕ). device_as b y ≡ X y) (done ++ e ∷ more)
    all-same = subst (AllByRecursion (λ (y : List ℕ × ℕ). device_as b y ≡ X y)) f.split f.base.same

    here : Stood b e
    here = (all-after (Stood b) done (e ∷ more) all-stood).0

    same-here : device_as b e ≡ X e
    same-here = (all-after (λ (y : List ℕ × ℕ). device_as b y ≡ X y) done (e ∷ more) all-same).0

    clocked-here : has_clock (X e).driver ≡ true → HasClock l (X e)
    clocked-here =
        (all-after (λ (y : List ℕ × ℕ). has_clock (X y).driver ≡ true → HasClock l (X y)) done (e ∷ more)
        (subst (AllByRecursion (λ (y : List ℕ × ℕ). has_clock (X y).driver ≡ true → HasClock l (X y))) f.split laid.clocks)).0

    -- what stands before it is told
    before-said : (c : Board) → AllByRecursion (IsSaid c) done → AllByRecursion (λ (z : List ℕ × ℕ). z.1 < e.1 → IsSaid c z) es
    before-said c said =
        subst (AllByRecursion (λ (z : List ℕ × ℕ). z.1 < e.1 → IsSaid c z)) (sym f.split)
        (all-append (λ (z : List ℕ × ℕ). z.1 < e.1 → IsSaid c z) done (e ∷ more)
        (all-imply (IsSaid c) (λ (z : List ℕ × ℕ). z.1 < e.1 → IsSaid c z) (λ z is less. is) done said) (
          (λ less. absurd (let no : 0 < 0 = omega (arith, less) in omega arith)),
          all-imply (λ (z : List ℕ × ℕ). e.1 < z.1) (λ (z : List ℕ × ℕ). z.1 < e.1 → IsSaid c z)
              (λ z high less. absurd (let no : 0 < 0 = omega (arith, high, less) in omega arith)) more younger-more,
        ))

    -- nothing is said of it
    passed : clock_said l (X e) ≡ None → Front b (done ++ e ∷ []) more
    passed none =
        record {
          base = f.base;
          split = f.split ∙ sym (append_assoc done (e ∷ []) more);
          told_so = all-append (IsSaid b) done (e ∷ []) f.told_so (f.unsaid.0 ∙ sym none, tt);
          unsaid = f.unsaid.1;
        }

    -- or its factors are written
    module _ (has : has_clock (X e).driver ≡ true) where
      slot : is_a here.here.kind (codes "slot-device") ≡ true
      slot = sym (has-clock b f.base e here same-here) ∙ has

      own : ClockAt b e
      own = clock-at b f.base.whole.order f.base.says e here slot

      clk-fits : HasClock l (X e)
      clk-fits = clocked-here has

      abbrev M : ℕ
      M = l.mul (X e).id

      abbrev D : ℕ
      D = l.div (X e).id

      path : List ℕ
      path = clock_path e.0

      kept-split : (c : Board) → Base c → child_entries c PERIPHERAL_BIRTH ≡ done ++ e ∷ more
      kept-split c g = g.entries ∙ f.split

      canon : (c : Board) (g : Base c) (k : Stood c e) (a : ClockAt c e) → canonical c a.clock ≡ Some (clock_path e.0)
      canon c g k a =
          let old : PERIPHERAL_BIRTH < e.1 = older c g.whole.order PERIPHERAL_BIRTH e k.here.there in
          let other : (a.clock == ROOT_BIRTH) ≡ false = apart c g.whole.order e.1 (codes "clk", a.clock) (omega (arith, old)) a.there in
          let way : path_down_to c a.clock ≡ Some (clock_path e.0) =
          inner-way c g.whole.order e.1 a.clock e.0 (codes "clk") k.here.there a.there in
          rw other way

      -- first the divider
      period-low : period b own.clock < 2 ^ 64
      period-low =
          subst (λ (p : ℕ). p < 2 ^ 64)
          (sym
          (period-fed b own.clock (source_for b here.on.bus)
          (f.base.whole.sources.fed e.1 here.on.bus own.clock here.realized here.on.on own.its)))
          (f.base.whole.clocks.fit.fits (source_for b here.on.bus))

      kind-own : kind_of b own.clock ≡ Some Clock
      kind-own = f.base.whole.sources.clocks e.1 own.clock here.realized own.its

      plain-own : (mul_of b own.clock ≡ 1) × (div_of b own.clock ≡ 1)
      plain-own = none-said b own.clock (sym (ap (option_and_then (clock_item b)) own.its) ∙ f.unsaid.0)

      record Divided : Type 0 where
        board : Board
        taken : set_number (clock_path e.0) (codes "div") (l.div (X e).id) b ≡ Ok board
        scaled_to : Scaled b board own.clock 1 (l.div (X e).id)

      divided : Divided
      divided =
          let done_so = factor-taken b f.base.whole f.base.says done e more (kept-split b f.base) here own f.unsaid.1 1 D clk-fits.divides
          (part-fits D (period b own.clock) period-low) in
          record {
            board = _;
            taken =
                numbers_taken_lem.div b own.clock (clock_path e.0) D f.base.whole (canon b f.base here own) kind-own clk-fits.div
                ∙ ap (λ (m : ℕ). clock_scaled b own.clock m D) plain-own.0 ∙ done_so;
            scaled_to = scaled-so b _ own.clock 1 D f.base.whole f.base.says kind-own (omega arith) clk-fits.div done_so;
          }

      mid : Board
      mid = divided.board

      base-mid : Base divided.board
      base-mid = base-kept b divided.board f.base e here own.clock 1 D own.its divided.scaled_to

      here-mid : Stood divided.board e
      here-mid = all-entry (Stood divided.board) e es (stood divided.board base-mid)
          (subst (λ (xs : List (List ℕ × ℕ)). has_entry e xs ≡ true) f.base.entries here.here.there)

      same-mid : device_as divided.board e ≡ X e
      same-mid =
          all-entry (λ (y : List ℕ × ℕ). device_as divided.board y ≡ X y) e es base-mid.same
          (subst (λ (xs : List (List ℕ × ℕ)). has_entry e xs ≡ true) f.base.entries here.here.there)

      slot-mid : is_a here-mid.here.kind (codes "slot-device") ≡ true
      slot-mid = sym (has-clock divided.board base-mid e here-mid same-mid) ∙ has

      own-mid : ClockAt divided.board e
      own-mid = clock-at divided.board base-mid.whole.order base-mid.says e here-mid slot-mid

      kind-mid : kind_of divided.board own-mid.clock ≡ Some Clock
      kind-mid = base-mid.whole.sources.clocks e.1 own-mid.clock here-mid.realized own-mid.its

      -- it is the same clock
      clock-mid : own-mid.clock ≡ own.clock
      clock-mid =
          same_Some own-mid.clock own.clock
          (sym own-mid.its
          ∙ ap (λ (xs : List (List ℕ × Slot)). option_and_then child_named (named_in (codes "clk") xs))
          (device-slots b divided.board f.base.whole f.base.says own.clock 1 D kind-own divided.scaled_to e here)
          ∙ own.its)

      other-item : (y : List ℕ × ℕ) → Stood b y → (y.1 ≡ e.1 → ⊥) → clock_item_of divided.board y ≡ clock_item_of b y
      other-item y j other = item-kept b divided.board f.base e here own.clock 1 D own.its divided.scaled_to y j other

      told-mid : AllByRecursion (IsSaid divided.board) done
      told-mid =
          all-imply (λ (y : List ℕ × ℕ). (y.1 < e.1) × (Stood b y × IsSaid b y)) (IsSaid divided.board)
          (λ y k. other-item y k.1.0 (λ same. let low : y.1 < e.1 = k.0 in omega (arith, low, same)) ∙ k.1.1) done
          (all-both (λ (y : List ℕ × ℕ). y.1 < e.1) (λ (y : List ℕ × ℕ). Stood b y × IsSaid b y) done older-done
          (all-both (Stood b) (IsSaid b) done (all-front (Stood b) done (e ∷ more) all-stood) f.told_so))

      unsaid-mid : AllByRecursion (λ (y : List ℕ × ℕ). clock_item_of divided.board y ≡ None) more
      unsaid-mid =
          all-imply (λ (y : List ℕ × ℕ). (e.1 < y.1) × (Stood b y × (clock_item_of b y ≡ None))) (λ (y : List ℕ × ℕ). clock_item_of divided.board y ≡ None)
          (λ y k. other-item y k.1.0 (λ same. let high : e.1 < y.1 = k.0 in omega (arith, high, same)) ∙ k.1.1) more
          (all-both (λ (y : List ℕ × ℕ). e.1 < y.1) (λ (y : List ℕ × ℕ). Stood b y × (clock_item_of b y ≡ None)) more younger-more
          (all-both (Stood b) (λ (y : List ℕ × ℕ). clock_item_of b y ≡ None) more (all-after (Stood b) done (e ∷ more) all-stood).1 f.unsaid.1))

      -- then the multiplier
      fits-mid : scaled_by (l.mul (X e).id) (l.div (X e).id) (period divided.board own-mid.clock) < 2 ^ 64
      fits-mid =
          subst (λ (p : ℕ). scaled_by M D p < 2 ^ 64)
          (sym
          (period-laid divided.board base-mid (suc e.1) e here-mid own-mid slot-mid same-mid (omega arith) (before-said divided.board told-mid)))
          clk-fits.fits

      record Multiplied : Type 0 where
        board : Board
        taken : set_number (clock_path e.0) (codes "mul") (l.mul (X e).id) divided.board ≡ Ok board
        scaled_to : Scaled divided.board board own-mid.clock (l.mul (X e).id) (l.div (X e).id)

      multiplied : Multiplied
      multiplied =
          let done_so =
          factor-taken divided.board base-mid.whole base-mid.says done e more (kept-split divided.board base-mid) here-mid own-mid unsaid-mid M D
          clk-fits.divides fits-mid in
          let div_so : div_of divided.board own-mid.clock ≡ D = ap (div_of divided.board) clock-mid ∙ divided.scaled_to.div in
          record {
            board = _;
            taken =
                numbers_taken_lem.mul divided.board own-mid.clock (clock_path e.0) M base-mid.whole (canon divided.board base-mid here-mid own-mid) kind-mid
                clk-fits.mul
                ∙ ap (clock_scaled divided.board own-mid.clock M) div_so ∙ done_so;
            scaled_to =
                scaled-so divided.board _ own-mid.clock M D base-mid.whole base-mid.says kind-mid clk-fits.mul clk-fits.div done_so;
          }

      base-last : Base multiplied.board
      base-last = base-kept divided.board multiplied.board base-mid e here-mid own-mid.clock M D own-mid.its multiplied.scaled_to

      last-item : (y : List ℕ × ℕ) → Stood divided.board y → (y.1 ≡ e.1 → ⊥) → clock_item_of multiplied.board y ≡ clock_item_of divided.board y
      last-item y j other = item-kept divided.board multiplied.board base-mid e here-mid own-mid.clock M D own-mid.its multiplied.scaled_to y j other

      stood-mid : AllByRecursion (Stood divided.board) (done ++ e ∷ more)
      stood-mid = subst (AllByRecursion (Stood divided.board)) f.split (stood divided.board base-mid)

      told-last : AllByRecursion (IsSaid multiplied.board) done
      told-last =
          all-imply (λ (y : List ℕ × ℕ). (y.1 < e.1) × (Stood divided.board y × IsSaid divided.board y)) (IsSaid multiplied.board)
          (λ y k. last-item y k.1.0 (λ same. let low : y.1 < e.1 = k.0 in omega (arith, low, same)) ∙ k.1.1) done
          (all-both (λ (y : List ℕ × ℕ). y.1 < e.1) (λ (y : List ℕ × ℕ). Stood divided.board y × IsSaid divided.board y) done older-done
          (all-both (Stood divided.board) (IsSaid divided.board) done (all-front (Stood divided.board) done (e ∷ more) stood-mid) told-mid))

      unsaid-last : AllByRecursion (λ (y : List ℕ × ℕ). clock_item_of multiplied.board y ≡ None) more
      unsaid-last =
          all-imply (λ (y : List ℕ × ℕ). (e.1 < y.1) × (Stood divided.board y × (clock_item_of divided.board y ≡ None)))
          (λ (y : List ℕ × ℕ). clock_item_of multiplied.board y ≡ None)
          (λ y k. last-item y k.1.0 (λ same. let high : e.1 < y.1 = k.0 in omega (arith, high, same)) ∙ k.1.1) more
          (all-both (λ (y : List ℕ × ℕ). e.1 < y.1) (λ (y : List ℕ × ℕ). Stood divided.board y × (clock_item_of divided.board y ≡ None)) more younger-more
          (all-both (Stood divided.board) (λ (y : List ℕ × ℕ). clock_item_of divided.board y ≡ None) more
          (all-after (Stood divided.board) done (e ∷ more) stood-mid).1 unsaid-mid))

      told-here : IsSaid multiplied.board e
      told-here =
          item-new divided.board multiplied.board base-mid e here-mid own-mid.clock M D own-mid.its multiplied.scaled_to
          ∙ said-item l (X e) (path_text divided.board own-mid.clock)
          (own-mid.told ∙ ap clock_path (sym (id-is b f.base e same-here))) has

      written : Reached (factor_steps (factors l (X e))) b (done ++ e ∷ []) more
      written =
          let id : (X e).id ≡ e.0 = id-is b f.base e same-here in
          let second : Step = set_number (clock_path e.0) (codes "mul") M in
          let both : all_done (set_number (clock_path e.0) (codes "div") D ∷ set_number (clock_path e.0) (codes "mul") M ∷ []) b ≡ Ok multiplied.board =
          ap (then_all (second ∷ [])) divided.taken ∙ ap (then_all []) multiplied.taken in
          record {
            board = multiplied.board;
            taken =
                subst
                (λ (path : List ℕ).
                all_done (set_number path (codes "div") D ∷ set_number path (codes "mul") M ∷ []) b ≡ Ok multiplied.board)
                (ap clock_path (sym id)) both;
            front = record {
              base = base-last;
              split = f.split ∙ sym (append_assoc done (e ∷ []) more);
              told_so = all-append (IsSaid multiplied.board) done (e ∷ []) told-last (told-here, tt);
              unsaid = unsaid-last;
            };
          }

  -- ---- all of them

  said-some : (x : DeviceItem) (item : ClockItem) → clock_said l x ≡ Some item → (has_clock x.driver ≡ true) × (factors l x ≡ item)
  said-some x item e = go (has_clock x.driver) refl ((l.mul x.id == 1) && (l.div x.id == 1)) refl
    where
      go : (t : Bool) → has_clock x.driver ≡ t → (u : Bool) → ((l.mul x.id == 1) && (l.div x.id == 1)) ≡ u
          → (has_clock x.driver ≡ true) × (factors l x ≡ item)
      go false p u q = absurd (let no : None ≡ Some item = rw p at e in cc)
      go true p true q = absurd (let no : None ≡ Some item = rw (p, q) at e in cc)
      go true p false q = (p, same_Some (factors l x) item (rw (p, q) at e))

  items : List (List ℕ × ℕ) → List ClockItem
  items ys = filter_map (λ (y : List ℕ × ℕ). clock_said l (X y)) ys

  fronts : (more done : List (List ℕ × ℕ)) (b : Board) → Front b done more
      → Reached (flat_map factor_steps (filter_map (λ (y : List ℕ × ℕ). clock_said l (X y)) more)) b (done ++ more) []
  fronts [] done b f =
      record {
        board = b;
        taken = refl;
        front = subst (λ (xs : List (List ℕ × ℕ)). Front b xs []) (sym (append-nil done)) f;
      }
  fronts (e ∷ more) done b f = go (clock_said l (X e)) refl (λ c k. fronts more (done ++ e ∷ []) c k)
    where
      again : (done ++ e ∷ []) ++ more ≡ done ++ e ∷ more
      again = append_assoc done (e ∷ []) more

      go : (o : Option ClockItem) → clock_said l (X e) ≡ o
          → ((c : Board) → Front c (done ++ e ∷ []) more
          → Reached (flat_map factor_steps (filter_map (λ (y : List ℕ × ℕ). clock_said l (X y)) more)) c ((done ++ e ∷ []) ++ more) [])
          → Reached (flat_map factor_steps (filter_map (λ (y : List ℕ × ℕ). clock_said l (X y)) (e ∷ more))) b (done ++ e ∷ more) []
      go None q rest =
          let r = rest b (passed b done e more f q) in
          record {
            board = r.board;
            taken = rw q r.taken;
            front = subst (λ (xs : List (List ℕ × ℕ)). Front r.board xs []) again r.front;
          }
      go (Some item) q rest =
          let (has, same) = said-some (X e) item q in
          let first : Reached (factor_steps (factors l (X e))) b (done ++ e ∷ []) more = written b done e more f has in
          let taken : all_done (factor_steps item) b ≡ Ok first.board =
          subst (λ (x : ClockItem). all_done (factor_steps x) b ≡ Ok first.board) same first.taken in
          let r = rest first.board first.front in
          let others : List Step = flat_map factor_steps (filter_map (λ (y : List ℕ × ℕ). clock_said l (X y)) more) in
          record {
            board = r.board;
            taken = rw q (then-done (factor_steps item) others b ∙ ap (then_all others) taken ∙ r.taken);
            front = subst (λ (xs : List (List ℕ × ℕ)). Front r.board xs []) again r.front;
          }

-- ---- a good description

pub none-there : {X Y : Type 0} (f : X → Option Y) (xs : List X) → filter_map f xs ≡ [] → AllByRecursion (λ (x : X). f x ≡ None) xs
none-there f [] e = tt
none-there {Y = Y} f (x ∷ xs) e = go (f x) refl (none-there f xs)
  where
    go : (o : Option Y) → f x ≡ o → (filter_map f xs ≡ [] → AllByRecursion (λ z. f z ≡ None) xs) → AllByRecursion (λ z. f z ≡ None) (x ∷ xs)
    go None q rest = (q, rest (rw q at e))
    go (Some y) q rest = absurd (let no : y ∷ filter_map f xs ≡ [] = rw q at e in cc)

clocks-each : (d : Description) (l : Layout) (before xs : List DeviceItem) → EachAfter (IsGoodDevice d l) before xs
    → AllByRecursion (λ (x : DeviceItem). has_clock x.driver ≡ true → HasClock l x) xs
clocks-each d l before [] h = tt
clocks-each d l before (x ∷ xs) h = (
  (λ has. h.0.clock (sym (clock-by_type h.0.kind) ∙ ap has_clock (sym h.0.driver) ∙ has)),
  clocks-each d l (before ++ x ∷ []) xs h.1,
)

factors-made : (d : Description) → Good d → (b : Board) → Tells b (record d { clocks = []; links = [] })
    → Makes (flat_map factor_steps d.clocks) b (record d { links = [] })
factors-made d good b h =
    record {
      board = r.board;
      taken = subst (λ (cs : List ClockItem). all_done (flat_map factor_steps cs) b ≡ Ok r.board) (sym clocks) r.taken;
      tells = record {
        whole = g.base.whole;
        says = says-so r.board (record d { links = [] }) g.base.says
            (ap (λ (x : Description). record x { clocks = filter_map (clock_item_of r.board) (child_entries r.board PERIPHERAL_BIRTH) }) g.base.rest
            ∙ ap (λ (cs : List ClockItem). record d { clocks = cs; links = [] }) told_all);
        quiet = g.base.quiet;
      };
    }
  where
    k : Has b (record d { clocks = []; links = [] })
    k = has b (record d { clocks = []; links = [] }) h.says

    es : List (List ℕ × ℕ)
    es = child_entries b PERIPHERAL_BIRTH

    X : List ℕ × ℕ → DeviceItem
    X = device_as b

    devices : d.devices ≡ map (device_as b) (child_entries b PERIPHERAL_BIRTH)
    devices = ap (λ (x : Description). x.devices) (sym k.is) ∙ devices-said b h.whole.order

    laid : IsLaidBy d good.layout (device_as b) (child_entries b PERIPHERAL_BIRTH)
    laid =
        record {
          root = good.laid.root_period;
          bridges =
              all-unmap (λ (y : List ℕ × ℕ). (device_as b y).driver ≡ type_name SlotBridge → IsBridgeLaid good.layout (device_as b y))
              (λ (x : DeviceItem). x.driver ≡ type_name SlotBridge → IsBridgeLaid good.layout x) (device_as b) (λ y z. z) (child_entries b PERIPHERAL_BIRTH)
              (subst (AllByRecursion (λ (x : DeviceItem). x.driver ≡ type_name SlotBridge → IsBridgeLaid good.layout x)) devices good.laid.bridges);
          clocks =
              all-unmap (λ (y : List ℕ × ℕ). has_clock (device_as b y).driver ≡ true → HasClock good.layout (device_as b y))
              (λ (x : DeviceItem). has_clock x.driver ≡ true → HasClock good.layout x) (device_as b) (λ y z. z) (child_entries b PERIPHERAL_BIRTH)
              (subst (AllByRecursion (λ (x : DeviceItem). has_clock x.driver ≡ true → HasClock good.layout x)) devices
              (clocks-each d good.layout [] d.devices good.laid.devices));
        }

    all-refl : {A B : Type 0} (f : A → B) (xs : List A) → AllByRecursion (λ (x : A). f x ≡ f x) xs
    all-refl f [] = tt
    all-refl f (x ∷ xs) = (refl, all-refl f xs)

    begin : Front d good.layout (device_as b) (child_entries b PERIPHERAL_BIRTH) laid b [] (child_entries b PERIPHERAL_BIRTH)
    begin =
        record {
          base = record {
            whole = h.whole;
            says = k.says;
            quiet = h.quiet;
            entries = refl;
            same = all-refl (device_as b) (child_entries b PERIPHERAL_BIRTH);
            rest = ap (λ (x : Description). record x { clocks = [] }) k.is;
          };
          split = refl;
          told_so = tt;
          unsaid = none-there (clock_item_of b) (child_entries b PERIPHERAL_BIRTH) (ap (λ (x : Description). x.clocks) k.is);
        }

    r : Reached d good.layout (device_as b) (child_entries b PERIPHERAL_BIRTH) laid
        (flat_map factor_steps (filter_map (λ (y : List ℕ × ℕ). clock_said good.layout (device_as b y)) (child_entries b PERIPHERAL_BIRTH))) b
        (child_entries b PERIPHERAL_BIRTH) []
    r = fronts d good.layout (device_as b) (child_entries b PERIPHERAL_BIRTH) laid (child_entries b PERIPHERAL_BIRTH) [] b begin

    g : Front d good.layout (device_as b) (child_entries b PERIPHERAL_BIRTH) laid r.board (child_entries b PERIPHERAL_BIRTH) []
    g = r.front

    clocks : d.clocks ≡ filter_map (λ (y : List ℕ × ℕ). clock_said good.layout (device_as b y)) (child_entries b PERIPHERAL_BIRTH)
    clocks =
        good.laid.clocks ∙ ap (filter_map (clock_said good.layout)) devices
        ∙ filter_map-map (device_as b) (clock_said good.layout) (child_entries b PERIPHERAL_BIRTH)

    told_all : filter_map (clock_item_of r.board) (child_entries r.board PERIPHERAL_BIRTH) ≡ d.clocks
    told_all =
        ap (filter_map (clock_item_of r.board)) g.base.entries
        ∙ filter_map-same (clock_item_of r.board) (λ (y : List ℕ × ℕ). clock_said good.layout (device_as b y)) (child_entries b PERIPHERAL_BIRTH) g.told_so
        ∙ sym clocks

pub factors_made_lem : FactorsMadeLaw
factors_made_lem = record { factors = factors-made }
