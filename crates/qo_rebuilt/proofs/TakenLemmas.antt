-- A good device is not refused, and what plugging it comes to.
use Rattle.std.proofs.Common.{◌≡◌, ◌≢◌, ◌⊎◌, inl, inr, refl, ap, sym, subst, ◌∙◌, rules, ℕ, ◌+◌, ◌<◌, ◌≤◌, true, false, leb, nat_lt, List, [], ◌∷◌, ◌++◌, length, map, sum_by, Option, Some, None, option_map, Ok, codes}
use Rattle.std.proofs.lemmas.Bool.{lt-ltb}
use Rattle.std.proofs.lemmas.Option.{same_Some}
use Rattle.qo_model.proofs.Common.{AllByRecursion, option_or, type_name, BUS_DEPTH_MAX, BUS_SLOTS, LIVE_OBJECTS_MAX, TypeId, MemDimm, SlotBridge, SlotTimer, SlotUart, overlap, Code, Board, Plugged, Resolution, Wanted, barred_early, barred_late, bus_barred, bus_for, bus_slot_for, bus_type, code_in, depth_of, found, id_barred, is_free, kind_barred, notice_barred, number_for, place_barred, plug, plug_as, plug_by, plug_late, resources_of, room_barred, type_barred, with_plugged, Given, is_a, types}
use Rattle.qo_values.proofs.EachLemmas.{each}
use Rattle.qo_values.specs.declared.births.TheConstants.{OPENING_OBJECTS}
use Rattle.qo_model.specs.Plug.{plug_on}
use Rattle.qo_model.specs.Types.{TypeInfo, type_named}
use Rattle.qo_save.specs.Described.{description, is_describable}
use Rattle.qo_save.specs.Description.{Description, DeviceItem}
use Rattle.qo_save.specs.Rebuilding.{wanted_by, with_slot}
use Rattle.qo_sound_order.specs.SoundOrder.{is_abstract}
use Rattle.qo_good.specs.Good.{AreIds, EachAfter, HasBus, HasRange, IsGiven, IsGoodDevice, Layout, objects_of}
use Rattle.qo_good.specs.GoodBoards.{IsWhole}
use Rattle.qo_good.proofs.ClaimLemmas.{device-four}
use Rattle.qo_good.proofs.ItemLemmas.{all-both}
use Rattle.qo_rebuilt.specs.DevicesMade.{AreLaid, IsPlugged, NextPluggedLaw}
use Rattle.qo_rebuilt.specs.DeviceTaken.{DeviceTakenLaw}
use Rattle.qo_rebuilt.specs.Made.{Tells}
use Rattle.qo_rebuilt.proofs.BarredLemmas.{id-unbarred, notice-unbarred, room-unbarred, type-unbarred}
use Rattle.qo_rebuilt.proofs.BusFoundLemmas.{bus-found, BusFound, bus-unbarred}
use Rattle.qo_rebuilt.proofs.GivenFreeLemmas.{bridge-passes, dimm-passes, Passes, timer-passes, uart-passes}
use Rattle.qo_rebuilt.proofs.PlaceFreeLemmas.{shallow-on, slot-free_on}
use Rattle.qo_rebuilt.proofs.RingLemmas.{Has, has}

-- each after those before it is good after some
some-before : {X : Type 0} (P : List X → X → Type 0) (done xs : List X) → EachAfter P done xs → AllByRecursion (λ (x : X). (before : List X) × P before x) xs
some-before P done [] h = tt
some-before P done (x ∷ xs) h = ((done, h.0), some-before P (done ++ x ∷ []) xs h.1)

bridge-type : bus_type SlotBridge ≡ codes "slot-bus"
unfolding types
bridge-type = refl

module _ (b : Board) (h : IsWhole b) (says : is_describable b ≡ true) (l : Layout) (laid : AreLaid (description b) l) (x : DeviceItem) where
  passes : (t : TypeId) → is_abstract t ≡ false → is_a t (codes "device") ≡ true → x.slot < BUS_SLOTS → (f : BusFound b x.bus (bus_type t))
      → IsGiven (description b) l (description b).devices x t → (t ≡ SlotBridge → l.depth x.bus < BUS_DEPTH_MAX) → Passes b t f.bus x.slot x.props
  passes t concrete device low f given shallow = by (device-four t concrete device)
    where
      turned : (u : TypeId) → t ≡ u → Passes b u f.bus x.slot x.props → Passes b t f.bus x.slot x.props
      turned u is p = subst (λ (k : TypeId). Passes b k f.bus x.slot x.props) (sym is) p

      its : (u : TypeId) → t ≡ u → IsGiven (description b) l (description b).devices x u
      its u is = subst (IsGiven (description b) l (description b).devices x) is given

      dimm : HasRange (description b) l (description b).devices x → Passes b MemDimm f.bus x.slot x.props
      dimm r =
          dimm-passes b h says l x f.bus low
          (all-both (λ (y : DeviceItem). y.driver ≡ type_name MemDimm → overlap_none y)
          (λ (y : DeviceItem). (before : List DeviceItem) × IsGoodDevice (description b) l before y)
          (description b).devices r.apart (some-before (IsGoodDevice (description b) l) [] (description b).devices laid.devices)) r
        where
          overlap_none : DeviceItem → Type 0
          overlap_none y = overlap (l.range x.id) (l.range y.id) ≡ false

      bridge : (is : t ≡ SlotBridge) → x.props ≡ [] → Passes b SlotBridge f.bus x.slot x.props
      bridge is none =
          subst (Passes b SlotBridge f.bus x.slot) (sym none)
          (bridge-passes b f.bus x.slot low
          (deep (bus_type t) (ap bus_type is ∙ bridge-type) f (shallow is)))
        where
          deep : (wanted : List ℕ) → wanted ≡ codes "slot-bus" → (g : BusFound b x.bus wanted) → l.depth x.bus < BUS_DEPTH_MAX
              → leb BUS_DEPTH_MAX (depth_of b g.bus) ≡ false
          deep wanted is_slot g low =
              subst (λ (w : List ℕ). (k : BusFound b x.bus w) → leb BUS_DEPTH_MAX (depth_of b k.bus) ≡ false) (sym is_slot)
              (λ k. shallow-on b h says l laid.root laid.bridges x.bus k low) g

      by : (t ≡ SlotUart) ⊎ ((t ≡ MemDimm) ⊎ ((t ≡ SlotTimer) ⊎ (t ≡ SlotBridge))) → Passes b t f.bus x.slot x.props
      by (inl is) = turned SlotUart is (uart-passes b h says x f.bus low (its SlotUart is))
      by (inr (inl is)) = turned MemDimm is (dimm (its MemDimm is))
      by (inr (inr (inl is))) =
          turned SlotTimer is (subst (Passes b SlotTimer f.bus x.slot) (sym (its SlotTimer is)) (timer-passes b f.bus x.slot low))
      by (inr (inr (inr is))) = turned SlotBridge is (bridge is (its SlotBridge is))

-- where each check passes none bars
early-passes : (b : Board) (t : TypeId) (a : Wanted) → id_barred b a.id ≡ None → bus_barred b t (bus_for b t a.bus) ≡ None → room_barred b t ≡ None
    → barred_early b t a ≡ None
early-passes b t a id bus room = rw (id, bus, room) refl

late-passes : (b : Board) (t : TypeId) (bus slot : ℕ) (props : List Given) → Passes b t bus slot props → slot < BUS_SLOTS → is_free b bus slot ≡ true
    → notice_barred b ≡ None → barred_late b t bus (with_slot slot props) ≡ None
late-passes b t bus slot props p low free notice =
    let lower : nat_lt slot BUS_SLOTS ≡ true = lt-ltb slot BUS_SLOTS low in
    let own : bus_slot_for b bus (Some slot) ≡ Ok slot = rw (lower, free) refl in
    let taken : code_in (bus_slot_for b bus (number_for (with_slot slot props) (codes "slot"))) ≡ None =
    ap (λ (o : Option ℕ). code_in (bus_slot_for b bus o)) p.numbered ∙ ap code_in own in
    let placed : place_barred b t bus (with_slot slot props) ≡ None =
    ap (λ (o : Option Code). option_or o (kind_barred b t bus (with_slot slot props))) taken ∙ p.placed in
    rw (p.unrefused, placed, p.realizes, notice) refl

pub device-plugged : (b : Board) (d : Description) (l : Layout) (x : DeviceItem) → Tells b d → AreLaid d l → (good : IsGoodDevice d l d.devices x)
    → AreIds (map (λ (y : DeviceItem). y.id) (d.devices ++ x ∷ []))
    → OPENING_OBJECTS + length d.objects + sum_by objects_of (d.devices ++ x ∷ []) ≤ LIVE_OBJECTS_MAX → IsPlugged b good.kind x
device-plugged b d l x tells laid good ids room =
    let w : IsWhole b = tells.whole in
    let k : Has b d = has b d tells.says in
    let f : BusFound b x.bus (bus_type good.kind) =
    bus-found b w k.says x.bus (bus_type good.kind) (subst (λ (y : Description). HasBus y.devices x.bus (bus_type good.kind)) (sym k.is) good.bus) in
    let p : Passes b good.kind f.bus x.slot x.props =
    passes b w k.says l (subst (λ (y : Description). AreLaid y l) (sym k.is) laid) x good.kind good.concrete good.device good.slot f
    (subst (λ (y : Description). IsGiven y l y.devices x good.kind) (sym k.is) good.props) good.shallow in
    let free : is_free b f.bus x.slot ≡ true =
    slot-free_on b w k.says x.bus x.slot f.bus f.is_bus f.told
    (subst (λ (y : Description). AllByRecursion (λ (z : DeviceItem). z.bus ≡ x.bus → z.slot ≢ x.slot) y.devices) (sym k.is) good.free) in
    record {
      bus = f.bus;
      at = f.at;
      told = f.told;
      fits = f.fits;
      early = early-passes b good.kind (wanted_by x) (id-unbarred b d x tells good.id ids) (bus-unbarred b w k.says x.bus good.kind f)
          (room-unbarred b d x good.kind tells good.driver room);
      late = late-passes b good.kind f.bus x.slot x.props p good.slot free (notice-unbarred b d tells);
    }

pub next_plugged_lem : NextPluggedLaw
next_plugged_lem = record { next = λ b d l x tells clocks links laid good ids room. device-plugged b d l x tells laid good ids room }

-- ---- what plugging comes to

row-own : (t : TypeId) → option_map (λ (r : TypeInfo). r.id) (type_named (type_name t)) ≡ Some t
unfolding types
row-own = each (λ (t : TypeId). option_map (λ (r : TypeInfo). r.id) (type_named (type_name t)) ≡ Some t) (search rules)

abbrev pub plugged_as : Board → TypeId → ℕ → Wanted → Plugged
plugged_as b t bus a = record { refusal = None; board = with_plugged b t a (resources_of b t bus a.props) }

plug-named : (b : Board) (t : TypeId) (bus : ℕ) (a : Wanted) → bus_for b t a.bus ≡ Some bus → barred_early b t a ≡ None → barred_late b t bus a.props ≡ None
    → (o : Option TypeInfo) → option_map (λ (r : TypeInfo). r.id) o ≡ Some t
    → (elim o as (λ _. Plugged) [ None ↦ record { refusal = None; board = b } | Some row ↦ plug_as b row.id a (barred_early b row.id a) ])
    ≡ plugged_as b t bus a
plug-named b t bus a chosen early late None own = absurd (let clash : None ≡ Some t = own in cc)
plug-named b t bus a chosen early late (Some row) own =
    let same : row.id ≡ t = same_Some row.id t own in
    ap (λ (k : TypeId). plug_as b k a (barred_early b k a)) same ∙ ap (plug_as b t a) early
    ∙ ap (λ (m : Option ℕ). elim m as (λ _. Plugged) [ None ↦ record { refusal = None; board = b } | Some q ↦ plug_on b t q a ]) chosen
    ∙ ap (plug_late b t bus a) late

-- a device that nothing bars is plugged
pub plug-taken : (b : Board) (t : TypeId) (x : DeviceItem) → x.driver ≡ type_name t → is_abstract t ≡ false → is_a t (codes "device") ≡ true
    → (k : IsPlugged b t x) → plug b (wanted_by x) ≡ plugged_as b t k.bus (wanted_by x)
unfolding plug
plug-taken b t x driver concrete device k =
    let type : type_barred x.driver ≡ None = ap type_barred driver ∙ type-unbarred t concrete device in
    let chosen : bus_for b t (Some x.bus) ≡ Some k.bus =
    ap (λ (r : Resolution). elim r as (λ _. Option ℕ) [ found m ↦ Some m | _ ↦ None ]) k.at in
    let row : option_map (λ (r : TypeInfo). r.id) (type_named x.driver) ≡ Some t =
    ap (λ (name : List ℕ). option_map (λ (r : TypeInfo). r.id) (type_named name)) driver ∙ row-own t in
    ap (plug_by b (wanted_by x)) type ∙ plug-named b t k.bus (wanted_by x) chosen k.early k.late (type_named x.driver) row

-- ---- the law

device-taken : (b : Board) (d : Description) (l : Layout) (x : DeviceItem) → Tells b d → AreLaid d l → IsGoodDevice d l d.devices x
    → AreIds (map (λ (y : DeviceItem). y.id) (d.devices ++ x ∷ []))
    → OPENING_OBJECTS + length d.objects + sum_by objects_of (d.devices ++ x ∷ []) ≤ LIVE_OBJECTS_MAX → (plug b (wanted_by x)).refusal ≡ None
device-taken b d l x tells laid good ids room =
    let k : IsPlugged b good.kind x = device-plugged b d l x tells laid good ids room in
    ap (λ (p : Plugged). p.refusal) (plug-taken b good.kind x good.driver good.concrete good.device k)

pub device_taken_lem : DeviceTakenLaw
device_taken_lem = record { taken = device-taken }
