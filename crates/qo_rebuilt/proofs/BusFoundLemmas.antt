-- The bus of a good device is at its path, and does not bar it.
use Rattle.std.proofs.Common.{◌≡◌, inl, inr, refl, ap, sym, subst, ◌∙◌, ℕ, zero, suc, ◌<◌, true, false, List, [], length, Option, Some, None, codes, arith}
use Rattle.qo_model.proofs.Common.{list_any, option_map_or, type_name, MEMORY_BUS_BIRTH, PERIPHERAL_BIRTH, ROOT_BIRTH, ROOT_BUS_BIRTH, TypeId, MemBus, SlotBridge, SlotBus, Board, kind_of, by_depth, bridge_of, bus_barred, bus_for, bus_of, bus_type, going_turn, is_going, births, Resolution, attached, components, found, is_absolute, is_of, path_down_to, resolve, walk, is_a, types}
use Rattle.qo_model.specs.Board.{is_of_device, is_pending, Removal}
use Rattle.qo_model.specs.Properties.{path_text}
use Rattle.qo_save.specs.Described.{description, is_describable}
use Rattle.qo_save.specs.Description.{DeviceItem}
use Rattle.qo_sound_devices.specs.SoundPlaces.{bridges as owned_by, child_entries, HasOwner, machines}
use Rattle.qo_sound_devices.proofs.AttachmentLemmas.{owner-attached}
use Rattle.qo_good.specs.Good.{bridges, bus_path, HasBus, memory, OneOf, root}
use Rattle.qo_good.specs.GoodBoards.{IsWhole}
use Rattle.qo_good.proofs.BusLemmas.{bridge_bus, memory_bus, own-bus, owns-bus, root_bus, Stood, stood-all, WhichBus}
use Rattle.qo_good.proofs.ItemLemmas.{one-both, one-of, one-unmap}
use Rattle.qo_good.proofs.LayoutLemmas.{driver-said, named-bridge}
use Rattle.qo_good.proofs.PartLemmas.{device_as, devices-said, inner, IsInner, memory_bus-kind, root_bus-kind}
use Rattle.qo_good.proofs.PlaceLemmas.{all-entry, apart, firm, inner-way, leads, memory_bus-way, none-long, older, parts, root_bus-way, sound, told}

-- ---- what a path leads to

pub resolves-to : (b : Board) (n : ℕ) (path wanted : List ℕ) → is_absolute path ≡ true → walk b ROOT_BIRTH (components path) ≡ Some n → is_of b wanted n ≡ true
    → resolve b path wanted ≡ found n
resolves-to b n path wanted absolute leads its = rw (absolute, leads, its) refl

slot_bus-is : (is_a SlotBus (codes "bus") ≡ true) × (is_a SlotBus (codes "slot-bus") ≡ true)
unfolding types
slot_bus-is = (refl, refl)

mem_bus-is : (is_a MemBus (codes "bus") ≡ true) × (is_a MemBus (codes "mem-bus") ≡ true)
unfolding types
mem_bus-is = (refl, refl)

pub kind-is : (b : Board) (n : ℕ) (t : TypeId) (name : List ℕ) → kind_of b n ≡ Some t → is_a t name ≡ true → is_of b name n ≡ true
kind-is b n t name kind is = ap (λ (o : Option TypeId). option_map_or (λ (k : TypeId). is_a k name) o false) kind ∙ is

-- a bus at a path
pub record BusFound (b : Board) (path wanted : List ℕ) : Type 0 where
  pub bus : ℕ
  pub which : WhichBus b bus
  pub way : path_down_to b bus ≡ Some path
  pub told : path_text b bus ≡ path
  pub at : resolve b path (codes "bus") ≡ found bus
  pub fits : is_of b wanted bus ≡ true
  pub is_bus : is_of b (codes "bus") bus ≡ true
  pub owner : HasOwner b bus

-- where nothing is pending no bus is going
going-none : (b : Board) → b.pending ≡ [] → (k bus : ℕ) → by_depth (going_turn b) (λ x. false) k bus ≡ false
going-none b none zero bus = refl
going-none b none (suc k) bus = go (λ up. going-none b none k up) (bridge_of b bus) refl
  where
    still : (d : ℕ) → is_pending b d ≡ false
    still d = ap (λ (rs : List Removal). list_any (is_of_device d) rs) none

    above : ((up : ℕ) → by_depth (going_turn b) (λ x. false) k up ≡ false) → (d : ℕ) → bridge_of b bus ≡ Some d → (o : Option ℕ) → bus_of b d ≡ o
        → going_turn b (by_depth (going_turn b) (λ x. false) k) bus ≡ false
    above rest d p None q = rw (going_turn, p, still d, q) refl
    above rest d p (Some up) q = rw (going_turn, p, still d, q) (rest up)

    go : ((up : ℕ) → by_depth (going_turn b) (λ x. false) k up ≡ false) → (o : Option ℕ) → bridge_of b bus ≡ o
        → going_turn b (by_depth (going_turn b) (λ x. false) k) bus ≡ false
    go rest None p = rw (going_turn, p) refl
    go rest (Some d) p = above rest d p (bus_of b d) refl

module _ (b : Board) (h : IsWhole b) (says : is_describable b ≡ true) where
  not-going : (bus : ℕ) → is_going b bus ≡ false
  unfolding is_going
  not-going bus = going-none b (none-long b.pending (parts b h.order says).1) (suc (length (births b))) bus

  owned-attached : (q : ℕ) → HasOwner b q → attached b q ≡ true
  owned-attached q owner = owner-attached b (sound b h.order) (firm b h.order) h.order.devices.places.0 None (λ x. false) h.order.devices.places.1 q owner

  -- the bus of a bridge
  bridge-bus : (e : List ℕ × ℕ) (k : Stood b e) → k.here.kind ≡ SlotBridge → BusFound b (bus_path e.0) (codes "slot-bus")
  bridge-bus e k is =
      let (m, on) = own-bus b h.order says e k is in
      let old : PERIPHERAL_BIRTH < e.1 = older b h.order PERIPHERAL_BIRTH e k.here.there in
      let way : path_down_to b m ≡ Some (bus_path e.0) = inner-way b h.order e.1 m e.0 (codes "bus.0") k.here.there on in
      let of : kind_of b e.1 ≡ Some SlotBridge = k.here.its ∙ ap Some is in
      let kind : kind_of b m ≡ Some SlotBus =
      bus-kind m (all-entry (IsInner b SlotBridge) (codes "bus.0", m) (child_entries b e.1) (inner b h.order e.1 SlotBridge of refl) on) in
      let is_bus : is_of b (codes "bus") m ≡ true = kind-is b m SlotBus (codes "bus") kind slot_bus-is.0 in
      record {
        bus = m;
        which = bridge_bus e k.here.there of on kind;
        way = way;
        told = told b h.order m (bus_path e.0) (apart b h.order e.1 (codes "bus.0", m) (omega arith) on) way;
        at = resolves-to b m (bus_path e.0) (codes "bus") refl (leads b h.order m (bus_path e.0) way) is_bus;
        fits = kind-is b m SlotBus (codes "slot-bus") kind slot_bus-is.1;
        is_bus = is_bus;
        owner = owned_by e.1 k.stood (owns-bus b h.order says e m on);
      }
    where
      bus-kind : (m : ℕ) → IsInner b SlotBridge (codes "bus.0", m) → kind_of b m ≡ Some SlotBus
      bus-kind m (inl f) = absurd (let clash : codes "clk" ≡ codes "bus.0" = f.0 in cc)
      bus-kind m (inr (inl f)) = f.1
      bus-kind m (inr (inr f)) = absurd f

  root-bus : BusFound b (codes "/machine/root.0") (codes "slot-bus")
  root-bus =
      let way : path_down_to b ROOT_BUS_BIRTH ≡ Some (codes "/machine/root.0") = root_bus-way b h.order in
      let kind : kind_of b ROOT_BUS_BIRTH ≡ Some SlotBus = root_bus-kind b h.order in
      let is_bus : is_of b (codes "bus") ROOT_BUS_BIRTH ≡ true = kind-is b ROOT_BUS_BIRTH SlotBus (codes "bus") kind slot_bus-is.0 in
      record {
        bus = ROOT_BUS_BIRTH;
        which = root_bus refl;
        way = way;
        told = told b h.order ROOT_BUS_BIRTH (codes "/machine/root.0") refl way;
        at = resolves-to b ROOT_BUS_BIRTH (codes "/machine/root.0") (codes "bus") refl (leads b h.order ROOT_BUS_BIRTH (codes "/machine/root.0") way) is_bus;
        fits = kind-is b ROOT_BUS_BIRTH SlotBus (codes "slot-bus") kind slot_bus-is.1;
        is_bus = is_bus;
        owner = machines refl;
      }

  memory-bus : BusFound b (codes "/machine/mem.0") (codes "mem-bus")
  memory-bus =
      let way : path_down_to b MEMORY_BUS_BIRTH ≡ Some (codes "/machine/mem.0") = memory_bus-way b h.order in
      let kind : kind_of b MEMORY_BUS_BIRTH ≡ Some MemBus = memory_bus-kind b h.order in
      let is_bus : is_of b (codes "bus") MEMORY_BUS_BIRTH ≡ true = kind-is b MEMORY_BUS_BIRTH MemBus (codes "bus") kind mem_bus-is.0 in
      record {
        bus = MEMORY_BUS_BIRTH;
        which = memory_bus refl;
        way = way;
        told = told b h.order MEMORY_BUS_BIRTH (codes "/machine/mem.0") refl way;
        at = resolves-to b MEMORY_BUS_BIRTH (codes "/machine/mem.0") (codes "bus") refl (leads b h.order MEMORY_BUS_BIRTH (codes "/machine/mem.0") way) is_bus;
        fits = kind-is b MEMORY_BUS_BIRTH MemBus (codes "mem-bus") kind mem_bus-is.1;
        is_bus = is_bus;
        owner = machines refl;
      }

  -- the bus that a description has
  pub bus-found : (path wanted : List ℕ) → HasBus (description b).devices path wanted → BusFound b path wanted
  bus-found path wanted (root is want) =
      subst (BusFound b path) (sym want) (subst (λ (p : List ℕ). BusFound b p (codes "slot-bus")) (sym is) root-bus)
  bus-found path wanted (memory is want) =
      subst (BusFound b path) (sym want) (subst (λ (p : List ℕ). BusFound b p (codes "mem-bus")) (sym is) memory-bus)
  bus-found path wanted (bridges one want) =
      let Q : DeviceItem → Type 0 = λ (y : DeviceItem). (y.driver ≡ type_name SlotBridge) × (path ≡ bus_path y.id) in
      let mine : OneOf (λ (e : List ℕ × ℕ). Q (device_as b e)) (child_entries b PERIPHERAL_BIRTH) =
      one-unmap Q (device_as b) (child_entries b PERIPHERAL_BIRTH) (subst (OneOf Q) (devices-said b h.order) one) in
      let (e, (k, (driver, is))) =
      one-of (λ (e : List ℕ × ℕ). Stood b e × Q (device_as b e)) (child_entries b PERIPHERAL_BIRTH)
      (one-both (Stood b) (λ (e : List ℕ × ℕ). Q (device_as b e)) (child_entries b PERIPHERAL_BIRTH) (stood-all b h.order says) mine) in
      let kind : k.here.kind ≡ SlotBridge = named-bridge k.here.kind (sym (driver-said b h says e k) ∙ driver) in
      subst (BusFound b path) (sym want) (subst (λ (p : List ℕ). BusFound b p (codes "slot-bus")) (sym is) (bridge-bus e k kind))

  -- it does not bar
  pub bus-unbarred : (path : List ℕ) (t : TypeId) (f : BusFound b path (bus_type t)) → bus_barred b t (bus_for b t (Some path)) ≡ None
  bus-unbarred path t f =
      let chosen : bus_for b t (Some path) ≡ Some f.bus =
      ap (λ (r : Resolution). elim r as (λ _. Option ℕ) [ found m ↦ Some m | _ ↦ None ]) f.at in
      let home : attached b f.bus ≡ true = owned-attached f.bus f.owner in
      let still : is_going b f.bus ≡ false = not-going f.bus in
      let free : bus_barred b t (Some f.bus) ≡ None = rw (f.fits, home, still) refl in
      ap (bus_barred b t) chosen ∙ free
