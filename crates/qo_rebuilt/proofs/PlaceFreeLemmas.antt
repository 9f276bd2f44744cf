-- The slot of a good device is free, and the bus of a good bridge is not too deep.
use Rattle.std.proofs.Common.{◌≡◌, ◌≢◌, ◌⊎◌, inl, inr, refl, ap, sym, subst, ◌∙◌, rules, ℕ, zero, suc, ◌+◌, ◌<◌, ◌≤◌, true, false, not, leb, List, [], ◌∷◌, filter_map, get_or, Option, Some, None, unwrap_or, codes, arith}
use Rattle.std.proofs.lemmas.Bool.{leb-true}
use Rattle.std.proofs.lemmas.Slice.Eq.{bytes_eq-Decides}
use Rattle.qo_model.proofs.Common.{AllByRecursion, list_any, option_map_or, bytes_eq, type_name, BUS_DEPTH_MAX, PERIPHERAL_BIRTH, ROOT_BUS_BIRTH, TypeId, MemBus, SlotBridge, SlotBus, Board, Record, Slot, plain, child, strong, weak, alias, kind_of, slots_at, bus_of, bus_slot_of, bus_type, depth_of, has_slot, is_free, is_of, kid_name, kids_of, is_a, slots_of, types}
use Rattle.qo_values.proofs.EachLemmas.{each}
use Rattle.qo_values.proofs.ListLemmas.{all-imply}
use Rattle.qo_model.proofs.AmongLemmas.{among-all}
use Rattle.qo_model.specs.Properties.{path_text, target_text}
use Rattle.qo_model.specs.declared.properties.Property.{Property}
use Rattle.qo_save.specs.Described.{description, is_describable}
use Rattle.qo_save.specs.Description.{DeviceItem}
use Rattle.qo_sound.proofs.TestLemmas.{clash, clash-back, decide}
use Rattle.qo_sound_devices.specs.SoundPlaces.{child_entries, IsKid, kid_entries, kid_entry}
use Rattle.qo_sound_devices.proofs.DetachmentLemmas.{listed-kid}
use Rattle.qo_sound_devices.proofs.LocationLemmas.{machine-no_device}
use Rattle.qo_sound_devices.proofs.PlugLemmas.{depth-is}
use Rattle.qo_sound_order.specs.SoundOrder.{is_abstract}
use Rattle.qo_sound_shapes.specs.SoundShape.{further, HasSlots, IsFurther, IsKidLink, missing, next}
use Rattle.qo_good.specs.Good.{bus_path, Layout}
use Rattle.qo_good.specs.GoodBoards.{IsWhole}
use Rattle.qo_good.proofs.BusLemmas.{bridge_bus, its-bus, memory_bus, owns-bus, root_bus, Stood, stood-all, WhichBus}
use Rattle.qo_good.proofs.LayoutLemmas.{bus-said, driver-said}
use Rattle.qo_good.proofs.LinkLemmas.{type_row}
use Rattle.qo_good.proofs.PartLemmas.{device_as, devices-said, memory_bus-kind}
use Rattle.qo_good.proofs.PlaceLemmas.{all-entry, apart, firm, inner-way, OfKind, of-kind, older, root_bus-way, told}
use Rattle.qo_good.proofs.ValueLemmas.{Its, its-record}
use Rattle.qo_rebuilt.proofs.BusFoundLemmas.{BusFound}
use Rattle.qo_rebuilt.proofs.ClaimFreeLemmas.{all-unmap, realized-said, Said}

-- ---- the slots of a bus

bus-two : (t : TypeId) → is_abstract t ≡ false → is_a t (codes "bus") ≡ true → (t ≡ SlotBus) ⊎ (t ≡ MemBus)
unfolding types
bus-two = each (λ (t : TypeId). is_abstract t ≡ false → is_a t (codes "bus") ≡ true → (t ≡ SlotBus) ⊎ (t ≡ MemBus)) (search rules)

bus-rows : (slots_of SlotBus ≡ type_row ∷ []) × (slots_of MemBus ≡ type_row ∷ [])
unfolding types
bus-rows = (refl, refl)

kid-number : (i k : ℕ) → kid_name i ≡ kid_name k → i ≡ k
kid-number i k e = let same : 48 + i ≡ 48 + k = ap (λ (xs : List ℕ). get_or xs 6 0) e in omega arith

module _ (t : TypeId) (links : (s : List ℕ × Slot) → IsFurther t s → IsKidLink s.0 s.1) (slot : ℕ) where
  abbrev IsOther : List ℕ × ℕ → Type 0
  IsOther e = bytes_eq e.0 (kid_name slot) ≡ false

  kids-apart : (slots : List (List ℕ × Slot)) → AllByRecursion (IsFurther t) slots → AllByRecursion IsOther (filter_map kid_entry slots)
      → list_any (λ (s : List ℕ × Slot). bytes_eq s.0 (kid_name slot)) slots ≡ false
  kids-apart [] h free = refl
  kids-apart ((name, strong to (Some m)) ∷ slots) h free = rw (free.0, kids-apart slots h.1 free.1) refl
  kids-apart ((name, strong to None) ∷ slots) h free = absurd (links (name, strong to None) h.0)
  kids-apart ((name, child m) ∷ slots) h free = absurd (links (name, child m) h.0)
  kids-apart ((name, plain v) ∷ slots) h free = absurd (links (name, plain v) h.0)
  kids-apart ((name, weak to target) ∷ slots) h free = absurd (links (name, weak to target) h.0)
  kids-apart ((name, alias m of) ∷ slots) h free = absurd (links (name, alias m of) h.0)

  further-in : {slots : List (List ℕ × Slot)} → HasSlots t [] slots → AllByRecursion (IsFurther t) slots
  further-in (further h) = h

  bus-apart : (slots : List (List ℕ × Slot)) → HasSlots t (type_row ∷ []) slots → AllByRecursion IsOther (filter_map kid_entry slots)
      → list_any (λ (s : List ℕ × Slot). bytes_eq s.0 (kid_name slot)) slots ≡ false
  bus-apart slots (missing may rest) free = clash-back may
  bus-apart ((name, plain v) ∷ slots) (next is rest) free =
      let own : bytes_eq name (kid_name slot) ≡ false = ap (λ (x : List ℕ). bytes_eq x (kid_name slot)) is.name in
      rw (own, kids-apart slots (further-in rest) free) refl
  bus-apart ((name, child m) ∷ slots) (next is rest) free = absurd is.fits
  bus-apart ((name, strong to target) ∷ slots) (next is rest) free = absurd is.fits
  bus-apart ((name, weak to target) ∷ slots) (next is rest) free = absurd is.fits
  bus-apart ((name, alias m of) ∷ slots) (next is rest) free = absurd is.fits

  pub slot-apart : (b : Board) → IsWhole b → (n : ℕ) → kind_of b n ≡ Some t → slots_of t ≡ type_row ∷ [] → AllByRecursion IsOther (kid_entries b n)
      → has_slot b n (kid_name slot) ≡ false
  slot-apart b h n kind rows free =
      let its : Its b n t = its-record b h.order.shape n t kind in
      let slots : slots_at b n ≡ its.of.slots = ap (λ (o : Option Record). option_map_or (λ (r : Record). r.slots) o []) its.there in
      ap (list_any (λ (s : List ℕ × Slot). bytes_eq s.0 (kid_name slot))) slots
      ∙ bus-apart its.of.slots (subst (λ (ps : List Property). HasSlots t ps its.of.slots) rows its.slots)
      (subst (λ (xs : List (List ℕ × Slot)). AllByRecursion IsOther (filter_map kid_entry xs)) slots free)

bridge-bus_type : bus_type SlotBridge ≡ codes "slot-bus"
unfolding types
bridge-bus_type = refl

memory-no_slots : is_a MemBus (codes "slot-bus") ≡ false
unfolding types
memory-no_slots = refl

module _ (b : Board) (h : IsWhole b) (says : is_describable b ≡ true) where
  -- ---- the slot

  module _ (path : List ℕ) (slot bus : ℕ) (is_bus : is_of b (codes "bus") bus ≡ true) (told_is : path_text b bus ≡ path)
      (free : AllByRecursion (λ (y : DeviceItem). y.bus ≡ path → y.slot ≢ slot) (description b).devices) where
    abbrev Aside : DeviceItem → Type 0
    Aside y = y.bus ≡ path → y.slot ≢ slot

    kid-other : (e : List ℕ × ℕ) → IsKid b bus e → bytes_eq e.0 (kid_name slot) ≡ false
    kid-other e kid =
        decide (bytes_eq e.0 (kid_name slot)) (λ q. absurd (taken ((bytes_eq-Decides e.0 (kid_name slot)).0 q))) (λ q. q)
      where
        taken : e.0 ≡ kid_name slot → ⊥
        taken named =
            let (k, (low, (at, name))) = kid.slot in
            let same : k ≡ slot = kid-number k slot (sym name ∙ named) in
            let s : Said b Aside e.1 = realized-said b h says Aside free e.1 (h.order.devices.places.1.each e.1 kid.there refl) in
            s.says (ap (target_text b) (ap (bus_of b) s.is ∙ kid.on) ∙ told_is)
            (ap (λ (o : Option ℕ). unwrap_or o 0) (ap (bus_slot_of b) s.is ∙ at) ∙ same)

    pub slot-free_on : is_free b bus slot ≡ true
    slot-free_on = ap not (by (bus-two of.kind (h.order.order.concrete bus of.kind of.its) of.is))
      where
        of : OfKind b (codes "bus") bus
        of = of-kind b (codes "bus") bus is_bus

        others : AllByRecursion (λ (e : List ℕ × ℕ). bytes_eq e.0 (kid_name slot) ≡ false) (kid_entries b bus)
        others =
            all-imply (IsKid b bus) (λ (e : List ℕ × ℕ). bytes_eq e.0 (kid_name slot) ≡ false) kid-other (kid_entries b bus)
            (h.order.devices.places.1.kids bus is_bus)

        by : (of.kind ≡ SlotBus) ⊎ (of.kind ≡ MemBus) → has_slot b bus (kid_name slot) ≡ false
        by (inl is) = slot-apart SlotBus (λ s k. k) slot b h bus (of.its ∙ ap Some is) bus-rows.0 others
        by (inr is) = slot-apart MemBus (λ s k. k) slot b h bus (of.its ∙ ap Some is) bus-rows.1 others

  -- ---- how deep a bus is

  module _ (l : Layout) (top : l.depth (codes "/machine/root.0") ≡ 0)
      (laid : AllByRecursion (λ (y : DeviceItem). y.driver ≡ type_name SlotBridge → l.depth (bus_path y.id) ≡ suc (l.depth y.bus))
      (description b).devices) where
    abbrev depth : ℕ → ℕ
    depth = h.order.devices.places.0

    abbrev Laid : DeviceItem → Type 0
    Laid y = y.driver ≡ type_name SlotBridge → l.depth (bus_path y.id) ≡ suc (l.depth y.bus)

    depth-laid : (bound q : ℕ) → q < bound → WhichBus b q → is_of b (codes "slot-bus") q ≡ true → l.depth (path_text b q) ≡ h.order.devices.places.0 q
    depth-laid zero q low which is = absurd (omega (arith, low))
    depth-laid (suc bound) q low (root_bus own) is =
        ap (λ (n : ℕ). l.depth (path_text b n)) own
        ∙ ap l.depth (told b h.order ROOT_BUS_BIRTH (codes "/machine/root.0") refl (root_bus-way b h.order)) ∙ top
        ∙ sym (h.order.devices.places.1.shallow.top.0)
        ∙ ap h.order.devices.places.0 (sym own)
    depth-laid (suc bound) q low (memory_bus own) is =
        clash
        (sym is
        ∙ ap (λ (o : Option TypeId). option_map_or (λ (t : TypeId). is_a t (codes "slot-bus")) o false) (ap (kind_of b) own ∙ memory_bus-kind b h.order)
        ∙ memory-no_slots)
    depth-laid (suc bound) q low (bridge_bus e there kind on its) is =
        let k : Stood b e = all-entry (Stood b) e (child_entries b PERIPHERAL_BIRTH) (stood-all b h.order says) there in
        let own : Laid (device_as b e) =
        all-entry (λ (x : List ℕ × ℕ). Laid (device_as b x)) e (child_entries b PERIPHERAL_BIRTH)
        (all-unmap Laid (device_as b) (child_entries b PERIPHERAL_BIRTH) (subst (AllByRecursion Laid) (devices-said b h.order) laid)) there in
        let type : Some k.here.kind ≡ Some SlotBridge = sym k.here.its ∙ kind in
        let above : PERIPHERAL_BIRTH < e.1 = older b h.order PERIPHERAL_BIRTH e there in
        let young : e.1 < q = older b h.order e.1 (codes "bus.0", q) on in
        let old : k.on.bus < e.1 =
        among-all (λ (m : ℕ). k.on.bus < m) (kids_of b k.on.bus) (h.order.order.kids k.on.bus k.on.is_bus).0 e.1
        (listed-kid e.1 (slots_at b k.on.bus) k.kid) in
        let slots : is_of b (codes "slot-bus") k.on.bus ≡ true =
        ap (λ (name : List ℕ). is_of b name k.on.bus) (sym bridge-bus_type)
        ∙ sym (ap (λ (o : Option TypeId). option_map_or (λ (t : TypeId). is_of b (bus_type t) k.on.bus) o false) kind)
        ∙ k.on.fits in
        let rest : l.depth (path_text b k.on.bus) ≡ h.order.devices.places.0 k.on.bus =
        depth-laid bound k.on.bus (omega (arith, low, young, old)) (its-bus b h.order says e k) slots in
        let driver : (device_as b e).driver ≡ type_name SlotBridge =
        driver-said b h says e k ∙ ap (λ (o : Option TypeId). type_name (unwrap_or o SlotBridge)) type in
        let way : path_text b q ≡ bus_path e.0 =
        told b h.order q (bus_path e.0) (apart b h.order e.1 (codes "bus.0", q) (omega (arith, above)) on)
        (inner-way b h.order e.1 q e.0 (codes "bus.0") there on) in
        ap l.depth way ∙ own driver ∙ ap (λ (p : List ℕ). suc (l.depth p)) (bus-said b h says e k) ∙ ap suc rest
        ∙ sym (h.order.devices.places.1.shallow.below e.1 k.on.bus q k.stood k.on.on (owns-bus b h.order says e q on))

    pub shallow-on : (path : List ℕ) (f : BusFound b path (codes "slot-bus")) → l.depth path < BUS_DEPTH_MAX → leb BUS_DEPTH_MAX (depth_of b f.bus) ≡ false
    shallow-on path f low =
        let board : depth_of b f.bus ≡ h.order.devices.places.0 f.bus =
        sym (depth-is h.order.devices.places.0 (λ x. false) b (firm b h.order) h.order.devices.places.1
        (machine-no_device h.order.devices.places.0 None (λ x. false) b h.order.devices.places.1) f.bus f.owner) in
        let own : l.depth path ≡ h.order.devices.places.0 f.bus =
        ap l.depth (sym f.told) ∙ depth-laid (suc f.bus) f.bus (omega arith) f.which f.fits in
        decide (leb BUS_DEPTH_MAX (depth_of b f.bus))
        (λ q. absurd (let high : BUS_DEPTH_MAX ≤ depth_of b f.bus = leb-true BUS_DEPTH_MAX (depth_of b f.bus) q in
        omega (arith, board, own, low, high))) (λ q. q)
