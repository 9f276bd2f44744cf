-- How a device shows, with its parts.
use Rattle.std.proofs.Common.{◌≡◌, ◌⊎◌, inl, inr, refl, ap, sym, ◌∙◌, rules, ℕ, ◌<◌, Bool, true, false, List, [], ◌∷◌, ◌++◌, filter_map, Option, Some, None, option_and_then, unwrap_or, codes, arith}
use Rattle.qo_model.proofs.Common.{AllByRecursion, option_map_or, type_name, OBJECTS_BIRTH, PERIPHERAL_BIRTH, TypeId, Clock, Device, MemBus, MemDimm, MemoryBackendRam, SlotBridge, SlotBus, SlotTimer, SlotUart, Tag, Given, Board, Slot, plain, child, strong, weak, alias, kind_of, slot_named, is_true, plain_in, is_of, path_down_to, property_named, is_a, slots_of, text_for, types}
use Rattle.std.specs.List.{flat_map}
use Rattle.qo_values.proofs.EachLemmas.{each}
use Rattle.qo_values.specs.declared.properties.Val.TheVariants as val
use Rattle.qo_model.specs.Properties.{path_text, target_text}
use Rattle.qo_model.specs.Types.{property, TypeInfo, type_named}
use Rattle.qo_model.specs.declared.properties.Access.TheVariants.{Both, Set}
use Rattle.qo_model.specs.declared.properties.Property.{Property}
use Rattle.qo_model.specs.declared.properties.PropertyName.{PropertyName}
use Rattle.qo_model.specs.declared.properties.PropertyName.TheVariants as prop
use Rattle.qo_model.specs.declared.properties.PropertyRole.TheVariants as row
use Rattle.qo_save.specs.Described.{description, is_describable}
use Rattle.qo_save.specs.Description.{Description, DeviceItem}
use Rattle.qo_save.specs.Like.{names, Shown, shown, Sight, sight, value}
use Rattle.qo_sound.proofs.TestLemmas.{clash, clash-back}
use Rattle.qo_sound_claims.specs.SoundClaims.{HasRange as RangeKept}
use Rattle.qo_sound_devices.specs.SoundPlaces.{child_entries, child_entry, has_entry}
use Rattle.qo_sound_shapes.specs.SoundShape.{HasRole}
use Rattle.qo_sound_shapes.proofs.FactLemmas.{shapes_say_lem}
use Rattle.qo_good.specs.Good.{bus_path, clock_path, device_path, OneOf}
use Rattle.qo_good.specs.GoodBoards.{IsWhole}
use Rattle.qo_good.proofs.BusLemmas.{bus-fits, bus-named, bus_row, ClockAt, clock-at, own-bus, part-of, Stood}
use Rattle.qo_good.proofs.ClaimLemmas.{as_dimm, as_other, as_uart, device-four, number-slot, range_given, Says, says-of, strong-slot, text-slot}
use Rattle.qo_good.proofs.DeviceLemmas.{ring-text}
use Rattle.qo_good.proofs.ItemLemmas.{births_in, one-append, one-imply}
use Rattle.qo_good.proofs.LayoutLemmas.{bus-said, driver-said}
use Rattle.qo_good.proofs.PartLemmas.{device_as, is_shelf, parts_of}
use Rattle.qo_good.proofs.PlaceLemmas.{apart, device-way, inner-way, leads, older, one-at, one-entry, told}
use Rattle.qo_alike.specs.AlikeBoards.{TellsTypes}
use Rattle.qo_alike.specs.Seen.{clock_said, clock_shows, device_seen, device_shows, kids_said, link_said, part_seen, plain_shows, seen_as, source_said, value_said}
use Rattle.qo_alike.proofs.OwnerLemmas.{link-seen}
use Rattle.qo_alike.proofs.RowsLemmas.{RowAt, RowSeen}
use Rattle.qo_alike.proofs.SightLemmas.{bare-slots, child-slot, sight-bare, sight-slot_bus, type-slot}
use Rattle.qo_alike.proofs.ClockSightLemmas.{clock-sight}
use Rattle.qo_alike.proofs.KidsLemmas.{kids-shown}
use Rattle.qo_alike.proofs.PreorderLemmas.{look, look-by, look-leaf}

-- ---- rows

abbrev peer_row : Property
peer_row = property prop.Peer (row.Link Device true) Both

abbrev watch_row : Property
watch_row = property prop.Watch (row.Link Device false) Both

pub peer-named : (t : TypeId) → is_a t (codes "device") ≡ true → property_named t (codes "peer") ≡ Some peer_row
unfolding types
peer-named = each (λ (t : TypeId). is_a t (codes "device") ≡ true → property_named t (codes "peer") ≡ Some peer_row) (search rules)

watch-named : (t : TypeId) → is_a t (codes "device") ≡ true → property_named t (codes "watch") ≡ Some watch_row
unfolding types
watch-named = each (λ (t : TypeId). is_a t (codes "device") ≡ true → property_named t (codes "watch") ≡ Some watch_row) (search rules)

strong-role : (to : TypeId) (s : Slot) → HasRole (row.Link to true) s → (target : Option ℕ) × (s ≡ strong to target)
strong-role to (strong t target) e = (target, ap (λ (k : TypeId). strong k target) e)
strong-role to (plain v) e = absurd e
strong-role to (child m) e = absurd e
strong-role to (weak t target) e = absurd e
strong-role to (alias m of) e = absurd e

weak-role : (to : TypeId) (s : Slot) → HasRole (row.Link to false) s → (target : Option ℕ) × (s ≡ weak to target)
weak-role to (weak t target) e = (target, ap (λ (k : TypeId). weak k target) e)
weak-role to (plain v) e = absurd e
weak-role to (child m) e = absurd e
weak-role to (strong t target) e = absurd e
weak-role to (alias m of) e = absurd e

realized-slot : (o : Option Slot) → option_map_or is_true (option_and_then plain_in o) false ≡ true → o ≡ Some (plain (val.Bool true))
realized-slot None e = clash-back e
realized-slot (Some (plain (val.Bool u))) e = ap (λ (x : Bool). Some (plain (val.Bool x))) e
realized-slot (Some (plain (val.Uint n))) e = clash-back e
realized-slot (Some (plain (val.Int z))) e = clash-back e
realized-slot (Some (plain (val.Text text))) e = clash-back e
realized-slot (Some (plain val.Nothing)) e = clash-back e
realized-slot (Some (child m)) e = clash-back e
realized-slot (Some (strong t target)) e = clash-back e
realized-slot (Some (weak t target)) e = clash-back e
realized-slot (Some (alias m of)) e = clash-back e

module _ (b : Board) (h : IsWhole b) (tells : TellsTypes b) (says : is_describable b ≡ true) where
  abbrev d : Description
  d = description b

  -- what every device has
  pub record Base (e : List ℕ × ℕ) (k : Stood b e) : Type 0 where
    pub type : slot_named b e.1 (codes "type") ≡ Some (plain (val.Text (type_name k.here.kind)))
    pub realized : slot_named b e.1 (codes "realized") ≡ Some (plain (val.Bool true))
    pub holder : TypeId
    pub on : slot_named b e.1 (codes "parent_bus") ≡ Some (strong holder (Some k.on.bus))
    pub place : slot_named b e.1 (codes "slot") ≡ Some (plain (val.Uint k.on.slot))
    pub peer : Option ℕ
    pub peer_at : slot_named b e.1 (codes "peer") ≡ Some (strong Device peer)
    pub peer_so : names (target_text b peer) ≡ names (link_said d (device_path e.0) (codes "peer"))
    pub watch : Option ℕ
    pub watch_at : slot_named b e.1 (codes "watch") ≡ Some (weak Device watch)
    pub watch_so : names (target_text b watch) ≡ names (link_said d (device_path e.0) (codes "watch"))

  pub base : (e : List ℕ × ℕ) (k : Stood b e) → Base e k
  base e k =
      let way : path_down_to b e.1 ≡ Some (device_path e.0) = device-way b h.order e.1 e.0 k.here.there in
      let text : path_text b e.1 ≡ device_path e.0 =
      told b h.order e.1 (device_path e.0) (apart b h.order PERIPHERAL_BIRTH e (omega arith) k.here.there) way in
      let one : OneOf (λ (x : List ℕ × ℕ). x.1 ≡ e.1) (child_entries b OBJECTS_BIRTH ++ child_entries b PERIPHERAL_BIRTH) =
      one-append (λ (x : List ℕ × ℕ). x.1 ≡ e.1) (child_entries b OBJECTS_BIRTH) (child_entries b PERIPHERAL_BIRTH)
      (inr (one-imply (λ (x : List ℕ × ℕ). (x.0 ≡ e.0) × (x.1 ≡ e.1)) (λ (x : List ℕ × ℕ). x.1 ≡ e.1) (λ x q. q.1) (child_entries b PERIPHERAL_BIRTH)
      (one-entry e (child_entries b PERIPHERAL_BIRTH) k.here.there))) in
      let (holder, on) = strong-slot k.on.bus (slot_named b e.1 (codes "parent_bus")) k.on.on in
      let (s, (peer_at, peer_fits)) =
      shapes_say_lem.there b h.order.shape e.1 (codes "peer") peer_row k.stood
      (record { kind = k.here.kind; its = k.here.its; row = peer-named k.here.kind k.here.wants }) in
      let (peer, peer_is) = strong-role Device s peer_fits in
      let (w, (watch_at, watch_fits)) =
      shapes_say_lem.there b h.order.shape e.1 (codes "watch") watch_row k.stood
      (record { kind = k.here.kind; its = k.here.its; row = watch-named k.here.kind k.here.wants }) in
      let (watch, watch_is) = weak-role Device w watch_fits in
      let peer_seen : shown b s ≡ names (link_said d (device_path e.0) (codes "peer")) =
      link-seen b h.order e.1 (device_path e.0) way text k.here.kind k.here.its (codes "peer") peer_row Device true (peer-named k.here.kind k.here.wants) refl refl
      s peer_at peer_fits one in
      let watch_seen : shown b w ≡ names (link_said d (device_path e.0) (codes "watch")) =
      link-seen b h.order e.1 (device_path e.0) way text k.here.kind k.here.its (codes "watch") watch_row Device false (watch-named k.here.kind k.here.wants) refl
      refl w watch_at watch_fits one in
      record {
        type = type-slot b h.order tells e.1 k.here.kind k.here.its;
        realized = realized-slot (slot_named b e.1 (codes "realized")) k.realized;
        holder = holder;
        on = on;
        place = number-slot k.on.slot (slot_named b e.1 (codes "slot")) k.on.at;
        peer = peer;
        peer_at = peer_at ∙ ap Some peer_is;
        peer_so = ap (shown b) (sym peer_is) ∙ peer_seen;
        watch = watch;
        watch_at = watch_at ∙ ap Some watch_is;
        watch_so = ap (shown b) (sym watch_is) ∙ watch_seen;
      }

-- ---- what shows of a device's parts

abbrev pub clk_seen : Description → DeviceItem → Sight
clk_seen d x =
    seen_as (clock_path x.id) Clock
    (clock_shows 0 (clock_said d (clock_path x.id) (λ c. c.mul)) (clock_said d (clock_path x.id) (λ c. c.div)) (source_said d x.bus)) []

abbrev pub bus_seen : Description → DeviceItem → Sight
bus_seen d x = seen_as (bus_path x.id) SlotBus (plain_shows SlotBus) (kids_said d (bus_path x.id))

-- by the name of its type
abbrev by_name : Description → DeviceItem → List ℕ → List Sight
by_name d x name =
    option_map_or (λ (r : TypeInfo). seen_as (device_path x.id) r.id (device_shows d x) [] ∷ filter_map (λ (p : Property). part_seen d x p.name) (slots_of r.id))
    (type_named name) []

uart-parts : (d : Description) (x : DeviceItem)
    → by_name d x (type_name SlotUart) ≡ seen_as (device_path x.id) SlotUart (device_shows d x) [] ∷ clk_seen d x ∷ []
unfolding types
uart-parts d x = refl

timer-parts : (d : Description) (x : DeviceItem)
    → by_name d x (type_name SlotTimer) ≡ seen_as (device_path x.id) SlotTimer (device_shows d x) [] ∷ clk_seen d x ∷ []
unfolding types
timer-parts d x = refl

bridge-parts : (d : Description) (x : DeviceItem)
    → by_name d x (type_name SlotBridge) ≡ seen_as (device_path x.id) SlotBridge (device_shows d x) [] ∷ clk_seen d x ∷ bus_seen d x ∷ []
unfolding types
bridge-parts d x = refl

dimm-parts : (d : Description) (x : DeviceItem) → by_name d x (type_name MemDimm) ≡ seen_as (device_path x.id) MemDimm (device_shows d x) [] ∷ []
unfolding types
dimm-parts d x = refl

abbrev period_row : Property
period_row = property prop.ClockPeriod (row.Alias prop.Clk prop.Period) Set

period-named : (t : TypeId) → is_a t (codes "slot-device") ≡ true → property_named t (codes "clock-period") ≡ Some period_row
unfolding types
period-named = each (λ (t : TypeId). is_a t (codes "slot-device") ≡ true → property_named t (codes "clock-period") ≡ Some period_row) (search rules)

alias-role : (s : Slot) → HasRole period_row.role s → (m : ℕ) × ((name : List ℕ) × (s ≡ alias m name))
alias-role (alias m name) e = (m, (name, refl))
alias-role (plain v) e = absurd e
alias-role (child m) e = absurd e
alias-role (strong t target) e = absurd e
alias-role (weak t target) e = absurd e

bus-named_so : is_a SlotBus (codes "bus") ≡ true
unfolding types
bus-named_so = refl

pub leaf-types : AllByRecursion (λ (t : TypeId). (is_shelf t ≡ false) × (parts_of t ≡ [])) (Clock ∷ SlotBus ∷ MemBus ∷ MemDimm ∷ MemoryBackendRam ∷ Tag ∷ [])
leaf-types = ((refl, refl), ((refl, refl), ((refl, refl), ((refl, refl), ((refl, refl), ((refl, refl), tt))))))

slot-devices : (is_a SlotUart (codes "slot-device") ≡ true) × (is_a SlotTimer (codes "slot-device") ≡ true) × (is_a SlotBridge (codes "slot-device") ≡ true)
unfolding types
slot-devices = (refl, refl, refl)

module _ (b : Board) (h : IsWhole b) (tells : TellsTypes b) (says : is_describable b ≡ true) (e : List ℕ × ℕ) (k : Stood b e) (w : Base b h tells says e k) where
  abbrev x : DeviceItem
  x = device_as b e

  abbrev shows : PropertyName → Shown
  shows = device_shows (description b) (device_as b e)

  -- rows that every device has
  abbrev type_at : RowAt b e.1 shows prop.Type
  type_at =
      record {
        slot = plain (val.Text (type_name k.here.kind));
        found = w.type;
        so = ap (λ (n : List ℕ). value (val.Text n)) (sym (driver-said b h says e k));
      }

  abbrev realized_at : RowAt b e.1 shows prop.Realized
  realized_at = record { slot = plain (val.Bool true); found = w.realized; so = refl }

  abbrev parent_at : RowAt b e.1 shows prop.ParentBus
  parent_at = record { slot = strong w.holder (Some k.on.bus); found = w.on; so = ap names (sym (bus-said b h says e k)) }

  abbrev place_at : RowAt b e.1 shows prop.Slot
  place_at =
      record {
        slot = plain (val.Uint k.on.slot);
        found = w.place;
        so = ap (λ (o : Option ℕ). value (val.Uint (unwrap_or o 0))) (sym k.on.at);
      }

  abbrev peer_at : RowAt b e.1 shows prop.Peer
  peer_at = record { slot = strong Device w.peer; found = w.peer_at; so = w.peer_so }

  abbrev watch_at : RowAt b e.1 shows prop.Watch
  watch_at = record { slot = weak Device w.watch; found = w.watch_at; so = w.watch_so }

  -- a clock's
  abbrev clk_at : ClockAt b e → RowAt b e.1 shows prop.Clk
  clk_at c = record { slot = child c.clock; found = child-slot c.clock (slot_named b e.1 (codes "clk")) c.its; so = ap names c.told }

  -- ---- the device itself

  path : path_text b e.1 ≡ device_path e.0
  path =
      told b h.order e.1 (device_path e.0) (apart b h.order PERIPHERAL_BIRTH e (omega arith) k.here.there) (device-way b h.order e.1 e.0 k.here.there)

  -- what is seen by its type
  seen-is : (t : TypeId) → k.here.kind ≡ t → device_seen (description b) x ≡ by_name (description b) x (type_name t)
  seen-is t is = ap (by_name (description b) x) (driver-said b h says e k ∙ ap type_name is)

  period_of : is_a k.here.kind (codes "slot-device") ≡ true → (m : ℕ) × ((name : List ℕ) × (slot_named b e.1 (codes "clock-period") ≡ Some (alias m name)))
  period_of is =
      let (s, (found, fits)) =
      shapes_say_lem.there b h.order.shape e.1 (codes "clock-period") period_row k.stood
      (record { kind = k.here.kind; its = k.here.its; row = period-named k.here.kind is }) in
      let (m, (name, shape)) = alias-role s fits in
      (m, (name, found ∙ ap Some shape))

  clock-look : (c : ClockAt b e) → look b h.order c.clock ≡ clk_seen (description b) x ∷ []
  clock-look c =
      look-leaf b h.order c.clock Clock (h.sources.clocks e.1 c.clock k.realized c.its) leaf-types.0.0 leaf-types.0.1
      ∙ ap (λ (s : Sight). s ∷ []) (clock-sight b h tells says e k c)

  -- a UART
  uart-look : k.here.kind ≡ SlotUart → look b h.order e.1 ≡ device_seen (description b) x
  unfolding types
  uart-look is =
      let slot = ap (λ (t : TypeId). is_a t (codes "slot-device")) is ∙ slot-devices.0 in
      let kind : kind_of b e.1 ≡ Some SlotUart = k.here.its ∙ ap Some is in
      let c : ClockAt b e = clock-at b h.order says e k slot in
      let (m, (name, period)) = period_of slot in
      let (id, (chardev, said)) = chardev-of is in
      let rows : AllByRecursion (RowSeen b e.1 shows) (slots_of SlotUart) =
      (type_at, (realized_at, (parent_at, (place_at, (peer_at, (watch_at, (clk_at c, (record { slot = alias m name; found = period; so = refl }, (record { slot = plain (val.Text id); found = chardev; so = said }, tt))))))))) in
      let children : child_entries b e.1 ≡ (codes "clk", c.clock) ∷ [] =
      ap (filter_map child_entry) (bare-slots b h.order e.1 SlotUart kind (λ s y. y) shows rows) in
      look-by b h.order e.1
      ∙ ap (λ (es : List (List ℕ × ℕ)). sight b e.1 ∷ flat_map (look b h.order) (births_in es)) children
      ∙ ap (λ (ss : List Sight). sight b e.1 ∷ (ss ++ [])) (clock-look c)
      ∙ ap (λ (s : Sight). s ∷ clk_seen (description b) x ∷ []) (sight-bare b h.order e.1 SlotUart kind (device_path e.0) path (λ s y. y) shows rows)
      ∙ sym (uart-parts (description b) x)
      ∙ sym (seen-is SlotUart is)
    where
      chardev-of : k.here.kind ≡ SlotUart → (id : List ℕ) × ((slot_named b e.1 (codes "chardev") ≡ Some (plain (val.Text id)))
          × (value (val.Text id) ≡ value (val.Text (text_for x.props (codes "chardev")))))
      chardev-of is = by (says-of b h says e k)
        where
          by : Says b e.1 k.here.kind x.props → (id : List ℕ) × ((slot_named b e.1 (codes "chardev") ≡ Some (plain (val.Text id)))
              × (value (val.Text id) ≡ value (val.Text (text_for x.props (codes "chardev")))))
          by (as_uart own id chardev on props) = (
            id,
            (
              text-slot id (slot_named b e.1 (codes "chardev")) chardev,
              ap (λ (t : List ℕ). value (val.Text t)) (sym (ring-text id) ∙ ap (λ (ps : List Given). text_for ps (codes "chardev")) (sym props)),
            ),
          )
          by (as_dimm own r on props) = absurd (let clash : SlotUart ≡ MemDimm = sym is ∙ own in cc)
          by (as_other (inl own) props) = absurd (let clash : SlotUart ≡ SlotTimer = sym is ∙ own in cc)
          by (as_other (inr own) props) = absurd (let clash : SlotUart ≡ SlotBridge = sym is ∙ own in cc)

  -- a timer
  timer-look : k.here.kind ≡ SlotTimer → look b h.order e.1 ≡ device_seen (description b) x
  unfolding types
  timer-look is =
      let slot = ap (λ (t : TypeId). is_a t (codes "slot-device")) is ∙ slot-devices.1 in
      let kind : kind_of b e.1 ≡ Some SlotTimer = k.here.its ∙ ap Some is in
      let c : ClockAt b e = clock-at b h.order says e k slot in
      let (m, (name, period)) = period_of slot in
      let rows : AllByRecursion (RowSeen b e.1 shows) (slots_of SlotTimer) =
      (type_at, (realized_at, (parent_at, (place_at, (peer_at, (watch_at, (clk_at c, (record { slot = alias m name; found = period; so = refl }, tt)))))))) in
      let children : child_entries b e.1 ≡ (codes "clk", c.clock) ∷ [] =
      ap (filter_map child_entry) (bare-slots b h.order e.1 SlotTimer kind (λ s y. y) shows rows) in
      look-by b h.order e.1
      ∙ ap (λ (es : List (List ℕ × ℕ)). sight b e.1 ∷ flat_map (look b h.order) (births_in es)) children
      ∙ ap (λ (ss : List Sight). sight b e.1 ∷ (ss ++ [])) (clock-look c)
      ∙ ap (λ (s : Sight). s ∷ clk_seen (description b) x ∷ []) (sight-bare b h.order e.1 SlotTimer kind (device_path e.0) path (λ s y. y) shows rows)
      ∙ sym (timer-parts (description b) x)
      ∙ sym (seen-is SlotTimer is)

  -- a bridge
  bus-look : (m : ℕ) → has_entry (codes "bus.0", m) (child_entries b e.1) ≡ true → kind_of b m ≡ Some SlotBus
      → look b h.order m ≡ bus_seen (description b) x ∷ []
  bus-look m on kind =
      let way : path_down_to b m ≡ Some (bus_path e.0) = inner-way b h.order e.1 m e.0 (codes "bus.0") k.here.there on in
      let old : PERIPHERAL_BIRTH < e.1 = older b h.order PERIPHERAL_BIRTH e k.here.there in
      let text : path_text b m ≡ bus_path e.0 = told b h.order m (bus_path e.0) (apart b h.order e.1 (codes "bus.0", m) (omega arith) on) way in
      let is_bus : is_of b (codes "bus") m ≡ true =
      ap (λ (o : Option TypeId). option_map_or (λ (t : TypeId). is_a t (codes "bus")) o false) kind ∙ bus-named_so in
      look-leaf b h.order m SlotBus kind leaf-types.1.0.0 leaf-types.1.0.1
      ∙ ap (λ (s : Sight). s ∷ [])
      (sight-slot_bus b h.order tells m kind (bus_path e.0) text (kids_said (description b) (bus_path e.0))
      (kids-shown b h says m is_bus (bus_path e.0) text (leads b h.order m (bus_path e.0) way)))

  bridge-look : k.here.kind ≡ SlotBridge → look b h.order e.1 ≡ device_seen (description b) x
  unfolding types
  bridge-look is =
      let slot = ap (λ (t : TypeId). is_a t (codes "slot-device")) is ∙ slot-devices.2 in
      let kind : kind_of b e.1 ≡ Some SlotBridge = k.here.its ∙ ap Some is in
      let c : ClockAt b e = clock-at b h.order says e k slot in
      let (m, (name, period)) = period_of slot in
      let (q, on) = own-bus b h.order says e k is in
      let (found, (kind_q, text)) = bus-slot is q on in
      let rows : AllByRecursion (RowSeen b e.1 shows) (slots_of SlotBridge) =
      (type_at, (realized_at, (parent_at, (place_at, (peer_at, (watch_at, (clk_at c, (record { slot = alias m name; found = period; so = refl }, (record { slot = child q; found = found; so = ap names text }, tt))))))))) in
      let children : child_entries b e.1 ≡ (codes "clk", c.clock) ∷ (codes "bus.0", q) ∷ [] =
      ap (filter_map child_entry) (bare-slots b h.order e.1 SlotBridge kind (λ s y. y) shows rows) in
      look-by b h.order e.1
      ∙ ap (λ (es : List (List ℕ × ℕ)). sight b e.1 ∷ flat_map (look b h.order) (births_in es)) children
      ∙ ap (λ (ss : List Sight). sight b e.1 ∷ (ss ++ (look b h.order q ++ []))) (clock-look c)
      ∙ ap (λ (ss : List Sight). sight b e.1 ∷ clk_seen (description b) x ∷ (ss ++ [])) (bus-look q on kind_q)
      ∙ ap (λ (s : Sight). s ∷ clk_seen (description b) x ∷ bus_seen (description b) x ∷ [])
      (sight-bare b h.order e.1 SlotBridge kind (device_path e.0) path (λ s y. y) shows rows)
      ∙ sym (bridge-parts (description b) x)
      ∙ sym (seen-is SlotBridge is)
    where
      bus-slot : k.here.kind ≡ SlotBridge → (q : ℕ) → has_entry (codes "bus.0", q) (child_entries b e.1) ≡ true
          → (slot_named b e.1 (codes "bus.0") ≡ Some (child q)) × ((kind_of b q ≡ Some SlotBus) × (path_text b q ≡ bus_path e.0))
      bus-slot is q on =
          let (s, (found, fits)) =
          shapes_say_lem.there b h.order.shape e.1 (codes "bus.0") bus_row k.stood
          (record { kind = k.here.kind; its = k.here.its; row = ap (λ (t : TypeId). property_named t (codes "bus.0")) is ∙ bus-named }) in
          let (m, shape) = bus-fits s fits in
          let at : slot_named b e.1 (codes "bus.0") ≡ Some (child m) = found ∙ ap Some shape in
          let here : has_entry (codes "bus.0", m) (child_entries b e.1) ≡ true = part-of b h.order says e k (codes "bus.0") m at in
          let way : path_down_to b q ≡ Some (bus_path e.0) = inner-way b h.order e.1 q e.0 (codes "bus.0") k.here.there on in
          let also : path_down_to b m ≡ Some (bus_path e.0) = inner-way b h.order e.1 m e.0 (codes "bus.0") k.here.there here in
          let same : m ≡ q = one-at b h.order m q (bus_path e.0) also way in
          let old : PERIPHERAL_BIRTH < e.1 = older b h.order PERIPHERAL_BIRTH e k.here.there in (
            at ∙ ap (λ (n : ℕ). Some (child n)) same,
            (
              sym (ap (kind_of b) same)
                  ∙ shapes_say_lem.child b h.order.shape e.1 m (codes "bus.0") bus_row SlotBus
                  (record { kind = k.here.kind; its = k.here.its; row = ap (λ (t : TypeId). property_named t (codes "bus.0")) is ∙ bus-named }) refl at,
              told b h.order q (bus_path e.0) (apart b h.order e.1 (codes "bus.0", q) (omega arith) on) way,
            ),
          )

  -- a DIMM
  dimm-look : k.here.kind ≡ MemDimm → look b h.order e.1 ≡ device_seen (description b) x
  unfolding types
  dimm-look is =
      let kind : kind_of b e.1 ≡ Some MemDimm = k.here.its ∙ ap Some is in
      let (r, props) = range-of is in
      let (t, memdev) = strong-slot r.backend (slot_named b e.1 (codes "memdev")) r.memdev in
      let addr = number-slot r.range.at (slot_named b e.1 (codes "addr")) r.addr in
      let rows : AllByRecursion (RowSeen b e.1 shows) (slots_of MemDimm) = (
        type_at,
        (
          realized_at,
          (
            parent_at,
            (
              place_at,
              (
                peer_at,
                (
                  watch_at,
                  (
                    record {
                      slot = strong t (Some r.backend);
                      found = memdev;
                      so = ap (λ (ps : List Given). names (text_for ps (codes "memdev"))) (sym props);
                    },
                    (
                      record {
                        slot = plain (val.Uint r.range.at);
                        found = addr;
                        so = ap (λ (ps : List Given). value (value_said ps (codes "addr"))) (sym props);
                      },
                      tt,
                    ),
                  ),
                ),
              ),
            ),
          ),
        ),
      ) in
      look-leaf b h.order e.1 MemDimm kind leaf-types.1.1.1.0.0 leaf-types.1.1.1.0.1
      ∙ ap (λ (s : Sight). s ∷ []) (sight-bare b h.order e.1 MemDimm kind (device_path e.0) path (λ s y. y) shows rows)
      ∙ sym (dimm-parts (description b) x)
      ∙ sym (seen-is MemDimm is)
    where
      range-of : k.here.kind ≡ MemDimm → (r : RangeKept b e.1) × (x.props ≡ range_given r.range.at (path_text b r.backend))
      range-of is = by (says-of b h says e k)
        where
          by : Says b e.1 k.here.kind x.props → (r : RangeKept b e.1) × (x.props ≡ range_given r.range.at (path_text b r.backend))
          by (as_dimm own r on props) = (r, props)
          by (as_uart own id chardev on props) = absurd (let clash : MemDimm ≡ SlotUart = sym is ∙ own in cc)
          by (as_other (inl own) props) = absurd (let clash : MemDimm ≡ SlotTimer = sym is ∙ own in cc)
          by (as_other (inr own) props) = absurd (let clash : MemDimm ≡ SlotBridge = sym is ∙ own in cc)

  pub device-look : look b h.order e.1 ≡ device_seen (description b) (device_as b e)
  device-look = by (device-four k.here.kind k.here.concrete k.here.wants)
    where
      by : (k.here.kind ≡ SlotUart) ⊎ ((k.here.kind ≡ MemDimm) ⊎ ((k.here.kind ≡ SlotTimer) ⊎ (k.here.kind ≡ SlotBridge)))
          → look b h.order e.1 ≡ device_seen (description b) (device_as b e)
      by (inl is) = uart-look is
      by (inr (inl is)) = dimm-look is
      by (inr (inr (inl is))) = timer-look is
      by (inr (inr (inr is))) = bridge-look is
