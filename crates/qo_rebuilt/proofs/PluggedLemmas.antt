-- A device that nothing refuses is added, and told after the others.
use Rattle.std.proofs.Common.{◌≡◌, refl, ap, sym, subst, ◌∙◌, rules, ℕ, ◌+◌, ◌<◌, ◌≤◌, Bool, true, false, not, ◌==◌, ◌&&◌, ◌||◌, List, [], ◌∷◌, ◌++◌, drop, filter_map, Option, Some, None, is_some, option_map, option_and_then, unwrap_or, Ok, codes, append-nil, arith}
use Rattle.std.specs.List.{flat_map}
use Rattle.std.proofs.lemmas.Bool.{and_parts, eq-eqb, eqb-true}
use Rattle.std.proofs.lemmas.List.Folds.{list_any-append}
use Rattle.std.proofs.lemmas.Option.{same_Some}
use Rattle.std.proofs.lemmas.Slice.Eq.{bytes_eq-Decides}
use Rattle.std.proofs.Math.Bool.{or-true}
use Rattle.qo_model.proofs.Common.{AllByRecursion, if◌then◌else◌, option_map_or, bytes_eq, type_name, ANONYMOUS_BIRTH, OBJECTS_BIRTH, PERIPHERAL_BIRTH, TypeId, Container, Code, E20, E21, E22, Board, Notice, Record, Slot, plain, child, strong, weak, alias, is_live, kind_of, record_of, slots_at, place_of, clock_of, bus_of, div_of, mul_of, target_of, is_of, barred_early, bus_for, plug, plug_as, plug_by, plug_late, Plugged, Resources, resources_of, type_barred, Wanted, with_plugged, TypeInfo, Given, is_a, slots_of, types}
use Rattle.qo_model.specs.Paths.{found, missing, Resolution, several}
use Rattle.qo_values.proofs.EachLemmas.{each}
use Rattle.qo_model.specs.Plug.{plug_on, source_for}
use Rattle.qo_model.specs.Properties.{may_set, property_named, target_text}
use Rattle.qo_model.specs.RowNames.{property_name}
use Rattle.qo_model.specs.declared.properties.Property.{Property}
use Rattle.qo_model.specs.declared.properties.PropertyRole.{PropertyRole}
use Rattle.qo_model.specs.declared.properties.PropertyRole.TheVariants as row
use Rattle.qo_model.specs.Types.{type_named}
use Rattle.qo_save.specs.Described.{clock_item, clock_item_of, described, description, device_given, device_item, device_of, is_describable, is_link, is_set, is_unset, link_item, link_items, props_under}
use Rattle.qo_save.specs.Description.{ClockItem, Description, DeviceItem, LinkItem, ObjectItem}
use Rattle.qo_save.specs.Rebuilding.{add_device, by_plugged, wanted_by}
use Rattle.qo_sound.proofs.DeviceScopeLemmas.{devices_stay_lem}
use Rattle.qo_sound.proofs.DraftLemmas.{absent-above}
use Rattle.qo_sound.proofs.PlugLemmas.{place-of}
use Rattle.qo_sound.proofs.TestLemmas.{clash, clash-back, decide}
use Rattle.qo_sound.proofs.ViewLemmas.{PinsRootAlone, rest-from_sound}
use Rattle.qo_sound_devices.specs.SoundPlaces.{child_entries, child_entry, has_entry}
use Rattle.qo_sound_devices.proofs.AdditionLemmas.{done, Joined}
use Rattle.qo_sound_devices.proofs.AttachmentLemmas.{parent-is}
use Rattle.qo_sound_devices.proofs.GoalLemmas.{fits-bus}
use Rattle.qo_sound_devices.proofs.LocationLemmas.{place-named}
use Rattle.qo_sound_devices.proofs.PlacesLemmas.{kind-alike, of-live}
use Rattle.qo_sound_devices.proofs.PlugLemmas.{Accepted}
use Rattle.qo_sound_devices.proofs.PlugStageLemmas.{accepted-joined}
use Rattle.qo_sound_clocks.proofs.PlugLemmas.{child-in, Growing}
use Rattle.qo_sound_clocks.proofs.PlugStageLemmas.{growing}
use Rattle.qo_sound_clocks.proofs.ReadLemmas.{Reads, tree-reads}
use Rattle.qo_sound_order.specs.SoundOrder.{is_abstract}
use Rattle.qo_sound_order.proofs.UserObjectLemmas.{there-low}
use Rattle.qo_sound_shapes.specs.SoundShape.{HasRole, IsOfProperty}
use Rattle.qo_sound_shapes.proofs.RowLemmas.{has-all, IsRowOf, own-rows}
use Rattle.qo_good.specs.GoodBoards.{IsWhole}
use Rattle.qo_good.proofs.ItemLemmas.{all-both}
use Rattle.qo_good.proofs.LinkLemmas.{bare-device}
use Rattle.qo_good.proofs.PartLemmas.{is_shelf, objects-kind, peripheral-kind}
use Rattle.qo_good.proofs.PlaceLemmas.{firm}
use Rattle.qo_good.proofs.ValueLemmas.{Its, its-record}
use Rattle.qo_rebuilt.specs.Made.{Tells}
use Rattle.qo_rebuilt.specs.DevicesMade.{IsPlugged, with_taken}
use Rattle.qo_rebuilt.proofs.GrowthLemmas.{kind-live, texts-kept}
use Rattle.qo_rebuilt.proofs.ObjectLemmas.{row-own}
use Rattle.qo_rebuilt.proofs.OwnLemmas.{Owning, owning-all}
use Rattle.qo_rebuilt.proofs.RingLemmas.{Has, has, says-so}
use Rattle.qo_rebuilt.proofs.StayLemmas.{is_open, IsYoung, LeavesOpen, Staying, staying-all}
use Rattle.qo_rebuilt.proofs.TellingLemmas.{describable-grown, description-grown, IsGrown}
use Rattle.qo_rebuilt.proofs.WholeLemmas.{whole_kept_lem}

-- the further course of adding
abbrev bus_by : Resolution → Option ℕ
bus_by (found m) = Some m
bus_by missing = None
bus_by several = None

abbrev plug_row : Board → Wanted → Option TypeInfo → Plugged
plug_row b a None = record { refusal = None; board = b }
plug_row b a (Some row) = plug_as b row.id a (barred_early b row.id a)

abbrev plug_bus : Board → TypeId → Wanted → Option ℕ → Plugged
plug_bus b t a None = record { refusal = None; board = b }
plug_bus b t a (Some bus) = plug_on b t bus a

abbrev barred_row : Option TypeInfo → Option Code
barred_row None = Some E20
barred_row (Some row) = if row.is_abstract then Some E21 else if not (is_a row.id (codes "device")) then Some E22 else None

-- a link of a device that `qom-set` writes is one of the two
abbrev is_link_role : PropertyRole → Bool
is_link_role (row.Link to holds) = true
is_link_role kind = false

abbrev IsShut : Property → Type 0
IsShut p = may_set p.access ≡ true → is_link_role p.role ≡ true → is_open (property_name p.name) ≡ true

rows-shut : (t : TypeId) → is_a t (codes "device") ≡ true → AllByRecursion IsShut (slots_of t)
unfolding types
rows-shut = each (λ (t : TypeId). is_a t (codes "device") ≡ true → AllByRecursion IsShut (slots_of t)) (search rules)

module _ (b : Board) (w : IsWhole b) (quiet : b.notices ≡ []) (t : TypeId) (x : DeviceItem) (driver : x.driver ≡ type_name t) (concrete : is_abstract t ≡ false)
    (device : is_a t (codes "device") ≡ true) (k : IsPlugged b t x) (leaves : LeavesOpen (wanted_by x).props) where
  abbrev n : ℕ
  n = b.born + 1

  abbrev a : Wanted
  a = wanted_by x

  abbrev res : Resources
  res = resources_of b t k.bus (wanted_by x).props

  abbrev c0 : Board
  c0 = with_plugged b t (wanted_by x) (resources_of b t k.bus (wanted_by x).props)

  abbrev c : Board
  c = with_taken b t k.bus x

  chosen : bus_for b t (Some x.bus) ≡ Some k.bus
  chosen = ap bus_by k.at

  pub accepted : Accepted b t k.bus (wanted_by x)
  accepted =
      record { device = device; chosen = chosen; early = k.early; late = k.late; place = place-of b t k.bus (wanted_by x) device chosen k.early k.late }

  plugs : plug b (wanted_by x) ≡ record { refusal = None; board = c0 }
  unfolding plug
  plugs = go (type_named x.driver) refl
    where
      named : option_map (λ (r : TypeInfo). r.id) (type_named x.driver) ≡ Some t
      named = ap (λ (name : List ℕ). option_map (λ (r : TypeInfo). r.id) (type_named name)) driver ∙ row-own t

      go : (o : Option TypeInfo) → type_named x.driver ≡ o → plug_by b (wanted_by x) (type_barred x.driver) ≡ record { refusal = None; board = c0 }
      go None q = absurd (let clash : None ≡ Some t = sym (ap (option_map (λ (r : TypeInfo). r.id)) q) ∙ named in cc)
      go (Some row) q =
          let own : row.id ≡ t = same_Some row.id t (sym (ap (option_map (λ (r : TypeInfo). r.id)) q) ∙ named) in
          let real : row.is_abstract ≡ false =
          sym (ap (λ (o : Option TypeInfo). option_map_or (λ (r : TypeInfo). r.is_abstract) o false) q)
          ∙ ap (λ (name : List ℕ). option_map_or (λ (r : TypeInfo). r.is_abstract) (type_named name) false) driver ∙ concrete in
          let may : is_a row.id (codes "device") ≡ true = ap (λ (u : TypeId). is_a u (codes "device")) own ∙ device in
          let free : barred_row (Some row) ≡ None = rw (real, may) refl in
          let barred : type_barred x.driver ≡ None = ap barred_row q ∙ free in
          ap (plug_by b (wanted_by x)) barred ∙ ap (plug_row b (wanted_by x)) q
          ∙ ap (λ (u : TypeId). plug_as b u (wanted_by x) (barred_early b u (wanted_by x))) own
          ∙ ap (plug_as b t (wanted_by x)) k.early ∙ ap (plug_bus b t (wanted_by x)) chosen ∙ ap (plug_late b t k.bus (wanted_by x)) k.late

  -- the notice of it is taken
  noticed : drop 1 c0.notices ≡ []
  noticed =
      ap (drop 1) (devices_stay_lem.told b t (wanted_by x) (resources_of b t k.bus (wanted_by x).props))
      ∙ ap (λ (xs : List Notice). drop 1 (xs ++ record { plug = true; birth = b.born + 1 } ∷ [])) quiet

  pub device-done : add_device x b ≡ Ok (with_taken b t k.bus x)
  device-done = ap by_plugged plugs ∙ ap (λ (xs : List Notice). Ok (record c0 { notices = xs })) noticed

  pub device-whole : IsWhole (with_taken b t k.bus x)
  device-whole =
      subst (λ (xs : List Notice). IsWhole (record c0 { notices = xs })) noticed
      (whole_kept_lem.read c0 (subst IsWhole (ap (λ (p : Plugged). p.board) plugs) (whole_kept_lem.plugged b (wanted_by x) w)))

  -- ---- what was there

  rest : PinsRootAlone b
  rest = rest-from_sound b w.order.devices.tree

  pub low : (m : ℕ) → is_live b m ≡ true → m ≤ b.born
  low m live = let under : m < b.born + 1 = there-low b (firm b w.order) m live in omega (arith, under)

  pub bus-live : is_live b k.bus ≡ true
  bus-live = of-live b (codes "bus") k.bus (fits-bus b t k.bus k.fits)

  pub container-live : is_live b PERIPHERAL_BIRTH ≡ true
  container-live = kind-live b PERIPHERAL_BIRTH Container (peripheral-kind b w.order)

  pub absent : (m : ℕ) → b.born < m → record_of b m ≡ None
  absent m high = absent-above b (firm b w.order) m high

  pub joined : Joined w.order.devices.places.0 b (b.born + 1) k.bus (resources_of b t k.bus (wanted_by x).props).slot (Some x.id) t
      (done b k.bus (resources_of b t k.bus (wanted_by x).props).slot (Some x.id)) (with_plugged b t (wanted_by x) (resources_of b t k.bus (wanted_by x).props))
  joined = accepted-joined w.order.devices.places.0 b (wanted_by x) rest w.order.devices.places.1 t k.bus accepted

  pub staying : Staying b PERIPHERAL_BIRTH k.bus (low PERIPHERAL_BIRTH container-live) (low k.bus bus-live) absent c0
  staying =
      staying-all b PERIPHERAL_BIRTH k.bus (low PERIPHERAL_BIRTH container-live) (low k.bus bus-live) absent t (wanted_by x)
      (resources_of b t k.bus (wanted_by x).props) leaves refl refl

  pub owning : Owning b absent c0
  owning = owning-all b absent t (wanted_by x) (resources_of b t k.bus (wanted_by x).props)

  pub device-grown : IsGrown b (with_taken b t k.bus x)
  device-grown = record { same = same; grows = grows }
    where
      same : (m : ℕ) (u : TypeId) → kind_of b m ≡ Some u → is_shelf u ≡ false → is_a u (codes "bus") ≡ false
          → (slots_at c m ≡ slots_at b m) × (kind_of c m ≡ kind_of b m)
      same m u kind inner no_bus =
          let live : is_live b m ≡ true = kind-live b m u kind in
          let other : (m == PERIPHERAL_BIRTH) ≡ false =
          decide (m == PERIPHERAL_BIRTH)
          (λ q.
          let is : u ≡ Container = same_Some u Container (sym kind ∙ ap (kind_of b) (eqb-true m PERIPHERAL_BIRTH q) ∙ peripheral-kind b w.order) in
          clash (sym (ap is_shelf is) ∙ inner))
          (λ q. q) in
          let apart : (m == k.bus) ≡ false =
          decide (m == k.bus)
          (λ q.
          let of : is_of b (codes "bus") m ≡ true = ap (is_of b (codes "bus")) (eqb-true m k.bus q) ∙ fits-bus b t k.bus k.fits in
          clash (sym of ∙ ap (λ (o : Option TypeId). option_map_or (λ (v : TypeId). is_a v (codes "bus")) o false) kind ∙ no_bus))
          (λ q. q) in
          (staying.old m (low m live) other apart, kind-alike b c0 m (joined.body m live))

      more : (p : ℕ) (es fs : List (List ℕ × ℕ)) (e : List ℕ × ℕ) → child_entries c p ≡ es ++ fs → has_entry e es ≡ true
          → has_entry e (child_entries c p) ≡ true
      more p es fs e is there =
          ap (has_entry e) is ∙ list_any-append (λ (y : List ℕ × ℕ). y.1 == e.1 && bytes_eq y.0 e.0) es fs ∙ ap (λ (u : Bool). u || has_entry e fs) there

      grows : (p : ℕ) (e : List ℕ × ℕ) → has_entry e (child_entries b p) ≡ true → has_entry e (child_entries c p) ≡ true
      grows p e there = go (record_of b p) refl
        where
          at_live : is_live b p ≡ true → has_entry e (child_entries c p) ≡ true
          at_live live =
              decide (p == PERIPHERAL_BIRTH)
              (λ q. subst (λ (m : ℕ). has_entry e (child_entries c m) ≡ true) (sym (eqb-true p PERIPHERAL_BIRTH q))
              (more PERIPHERAL_BIRTH (child_entries b PERIPHERAL_BIRTH) ((x.id, b.born + 1) ∷ []) e joined.third
              (subst (λ (m : ℕ). has_entry e (child_entries b m) ≡ true) (eqb-true p PERIPHERAL_BIRTH q) there)))
              (λ q. decide (p == ANONYMOUS_BIRTH)
              (λ r. subst (λ (m : ℕ). has_entry e (child_entries c m) ≡ true) (sym (eqb-true p ANONYMOUS_BIRTH r))
              (more ANONYMOUS_BIRTH (child_entries b ANONYMOUS_BIRTH) [] e joined.fourth
              (subst (λ (m : ℕ). has_entry e (child_entries b m) ≡ true) (eqb-true p ANONYMOUS_BIRTH r) there)))
              (λ r. ap (has_entry e) (joined.children p live (rw (q, r) refl)) ∙ there))

          go : (o : Option Record) → record_of b p ≡ o → has_entry e (child_entries c p) ≡ true
          go (Some y) q = at_live (ap is_some q)
          go None q =
              clash-back (sym (ap (λ (o : Option Record). has_entry e (filter_map child_entry (option_map_or (λ (r : Record). r.slots) o []))) q) ∙ there)

  -- ---- what is new

  own-entry : has_entry (x.id, b.born + 1) (child_entries c PERIPHERAL_BIRTH) ≡ true
  own-entry =
      let own : has_entry (x.id, b.born + 1) ((x.id, b.born + 1) ∷ []) ≡ true =
      rw (eq-eqb (b.born + 1) (b.born + 1) refl, (bytes_eq-Decides x.id x.id).1 refl) refl in
      ap (has_entry (x.id, b.born + 1)) joined.third
      ∙ list_any-append (λ (y : List ℕ × ℕ). y.1 == b.born + 1 && bytes_eq y.0 x.id) (child_entries b PERIPHERAL_BIRTH) ((x.id, b.born + 1) ∷ [])
      ∙ ap (λ (u : Bool). has_entry (x.id, b.born + 1) (child_entries b PERIPHERAL_BIRTH) || u) own
      ∙ or-true (has_entry (x.id, b.born + 1) (child_entries b PERIPHERAL_BIRTH))

  pub device-placed : (m : ℕ) → is_live c m ≡ true → is_live b m ≡ false → is_some (place_of c m) ≡ true
  device-placed m live young =
      decide (m == b.born + 1)
      (λ q. subst (λ (y : ℕ). is_some (place_of c y) ≡ true) (sym (eqb-true m (b.born + 1) q))
      (ap is_some (place-named c (firm c device-whole.order) PERIPHERAL_BIRTH (b.born + 1) x.id own-entry)))
      (λ q.
      let up = parent-is c (firm c device-whole.order) (b.born + 1) m (owning.owned m young q live) in
      some-of (place_of c m) up)
    where
      some-of : (o : Option (ℕ × List ℕ)) → option_map (λ (q : ℕ × List ℕ). q.0) o ≡ Some (b.born + 1) → is_some o ≡ true
      some-of None e = cc
      some-of (Some u) e = refl

  -- ---- what it says

  pub device-kind : kind_of c (b.born + 1) ≡ Some t
  device-kind = joined.kind

  pub device-id : has_entry (x.id, b.born + 1) (child_entries c PERIPHERAL_BIRTH) ≡ true
  device-id = own-entry

  -- its clock is as new
  clockless : clock_item_of c (x.id, b.born + 1) ≡ None
  clockless = go (clock_of c (b.born + 1)) refl
    where
      grown : Growing b (source_for b k.bus) c0
      grown = growing b t (wanted_by x) (resources_of b t k.bus (wanted_by x).props) device w.order.devices.tree

      go : (o : Option ℕ) → clock_of c (b.born + 1) ≡ o → clock_item_of c (x.id, b.born + 1) ≡ None
      go None q = ap (option_and_then (clock_item c)) q
      go (Some m) q =
          let (own, high) = child-in (IsYoung (b.born + 1)) (codes "clk") (slots_at c0 (b.born + 1)) staying.young m q in
          let above : b.born < m = omega (arith, high) in
          let reads : Reads c = tree-reads c device-whole.order.devices.tree in
          let one : mul_of c m ≡ 1 = reads.mul m ∙ (grown.new m above).mul in
          let two : div_of c m ≡ 1 = reads.div m ∙ (grown.new m above).div in
          ap (option_and_then (clock_item c)) q ∙ rw (one, two) refl

  -- it has no link
  linkless : link_items c (x.id, b.born + 1) ≡ []
  linkless =
      let its : Its c (b.born + 1) t = its-record c device-whole.order.shape (b.born + 1) t device-kind in
      let slots : slots_at c (b.born + 1) ≡ its.of.slots = ap (λ (o : Option Record). option_map_or (λ (r : Record). r.slots) o []) its.there in
      let young : AllByRecursion (IsYoung (b.born + 1)) its.of.slots = subst (AllByRecursion (IsYoung (b.born + 1))) slots staying.young in
      let all : AllByRecursion (λ (s : List ℕ × Slot). IsYoung (b.born + 1) s → link_item c (b.born + 1) s ≡ None) its.of.slots =
      has-all (λ (p : Property). IsRowOf t p × IsShut p) (λ (s : List ℕ × Slot). IsYoung (b.born + 1) s → link_item c (b.born + 1) s ≡ None) t
      (λ p s r is y. none-set p s r.0 r.1 is y) (λ s f. absurd (bare-device t device s f)) (slots_of t)
      (all-both (IsRowOf t) IsShut (slots_of t) (own-rows t) (rows-shut t device)) its.slots in
      ap (filter_map (link_item c (b.born + 1))) slots ∙ none-said its.of.slots all young
    where
      none-said : (xs : List (List ℕ × Slot)) → AllByRecursion (λ (s : List ℕ × Slot). IsYoung (b.born + 1) s → link_item c (b.born + 1) s ≡ None) xs
          → AllByRecursion (IsYoung (b.born + 1)) xs → filter_map (link_item c (b.born + 1)) xs ≡ []
      none-said [] h y = refl
      none-said (s ∷ xs) h y = rw (h.0 y.0) (none-said xs h.1 y.1)

      open-none : (s : List ℕ × Slot) → is_open s.0 ≡ true → is_link s.1 ≡ true → IsYoung (b.born + 1) s → target_of s.1 ≡ None
      open-none (name, plain v) on is y = refl
      open-none (name, child m) on is y = clash-back is
      open-none (name, strong to target) on is y = y on
      open-none (name, weak to target) on is y = y on
      open-none (name, alias m of) on is y = refl

      link-row : (r : PropertyRole) (s : Slot) → is_link s ≡ true → HasRole r s → is_link_role r ≡ true
      link-row (row.Link to holds) s is fits = refl
      link-row (row.Plain type begins) (strong to target) is fits = absurd fits
      link-row (row.Plain type begins) (weak to target) is fits = absurd fits
      link-row (row.Plain type begins) (plain v) is fits = clash-back is
      link-row (row.Plain type begins) (child m) is fits = clash-back is
      link-row (row.Plain type begins) (alias m of) is fits = clash-back is
      link-row (row.Child type) (strong to target) is fits = absurd fits
      link-row (row.Child type) (weak to target) is fits = absurd fits
      link-row (row.Child type) (plain v) is fits = clash-back is
      link-row (row.Child type) (child m) is fits = clash-back is
      link-row (row.Child type) (alias m of) is fits = clash-back is
      link-row (row.Alias owner o) (strong to target) is fits = absurd fits
      link-row (row.Alias owner o) (weak to target) is fits = absurd fits
      link-row (row.Alias owner o) (plain v) is fits = clash-back is
      link-row (row.Alias owner o) (child m) is fits = clash-back is
      link-row (row.Alias owner o) (alias m of) is fits = clash-back is

      none-set : (p : Property) (s : List ℕ × Slot) → IsRowOf t p → IsShut p → IsOfProperty p s → IsYoung (b.born + 1) s
          → link_item c (b.born + 1) s ≡ None
      none-set p s own shut is y =
          decide (is_link s.1 && is_set c (b.born + 1) s.0)
          (λ q.
          let two = and_parts (is_link s.1) (is_set c (b.born + 1) s.0) q in
          let set : may_set p.access ≡ true =
          sym (ap (λ (o : Option Property). option_map_or (λ (z : Property). may_set z.access) o false) (ap (property_named t) is.name ∙ own))
          ∙ sym (ap (λ (o : Option TypeId). option_map_or (λ (z : Property). may_set z.access) (option_and_then (λ (u : TypeId). property_named u s.0) o) false)
          device-kind)
          ∙ two.1 in
          let on : is_open s.0 ≡ true = ap is_open is.name ∙ shut set (link-row p.role s.1 two.0 is.fits) in
          rw (q, open-none s on two.0 y) refl)
          (λ q. rw q refl)

  -- it is told, if what was given to it is
  pub device-told : props_under c is_unset device_given (b.born + 1) ≡ x.props → (resources_of b t k.bus (wanted_by x).props).slot ≡ x.slot
      → is_describable b ≡ true → device_item c (x.id, b.born + 1) ≡ Some x
  device-told props slot says =
      ap (option_map (device_of c (x.id, b.born + 1))) device-kind
      ∙ ap (λ (path : List ℕ). Some (record (device_of c (x.id, b.born + 1) t) { bus = path })) bus
      ∙ ap (λ (ps : List Given). Some (record (device_of c (x.id, b.born + 1) t) { bus = x.bus; props = ps })) props
      ∙ ap (λ (o : Option ℕ). Some (record { bus = x.bus; driver = type_name t; id = x.id; props = x.props; slot = unwrap_or o 0 }))
      (joined.at ∙ ap Some slot)
      ∙ ap (λ (name : List ℕ). Some (record x { driver = name })) (sym driver)
    where
      bus : target_text c (bus_of c (b.born + 1)) ≡ x.bus
      bus = ap (target_text c) joined.on ∙ texts-kept b c w.order device-whole.order device-grown.grows says k.bus bus-live ∙ k.told

  pub device-describable : is_describable b ≡ true → is_describable c ≡ true
  device-describable says =
      let leaves_rest = devices_stay_lem.added b t (wanted_by x) (resources_of b t k.bus (wanted_by x).props) in
      let anonymous : child_entries c ANONYMOUS_BIRTH ≡ child_entries b ANONYMOUS_BIRTH =
      joined.fourth ∙ append-nil (child_entries b ANONYMOUS_BIRTH) in
      describable-grown b c w device-whole device-grown says device-placed leaves_rest.pending anonymous

  pub device-tells : (d : Description) → described b ≡ Some d → props_under c is_unset device_given (b.born + 1) ≡ x.props
      → (resources_of b t k.bus (wanted_by x).props).slot ≡ x.slot → Tells c (record d { devices = d.devices ++ x ∷ [] })
  device-tells d says props slot =
      let h : Has b d = has b d says in
      let third : child_entries c PERIPHERAL_BIRTH ≡ child_entries b PERIPHERAL_BIRTH ++ (x.id, b.born + 1) ∷ [] = joined.third in
      let users : child_entries c OBJECTS_BIRTH ≡ child_entries b OBJECTS_BIRTH ++ [] =
      joined.children OBJECTS_BIRTH (kind-live b OBJECTS_BIRTH Container (objects-kind b w.order)) refl ∙ sym (append-nil (child_entries b OBJECTS_BIRTH)) in
      let leaves_rest = devices_stay_lem.added b t (wanted_by x) (resources_of b t k.bus (wanted_by x).props) in
      let describable : is_describable c ≡ true = device-describable h.says in
      let links : flat_map (link_items c) ((x.id, b.born + 1) ∷ []) ≡ [] = ap (λ (xs : List LinkItem). xs ++ []) linkless in
      let all = description-grown b c w device-whole device-grown h.says [] ((x.id, b.born + 1) ∷ []) users third refl links leaves_rest.rings in
      let item : filter_map (device_item c) ((x.id, b.born + 1) ∷ []) ≡ x ∷ [] = rw (device-told props slot h.says) refl in
      let clock : filter_map (clock_item_of c) ((x.id, b.born + 1) ∷ []) ≡ [] = rw clockless refl in
      let is : description c ≡ record (description b) { devices = (description b).devices ++ x ∷ [] } =
      all
      ∙ ap (λ (xs : List DeviceItem). record (description b) {
        clocks = (description b).clocks ++ filter_map (clock_item_of c) ((x.id, b.born + 1) ∷ []);
        devices = (description b).devices ++ xs;
        objects = (description b).objects ++ [];
      }) item
      ∙ ap (λ (xs : List ClockItem). record (description b) {
        clocks = (description b).clocks ++ xs;
        devices = (description b).devices ++ x ∷ [];
        objects = (description b).objects ++ [];
      }) clock
      ∙ ap (λ (xs : List ClockItem). record (description b) {
        clocks = xs;
        devices = (description b).devices ++ x ∷ [];
        objects = (description b).objects ++ [];
      }) (append-nil (description b).clocks)
      ∙ ap (λ (xs : List ObjectItem). record (description b) { devices = (description b).devices ++ x ∷ []; objects = xs })
      (append-nil (description b).objects) in
      record {
        whole = device-whole;
        says =
            says-so c (record d { devices = d.devices ++ x ∷ [] }) describable (is ∙ ap (λ (y : Description). record y { devices = y.devices ++ x ∷ [] }) h.is);
        quiet = refl;
      }
