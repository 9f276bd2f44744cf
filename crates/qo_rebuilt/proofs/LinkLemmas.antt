-- The law: the links of a good description are written in the order of its rows, without refusal, and the board tells each after those before.
use Rattle.std.proofs.Common.{◌≡◌, ◌⊎◌, inl, inr, refl, ap, ap₂, sym, subst, ◌∙◌, rules, ℕ, ◌<◌, ◌==◌, ◌&&◌, Bool, true, false, not, List, [], ◌∷◌, ◌++◌, filter_map, map, Option, Some, None, option_map, option_and_then, unwrap_or, codes, Ok, append_assoc, append-nil, decimal, arith}
use Rattle.std.specs.List.{flat_map}
use Rattle.std.proofs.lemmas.List.Elements.{filter_map-append}
use Rattle.std.proofs.lemmas.Option.{same_Some}
use Rattle.std.proofs.lemmas.Slice.Eq.{bytes_eq-Decides}
use Rattle.qo_model.proofs.Common.{AllByRecursion, IsDistinct, option_map_or, if◌then◌else◌, bytes_eq, type_name, ANONYMOUS_BIRTH, MACHINE_BIRTH, MEMORY_BUS_BIRTH, OBJECTS_BIRTH, PERIPHERAL_BIRTH, ROOT_BIRTH, ROOT_BUS_BIRTH, SYSTEM_CLOCK_BIRTH, TypeId, Clock, Object, SlotBridge, SlotBus, Board, Record, Slot, plain, child, strong, weak, alias, kind_of, slots_at, target_of, pointed, canonical, is_of, may_set, property_name, property_named, is_a, slots_of, types, TypeInfo, type_named, write_at}
use Rattle.qo_values.specs.declared.properties.Val.TheVariants as val
use Rattle.qo_values.proofs.EachLemmas.{each}
use Rattle.qo_values.proofs.ListLemmas.{all-imply}
use Rattle.qo_model.proofs.FirstSlotLemmas.{named_in}
use Rattle.qo_model.specs.Devices.{clock_name}
use Rattle.qo_model.specs.Paths.{path_down_to}
use Rattle.qo_model.specs.Properties.{path_text}
use Rattle.qo_model.specs.declared.properties.Property.{Property}
use Rattle.qo_model.specs.declared.properties.PropertyRole.{PropertyRole}
use Rattle.qo_model.specs.declared.properties.PropertyRole.TheVariants as row
use Rattle.qo_save.specs.Described.{description, is_describable, is_link, is_set, link_item, link_to}
use Rattle.qo_save.specs.Description.{Description, DeviceItem, LinkItem, ObjectItem}
use Rattle.qo_save.specs.Rebuilding.{all_done, set_link}
use Rattle.qo_sound.proofs.TestLemmas.{decide}
use Rattle.qo_sound_devices.specs.SoundPlaces.{child_entries, has_entry}
use Rattle.qo_sound_shapes.specs.SoundShape.{is_child_role, HasRole, HasSlots, may_miss, missing, next}
use Rattle.qo_sound_shapes.proofs.RowLemmas.{IsRowOf, own-rows}
use Rattle.qo_good.specs.Good.{bus, bus_path, clock, clock_path, device, device_path, first, first_objects, Give, gives, has_clock, IsLinkOf, IsThere, object, object_path, OneOf, passed, rows}
use Rattle.qo_good.specs.GoodBoards.{IsWhole}
use Rattle.qo_good.proofs.BusLemmas.{ClockAt, clock-at, device-no_shelf, own-bus, Stood, stood-all}
use Rattle.qo_good.proofs.ItemLemmas.{all-after, all-append, all-both, all-front, all-map, filter_map-same, one-both, one-of, one-unmap}
use Rattle.qo_good.proofs.LayoutLemmas.{clock-by_type}
use Rattle.qo_good.proofs.PartLemmas.{anonymous-kind, device_as, devices-said, Here, inner, IsInner, machine-kind, memory_bus-kind, object_as, objects-kind, objects-said, peripheral-kind, root-kind, root_bus-kind, system-kind, users}
use Rattle.qo_good.proofs.PlaceLemmas.{all-entry, apart, device-way, inner-way, machine-way, memory_bus-way, object-way, objects-way, older, part-way, root_bus-way}
use Rattle.qo_good.proofs.ValueLemmas.{Its, its-record}
use Rattle.qo_rebuilt.specs.Rebuilt.{LinksMade, LinksMadeLaw}
use Rattle.qo_rebuilt.proofs.FrontLemmas.{none-there}
use Rattle.qo_rebuilt.proofs.GrowthLemmas.{kind-live}
use Rattle.qo_rebuilt.proofs.LinkRowLemmas.{all-owners, AllApart, Apart, at_path, kind_as, link_at, names-distinct, links-by_rows, own_of, Owner, owners_of, Row, rows-apart, rows-told, rows_in}
use Rattle.qo_rebuilt.proofs.LinkTellLemmas.{link-other, link-own, link-unread, Unread, rest-told, rows-same, says-after, texts}
use Rattle.qo_rebuilt.proofs.LinkWriteLemmas.{holding, IsEmpty, link-taken, seeing, Taken}
use Rattle.qo_rebuilt.proofs.RingLemmas.{Has, has, says-so, then_all}

-- ---- types by their names

type-found : (t : TypeId) → option_map (λ (r : TypeInfo). r.id) (type_named (type_name t)) ≡ Some t
unfolding types
type-found = each (λ (t : TypeId). option_map (λ (r : TypeInfo). r.id) (type_named (type_name t)) ≡ Some t) (search rules)

named-same : (t k : TypeId) → type_name t ≡ type_name k → t ≡ k
named-same t k e =
    same_Some t k (sym (type-found t) ∙ ap (λ (name : List ℕ). option_map (λ (r : TypeInfo). r.id) (type_named name)) e ∙ type-found k)

no-clock : (t : TypeId) → (is_a t (codes "device") ≡ true) ⊎ (is_a t (codes "user-creatable") ≡ true) → t ≡ Clock → ⊥
unfolding types
no-clock t (inl is) e = absurd (let no : true ≡ false = sym is ∙ ap (λ (k : TypeId). is_a k (codes "device")) e in cc)
no-clock t (inr is) e = absurd (let no : true ≡ false = sym is ∙ ap (λ (k : TypeId). is_a k (codes "user-creatable")) e in cc)

-- ---- what a description says is there

module _ (b : Board) (h : IsWhole b) (says : is_describable b ≡ true) where
  -- an object at a path, of a type
  record Found (path : List ℕ) (t : TypeId) : Type 0 where
    birth : ℕ
    leads : canonical b birth ≡ Some path
    its : kind_of b birth ≡ Some t

  found-as : (m : ℕ) (own path : List ℕ) (k t : TypeId) → canonical b m ≡ Some own → kind_of b m ≡ Some k → path ≡ own → t ≡ k → Found path t
  found-as m own path k t way kind same type =
      record { birth = m; leads = way ∙ ap Some (sym same); its = kind ∙ ap Some (sym type) }

  below-canonical : (n : ℕ) (path : List ℕ) → (n == ROOT_BIRTH) ≡ false → path_down_to b n ≡ Some path → canonical b n ≡ Some path
  below-canonical n path other way = rw other way

  first-found : (path : List ℕ) (t : TypeId) → OneOf (λ (o : List ℕ × TypeId). (path ≡ o.0) × (t ≡ o.1)) first_objects → Found path t
  first-found path t (inl e) = found-as ROOT_BIRTH (codes "/") path _ t refl (root-kind b h.order) e.0 e.1
  first-found path t (inr (inl e)) = found-as MACHINE_BIRTH (codes "/machine") path _ t (machine-way b h.order) (machine-kind b h.order) e.0 e.1
  first-found path t (inr (inr (inl e))) =
      found-as PERIPHERAL_BIRTH (codes "/machine/peripheral") path _ t (part-way b h.order PERIPHERAL_BIRTH (codes "peripheral") refl refl)
      (peripheral-kind b h.order) e.0 e.1
  first-found path t (inr (inr (inr (inl e)))) =
      found-as ANONYMOUS_BIRTH (codes "/machine/peripheral-anon") path _ t (part-way b h.order ANONYMOUS_BIRTH (codes "peripheral-anon") refl refl)
      (anonymous-kind b h.order) e.0 e.1
  first-found path t (inr (inr (inr (inr (inl e))))) =
      found-as SYSTEM_CLOCK_BIRTH (codes "/machine/sysclk") path _ t (part-way b h.order SYSTEM_CLOCK_BIRTH (codes "sysclk") refl refl)
      (system-kind b h.order) e.0 e.1
  first-found path t (inr (inr (inr (inr (inr (inl e)))))) =
      found-as ROOT_BUS_BIRTH (codes "/machine/root.0") path _ t (root_bus-way b h.order) (root_bus-kind b h.order) e.0 e.1
  first-found path t (inr (inr (inr (inr (inr (inr (inl e))))))) =
      found-as MEMORY_BUS_BIRTH (codes "/machine/mem.0") path _ t (memory_bus-way b h.order) (memory_bus-kind b h.order) e.0 e.1
  first-found path t (inr (inr (inr (inr (inr (inr (inr (inl e)))))))) =
      found-as OBJECTS_BIRTH (codes "/objects") path _ t (objects-way b h.order) (objects-kind b h.order) e.0 e.1
  first-found path t (inr (inr (inr (inr (inr (inr (inr (inr e)))))))) = absurd e

  object-canonical : (e : List ℕ × ℕ) → has_entry e (child_entries b OBJECTS_BIRTH) ≡ true → canonical b e.1 ≡ Some (object_path e.0)
  object-canonical e there =
      below-canonical e.1 (object_path e.0) (apart b h.order OBJECTS_BIRTH e (omega arith) there) (object-way b h.order e.1 e.0 there)

  device-canonical : (e : List ℕ × ℕ) → has_entry e (child_entries b PERIPHERAL_BIRTH) ≡ true → canonical b e.1 ≡ Some (device_path e.0)
  device-canonical e there =
      below-canonical e.1 (device_path e.0) (apart b h.order PERIPHERAL_BIRTH e (omega arith) there) (device-way b h.order e.1 e.0 there)

  part-canonical : (e : List ℕ × ℕ) (k : Stood b e) (name : List ℕ) (m : ℕ) → has_entry (name, m) (child_entries b e.1) ≡ true
      → canonical b m ≡ Some (device_path e.0 ++ 47 ∷ name)
  part-canonical e k name m there =
      let old : PERIPHERAL_BIRTH < e.1 = older b h.order PERIPHERAL_BIRTH e k.here.there in
      below-canonical m (device_path e.0 ++ 47 ∷ name) (apart b h.order e.1 (name, m) (omega (arith, old)) there)
      (inner-way b h.order e.1 m e.0 name k.here.there there)

  kind-named : (n : ℕ) (k t : TypeId) → kind_of b n ≡ Some k → type_name (kind_as b n) ≡ type_name t → k ≡ t
  kind-named n k t its named =
      named-same k t (ap (λ (o : Option TypeId). type_name (unwrap_or o Object)) (sym its) ∙ named)

  device-one : (Q : DeviceItem → Type 0) → OneOf Q (description b).devices → (e : List ℕ × ℕ) × (Stood b e × Q (device_as b e))
  device-one Q one =
      one-of (λ (e : List ℕ × ℕ). Stood b e × Q (device_as b e)) (child_entries b PERIPHERAL_BIRTH)
      (one-both (Stood b) (λ (e : List ℕ × ℕ). Q (device_as b e)) (child_entries b PERIPHERAL_BIRTH) (stood-all b h.order says)
      (one-unmap Q (device_as b) (child_entries b PERIPHERAL_BIRTH) (subst (OneOf Q) (devices-said b h.order) one)))

  bus-kind : (m : ℕ) → OneOf (λ (f : List ℕ × TypeId). (f.0 ≡ codes "bus.0") × (kind_of b m ≡ Some f.1)) ((codes "clk", Clock) ∷ (codes "bus.0", SlotBus) ∷ [])
      → kind_of b m ≡ Some SlotBus
  bus-kind m (inl f) = absurd (let no : codes "clk" ≡ codes "bus.0" = f.0 in cc)
  bus-kind m (inr (inl f)) = f.1
  bus-kind m (inr (inr f)) = absurd f

  there-found : (d : Description) → d.objects ≡ (description b).objects → d.devices ≡ (description b).devices → (path : List ℕ) (t : TypeId)
      → IsThere d path t → Found path t
  there-found d os ds path t (first one) = first-found path t one
  there-found d os ds path t (object one) =
      let Q : ObjectItem → Type 0 = λ (o : ObjectItem). (path ≡ object_path o.id) × (o.kind ≡ type_name t) in
      let (e, (k, (same, named))) =
      one-of (λ (e : List ℕ × ℕ). Here b OBJECTS_BIRTH (codes "user-creatable") e × Q (object_as b e)) (child_entries b OBJECTS_BIRTH)
      (one-both (Here b OBJECTS_BIRTH (codes "user-creatable")) (λ (e : List ℕ × ℕ). Q (object_as b e)) (child_entries b OBJECTS_BIRTH) (users b h.order)
      (one-unmap Q (object_as b) (child_entries b OBJECTS_BIRTH) (subst (OneOf Q) (os ∙ objects-said b h.order) one))) in
      found-as e.1 (object_path e.0) path k.kind t (object-canonical e k.there) k.its same (sym (kind-named e.1 k.kind t k.its named))
  there-found d os ds path t (device one) =
      let Q : DeviceItem → Type 0 = λ (x : DeviceItem). (path ≡ device_path x.id) × (x.driver ≡ type_name t) in
      let (e, (k, (same, named))) = device-one Q (subst (OneOf Q) ds one) in
      found-as e.1 (device_path e.0) path k.here.kind t (device-canonical e k.here.there) k.here.its same
      (sym (kind-named e.1 k.here.kind t k.here.its named))
  there-found d os ds path t (clock one type) =
      let Q : DeviceItem → Type 0 = λ (x : DeviceItem). (path ≡ clock_path x.id) × (has_clock x.driver ≡ true) in
      let (e, (k, (same, has_one))) = device-one Q (subst (OneOf Q) ds one) in
      let slot : is_a k.here.kind (codes "slot-device") ≡ true =
      sym (clock-by_type k.here.kind) ∙ ap (λ (o : Option TypeId). has_clock (type_name (unwrap_or o Object))) (sym k.here.its) ∙ has_one in
      let c : ClockAt b e = clock-at b h.order says e k slot in
      found-as c.clock (clock_path e.0) path Clock t (part-canonical e k (codes "clk") c.clock c.there) (h.sources.clocks e.1 c.clock k.realized c.its) same
      type
  there-found d os ds path t (bus one type) =
      let Q : DeviceItem → Type 0 = λ (x : DeviceItem). (path ≡ bus_path x.id) × (x.driver ≡ type_name SlotBridge) in
      let (e, (k, (same, named))) = device-one Q (subst (OneOf Q) ds one) in
      let bridge : k.here.kind ≡ SlotBridge = kind-named e.1 k.here.kind SlotBridge k.here.its named in
      let (m, on) = own-bus b h.order says e k bridge in
      let part : IsInner b k.here.kind (codes "bus.0", m) =
      all-entry (IsInner b k.here.kind) (codes "bus.0", m) (child_entries b e.1)
      (inner b h.order e.1 k.here.kind k.here.its (device-no_shelf k.here.kind k.here.wants)) on in
      found-as m (bus_path e.0) path SlotBus t (part-canonical e k (codes "bus.0") m on)
      (bus-kind m (subst (λ (x : TypeId). IsInner b x (codes "bus.0", m)) bridge part)) same type

-- ---- rows

-- each row that may not be missing has its slot
record RowThere (slots : List (List ℕ × Slot)) (p : Property) : Type 0 where
  slot : Slot
  named : named_in (property_name p.name) slots ≡ Some slot
  fits : HasRole p.role slot

rows-there : (t : TypeId) (ps : List Property) → IsDistinct bytes_eq (map (λ (p : Property). property_name p.name) ps) → {slots : List (List ℕ × Slot)}
    → HasSlots t ps slots → AllByRecursion (λ (p : Property). may_miss p ≡ false → RowThere slots p) ps
unfolding IsDistinct
rows-there t [] once h = tt
rows-there t (p ∷ ps) once (missing may rest) = ((λ stays. absurd (let no : true ≡ false = sym may ∙ stays in cc)), rows-there t ps once.1 rest)
rows-there t (p ∷ ps) once (next {s = s} {slots = slots} is rest) = ((λ stays. head), tail ps once.0 (rows-there t ps once.1 rest))
  where
    head : RowThere (s ∷ slots) p
    head =
        let same : bytes_eq s.0 (property_name p.name) ≡ true = (bytes_eq-Decides s.0 (property_name p.name)).1 is.name in
        record { slot = s.1; named = rw same refl; fits = is.fits }

    tail : (qs : List Property) → AllByRecursion (λ (y : List ℕ). bytes_eq (property_name p.name) y ≡ false) (map (λ (q : Property). property_name q.name) qs)
        → AllByRecursion (λ (q : Property). may_miss q ≡ false → RowThere slots q) qs
        → AllByRecursion (λ (q : Property). may_miss q ≡ false → RowThere (s ∷ slots) q) qs
    tail [] differ all = tt
    tail (q ∷ qs) differ all = (
      (λ stays.
          let k : RowThere slots q = all.0 stays in
          let other : bytes_eq s.0 (property_name q.name) ≡ false = ap (λ (y : List ℕ). bytes_eq y (property_name q.name)) is.name ∙ differ.0 in
          record { slot = k.slot; named = rw other k.named; fits = k.fits }),
      tail qs differ.1 all.1,
    )

all-flat : {X Y : Type 0} (Q : Y → Type 0) (f : X → List Y) (xs : List X) → AllByRecursion (λ (x : X). AllByRecursion Q (f x)) xs
    → AllByRecursion Q (flat_map f xs)
all-flat Q f [] h = tt
all-flat Q f (x ∷ xs) h = all-append Q (f x) (flat_map f xs) h.0 (all-flat Q f xs h.1)

module _ (b : Board) (h : IsWhole b) (says : is_describable b ≡ true) where
  -- a row of an object that is there
  record Owned (r : Row) : Type 0 where
    kind : TypeId
    its : kind_of b r.0.1 ≡ Some kind
    own : IsRowOf kind r.1
    slotted : may_miss r.1 ≡ false → RowThere (slots_at b r.0.1) r.1
    no_clock : kind ≡ Clock → ⊥
    way : canonical b r.0.1 ≡ Some (path_text b r.0.1)

  text-canonical : (n : ℕ) (q : List ℕ) → canonical b n ≡ Some q → path_text b n ≡ q
  text-canonical n q e = ap (λ (o : Option (List ℕ)). unwrap_or o (codes "detached:" ++ decimal n)) e

  told-canonical : (n : ℕ) (q : List ℕ) → canonical b n ≡ Some q → canonical b n ≡ Some (path_text b n)
  told-canonical n q e = e ∙ ap Some (sym (text-canonical n q e))

  ways-all : AllByRecursion (λ (e : List ℕ × ℕ). canonical b e.1 ≡ Some (path_text b e.1)) (owners_of b)
  ways-all =
      all-append (λ (e : List ℕ × ℕ). canonical b e.1 ≡ Some (path_text b e.1)) (child_entries b OBJECTS_BIRTH) (child_entries b PERIPHERAL_BIRTH)
      (all-imply (Here b OBJECTS_BIRTH (codes "user-creatable")) (λ (e : List ℕ × ℕ). canonical b e.1 ≡ Some (path_text b e.1))
      (λ e k. told-canonical e.1 (object_path e.0) (object-canonical b h says e k.there)) (child_entries b OBJECTS_BIRTH) (users b h.order))
      (all-imply (Stood b) (λ (e : List ℕ × ℕ). canonical b e.1 ≡ Some (path_text b e.1))
      (λ e k. told-canonical e.1 (device_path e.0) (device-canonical b h says e k.here.there)) (child_entries b PERIPHERAL_BIRTH) (stood-all b h.order says))

  owned-each : (e : List ℕ × ℕ) → Owner b h.order e × (canonical b e.1 ≡ Some (path_text b e.1)) → AllByRecursion Owned (own_of b e)
  owned-each e (o, way) =
      subst (λ (k : TypeId). AllByRecursion Owned (map (λ (p : Property). (e, p)) (slots_of k)))
      (sym (ap (λ (x : Option TypeId). unwrap_or x Object) o.its))
      (all-map (λ (p : Property). IsRowOf o.kind p × (may_miss p ≡ false → RowThere (slots_at b e.1) p)) Owned (λ (p : Property). (e, p))
      (λ p k. record { kind = o.kind; its = o.its; own = k.0; slotted = k.1; no_clock = no-clock o.kind o.no_clock; way = way })
      (slots_of o.kind)
      (all-both (IsRowOf o.kind) (λ (p : Property). may_miss p ≡ false → RowThere (slots_at b e.1) p) (slots_of o.kind) (own-rows o.kind) there))
    where
      its : Its b e.1 o.kind
      its = its-record b h.order.shape e.1 o.kind o.its

      there : AllByRecursion (λ (p : Property). may_miss p ≡ false → RowThere (slots_at b e.1) p) (slots_of o.kind)
      there =
          subst (λ (xs : List (List ℕ × Slot)). AllByRecursion (λ (p : Property). may_miss p ≡ false → RowThere xs p) (slots_of o.kind))
          (sym (ap (λ (x : Option Record). option_map_or (λ (r : Record). r.slots) x []) its.there))
          (rows-there o.kind (slots_of o.kind) (names-distinct o.kind) its.slots)

  owned-all : AllByRecursion Owned (rows_in b)
  owned-all =
      all-flat Owned (own_of b) (owners_of b)
      (all-imply (λ (e : List ℕ × ℕ). Owner b h.order e × (canonical b e.1 ≡ Some (path_text b e.1))) (λ (e : List ℕ × ℕ). AllByRecursion Owned (own_of b e))
      owned-each (owners_of b)
      (all-both (Owner b h.order) (λ (e : List ℕ × ℕ). canonical b e.1 ≡ Some (path_text b e.1)) (owners_of b) (all-owners b h.order) ways-all))

-- ---- an empty link

empty-link : (b : Board) (n : ℕ) (name : List ℕ) (target : TypeId) (holds : Bool) (s : Slot) → HasRole (row.Link target holds) s
    → link_item b n (name, s) ≡ None
    → is_set b n name ≡ true → IsEmpty target s
empty-link b n name target true (strong to None) fits e set = subst (λ (x : TypeId). IsEmpty target (strong x None)) (sym fits) holding
empty-link b n name target true (strong to (Some m)) fits e set =
    absurd (let no : Some (link_to b n name m) ≡ None = sym (ap (λ (u : Bool). if u then Some (link_to b n name m) else None) set) ∙ e in cc)
empty-link b n name target true (plain v) fits e set = absurd fits
empty-link b n name target true (child m) fits e set = absurd fits
empty-link b n name target true (weak to x) fits e set = absurd fits
empty-link b n name target true (alias m of) fits e set = absurd fits
empty-link b n name target false (weak to None) fits e set = subst (λ (x : TypeId). IsEmpty target (weak x None)) (sym fits) seeing
empty-link b n name target false (weak to (Some m)) fits e set =
    absurd (let no : Some (link_to b n name m) ≡ None = sym (ap (λ (u : Bool). if u then Some (link_to b n name m) else None) set) ∙ e in cc)
empty-link b n name target false (plain v) fits e set = absurd fits
empty-link b n name target false (child m) fits e set = absurd fits
empty-link b n name target false (strong to x) fits e set = absurd fits
empty-link b n name target false (alias m of) fits e set = absurd fits

pointed-link : (t : TypeId) (s : Slot) (m : ℕ) → IsEmpty t s → (is_link (pointed m s) ≡ true) × (target_of (pointed m s) ≡ Some m)
pointed-link t s m holding = (refl, refl)
pointed-link t s m seeing = (refl, refl)

-- rows before and behind one are apart from it
apart-before : (r : Row) (more done : List Row) → AllApart (done ++ r ∷ more) → AllByRecursion (λ (x : Row). Apart x r) done
apart-before r more [] h = tt
apart-before r more (x ∷ done) h = ((all-after (Apart x) done (r ∷ more) h.0).0, apart-before r more done h.1)

apart-after : (r : Row) (more done : List Row) → AllApart (done ++ r ∷ more) → AllByRecursion (Apart r) more
apart-after r more [] h = h.0
apart-after r more (x ∷ done) h = apart-after r more done h.1

differ-names : (x y : List ℕ) → (x ≡ y → ⊥) → bytes_eq x y ≡ false
differ-names x y other = decide (bytes_eq x y) (λ q. absurd (other ((bytes_eq-Decides x y).0 q))) (λ q. q)

one-mapped : {X Y : Type 0} (f : X → Option Y) (x : X) (y : Y) → f x ≡ Some y → filter_map f (x ∷ []) ≡ y ∷ []
one-mapped f x y e = rw e refl

one-left : {X Y : Type 0} (f : X → Option Y) (x : X) → f x ≡ None → filter_map f (x ∷ []) ≡ []
one-left f x e = rw e refl

module _ (d : Description) where
  record LFront (b : Board) (done more : List Row) (told_so : List LinkItem) : Type 0 where
    whole : IsWhole b
    says : is_describable b ≡ true
    quiet : b.notices ≡ []
    rest : record (description b) { links = [] } ≡ record d { links = [] }
    split : rows_in b ≡ done ++ more
    said : filter_map (link_at b) done ≡ told_so
    unsaid : AllByRecursion (λ (r : Row). link_at b r ≡ None) more

  module _ (b : Board) (done : List Row) (r : Row) (more : List Row) (told_so : List LinkItem) (f : LFront b done (r ∷ more) told_so) (l : LinkItem)
      (good : IsLinkOf d (at_path b r) l) where
    all-owned : AllByRecursion (Owned b f.whole f.says) (done ++ r ∷ more)
    all-owned = subst (AllByRecursion (Owned b f.whole f.says)) f.split (owned-all b f.whole f.says)

    o : Owned b f.whole f.says r
    o = (all-after (Owned b f.whole f.says) done (r ∷ more) all-owned).0

    abbrev n : ℕ
    n = r.0.1

    abbrev name : List ℕ
    name = property_name r.1.name

    found : Found b f.whole f.says l.value good.kind
    found =
        there-found b f.whole f.says d (ap (λ (x : Description). x.objects) (sym f.rest)) (ap (λ (x : Description). x.devices) (sym f.rest)) l.value good.kind
        good.there

    stays : may_miss r.1 ≡ false
    stays = ap (λ (u : Bool). u && not (bytes_eq (property_name r.1.name) clock_name)) (ap is_child_role good.role)

    slot : RowThere (slots_at b r.0.1) r.1
    slot = o.slotted stays

    set-so : is_set b r.0.1 (property_name r.1.name) ≡ true
    set-so =
        ap
        (λ (x : Option TypeId).
        option_map_or (λ (p : Property). may_set p.access) (option_and_then (λ (k : TypeId). property_named k (property_name r.1.name)) x) false)
        o.its
        ∙ ap (λ (x : Option Property). option_map_or (λ (p : Property). may_set p.access) x false) o.own
        ∙ good.set

    empty : IsEmpty good.target slot.slot
    empty =
        empty-link b r.0.1 (property_name r.1.name) good.target good.holds slot.slot (subst (λ (q : PropertyRole). HasRole q slot.slot) good.role slot.fits)
        (sym (ap (option_and_then (λ (s : Slot). link_item b r.0.1 (property_name r.1.name, s))) slot.named) ∙ f.unsaid.0) set-so

    fits : is_of b (type_name good.target) found.birth ≡ true
    fits = ap (λ (x : Option TypeId). option_map_or (λ (k : TypeId). is_a k (type_name good.target)) x false) found.its ∙ good.fits

    w : Taken b r.0.1 (path_text b r.0.1) (property_name r.1.name) l.value slot.slot found.birth
    w =
        link-taken b f.whole r.0.1 o.kind o.its r.1 o.own good.set good.target good.holds good.role slot.slot empty slot.named found.birth l.value found.leads
        fits (path_text b r.0.1) o.way

    c : Board
    c = w.board

    other : kind_of b r.0.1 ≡ Some Clock → ⊥
    other q = o.no_clock (same_Some o.kind Clock (sym o.its ∙ q))

    unread : Unread (property_name r.1.name)
    unread = link-unread o.kind r.1 o.own good.set good.target good.holds good.role

    done-so : set_link l b ≡ Ok w.board
    done-so =
        ap (λ (path : List ℕ). write_at b path l.property (val.Text l.value)) good.path
        ∙ ap (λ (x : List ℕ). write_at b (path_text b r.0.1) x (val.Text l.value)) good.property ∙ w.done

    apart-all : AllApart (done ++ r ∷ more)
    apart-all = subst AllApart f.split (rows-apart b f.whole.order)

    same-before : AllByRecursion (λ (x : Row). link_at w.board x ≡ link_at b x) done
    same-before =
        all-imply (λ (x : Row). Owned b f.whole f.says x × Apart x r) (λ (x : Row). link_at w.board x ≡ link_at b x)
        (λ x k.
        link-other b w.board f.whole f.says r.0.1 (property_name r.1.name) slot.slot found.birth other w.is unread x (kind-live b x.0.1 k.0.kind k.0.its)
        (λ births. differ-names (property_name r.1.name) (property_name x.1.name) (k.1 (sym births)))) done
        (all-both (Owned b f.whole f.says) (λ (x : Row). Apart x r) done (all-front (Owned b f.whole f.says) done (r ∷ more) all-owned)
        (apart-before r more done apart-all))

    same-behind : AllByRecursion (λ (x : Row). link_at w.board x ≡ link_at b x) more
    same-behind =
        all-imply (λ (x : Row). Owned b f.whole f.says x × Apart r x) (λ (x : Row). link_at w.board x ≡ link_at b x)
        (λ x k.
        link-other b w.board f.whole f.says r.0.1 (property_name r.1.name) slot.slot found.birth other w.is unread x (kind-live b x.0.1 k.0.kind k.0.its)
        (λ births. differ-names (property_name r.1.name) (property_name x.1.name) (λ names. k.1 births (sym names)))) more
        (all-both (Owned b f.whole f.says) (Apart r) more (all-after (Owned b f.whole f.says) done (r ∷ more) all-owned).1
        (apart-after r more done apart-all))

    link-same : link_to b r.0.1 (property_name r.1.name) found.birth ≡ l
    link-same =
        ap (λ (path : List ℕ). link_of path (property_name r.1.name) (path_text b found.birth)) (sym good.path)
        ∙ ap (λ (x : List ℕ). link_of l.path x (path_text b found.birth)) (sym good.property)
        ∙ ap (link_of l.path l.property) (text-canonical b f.whole f.says found.birth l.value found.leads)
      where
        link_of : List ℕ → List ℕ → List ℕ → LinkItem
        link_of path property value = record { path = path; property = property; value = value }

    link-here : link_at w.board r ≡ Some l
    link-here =
        let two = pointed-link good.target slot.slot found.birth empty in
        link-own b w.board f.whole f.says r.0.1 (property_name r.1.name) slot.slot found.birth other w.is unread (pointed found.birth slot.slot) refl two.0
        two.1
        set-so (kind-live b r.0.1 o.kind o.its) (kind-live b found.birth good.kind found.its)
        ∙ ap Some link-same

    front-after : LFront w.board (done ++ r ∷ []) more (told_so ++ l ∷ [])
    front-after =
        record {
          whole = w.is.whole;
          says = says-after b w.board f.whole f.says r.0.1 (property_name r.1.name) slot.slot found.birth other w.is unread;
          quiet = w.is.notices ∙ f.quiet;
          rest = rest-told b w.board f.whole f.says r.0.1 (property_name r.1.name) slot.slot found.birth other w.is unread ∙ f.rest;
          split = rows-same b w.board f.whole f.says r.0.1 (property_name r.1.name) slot.slot found.birth other w.is unread ∙ f.split
              ∙ sym (append_assoc done (r ∷ []) more);
          said = filter_map-append (link_at w.board) done (r ∷ [])
              ∙ ap₂ (λ (xs ys : List LinkItem). xs ++ ys) (filter_map-same (link_at w.board) (link_at b) done same-before ∙ f.said)
              (one-mapped (link_at w.board) r l link-here);
          unsaid = all-imply (λ (x : Row). (link_at w.board x ≡ link_at b x) × (link_at b x ≡ None)) (λ (x : Row). link_at w.board x ≡ None)
              (λ x k. k.0 ∙ k.1) more
              (all-both (λ (x : Row). link_at w.board x ≡ link_at b x) (λ (x : Row). link_at b x ≡ None) more same-behind f.unsaid.1);
        }

    paths-after : map (at_path w.board) more ≡ map (at_path b) more
    paths-after = go more (all-after (Owned b f.whole f.says) done (r ∷ more) all-owned).1
      where
        go : (xs : List Row) → AllByRecursion (Owned b f.whole f.says) xs → map (at_path w.board) xs ≡ map (at_path b) xs
        go [] all = refl
        go (x ∷ xs) all =
            ap₂ (λ (path : List ℕ) (ys : List (List ℕ × Property)). (path, x.1) ∷ ys)
            (texts b w.board f.whole f.says r.0.1 (property_name r.1.name) slot.slot found.birth other w.is unread x.0.1
            (kind-live b x.0.1 all.0.kind all.0.its))
            (go xs all.1)

  -- ---- one after another

  record LReached (b : Board) (ls told_so : List LinkItem) : Type 0 where
    board : Board
    taken : all_done (map set_link ls) b ≡ Ok board
    whole : IsWhole board
    says : is_describable board ≡ true
    quiet : board.notices ≡ []
    rest : record (description board) { links = [] } ≡ record d { links = [] }
    links : (description board).links ≡ told_so ++ ls

  links-from : (more done : List Row) (told_so ls : List LinkItem) (b : Board) → LFront b done more told_so
      → Give (IsLinkOf d) (map (at_path b) more) ls → LReached b ls told_so
  links-from [] done told_so [] b f g =
      record {
        board = b;
        taken = refl;
        whole = f.whole;
        says = f.says;
        quiet = f.quiet;
        rest = f.rest;
        links = links-by_rows b f.whole.order ∙ ap (filter_map (link_at b)) (f.split ∙ append-nil done) ∙ f.said ∙ sym (append-nil told_so);
      }
  links-from [] done told_so (l ∷ ls) b f g = elim g [ ]
  links-from (r ∷ more) done told_so (l ∷ ls) b f (gives good g) =
      let c : Board = (w b done r more told_so f l good).board in
      let k : LReached c ls (told_so ++ l ∷ []) =
      links-from more (done ++ r ∷ []) (told_so ++ l ∷ []) ls c (front-after b done r more told_so f l good)
      (subst (λ (xs : List (List ℕ × Property)). Give (IsLinkOf d) xs ls) (sym (paths-after b done r more told_so f l good)) g) in
      record {
        board = k.board;
        taken = ap (then_all (map set_link ls)) (done-so b done r more told_so f l good) ∙ k.taken;
        whole = k.whole;
        says = k.says;
        quiet = k.quiet;
        rest = k.rest;
        links = k.links ∙ append_assoc told_so (l ∷ []) ls;
      }
  links-from (r ∷ more) done told_so ls b f (passed g) =
      links-from more (done ++ r ∷ []) told_so ls b
      (record {
        whole = f.whole;
        says = f.says;
        quiet = f.quiet;
        rest = f.rest;
        split = f.split ∙ sym (append_assoc done (r ∷ []) more);
        said = filter_map-append (link_at b) done (r ∷ [])
            ∙ ap₂ (λ (xs ys : List LinkItem). xs ++ ys) f.said (one-left (link_at b) r f.unsaid.0) ∙ append-nil told_so;
        unsaid = f.unsaid.1;
      }) g

links_made : LinksMade
links_made d good b h =
    record {
      board = k.board;
      taken = k.taken;
      tells = record {
        whole = k.whole;
        says = says-so k.board d k.says
            (ap (λ (x : Description). record x { links = (description k.board).links }) k.rest ∙ ap (λ (ls : List LinkItem). record d { links = ls }) k.links);
        quiet = k.quiet;
      };
    }
  where
    own : Has b (record d { links = [] })
    own = has b (record d { links = [] }) h.says

    begin : LFront d b [] (rows_in b) []
    begin =
        record {
          whole = h.whole;
          says = own.says;
          quiet = h.quiet;
          rest = ap (λ (x : Description). record x { links = [] }) own.is;
          split = refl;
          said = refl;
          unsaid = none-there (link_at b) (rows_in b) (sym (links-by_rows b h.whole.order) ∙ ap (λ (x : Description). x.links) own.is);
        }

    give : Give (IsLinkOf d) (map (at_path b) (rows_in b)) d.links
    give =
        subst (λ (xs : List (List ℕ × Property)). Give (IsLinkOf d) xs d.links)
        (sym (ap (λ (x : Description). rows x) own.is) ∙ rows-told b h.whole.order) good.links

    k : LReached d b d.links []
    k = links-from d (rows_in b) [] [] d.links b begin give

pub links_made_lem : LinksMadeLaw
links_made_lem = record { links = links_made }
