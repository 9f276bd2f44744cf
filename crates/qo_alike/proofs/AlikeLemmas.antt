-- The law: what shows of a board is what its description says.
use Rattle.std.proofs.Common.{◌≡◌, refl, ap, ap₂, sym, ◌∙◌, ℕ, Bool, true, false, ◌==◌, List, [], ◌∷◌, ◌++◌, map, Option, Some, None, append_assoc, append-nil, codes, arith}
use Rattle.std.proofs.lemmas.Option.{same_Some}
use Rattle.std.specs.List.{flat_map}
use Rattle.qo_values.proofs.ListLemmas.{all-imply}
use Rattle.qo_model.proofs.Common.{AllByRecursion, option_map_or, ANONYMOUS_BIRTH, MACHINE_BIRTH, MEMORY_BUS_BIRTH, OBJECTS_BIRTH, PERIPHERAL_BIRTH, ROOT_BIRTH, ROOT_BUS_BIRTH, SYSTEM_CLOCK_BIRTH, TypeId, Clock, Container, Machine, MemBus, SlotBus, Board, kind_of, is_of, is_a, types}
use Rattle.qo_model.specs.Properties.{path_text}
use Rattle.qo_save.specs.Described.{described, description, is_describable}
use Rattle.qo_save.specs.Description.{Description, DeviceItem, ObjectItem}
use Rattle.qo_save.specs.Like.{preorder, Sight, sight}
use Rattle.qo_sound_devices.specs.SoundPlaces.{child_entries, has_entry}
use Rattle.qo_good.specs.Good.{device_path, object_path}
use Rattle.qo_good.specs.GoodBoards.{IsWhole}
use Rattle.qo_good.proofs.BusLemmas.{Stood, stood-all}
use Rattle.qo_good.proofs.ItemLemmas.{all-here, births_in}
use Rattle.qo_good.proofs.PartLemmas.{anonymous-kind, device_as, devices-said, Here, machine-kind, memory_bus-kind, object_as, objects-kind, objects-said, peripheral-kind, root_bus-kind, root-kind, is_shelf, parts_of, system-kind, users}
use Rattle.qo_good.proofs.PlaceLemmas.{apart, device-way, leads, machine-entries, machine-way, memory_bus-way, none-anonymous, object-way, objects-way, part-way, root_bus-way, root-entries, told}
use Rattle.qo_alike.specs.AlikeBoards.{AlikeLaw, TellsTypes}
use Rattle.qo_alike.specs.Seen.{clock_shows, device_seen, kids_said, machine_children, object_seen, plain_shows, root_children, seen, seen_as, shelf_seen}
use Rattle.qo_alike.proofs.ClockSightLemmas.{system-sight}
use Rattle.qo_alike.proofs.DeviceSightLemmas.{base, device-look, leaf-types}
use Rattle.qo_alike.proofs.KidsLemmas.{kids-shown}
use Rattle.qo_alike.proofs.ObjectSightLemmas.{object-look}
use Rattle.qo_alike.proofs.PreorderLemmas.{look, look-by, look-leaf}
use Rattle.qo_alike.proofs.SightLemmas.{sight-container, sight-machine, sight-mem_bus, sight-slot_bus}

slot_bus-of : is_a SlotBus (codes "bus") ≡ true
unfolding types
slot_bus-of = refl

mem_bus-of : is_a MemBus (codes "bus") ≡ true
unfolding types
mem_bus-of = refl

module _ (b : Board) (h : IsWhole b) (tells : TellsTypes b) (says : is_describable b ≡ true) where
  abbrev d : Description
  d = description b

  abbrev l : ℕ → List Sight
  l n = look b h.order n

  part-text : (n : ℕ) (name : List ℕ) → (n == ROOT_BIRTH) ≡ false → has_entry (name, n)
      ((codes "peripheral", PERIPHERAL_BIRTH) ∷ (codes "peripheral-anon", ANONYMOUS_BIRTH) ∷ (codes "sysclk", SYSTEM_CLOCK_BIRTH)
      ∷ (codes "root.0", ROOT_BUS_BIRTH)
      ∷ (codes "mem.0", MEMORY_BUS_BIRTH)
      ∷ []) ≡ true → path_text b n ≡ codes "/machine/" ++ name
  part-text n name other on = told b h.order n (codes "/machine/" ++ name) other (part-way b h.order n name other on)

  machine-text : path_text b MACHINE_BIRTH ≡ codes "/machine"
  machine-text = told b h.order MACHINE_BIRTH (codes "/machine") refl (machine-way b h.order)

  objects-text : path_text b OBJECTS_BIRTH ≡ codes "/objects"
  objects-text = told b h.order OBJECTS_BIRTH (codes "/objects") refl (objects-way b h.order)

  -- ---- sights

  abbrev child_path : List ℕ × ℕ → List ℕ × List ℕ
  child_path e = (e.0, path_text b e.1)

  root-sight : sight b ROOT_BIRTH ≡ shelf_seen (codes "/") Container root_children
  root-sight =
      sight-container b h.order tells ROOT_BIRTH (root-kind b h.order) (codes "/") refl root_children
      (ap (map child_path) (root-entries b h.order)
      ∙ ap₂ (λ (x y : List ℕ). (codes "machine", x) ∷ (codes "objects", y) ∷ []) machine-text objects-text)

  machine-sight : sight b MACHINE_BIRTH ≡ shelf_seen (codes "/machine") Machine machine_children
  machine-sight =
      sight-machine b h.order tells MACHINE_BIRTH (machine-kind b h.order) (codes "/machine") machine-text machine_children
      (ap (map child_path) (machine-entries b h.order)
      ∙ five (part-text PERIPHERAL_BIRTH (codes "peripheral") refl refl) (part-text ANONYMOUS_BIRTH (codes "peripheral-anon") refl refl)
      (part-text SYSTEM_CLOCK_BIRTH (codes "sysclk") refl refl) (part-text ROOT_BUS_BIRTH (codes "root.0") refl refl)
      (part-text MEMORY_BUS_BIRTH (codes "mem.0") refl refl))
    where
      five : {p q r s t : List ℕ} → path_text b PERIPHERAL_BIRTH ≡ p → path_text b ANONYMOUS_BIRTH ≡ q → path_text b SYSTEM_CLOCK_BIRTH ≡ r
          → path_text b ROOT_BUS_BIRTH ≡ s
          → path_text b MEMORY_BUS_BIRTH ≡ t
          → map child_path
          ((codes "peripheral", PERIPHERAL_BIRTH) ∷ (codes "peripheral-anon", ANONYMOUS_BIRTH) ∷ (codes "sysclk", SYSTEM_CLOCK_BIRTH)
          ∷ (codes "root.0", ROOT_BUS_BIRTH)
          ∷ (codes "mem.0", MEMORY_BUS_BIRTH)
          ∷ [])
          ≡ (codes "peripheral", p) ∷ (codes "peripheral-anon", q) ∷ (codes "sysclk", r) ∷ (codes "root.0", s) ∷ (codes "mem.0", t) ∷ []
      five e f g k m =
          ap₂ (λ (x : List ℕ) (xs : List (List ℕ × List ℕ)). (codes "peripheral", x) ∷ xs) e
          (ap₂ (λ (x : List ℕ) (xs : List (List ℕ × List ℕ)). (codes "peripheral-anon", x) ∷ xs) f
          (ap₂ (λ (x : List ℕ) (xs : List (List ℕ × List ℕ)). (codes "sysclk", x) ∷ xs) g
          (ap₂ (λ (x y : List ℕ). (codes "root.0", x) ∷ (codes "mem.0", y) ∷ []) k m)))

  -- what stands in a container by ids
  shelf-children : {X : Type 0} (p : ℕ) (make : List ℕ × ℕ → X) (id : X → List ℕ) (way : List ℕ → List ℕ) → ((e : List ℕ × ℕ) → id (make e) ≡ e.0)
      → (es : List (List ℕ × ℕ)) → AllByRecursion (λ (e : List ℕ × ℕ). path_text b e.1 ≡ way e.0) es
      → map child_path es ≡ map (λ (x : X). (id x, way (id x))) (map make es)
  shelf-children p make id way own [] texts = refl
  shelf-children p make id way own (e ∷ es) texts =
      ap₂ (λ (x : List ℕ × List ℕ) (xs : List (List ℕ × List ℕ)). x ∷ xs)
      (ap₂ (λ (x y : List ℕ). (x, y)) (sym (own e)) (texts.0 ∙ ap way (sym (own e)))) (shelf-children p make id way own es texts.1)

  peripheral-sight : sight b PERIPHERAL_BIRTH
      ≡ shelf_seen (codes "/machine/peripheral") Container (map (λ (x : DeviceItem). (x.id, device_path x.id)) d.devices)
  peripheral-sight =
      sight-container b h.order tells PERIPHERAL_BIRTH (peripheral-kind b h.order) (codes "/machine/peripheral")
      (part-text PERIPHERAL_BIRTH (codes "peripheral") refl refl) (map (λ (x : DeviceItem). (x.id, device_path x.id)) d.devices)
      (shelf-children PERIPHERAL_BIRTH (device_as b) (λ (x : DeviceItem). x.id) device_path (λ e. refl) (child_entries b PERIPHERAL_BIRTH)
      (all-imply (λ e. has_entry e (child_entries b PERIPHERAL_BIRTH) ≡ true) (λ (e : List ℕ × ℕ). path_text b e.1 ≡ device_path e.0)
      (λ e on. told b h.order e.1 (device_path e.0) (apart b h.order PERIPHERAL_BIRTH e (omega arith) on) (device-way b h.order e.1 e.0 on))
      (child_entries b PERIPHERAL_BIRTH) (all-here (child_entries b PERIPHERAL_BIRTH)))
      ∙ ap (map (λ (x : DeviceItem). (x.id, device_path x.id))) (sym (devices-said b h.order)))

  objects-sight : sight b OBJECTS_BIRTH ≡ shelf_seen (codes "/objects") Container (map (λ (o : ObjectItem). (o.id, object_path o.id)) d.objects)
  objects-sight =
      sight-container b h.order tells OBJECTS_BIRTH (objects-kind b h.order) (codes "/objects") objects-text
      (map (λ (o : ObjectItem). (o.id, object_path o.id)) d.objects)
      (shelf-children OBJECTS_BIRTH (object_as b) (λ (o : ObjectItem). o.id) object_path (λ e. refl) (child_entries b OBJECTS_BIRTH)
      (all-imply (λ e. has_entry e (child_entries b OBJECTS_BIRTH) ≡ true) (λ (e : List ℕ × ℕ). path_text b e.1 ≡ object_path e.0)
      (λ e on. told b h.order e.1 (object_path e.0) (apart b h.order OBJECTS_BIRTH e (omega arith) on) (object-way b h.order e.1 e.0 on))
      (child_entries b OBJECTS_BIRTH) (all-here (child_entries b OBJECTS_BIRTH)))
      ∙ ap (map (λ (o : ObjectItem). (o.id, object_path o.id))) (sym (objects-said b h.order)))

  anonymous-sight : sight b ANONYMOUS_BIRTH ≡ shelf_seen (codes "/machine/peripheral-anon") Container []
  anonymous-sight =
      sight-container b h.order tells ANONYMOUS_BIRTH (anonymous-kind b h.order) (codes "/machine/peripheral-anon")
      (part-text ANONYMOUS_BIRTH (codes "peripheral-anon") refl refl) [] (ap (map child_path) (none-anonymous b h.order says))

  root_bus-sight : sight b ROOT_BUS_BIRTH ≡ seen_as (codes "/machine/root.0") SlotBus (plain_shows SlotBus) (kids_said d (codes "/machine/root.0"))
  root_bus-sight =
      let text = part-text ROOT_BUS_BIRTH (codes "root.0") refl refl in
      let is_bus : is_of b (codes "bus") ROOT_BUS_BIRTH ≡ true =
      ap (λ (o : Option TypeId). option_map_or (λ (t : TypeId). is_a t (codes "bus")) o false) (root_bus-kind b h.order) ∙ slot_bus-of in
      sight-slot_bus b h.order tells ROOT_BUS_BIRTH (root_bus-kind b h.order) (codes "/machine/root.0") text (kids_said d (codes "/machine/root.0"))
      (kids-shown b h says ROOT_BUS_BIRTH is_bus (codes "/machine/root.0") text
      (leads b h.order ROOT_BUS_BIRTH (codes "/machine/root.0") (root_bus-way b h.order)))

  memory_bus-sight : sight b MEMORY_BUS_BIRTH ≡ seen_as (codes "/machine/mem.0") MemBus (plain_shows MemBus) (kids_said d (codes "/machine/mem.0"))
  memory_bus-sight =
      let text = part-text MEMORY_BUS_BIRTH (codes "mem.0") refl refl in
      let is_bus : is_of b (codes "bus") MEMORY_BUS_BIRTH ≡ true =
      ap (λ (o : Option TypeId). option_map_or (λ (t : TypeId). is_a t (codes "bus")) o false) (memory_bus-kind b h.order) ∙ mem_bus-of in
      sight-mem_bus b h.order tells MEMORY_BUS_BIRTH (memory_bus-kind b h.order) (codes "/machine/mem.0") text (kids_said d (codes "/machine/mem.0"))
      (kids-shown b h says MEMORY_BUS_BIRTH is_bus (codes "/machine/mem.0") text
      (leads b h.order MEMORY_BUS_BIRTH (codes "/machine/mem.0") (memory_bus-way b h.order)))

  -- ---- the objects below

  devices-look : (es : List (List ℕ × ℕ)) → AllByRecursion (Stood b) es → flat_map l (births_in es) ≡ flat_map (device_seen d) (map (device_as b) es)
  devices-look [] k = refl
  devices-look (e ∷ es) k =
      ap₂ (λ (x y : List Sight). x ++ y) (device-look b h tells says e k.0 (base b h tells says e k.0)) (devices-look es k.1)

  objects-look : (es : List (List ℕ × ℕ)) → AllByRecursion (Here b OBJECTS_BIRTH (codes "user-creatable")) es
      → flat_map l (births_in es) ≡ flat_map (object_seen d) (map (object_as b) es)
  objects-look [] k = refl
  objects-look (e ∷ es) k = ap₂ (λ (x y : List Sight). x ++ y) (object-look b h tells says e k.0) (objects-look es k.1)

  abbrev first_seen : Sight
  first_seen = shelf_seen (codes "/machine/peripheral") Container (map (λ (x : DeviceItem). (x.id, device_path x.id)) d.devices)

  abbrev last_seen : Sight
  last_seen = shelf_seen (codes "/objects") Container (map (λ (o : ObjectItem). (o.id, object_path o.id)) d.objects)

  abbrev four_seen : List Sight
  four_seen =
      shelf_seen (codes "/machine/peripheral-anon") Container []
      ∷ seen_as (codes "/machine/sysclk") Clock (clock_shows d.clock.period d.clock.mul d.clock.div []) []
      ∷ seen_as (codes "/machine/root.0") SlotBus (plain_shows SlotBus) (kids_said d (codes "/machine/root.0"))
      ∷ seen_as (codes "/machine/mem.0") MemBus (plain_shows MemBus) (kids_said d (codes "/machine/mem.0"))
      ∷ []

  peripheral-look : l PERIPHERAL_BIRTH ≡ first_seen ∷ flat_map (device_seen d) d.devices
  peripheral-look =
      look-by b h.order PERIPHERAL_BIRTH
      ∙ ap₂ (λ (s : Sight) (ss : List Sight). s ∷ ss) peripheral-sight
      (devices-look (child_entries b PERIPHERAL_BIRTH) (stood-all b h.order says) ∙ ap (flat_map (device_seen d)) (sym (devices-said b h.order)))

  objects-shelf : l OBJECTS_BIRTH ≡ last_seen ∷ flat_map (object_seen d) d.objects
  objects-shelf =
      look-by b h.order OBJECTS_BIRTH
      ∙ ap₂ (λ (s : Sight) (ss : List Sight). s ∷ ss) objects-sight
      (objects-look (child_entries b OBJECTS_BIRTH) (users b h.order) ∙ ap (flat_map (object_seen d)) (sym (objects-said b h.order)))

  anonymous-look : l ANONYMOUS_BIRTH ≡ shelf_seen (codes "/machine/peripheral-anon") Container [] ∷ []
  anonymous-look =
      look-by b h.order ANONYMOUS_BIRTH
      ∙ ap (λ (es : List (List ℕ × ℕ)). sight b ANONYMOUS_BIRTH ∷ flat_map l (births_in es)) (none-anonymous b h.order says)
      ∙ ap (λ (s : Sight). s ∷ []) anonymous-sight

  leaf : (n : ℕ) (t : TypeId) (s : Sight) → kind_of b n ≡ Some t → is_shelf t ≡ false → parts_of t ≡ [] → sight b n ≡ s → l n ≡ s ∷ []
  leaf n t s kind shelf none is = look-leaf b h.order n t kind shelf none ∙ ap (λ (x : Sight). x ∷ []) is

  four-look : l ANONYMOUS_BIRTH ++ (l SYSTEM_CLOCK_BIRTH ++ (l ROOT_BUS_BIRTH ++ (l MEMORY_BUS_BIRTH ++ []))) ≡ four_seen
  four-look =
      ap₂ (λ (x y : List Sight). x ++ y) anonymous-look
      (ap₂ (λ (x y : List Sight). x ++ y)
      (leaf SYSTEM_CLOCK_BIRTH Clock _ (system-kind b h.order) leaf-types.0.0 leaf-types.0.1 (system-sight b h tells says))
      (ap₂ (λ (x y : List Sight). x ++ y)
      (leaf ROOT_BUS_BIRTH SlotBus _ (root_bus-kind b h.order) leaf-types.1.0.0 leaf-types.1.0.1 root_bus-sight)
      (ap (λ (x : List Sight). x ++ [])
      (leaf MEMORY_BUS_BIRTH MemBus _ (memory_bus-kind b h.order) leaf-types.1.1.0.0 leaf-types.1.1.0.1 memory_bus-sight))))

  machine-look : l MACHINE_BIRTH
      ≡ shelf_seen (codes "/machine") Machine machine_children ∷ first_seen ∷ (flat_map (device_seen d) d.devices ++ four_seen)
  machine-look =
      look-by b h.order MACHINE_BIRTH
      ∙ ap (λ (es : List (List ℕ × ℕ)). sight b MACHINE_BIRTH ∷ flat_map l (births_in es)) (machine-entries b h.order)
      ∙ ap₂ (λ (s : Sight) (ss : List Sight). s ∷ ss) machine-sight (ap₂ (λ (x y : List Sight). x ++ y) peripheral-look four-look)

  root-look : l ROOT_BIRTH ≡ seen d
  root-look =
      look-by b h.order ROOT_BIRTH
      ∙ ap (λ (es : List (List ℕ × ℕ)). sight b ROOT_BIRTH ∷ flat_map l (births_in es)) (root-entries b h.order)
      ∙ ap₂ (λ (s : Sight) (ss : List Sight). s ∷ ss) root-sight
      (ap₂ (λ (x y : List Sight). x ++ y) machine-look (ap (λ (x : List Sight). x ++ []) objects-shelf)
      ∙ ap (λ (ss : List Sight). shelf_seen (codes "/machine") Machine machine_children ∷ first_seen ∷ ss)
      (append_assoc (flat_map (device_seen d) d.devices) four_seen ((last_seen ∷ flat_map (object_seen d) d.objects) ++ [])
      ∙ ap (λ (ss : List Sight). flat_map (device_seen d) d.devices ++ (four_seen ++ (last_seen ∷ ss)))
      (append-nil (flat_map (object_seen d) d.objects))))

tree-seen : (b : Board) → IsWhole b → TellsTypes b → is_describable b ≡ true → map (sight b) (preorder b) ≡ seen (description b)
unfolding preorder
tree-seen b h tells says = root-look b h tells says

-- the description that a board has
record Has (b : Board) (d : Description) : Type 0 where
  says : is_describable b ≡ true
  is : description b ≡ d

has : (b : Board) (d : Description) → described b ≡ Some d → Has b d
unfolding described
has b d e = go (is_describable b) refl
  where
    go : (t : Bool) → is_describable b ≡ t → Has b d
    go true q = record { says = q; is = same_Some (description b) d (rw q at e) }
    go false q = absurd (let clash : None ≡ Some d = rw q at e in cc)

shown-law : (b : Board) (d : Description) → IsWhole b → TellsTypes b → described b ≡ Some d → map (sight b) (preorder b) ≡ seen d
shown-law b d h tells e = let k : Has b d = has b d e in tree-seen b h tells k.says ∙ ap seen k.is

pub alike_lem : AlikeLaw
alike_lem =
    record {
      shown = shown-law;
      alike = λ b c d h tells k tells_too e f.
          let x : Has b d = has b d e in
          let y : Has c d = has c d f in
          record {
            tree = shown-law b d h tells e ∙ sym (shown-law c d k tells_too f);
            rings = ap (λ (z : Description). z.rings) (x.is ∙ sym y.is);
          };
    }
