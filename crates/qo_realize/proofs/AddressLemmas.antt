-- The address of a device that stands in its place is the one at which it is found.
use Rattle.std.proofs.Common.{◌≡◌, refl, ap, sym, subst, ◌∙◌, rules, ℕ, zero, suc, ◌+◌, ◌≤◌, ◌<◌, ◌==◌, Bool, true, false, not, ◌&&◌, eqb, if◌then◌else◌, List, [], ◌∷◌, ◌++◌, filter_map, codes, Option, Some, None, option_map, arith}
use Rattle.std.specs.Prelude.{option_and_then, unwrap_or}
use Rattle.std.specs.Bool.{⊤}
use Rattle.std.specs.List.{AllByRecursion, IsDistinct, list_any}
use Rattle.std.specs.Option.{option_map_or}
use Rattle.std.specs.Str.{bytes_eq}
use Rattle.std.proofs.lemmas.Bool.{eqb-true, eq-eqb}
use Rattle.std.proofs.lemmas.Option.{same_Some}
use Rattle.std.proofs.lemmas.Slice.Eq.{bytes_eq-Decides}
use Rattle.qo_values.specs.Placing.{least}
use Rattle.qo_values.specs.declared.births.TheConstants.{MACHINE_BIRTH, MEMORY_BUS_BIRTH, ROOT_BUS_BIRTH}
use Rattle.qo_values.specs.declared.kinds.TypeId.{TypeId}
use Rattle.qo_values.specs.declared.kinds.TypeId.TheVariants.{MemBus}
use Rattle.qo_values.specs.declared.limits.TheConstants.{BUS_SLOTS}
use Rattle.qo_values.proofs.PlacingLemmas.{least-passes}
use Rattle.qo_values.proofs.EachLemmas.{each}
use Rattle.qo_guest.specs.declared.addresses.Addr.TheVariants.{Slots, Mem}
use Rattle.qo_guest.specs.declared.addresses.TheConstants.{STEPS_MAX}
use Rattle.qo_buses.specs.Addresses.{addressed}
use Rattle.qo_model.specs.Board.{Board, Record, Slot, plain, child, strong, weak, alias, kind_of, record_of}
use Rattle.qo_model.specs.Depth.{among}
use Rattle.qo_model.specs.Devices.{bridge_of, bus_in, bus_of, clock_name, first_bus, found_at, kid_at}
use Rattle.qo_model.specs.Opening.{opening_board}
use Rattle.qo_model.specs.Paths.{is_of}
use Rattle.qo_model.specs.Plug.{bus_type}
use Rattle.qo_model.specs.RowNames.{property_name}
use Rattle.qo_model.specs.Types.{is_a, slots_of, types}
use Rattle.qo_model.specs.declared.properties.Property.{Property}
use Rattle.qo_model.specs.declared.properties.PropertyRole.{PropertyRole}
use Rattle.qo_model.specs.declared.properties.PropertyRole.TheVariants as row
use Rattle.qo_sound.proofs.FirmBoardLemmas.{HasNames}
use Rattle.qo_sound.proofs.SearchLemmas.{all-found}
use Rattle.qo_sound.proofs.SlotLemmas.{names_in}
use Rattle.qo_sound_devices.specs.DeviceFacts.{IsOnBus}
use Rattle.qo_sound_devices.specs.SoundDevices.{SoundDevices}
use Rattle.qo_sound_devices.specs.SoundPlaces.{HasOwner, bridges, child_entries, child_entry, machines, owns, owns_it, stands}
use Rattle.qo_sound_devices.proofs.AttachmentLemmas.{owns-listed, parent-is}
use Rattle.qo_sound_devices.proofs.FactLemmas.{devices_say_lem}
use Rattle.qo_sound_devices.proofs.LocationLemmas.{machine-no_device}
use Rattle.qo_sound_devices.proofs.PlugLemmas.{stands-device}
use Rattle.qo_sound_phases.proofs.ReachLemmas.{machines-listed}
use Rattle.qo_sound_phases.proofs.ResetTreeLemmas.{Placed, placed}
use Rattle.qo_sound_shapes.specs.SoundShape.{HasRole, HasSlots, IsFurther, is_child_role}
use Rattle.qo_sound_shapes.proofs.RowLemmas.{has-all}
use Rattle.qo_realize.specs.Addresses.{AddressLaw}
use Rattle.qo_realize.specs.Guest.{above, address_of, is_in_slot, slot_in, slot_of, slots_to}
use Rattle.qo_realize.specs.SoundBoard.{SoundBoard}

-- Slots.

-- where a number passes a test, there is a least one that does
least-some : (test : ℕ → Bool) (first more at : ℕ) → first ≤ at → at < first + more → test at ≡ true → (x : ℕ) × (least test first more ≡ Some x)
unfolding least
least-some test first zero at from below passes = absurd (omega arith)
least-some test first (suc more) at from below passes = go (test first) refl (least-some test (first + 1) more at)
  where
    go : (u : Bool) → test first ≡ u → (first + 1 ≤ at → at < first + 1 + more → test at ≡ true → (x : ℕ) × (least test (first + 1) more ≡ Some x))
        → (x : ℕ) × (least test first (suc more) ≡ Some x)
    go true p rest = (first, rw p refl)
    go false p rest =
        let apart : eqb first at ≡ false = differ (eqb first at) refl in
        let found = rest (grind (arith, from, apart)) (omega (arith, below)) passes in
        (found.0, rw p found.1)
      where
        differ : (u : Bool) → eqb first at ≡ u → eqb first at ≡ false
        differ false q = q
        differ true q = absurd (let clash : true ≡ false = sym passes ∙ ap test (sym (eqb-true first at q)) ∙ p in cc)

in-slot : (b : Board) (bus d slot : ℕ) → is_in_slot b bus d slot ≡ true → kid_at b bus slot ≡ Some d
in-slot b bus d slot e = go (kid_at b bus slot) refl
  where
    go : (o : Option ℕ) → kid_at b bus slot ≡ o → kid_at b bus slot ≡ Some d
    go None p = absurd (let clash : false ≡ true = rw p at e in cc)
    go (Some k) p = p ∙ ap Some (eqb-true k d (rw p at e))

-- a device is in the slot that is told of it
told-slot : (b : Board) (bus d slot : ℕ) → bus_of b d ≡ Some bus → slot < BUS_SLOTS → kid_at b bus slot ≡ Some d → kid_at b bus (slot_of b d) ≡ Some d
told-slot b bus d slot on low there =
    subst (λ (o : Option ℕ). kid_at b bus (option_map_or (λ q. slot_in b q d) o 0) ≡ Some d) (sym on)
    (subst (λ (o : Option ℕ). kid_at b bus (unwrap_or o 0) ≡ Some d) (sym some.1)
    (in-slot b bus d some.0 (least-passes (is_in_slot b bus d) 0 BUS_SLOTS some.0 some.1)))
  where
    passes : is_in_slot b bus d slot ≡ true
    passes = rw there (eq-eqb d d refl)

    some : (x : ℕ) × (least (is_in_slot b bus d) 0 BUS_SLOTS ≡ Some x)
    some = least-some (is_in_slot b bus d) 0 BUS_SLOTS slot (omega arith) low passes

-- The buses of a device.

abbrev bus_name : List ℕ
bus_name = codes "bus.0"

-- of the rows of a device the only child beside the clock is the bus of a bridge
abbrev only_bus : Bool → List ℕ → TypeId → Bool
only_bus kept name t =
    if not kept then true else if bytes_eq name clock_name then true else (bytes_eq name bus_name && is_a t (codes "slot-bridge"))

abbrev RowsOnly : TypeId → Type 0
RowsOnly t = AllByRecursion (λ (p : Property). only_bus (is_child_role p.role) (property_name p.name) t ≡ true) (slots_of t)

clash-at : {A : Type 0} → false ≡ true → A
clash-at e = absurd (let clash : false ≡ true = e in cc)

rows-only : (t : TypeId) → is_a t (codes "device") ≡ true → RowsOnly t
unfolding types
rows-only = each (λ (t : TypeId). is_a t (codes "device") ≡ true → RowsOnly t) (search rules)

-- and it has no further slots
device-bare : (t : TypeId) → is_a t (codes "device") ≡ true → (s : List ℕ × Slot) → IsFurther t s → ⊥
unfolding types
device-bare = each (λ (t : TypeId). is_a t (codes "device") ≡ true → (s : List ℕ × Slot) → IsFurther t s → ⊥) (search rules)

-- so are its slots
abbrev OnlyBus : TypeId → List ℕ × Slot → Type 0
OnlyBus t (name, child m) = bytes_eq name clock_name ≡ false → (bytes_eq name bus_name ≡ true) × (is_a t (codes "slot-bridge") ≡ true)
OnlyBus t s = ⊤

and-both : (u v : Bool) → (u && v) ≡ true → (u ≡ true) × (v ≡ true)
and-both true true e = (refl, refl)
and-both true false e = clash-at e
and-both false v e = clash-at e

slot-only : (t : TypeId) (kind : PropertyRole) (own name : List ℕ) (s : Slot) → only_bus (is_child_role kind) own t ≡ true → name ≡ own → HasRole kind s
    → OnlyBus t (name, s)
slot-only t kind own name (plain v) e same fits = tt
slot-only t kind own name (strong to target) e same fits = tt
slot-only t kind own name (weak to target) e same fits = tt
slot-only t kind own name (alias m property) e same fits = tt
slot-only t (row.Plain type begins) own name (child m) e same fits = absurd fits
slot-only t (row.Link to true) own name (child m) e same fits = absurd fits
slot-only t (row.Link to false) own name (child m) e same fits = absurd fits
slot-only t (row.Alias owner of) own name (child m) e same fits = absurd fits
slot-only t (row.Child type) own name (child m) e same fits = λ apart.
    let other : bytes_eq own clock_name ≡ false = subst (λ (n : List ℕ). bytes_eq n clock_name ≡ false) same apart in
    let both = and-both (bytes_eq own bus_name) (is_a t (codes "slot-bridge")) (rw other at e) in
    (subst (λ (n : List ℕ). bytes_eq n bus_name ≡ true) (sym same) both.0, both.1)

device-slots : (r : Record) → is_a r.kind (codes "device") ≡ true → HasSlots r.kind (slots_of r.kind) r.slots → AllByRecursion (OnlyBus r.kind) r.slots
device-slots r e h =
    has-all (λ (p : Property). only_bus (is_child_role p.role) (property_name p.name) r.kind ≡ true) (OnlyBus r.kind) r.kind
    (λ p s own is. slot-only r.kind p.role (property_name p.name) s.0 s.1 own is.name is.fits) (λ s k. absurd (device-bare r.kind e s k)) (slots_of r.kind)
    (rows-only r.kind e) h

-- a child of its that is no clock is not among slots of other names
none-later : (t : TypeId) (name : List ℕ) (m : ℕ) → bytes_eq name bus_name ≡ true → (slots : List (List ℕ × Slot))
    → AllByRecursion (λ y. bytes_eq name y ≡ false) (names_in slots) → AllByRecursion (OnlyBus t) slots
    → list_any (owns_it m) (filter_map child_entry slots) ≡ true → ⊥
none-later t name m is [] a h e = absurd (let clash : false ≡ true = e in cc)
none-later t name m is ((own, plain v) ∷ slots) a h e = none-later t name m is slots a.1 h.1 e
none-later t name m is ((own, strong to target) ∷ slots) a h e = none-later t name m is slots a.1 h.1 e
none-later t name m is ((own, weak to target) ∷ slots) a h e = none-later t name m is slots a.1 h.1 e
none-later t name m is ((own, alias k property) ∷ slots) a h e = none-later t name m is slots a.1 h.1 e
none-later t name m is ((own, child k) ∷ slots) a h e = go (bytes_eq own clock_name) refl (k == m) refl (none-later t name m is slots a.1 h.1)
  where
    go : (u : Bool) → bytes_eq own clock_name ≡ u → (v : Bool) → (k == m) ≡ v → (list_any (owns_it m) (filter_map child_entry slots) ≡ true → ⊥) → ⊥
    go true p true q rest = rest (rw (q, p) at e)
    go true p false q rest = rest (rw q at e)
    go false p v q rest =
        let same : name ≡ own = (bytes_eq-Decides name bus_name).0 is ∙ sym ((bytes_eq-Decides own bus_name).0 (h.0 p).0) in
        absurd (let clash : true ≡ false = sym ((bytes_eq-Decides name own).1 same) ∙ a.0 in cc)

-- so the one bus that it has is the first
abbrev first_in : List ℕ → Option ℕ
first_in ms = elim ms [ [] ↦ None | m ∷ _ ↦ Some m ]

first-only : (b : Board) (t : TypeId) (m : ℕ) → is_of b (codes "bus") m ≡ true → (slots : List (List ℕ × Slot)) → IsDistinct bytes_eq (names_in slots)
    → AllByRecursion (OnlyBus t) slots → list_any (owns_it m) (filter_map child_entry slots) ≡ true
    → (first_in (filter_map (bus_in b) slots) ≡ Some m) × (is_a t (codes "slot-bridge") ≡ true)
unfolding IsDistinct
first-only b t m bus [] d h e = clash-at e
first-only b t m bus ((own, plain v) ∷ slots) d h e = first-only b t m bus slots d.1 h.1 e
first-only b t m bus ((own, strong to target) ∷ slots) d h e = first-only b t m bus slots d.1 h.1 e
first-only b t m bus ((own, weak to target) ∷ slots) d h e = first-only b t m bus slots d.1 h.1 e
first-only b t m bus ((own, alias k property) ∷ slots) d h e = first-only b t m bus slots d.1 h.1 e
first-only b t m bus ((own, child k) ∷ slots) d h e = go (bytes_eq own clock_name) refl (k == m) refl (is_of b (codes "bus") k) refl (first-only b t m bus slots d.1 h.1)
  where
    Goal : Type 0
    Goal = (first_in (filter_map (bus_in b) ((own, child k) ∷ slots)) ≡ Some m) × (is_a t (codes "slot-bridge") ≡ true)

    go : (u : Bool) → bytes_eq own clock_name ≡ u → (v : Bool) → (k == m) ≡ v → (w : Bool) → is_of b (codes "bus") k ≡ w
        → (list_any (owns_it m) (filter_map child_entry slots) ≡ true
        → (first_in (filter_map (bus_in b) slots) ≡ Some m) × (is_a t (codes "slot-bridge") ≡ true))
        → Goal
    go true p true q true r rest = let deeper = rest (rw (q, p) at e) in (rw (r, p) deeper.0, deeper.1)
    go true p true q false r rest = let deeper = rest (rw (q, p) at e) in (rw r deeper.0, deeper.1)
    go true p false q true r rest = let deeper = rest (rw q at e) in (rw (r, p) deeper.0, deeper.1)
    go true p false q false r rest = let deeper = rest (rw q at e) in (rw r deeper.0, deeper.1)
    go false p true q w r rest =
        let same : k ≡ m = eqb-true k m q in
        let its : is_of b (codes "bus") k ≡ true = ap (is_of b (codes "bus")) same ∙ bus in
        (rw (its, p) (ap Some same), (h.0 p).1)
    go false p false q w r rest = absurd (none-later t own m (h.0 p).0 slots d.0 h.1 (rw q at e))

-- a bridge goes on no memory bus
bridge-apart : (t : TypeId) → is_a t (codes "slot-bridge") ≡ true → is_a MemBus (bus_type t) ≡ false
unfolding types
bridge-apart = each (λ (t : TypeId). is_a t (codes "slot-bridge") ≡ true → is_a MemBus (bus_type t) ≡ false) (search rules)

-- Ways.

-- one step further
found-below : (b : Board) (slots : List ℕ) (bus p m k d : ℕ) → found_at b bus slots ≡ Some p → first_bus b p ≡ Some m → kid_at b m k ≡ Some d
    → found_at b bus (slots ++ k ∷ []) ≡ Some d
found-below b [] bus p m k d at first kid = absurd (let clash : None ≡ Some p = at in cc)
found-below b (s ∷ []) bus p m k d at first kid = rw (at, first) kid
found-below b (s ∷ next ∷ slots) bus p m k d at first kid = go (kid_at b bus s) refl (λ n. found-below b (next ∷ slots) n p m k d)
  where
    Rest : Type 0
    Rest = (n : ℕ) → found_at b n (next ∷ slots) ≡ Some p → first_bus b p ≡ Some m → kid_at b m k ≡ Some d
        → found_at b n (next ∷ slots ++ k ∷ []) ≡ Some d

    below : (x : ℕ) (o : Option ℕ) → first_bus b x ≡ o → option_and_then (λ n. found_at b n (next ∷ slots)) o ≡ Some p → Rest
        → option_and_then (λ n. found_at b n (next ∷ slots ++ k ∷ [])) o ≡ Some d
    below x None e f rest = absurd (let clash : None ≡ Some p = f in cc)
    below x (Some n) e f rest = rest n f first kid

    go : (o : Option ℕ) → kid_at b bus s ≡ o → Rest → found_at b bus (s ∷ next ∷ slots ++ k ∷ []) ≡ Some d
    go None e rest =
        absurd
        (let clash : None ≡ Some p =
        sym (ap (option_and_then (λ x. option_and_then (λ n. found_at b n (next ∷ slots)) (first_bus b x))) e) ∙ at in
        cc)
    go (Some x) e rest =
        ap (option_and_then (λ x. option_and_then (λ n. found_at b n (next ∷ slots ++ k ∷ [])) (first_bus b x))) e
        ∙ below x (first_bus b x) refl (sym (ap (option_and_then (λ x. option_and_then (λ n. found_at b n (next ∷ slots)) (first_bus b x))) e) ∙ at) rest

module _ (b : Board) (good : SoundBoard b) where
  devices : SoundDevices b
  devices = good.run.devices

  k : Placed b
  k = placed b devices

  on-bus : (d : ℕ) → stands b d ≡ true → IsOnBus b d
  on-bus d s = devices_say_lem.on_bus b devices d (k.places.each d s refl)

  there : (d bus : ℕ) → stands b d ≡ true → bus_of b d ≡ Some bus → kid_at b bus (slot_of b d) ≡ Some d
  there d bus s on =
      let its : IsOnBus b d = on-bus d s in
      let same : its.bus ≡ bus = same_Some its.bus bus (sym its.on ∙ on) in
      told-slot b bus d its.slot on its.low (subst (λ (q : ℕ). kid_at b q its.slot ≡ Some d) same its.there)

  -- who owns a bus
  record Bridge (p m : ℕ) : Type 0 where
    kind : TypeId
    its : kind_of b p ≡ Some kind
    bridge : is_a kind (codes "slot-bridge") ≡ true
    first : first_bus b p ≡ Some m

  is-bridge : (p m : ℕ) → stands b p ≡ true → owns b p m ≡ true → is_of b (codes "bus") m ≡ true → Bridge p m
  is-bridge p m s owned bus = go (record_of b p) refl
    where
      device : is_of b (codes "device") p ≡ true
      device = stands-device k.depth None (λ x. false) b k.places p s

      go : (o : Option Record) → record_of b p ≡ o → Bridge p m
      go None e = clash-at (rw e at device)
      go (Some r) e =
          let mine : is_a r.kind (codes "device") ≡ true = rw e at device in
          let its : list_any (owns_it m) (filter_map child_entry r.slots) ≡ true = rw e at owned in
          let only = first-only b r.kind m bus r.slots (all-found HasNames p b.records k.firm.named r e)
          (device-slots r mine (good.shape.shaped p r e).slots) its in
          record {
            kind = r.kind;
            its = ap (option_map (λ (x : Record). x.kind)) e;
            bridge = only.1;
            first =
                ap (λ (o : Option Record). first_in (filter_map (bus_in b) (option_map_or (λ (x : Record). x.slots) o []))) e ∙ only.0;
          }

  memory-bus : kind_of b MEMORY_BUS_BIRTH ≡ Some MemBus
  unfolding opening_board
  memory-bus = good.shape.opening.1.1.1.1.1.1.0

  bridge-off_memory : (p m q : ℕ) → stands b p ≡ true → Bridge p m → bus_of b p ≡ Some q → (q == MEMORY_BUS_BIRTH) ≡ false
  bridge-off_memory p m q s br on = go (q == MEMORY_BUS_BIRTH) refl
    where
      its : IsOnBus b p
      its = on-bus p s

      same : its.bus ≡ q
      same = same_Some its.bus q (sym its.on ∙ on)

      fits : is_of b (bus_type br.kind) q ≡ true
      fits = subst (λ (x : ℕ). is_of b (bus_type br.kind) x ≡ true) same (rw br.its at its.fits)

      go : (u : Bool) → (q == MEMORY_BUS_BIRTH) ≡ u → (q == MEMORY_BUS_BIRTH) ≡ false
      go false e = e
      go true e =
          let memory : is_of b (bus_type br.kind) MEMORY_BUS_BIRTH ≡ true = subst (λ (x : ℕ). is_of b (bus_type br.kind) x ≡ true) (eqb-true q MEMORY_BUS_BIRTH e) fits in
          let clash : false ≡ true =
          sym (bridge-apart br.kind br.bridge) ∙ sym (ap (λ (o : Option TypeId). option_map_or (λ (t : TypeId). is_a t (bus_type br.kind)) o false) memory-bus)
          ∙ memory in
          clash-at clash

  -- above a device
  above-machines : (d bus : ℕ) → bus_of b d ≡ Some bus → among (ROOT_BUS_BIRTH ∷ MEMORY_BUS_BIRTH ∷ []) bus ≡ true → above b d ≡ None
  above-machines d bus on u =
      ap (option_and_then (bridge_of b)) on
      ∙ ap (option_and_then (λ p. if is_of b (codes "device") p then Some p else None)) (parent-is b k.firm MACHINE_BIRTH bus (machines-listed b k bus u))
      ∙ ap (λ (t : Bool). if t then Some MACHINE_BIRTH else None) (machine-no_device k.depth None (λ x. false) b k.places)

  above-bridge : (d bus p : ℕ) → bus_of b d ≡ Some bus → stands b p ≡ true → owns b p bus ≡ true → above b d ≡ Some p
  above-bridge d bus p on s owned =
      ap (option_and_then (bridge_of b)) on
      ∙ ap (option_and_then (λ x. if is_of b (codes "device") x then Some x else None))
      (parent-is b k.firm p bus (owns-listed bus (child_entries b p) owned))
      ∙ ap (λ (t : Bool). if t then Some p else None) (stands-device k.depth None (λ x. false) b k.places p s)

  off-memory : (bus : ℕ) → among (ROOT_BUS_BIRTH ∷ MEMORY_BUS_BIRTH ∷ []) bus ≡ true → (bus == MEMORY_BUS_BIRTH) ≡ false → bus ≡ ROOT_BUS_BIRTH
  off-memory bus u off = go (eqb bus ROOT_BUS_BIRTH) refl
    where
      go : (v : Bool) → eqb bus ROOT_BUS_BIRTH ≡ v → bus ≡ ROOT_BUS_BIRTH
      go true e = eqb-true bus ROOT_BUS_BIRTH e
      go false e = clash-at (rw (e, off) at u)

  -- from the root bus down
  reaches : (levels d bus : ℕ) → stands b d ≡ true → bus_of b d ≡ Some bus → (bus == MEMORY_BUS_BIRTH) ≡ false → k.depth bus < levels
      → found_at b ROOT_BUS_BIRTH (slots_to b levels d) ≡ Some d
  reaches zero d bus s on off low = absurd (omega (arith, low))
  reaches (suc levels) d bus s on off low = by (k.places.owner d bus s on) (reaches levels)
    where
      Rest : Type 0
      Rest = (p q : ℕ) → stands b p ≡ true → bus_of b p ≡ Some q → (q == MEMORY_BUS_BIRTH) ≡ false → k.depth q < levels
          → found_at b ROOT_BUS_BIRTH (slots_to b levels p) ≡ Some p

      by : HasOwner b bus → Rest → found_at b ROOT_BUS_BIRTH (slots_to b (suc levels) d) ≡ Some d
      by (machines u) rest =
          let root : bus ≡ ROOT_BUS_BIRTH = off-memory bus u off in
          ap (λ (o : Option ℕ). found_at b ROOT_BUS_BIRTH (option_map_or (slots_to b levels) o [] ++ slot_of b d ∷ [])) (above-machines d bus on u)
          ∙ subst (λ (q : ℕ). kid_at b q (slot_of b d) ≡ Some d) root (there d bus s on)
      by (bridges p sp owned) rest =
          let its : IsOnBus b d = on-bus d s in
          let same : its.bus ≡ bus = same_Some its.bus bus (sym its.on ∙ on) in
          let br : Bridge p bus = is-bridge p bus sp owned (subst (λ (q : ℕ). is_of b (codes "bus") q ≡ true) same its.is_bus) in
          let home : IsOnBus b p = on-bus p sp in
          let deeper : k.depth bus ≡ suc (k.depth home.bus) = k.places.shallow.below p home.bus bus sp home.on owned in
          let way : found_at b ROOT_BUS_BIRTH (slots_to b levels p) ≡ Some p =
          rest p home.bus sp home.on (bridge-off_memory p bus home.bus sp br home.on) (omega (arith, low, deeper)) in
          ap (λ (o : Option ℕ). found_at b ROOT_BUS_BIRTH (option_map_or (slots_to b levels) o [] ++ slot_of b d ∷ [])) (above-bridge d bus p on sp owned)
          ∙ found-below b (slots_to b levels p) ROOT_BUS_BIRTH p bus (slot_of b d) d way br.first (there d bus s on)

  pub address-found : (d : ℕ) → stands b d ≡ true → addressed b (address_of b d) ≡ Some d
  address-found d s = go (its.bus == MEMORY_BUS_BIRTH) refl
    where
      its : IsOnBus b d
      its = on-bus d s

      memory : Bool → Option ℕ
      memory t = addressed b (if t then Mem (slot_of b d) else Slots (slots_to b STEPS_MAX d))

      told : addressed b (address_of b d) ≡ memory (its.bus == MEMORY_BUS_BIRTH)
      told = ap (λ (o : Option ℕ). memory (option_map_or (λ bus. bus == MEMORY_BUS_BIRTH) o false)) its.on

      go : (t : Bool) → (its.bus == MEMORY_BUS_BIRTH) ≡ t → addressed b (address_of b d) ≡ Some d
      go true e = told ∙ ap memory e ∙ subst (λ (q : ℕ). kid_at b q (slot_of b d) ≡ Some d) (eqb-true its.bus MEMORY_BUS_BIRTH e) (there d its.bus s its.on)
      go false e =
          let most : k.depth its.bus ≤ 8 = k.places.shallow.most its.bus (k.places.owner d its.bus s its.on) in
          told ∙ ap memory e ∙ reaches STEPS_MAX d its.bus s its.on e (omega (arith, most))

pub address_lem : AddressLaw
address_lem b good d s = address-found b good d s
