-- The law of places: what is said in the words of the tree is all that the soundness of places says.
use Rattle.std.proofs.Common.{◌≡◌, ◌⊎◌, inl, inr, refl, ap, sym, subst, ◌∙◌, ℕ, zero, suc, ◌≤◌, Bool, true, false, ◌==◌, List, [], ◌∷◌, filter_map, length, codes, Option, Some, None, option_map, option_and_then, arith}
use Rattle.qo_model.proofs.Common.{if◌then◌else◌, AllByRecursion, option_map_or, bytes_eq, ANONYMOUS_BIRTH, MACHINE_BIRTH, MEMORY_BUS_BIRTH, OBJECTS_BIRTH, PERIPHERAL_BIRTH, ROOT_BIRTH, ROOT_BUS_BIRTH, SYSTEM_CLOCK_BIRTH, TypeId, Container, Machine, Clock, SlotBus, MemBus, Board, Record, Slot, kind_of, is_live, record_of, slots_at, among, by_depth, anonymous_name, bridge_of, bus_above, bus_of, clock_name, depth_of, depth_turn, is_realized, kid_name, strong_in, opening_board, attached, attached_turn, births, is_of, place_of, without_value, is_a, types}
use Rattle.std.proofs.lemmas.Bool.{eqb-true}
use Rattle.std.proofs.lemmas.Option.{same_Some}
use Rattle.qo_values.proofs.ListLemmas.{all-imply}
use Rattle.qo_model.proofs.AmongLemmas.{among-all}
use Rattle.qo_model.proofs.FirstSlotLemmas.{named_in}
use Rattle.qo_model.proofs.StepLemmas.{live-among}
use Rattle.qo_model.proofs.TreeLemmas.{paths_lem}
use Rattle.qo_sound.specs.TreeKept.{SoundTree}
use Rattle.qo_sound.proofs.FirmBoardLemmas.{WellFormed}
use Rattle.qo_sound.proofs.RecordLemmas.{all-both, all-map}
use Rattle.qo_sound.proofs.TestLemmas.{clash, clash-back, decide}
use Rattle.qo_sound.proofs.TreeKeptLemmas.{sound_kept_lem}
use Rattle.qo_sound.proofs.ViewLemmas.{rest-from_sound}
use Rattle.qo_sound_devices.specs.DeviceFacts.{IsOnBus}
use Rattle.qo_sound_devices.specs.SoundPlaces.{child_entries, child_entry, has_entry, HasOwner, machines, bridges, id_of, IsAnonymous, IsAtHome, IsHome, IsHosted, on_machine, on_device, IsKid, IsPeripheral, IsRooted, kid_entries, kid_entry, listed, owns, SoundPlaces, stands, suits}
use Rattle.qo_sound_devices.proofs.AttachmentLemmas.{child-attached, owns-listed, parent-is}
use Rattle.qo_sound_devices.proofs.DropLemmas.{names-at}
use Rattle.qo_sound_devices.proofs.LocationLemmas.{Entry, entry-of, place-listed, place-named}
use Rattle.qo_sound_devices.proofs.PathLemmas.{anonymous-steps, peripheral-steps}
use Rattle.qo_sound_devices.proofs.PlacesLemmas.{all-listed, or-cases}
use Rattle.qo_sound_shapes.specs.SoundOwners.{containers, SoundOwners}
use Rattle.qo_sound_phases.proofs.ResetTreeLemmas.{no-bus}
use Rattle.qo_sound_shapes.specs.SoundShape.{HasChildType, SoundShape, unvalued}
use Rattle.qo_sound_shapes.proofs.BoardLemmas.{opening-kind, shape-live}
use Rattle.qo_sound_shapes.proofs.CompletenessLemmas.{entries-each}
use Rattle.qo_plain.specs.Places.{by_id, by_number, HasPlace, IsNamed, PlacesLaw, PlainPlaces}
use Rattle.qo_plain.proofs.ChildRowLemmas.{created-apart, IsKidSlot, IsOfRow, IsRowChild, kid-slots, row-children}
use Rattle.qo_plain.proofs.PlaceListLemmas.{all-entries, each-entry, each-listed, each-named, each-owned, Entries, kid-has, kid-is, owned-has, rises-room}
use Rattle.qo_plain.proofs.PlacesSayLemmas.{places-say, stands-in}

-- the entries of children are seen without plain values
entries-unvalued : (slots : List (List ℕ × Slot)) → filter_map child_entry (unvalued slots) ≡ filter_map child_entry slots
entries-unvalued slots = entries-each without_value unseen slots
  where
    unseen : (s : List ℕ × Slot) → child_entry (s.0, without_value s.1) ≡ child_entry s
    unseen (name, Slot.plain v) = refl
    unseen (name, Slot.child m) = refl
    unseen (name, Slot.strong t target) = refl
    unseen (name, Slot.weak t target) = refl
    unseen (name, Slot.alias m property) = refl

fixed-entries : (b : Board) (n : ℕ) → unvalued (slots_at b n) ≡ unvalued (slots_at opening_board n) → child_entries b n ≡ child_entries opening_board n
fixed-entries b n e =
    sym (entries-unvalued (slots_at b n)) ∙ ap (filter_map child_entry) e ∙ entries-unvalued (slots_at opening_board n)

abbrev root_entries : Entries
root_entries = (codes "machine", MACHINE_BIRTH) ∷ (codes "objects", OBJECTS_BIRTH) ∷ []

abbrev machine_entries : Entries
machine_entries =
    (codes "peripheral", PERIPHERAL_BIRTH) ∷ (codes "peripheral-anon", ANONYMOUS_BIRTH) ∷ (codes "sysclk", SYSTEM_CLOCK_BIRTH)
    ∷ (codes "root.0", ROOT_BUS_BIRTH) ∷ (codes "mem.0", MEMORY_BUS_BIRTH) ∷ []

slots-are : (b : Board) (n : ℕ) (r : Record) → record_of b n ≡ Some r → slots_at b n ≡ r.slots
slots-are b n r e = ap (λ (o : Option Record). option_map_or (λ (x : Record). x.slots) o []) e

-- what counts as little as the bound allows counts so with a turn less
settled : (b : Board) (n q : ℕ) → by_depth (depth_turn b) (λ x. 0) (suc n) q ≤ n
    → by_depth (depth_turn b) (λ x. 0) n q ≡ by_depth (depth_turn b) (λ x. 0) (suc n) q
settled b zero q low = omega (arith, low)
settled b (suc n) q low = go (bus_above b q) refl (settled b n)
  where
    go : (o : Option ℕ) → bus_above b q ≡ o
        → ((x : ℕ) → by_depth (depth_turn b) (λ y. 0) (suc n) x ≤ n → by_depth (depth_turn b) (λ y. 0) n x ≡ by_depth (depth_turn b) (λ y. 0) (suc n) x)
        → by_depth (depth_turn b) (λ x. 0) (suc n) q ≡ by_depth (depth_turn b) (λ x. 0) (suc (suc n)) q
    go None e rest = rw (depth_turn, e) refl
    go (Some above) e rest =
        let few : suc (by_depth (depth_turn b) (λ y. 0) (suc n) above) ≤ suc n = rw (depth_turn, e) at low in
        rw (depth_turn, e) (ap suc (rest above (omega (arith, few))))

opening-firm : WellFormed opening_board
opening-firm = (rest-from_sound opening_board (sound_kept_lem.run [], sound_kept_lem.run_aliases [])).used.firm

module _ (b : Board) (tree : SoundTree b) (shape : SoundShape b) (owners : SoundOwners b) (h : PlainPlaces b) where
  firm : WellFormed b
  firm = (rest-from_sound b tree).used.firm

  -- the machine's objects

  root-children : child_entries b ROOT_BIRTH ≡ root_entries
  unfolding opening_board types
  root-children = fixed-entries b ROOT_BIRTH shape.fixed.0

  machine-children : child_entries b MACHINE_BIRTH ≡ machine_entries
  unfolding opening_board types
  machine-children = fixed-entries b MACHINE_BIRTH shape.fixed.1.0

  root-has : (n : ℕ) → listed n root_entries ≡ true → listed n (child_entries b ROOT_BIRTH) ≡ true
  root-has n e = ap (listed n) root-children ∙ e

  machine-has : (n : ℕ) → listed n machine_entries ≡ true → listed n (child_entries b MACHINE_BIRTH) ≡ true
  machine-has n e = ap (listed n) machine-children ∙ e

  is-kind : (n : ℕ) (t : TypeId) (name : List ℕ) → kind_of b n ≡ Some t → is_of b name n ≡ is_a t name
  is-kind n t name e = ap (λ (o : Option TypeId). option_map_or (λ (k : TypeId). is_a k name) o false) e

  opened : (n : ℕ) (t : TypeId) (name : List ℕ) → kind_of opening_board n ≡ Some t → is_of b name n ≡ is_a t name
  opened n t name e = is-kind n t name (opening-kind b shape.opening n t e)

  rooted : IsRooted b
  unfolding opening_board types
  rooted =
      record {
        root = opening-kind b shape.opening ROOT_BIRTH Container refl;
        machine = ap (has_entry (codes "machine", MACHINE_BIRTH)) root-children;
        peripheral = ap (has_entry (codes "peripheral", PERIPHERAL_BIRTH)) machine-children;
        anonymous = ap (has_entry (codes "peripheral-anon", ANONYMOUS_BIRTH)) machine-children;
      }

  -- what stands in a container is a device, attached, and realized

  abbrev shelves : List ℕ
  shelves = PERIPHERAL_BIRTH ∷ ANONYMOUS_BIRTH ∷ []

  held-devices : (p : ℕ) → among shelves p ≡ true → AllByRecursion (λ (e : List ℕ × ℕ). is_of b (codes "device") e.1 ≡ true) (child_entries b p)
  held-devices p k =
      all-imply (λ (e : List ℕ × ℕ). listed e.1 (child_entries b p) ≡ true) (λ (e : List ℕ × ℕ). is_of b (codes "device") e.1 ≡ true)
      (λ e l. h.contained e.1 p (parent-is b firm p e.1 l) k) (child_entries b p) (each-listed (child_entries b p))

  device-stands : (d : ℕ) → stands b d ≡ true → is_of b (codes "device") d ≡ true
  device-stands d e =
      or-cases (listed d (child_entries b PERIPHERAL_BIRTH)) (listed d (child_entries b ANONYMOUS_BIRTH)) e
      (all-listed (λ x. is_of b (codes "device") x ≡ true) (child_entries b PERIPHERAL_BIRTH) (held-devices PERIPHERAL_BIRTH refl) d)
      (all-listed (λ x. is_of b (codes "device") x ≡ true) (child_entries b ANONYMOUS_BIRTH) (held-devices ANONYMOUS_BIRTH refl) d)

  root-attached : attached b ROOT_BIRTH ≡ true
  root-attached = paths_lem.attached_by_parent b tree.0 ROOT_BIRTH

  below-attached : (p x : ℕ) → listed x (child_entries b p) ≡ true → attached b p ≡ true → attached b x ≡ true
  below-attached p x e above = child-attached b tree.0 firm p x e above

  part-attached : (n : ℕ) → listed n machine_entries ≡ true → attached b n ≡ true
  part-attached n e = below-attached MACHINE_BIRTH n (machine-has n e) (below-attached ROOT_BIRTH MACHINE_BIRTH (root-has MACHINE_BIRTH refl) root-attached)

  stands-attached : (d : ℕ) → stands b d ≡ true → attached b d ≡ true
  stands-attached d e =
      or-cases (listed d (child_entries b PERIPHERAL_BIRTH)) (listed d (child_entries b ANONYMOUS_BIRTH)) e
      (λ l. below-attached PERIPHERAL_BIRTH d l (part-attached PERIPHERAL_BIRTH refl))
      (λ l. below-attached ANONYMOUS_BIRTH d l (part-attached ANONYMOUS_BIRTH refl))

  stands-realized : (d : ℕ) → stands b d ≡ true → is_realized b d ≡ true
  stands-realized d e = h.realized d ∙ rw (device-stands d e, stands-attached d e) refl

  stands-place : (d : ℕ) → stands b d ≡ true → HasPlace b d
  stands-place d e = h.each d (stands-realized d e)

  realized-stands : (d : ℕ) → is_realized b d ≡ true → stands b d ≡ true
  realized-stands d lit = go (h.each d lit).named
    where
      go : IsNamed b d → stands b d ≡ true
      go (by_id id its at) = stands-in b d PERIPHERAL_BIRTH (place-listed b firm d (PERIPHERAL_BIRTH, id) at) refl
      go (by_number n its low at) = stands-in b d ANONYMOUS_BIRTH (place-listed b firm d (ANONYMOUS_BIRTH, anonymous_name n) at) refl

  apart : (n : ℕ) → is_of b (codes "device") n ≡ false → stands b n ≡ false
  apart n other = decide (stands b n) (λ e. clash (sym (device-stands n e) ∙ other)) (λ e. e)

  root-apart : stands b ROOT_BIRTH ≡ false
  unfolding opening_board types
  root-apart = apart ROOT_BIRTH (opened ROOT_BIRTH Container (codes "device") refl)

  aside : AllByRecursion (λ n. stands b n ≡ false)
      (ROOT_BIRTH ∷ MACHINE_BIRTH ∷ PERIPHERAL_BIRTH ∷ ANONYMOUS_BIRTH ∷ ROOT_BUS_BIRTH ∷ MEMORY_BUS_BIRTH ∷ OBJECTS_BIRTH ∷ [])
  unfolding opening_board types
  aside = (
    root-apart,
    (
      apart MACHINE_BIRTH (opened MACHINE_BIRTH Machine (codes "device") refl),
      (
        apart PERIPHERAL_BIRTH (opened PERIPHERAL_BIRTH Container (codes "device") refl),
        (
          apart ANONYMOUS_BIRTH (opened ANONYMOUS_BIRTH Container (codes "device") refl),
          (
            apart ROOT_BUS_BIRTH (opened ROOT_BUS_BIRTH SlotBus (codes "device") refl),
            (
              apart MEMORY_BUS_BIRTH (opened MEMORY_BUS_BIRTH MemBus (codes "device") refl),
              (apart OBJECTS_BIRTH (opened OBJECTS_BIRTH Container (codes "device") refl), tt),
            ),
          ),
        ),
      ),
    ),
  )

  -- under which names

  not-root : (d : ℕ) → stands b d ≡ true → (d == 1) ≡ false
  not-root d e = decide (d == 1) (λ p. clash (sym e ∙ ap (stands b) (eqb-true d 1 p) ∙ root-apart)) (λ p. p)

  same-place : (d p q : ℕ) (name own : List ℕ) → place_of b d ≡ Some (p, name) → place_of b d ≡ Some (q, own) → (p ≡ q) × (name ≡ own)
  same-place d p q name own e k =
      let same : (p, name) ≡ (q, own) = same_Some (p, name) (q, own) (sym e ∙ k) in
      (ap (λ (u : ℕ × List ℕ). u.0) same, ap (λ (u : ℕ × List ℕ). u.1) same)

  is-peripheral : (e : List ℕ × ℕ) → has_entry e (child_entries b PERIPHERAL_BIRTH) ≡ true → IsPeripheral b e
  is-peripheral e l =
      record {
        device = device-stands e.1 stood;
        id = its (stands-place e.1 stood).named;
        path =
            (stands-place e.1 stood).path
            ∙ rw (not-root e.1 stood) (peripheral-steps b tree.0 firm rooted e.1 e.0 (not-root e.1 stood) l);
      }
    where
      at : place_of b e.1 ≡ Some (PERIPHERAL_BIRTH, e.0)
      at = place-named b firm PERIPHERAL_BIRTH e.1 e.0 l

      stood : stands b e.1 ≡ true
      stood = stands-in b e.1 PERIPHERAL_BIRTH (place-listed b firm e.1 (PERIPHERAL_BIRTH, e.0) at) refl

      its : IsNamed b e.1 → id_of b e.1 ≡ Some e.0
      its (by_id id own k) = own ∙ ap Some (same-place e.1 PERIPHERAL_BIRTH PERIPHERAL_BIRTH id e.0 k at).1
      its (by_number n own low k) =
          absurd (let other : ANONYMOUS_BIRTH ≡ PERIPHERAL_BIRTH = (same-place e.1 ANONYMOUS_BIRTH PERIPHERAL_BIRTH (anonymous_name n) e.0 k at).0 in cc)

  is-anonymous : (e : List ℕ × ℕ) → has_entry e (child_entries b ANONYMOUS_BIRTH) ≡ true → IsAnonymous b e
  is-anonymous e l = its (stands-place e.1 stood).named
    where
      at : place_of b e.1 ≡ Some (ANONYMOUS_BIRTH, e.0)
      at = place-named b firm ANONYMOUS_BIRTH e.1 e.0 l

      stood : stands b e.1 ≡ true
      stood = stands-in b e.1 ANONYMOUS_BIRTH (place-listed b firm e.1 (ANONYMOUS_BIRTH, e.0) at) refl

      its : IsNamed b e.1 → IsAnonymous b e
      its (by_id id own k) =
          absurd (let other : PERIPHERAL_BIRTH ≡ ANONYMOUS_BIRTH = (same-place e.1 PERIPHERAL_BIRTH ANONYMOUS_BIRTH id e.0 k at).0 in cc)
      its (by_number n own low k) =
          record {
            device = device-stands e.1 stood;
            id = own;
            path =
                (stands-place e.1 stood).path
                ∙ rw (not-root e.1 stood) (anonymous-steps b tree.0 firm rooted e.1 e.0 (not-root e.1 stood) l);
            numbered = (n, (low, sym (same-place e.1 ANONYMOUS_BIRTH ANONYMOUS_BIRTH (anonymous_name n) e.0 k at).1));
          }

  -- what is a child of which object

  neither : (p : ℕ) (e : List ℕ × ℕ) → is_of b (codes "bus") e.1 ≡ false → is_of b (codes "device") e.1 ≡ false → IsAtHome b p e
  neither p e no_bus no_device = record { bus = λ is. clash (sym is ∙ no_bus); device = λ is. clash (sym is ∙ no_device) }

  root-home : AllByRecursion (IsAtHome b ROOT_BIRTH) root_entries
  unfolding opening_board types
  root-home = (
    neither ROOT_BIRTH (codes "machine", MACHINE_BIRTH) (opened MACHINE_BIRTH Machine (codes "bus") refl) (opened MACHINE_BIRTH Machine (codes "device") refl),
    (
      neither ROOT_BIRTH (codes "objects", OBJECTS_BIRTH) (opened OBJECTS_BIRTH Container (codes "bus") refl)
          (opened OBJECTS_BIRTH Container (codes "device") refl),
      tt,
    ),
  )

  machine-home : AllByRecursion (IsAtHome b MACHINE_BIRTH) machine_entries
  unfolding opening_board types
  machine-home = (
    neither MACHINE_BIRTH (codes "peripheral", PERIPHERAL_BIRTH) (opened PERIPHERAL_BIRTH Container (codes "bus") refl)
        (opened PERIPHERAL_BIRTH Container (codes "device") refl),
    (
      neither MACHINE_BIRTH (codes "peripheral-anon", ANONYMOUS_BIRTH) (opened ANONYMOUS_BIRTH Container (codes "bus") refl)
          (opened ANONYMOUS_BIRTH Container (codes "device") refl),
      (
        neither MACHINE_BIRTH (codes "sysclk", SYSTEM_CLOCK_BIRTH) (opened SYSTEM_CLOCK_BIRTH Clock (codes "bus") refl)
            (opened SYSTEM_CLOCK_BIRTH Clock (codes "device") refl),
        (
          record { bus = λ is. on_machine refl; device = λ is. clash (sym is ∙ opened ROOT_BUS_BIRTH SlotBus (codes "device") refl) },
          (record { bus = λ is. on_machine refl; device = λ is. clash (sym is ∙ opened MEMORY_BUS_BIRTH MemBus (codes "device") refl) }, tt),
        ),
      ),
    ),
  )

  objects-home : AllByRecursion (IsAtHome b OBJECTS_BIRTH) (child_entries b OBJECTS_BIRTH)
  objects-home =
      all-imply (λ (e : List ℕ × ℕ). is_of b (codes "user-creatable") e.1 ≡ true) (IsAtHome b OBJECTS_BIRTH) at (child_entries b OBJECTS_BIRTH) owners.objects
    where
      at : (e : List ℕ × ℕ) → is_of b (codes "user-creatable") e.1 ≡ true → IsAtHome b OBJECTS_BIRTH e
      at e k = go (kind_of b e.1) refl
        where
          go : (o : Option TypeId) → kind_of b e.1 ≡ o → IsAtHome b OBJECTS_BIRTH e
          go None q = clash-back (rw q at k)
          go (Some t) q =
              let (no_bus, no_device) = created-apart t (sym (is-kind e.1 t (codes "user-creatable") q) ∙ k) in
              neither OBJECTS_BIRTH e (is-kind e.1 t (codes "bus") q ∙ no_bus) (is-kind e.1 t (codes "device") q ∙ no_device)

  shelf-home : (p : ℕ) → among shelves p ≡ true → AllByRecursion (IsAtHome b p) (child_entries b p)
  shelf-home p k =
      all-imply (λ (e : List ℕ × ℕ). is_of b (codes "device") e.1 ≡ true) (IsAtHome b p)
      (λ e is. record { bus = λ q. clash (sym q ∙ no-bus b e.1 is); device = λ q. k }) (child_entries b p) (held-devices p k)

  container-home : (p : ℕ) → kind_of b p ≡ Some Container → AllByRecursion (IsAtHome b p) (child_entries b p)
  container-home p e =
      among-all (λ n. AllByRecursion (IsAtHome b n) (child_entries b n)) containers (
        subst (AllByRecursion (IsAtHome b ROOT_BIRTH)) (sym root-children) root-home,
        (shelf-home PERIPHERAL_BIRTH refl, (shelf-home ANONYMOUS_BIRTH refl, (objects-home, tt))),
      )
      p (owners.shelves p e)

  machine-only : (p : ℕ) → kind_of b p ≡ Some Machine → AllByRecursion (IsAtHome b p) (child_entries b p)
  machine-only p e =
      subst (λ (n : ℕ). AllByRecursion (IsAtHome b n) (child_entries b n)) (sym (owners.lone p e))
      (subst (AllByRecursion (IsAtHome b MACHINE_BIRTH)) (sym machine-children) machine-home)

  -- a child of a row, and its type
  abbrev IsTypedRow : TypeId → List ℕ × ℕ → Type 0
  IsTypedRow t e = (k : IsRowChild t e.0) × (kind_of b e.1 ≡ Some k.kind)

  typed-rows : (p : ℕ) (t : TypeId) → kind_of b p ≡ Some t → ((t ≡ Container) ⊎ (t ≡ Machine)) ⊎ AllByRecursion (IsTypedRow t) (child_entries b p)
  typed-rows p t q = go (record_of b p) refl
    where
      by : (r : Record) → record_of b p ≡ Some r → ((t ≡ Container) ⊎ (t ≡ Machine)) ⊎ AllByRecursion (IsOfRow t) (slots_at b p)
          → ((t ≡ Container) ⊎ (t ≡ Machine)) ⊎ AllByRecursion (IsTypedRow t) (child_entries b p)
      by r e (inl k) = inl k
      by r e (inr rows) =
          inr
          (all-imply (λ (x : List ℕ × ℕ). IsRowChild t x.0 × HasChildType b t x) (IsTypedRow t) (λ x k. (k.0, k.1 k.0.kind k.0.row)) (child_entries b p)
          (all-both (λ (x : List ℕ × ℕ). IsRowChild t x.0) (HasChildType b t) (child_entries b p)
          (all-entries child_entry (IsOfRow t) (λ (x : List ℕ × ℕ). IsRowChild t x.0) (λ s x k l. k x l) (slots_at b p) rows) (shape.children p t q)))

      go : (o : Option Record) → record_of b p ≡ o → ((t ≡ Container) ⊎ (t ≡ Machine)) ⊎ AllByRecursion (IsTypedRow t) (child_entries b p)
      go None e = absurd (let none : None ≡ Some t = sym (ap (option_map (λ (r : Record). r.kind)) e) ∙ q in cc)
      go (Some r) e =
          let kind : r.kind ≡ t = same_Some r.kind t (sym (ap (option_map (λ (x : Record). x.kind)) e) ∙ q) in
          by r e
          (subst (λ (xs : List (List ℕ × Slot)). ((t ≡ Container) ⊎ (t ≡ Machine)) ⊎ AllByRecursion (IsOfRow t) xs) (sym (slots-are b p r e))
          (subst (λ (k : TypeId). ((k ≡ Container) ⊎ (k ≡ Machine)) ⊎ AllByRecursion (IsOfRow k) r.slots) kind
          (row-children r.kind (shape.shaped p r e).slots)))

  row-home : (p : ℕ) (t : TypeId) → kind_of b p ≡ Some t → (e : List ℕ × ℕ) → IsTypedRow t e → IsAtHome b p e
  row-home p t q e k =
      record {
        bus = λ is. decide (bytes_eq e.0 clock_name) (λ c. clash (sym is ∙ is-kind e.1 k.0.kind (codes "bus") k.1 ∙ k.0.clock c))
            (λ c. on_device (is-kind p t (codes "device") q ∙ (k.0.bus c).1) c);
        device = λ is. clash (sym is ∙ is-kind e.1 k.0.kind (codes "device") k.1 ∙ k.0.no_device);
      }

  children : (p : ℕ) → AllByRecursion (IsAtHome b p) (child_entries b p)
  children p = go (kind_of b p) refl
    where
      none : (o : Option Record) → record_of b p ≡ o → option_map (λ (r : Record). r.kind) o ≡ None → AllByRecursion (IsAtHome b p) (child_entries b p)
      none None e q = rw e tt
      none (Some r) e q = absurd (let clash : Some r.kind ≡ None = q in cc)

      by : (t : TypeId) → kind_of b p ≡ Some t → ((t ≡ Container) ⊎ (t ≡ Machine)) ⊎ AllByRecursion (IsTypedRow t) (child_entries b p)
          → AllByRecursion (IsAtHome b p) (child_entries b p)
      by t q (inl (inl is)) = container-home p (q ∙ ap Some is)
      by t q (inl (inr is)) = machine-only p (q ∙ ap Some is)
      by t q (inr rows) = all-imply (IsTypedRow t) (IsAtHome b p) (row-home p t q) (child_entries b p) rows

      go : (o : Option TypeId) → kind_of b p ≡ o → AllByRecursion (IsAtHome b p) (child_entries b p)
      go None q = none (record_of b p) refl q
      go (Some t) q = by t q (typed-rows p t q)

  -- an attached bus has an owner
  abbrev Hosts : ℕ → List ℕ × ℕ → Type 0
  Hosts p e = IsAtHome b p e × (bytes_eq e.0 clock_name ≡ false → owns b p e.1 ≡ true)

  hosted : (p q : ℕ) → listed q (child_entries b p) ≡ true → Entry (Hosts p) q (child_entries b p)
  hosted p q l =
      entry-of (Hosts p) q (child_entries b p)
      (all-both (IsAtHome b p) (λ (e : List ℕ × ℕ). bytes_eq e.0 clock_name ≡ false → owns b p e.1 ≡ true) (child_entries b p) (children p)
      (each-owned (child_entries b p))) l

  attached-stands : (d : ℕ) → is_of b (codes "device") d ≡ true → attached b d ≡ true → stands b d ≡ true
  attached-stands d device above = realized-stands d (h.realized d ∙ rw (device, above) refl)

  bus-owner : (q : ℕ) → is_of b (codes "bus") q ≡ true → attached b q ≡ true → HasOwner b q
  unfolding opening_board types
  bus-owner q is home = go (q == ROOT_BIRTH) refl (place_of b q) refl
    where
      turn : attached_turn b (attached b) q ≡ true
      turn = sym (paths_lem.attached_by_parent b tree.0 q) ∙ home

      owner : (p : ℕ) → attached b p ≡ true → Entry (Hosts p) q (child_entries b p) → HasOwner b q
      owner p above k = by (k.holds.0.bus is)
        where
          by : IsHosted b p (k.name, q) → HasOwner b q
          by (on_machine own) = machines own
          by (on_device device apart) = bridges p (attached-stands p device above) (k.holds.1 apart)

      go : (t : Bool) → (q == ROOT_BIRTH) ≡ t → (o : Option (ℕ × List ℕ)) → place_of b q ≡ o → HasOwner b q
      go true p o k =
          clash (sym is ∙ ap (is_of b (codes "bus")) (eqb-true q ROOT_BIRTH p) ∙ opened ROOT_BIRTH Container (codes "bus") refl)
      go false p None k = clash-back (rw (attached_turn, p, k) at turn)
      go false p (Some u) k = owner u.0 (rw (attached_turn, p, k) at turn) (hosted u.0 q (place-listed b firm q u k))

  -- and what has an owner is an attached bus
  owner-bus : (q : ℕ) → HasOwner b q → is_of b (codes "bus") q ≡ true
  unfolding opening_board types
  owner-bus q (machines k) =
      among-all (λ n. is_of b (codes "bus") n ≡ true) (ROOT_BUS_BIRTH ∷ MEMORY_BUS_BIRTH ∷ [])
      (opened ROOT_BUS_BIRTH SlotBus (codes "bus") refl, (opened MEMORY_BUS_BIRTH MemBus (codes "bus") refl, tt)) q k
  owner-bus q (bridges p s o) = go (kind_of b p) refl
    where
      device : is_of b (codes "device") p ≡ true
      device = device-stands p s

      by : (t : TypeId) → kind_of b p ≡ Some t → ((t ≡ Container) ⊎ (t ≡ Machine)) ⊎ AllByRecursion (IsTypedRow t) (child_entries b p)
          → is_of b (codes "bus") q ≡ true
      by t e (inl (inl is)) = clash (sym device ∙ is-kind p Container (codes "device") (e ∙ ap Some is))
      by t e (inl (inr is)) = clash (sym device ∙ is-kind p Machine (codes "device") (e ∙ ap Some is))
      by t e (inr rows) =
          owned-has (λ n. is_of b (codes "bus") n ≡ true) q (child_entries b p)
          (all-imply (IsTypedRow t) (λ (x : List ℕ × ℕ). bytes_eq x.0 clock_name ≡ false → is_of b (codes "bus") x.1 ≡ true)
          (λ x k c. is-kind x.1 k.0.kind (codes "bus") k.1 ∙ (k.0.bus c).0) (child_entries b p) rows) o

      go : (m : Option TypeId) → kind_of b p ≡ m → is_of b (codes "bus") q ≡ true
      go None e = clash-back (rw e at device)
      go (Some t) e = by t e (typed-rows p t e)

  owner-attached : (q : ℕ) → HasOwner b q → attached b q ≡ true
  owner-attached q (machines k) =
      among-all (λ n. attached b n ≡ true) (ROOT_BUS_BIRTH ∷ MEMORY_BUS_BIRTH ∷ [])
      (part-attached ROOT_BUS_BIRTH refl, (part-attached MEMORY_BUS_BIRTH refl, tt)) q k
  owner-attached q (bridges p s o) = below-attached p q (owns-listed q (child_entries b p) o) (stands-attached p s)

  -- devices on buses

  kid-stands : (q : ℕ) → is_of b (codes "bus") q ≡ true → (r : Record) → record_of b q ≡ Some r → (s : List ℕ × Slot) (e : List ℕ × ℕ)
      → (named_in s.0 r.slots ≡ Some s.1) × IsKidSlot s → kid_entry s ≡ Some e → IsKid b q e
  kid-stands q is r at s e k l =
      let (name, target) = kid-is s e l in
      let (n, (low, own)) = k.1 e l in
      let there : option_and_then strong_in (named_in (kid_name n) (slots_at b q)) ≡ Some e.1 =
      ap (λ (xs : List (List ℕ × Slot)). option_and_then strong_in (named_in (kid_name n) xs)) (slots-are b q r at)
      ∙ ap (λ (x : List ℕ). option_and_then strong_in (named_in x r.slots)) (sym own) ∙ ap (option_and_then strong_in) k.0 ∙ target in
      let (lit, (on, place)) = h.kids q n e.1 is there in
      let its : IsOnBus b e.1 = (h.each e.1 lit).on in
      record {
        there = realized-stands e.1 lit;
        on = on;
        fits = ap (λ (m : ℕ). suits b m e.1) (sym (same_Some its.bus q (sym its.on ∙ on))) ∙ its.fits;
        slot = (n, (low, (place, sym name ∙ own)));
      }

  kids : (q : ℕ) → is_of b (codes "bus") q ≡ true → AllByRecursion (IsKid b q) (kid_entries b q)
  kids q is = go (record_of b q) refl
    where
      go : (o : Option Record) → record_of b q ≡ o → AllByRecursion (IsKid b q) (kid_entries b q)
      go None e = clash-back (rw e at is)
      go (Some r) e =
          let bus : is_a r.kind (codes "bus") ≡ true = sym (is-kind q r.kind (codes "bus") (ap (option_map (λ (x : Record). x.kind)) e)) ∙ is in
          subst (λ (xs : List (List ℕ × Slot)). AllByRecursion (IsKid b q) (filter_map kid_entry xs)) (sym (slots-are b q r e))
          (all-entries kid_entry (λ (s : List ℕ × Slot). (named_in s.0 r.slots ≡ Some s.1) × IsKidSlot s) (IsKid b q) (kid-stands q is r e) r.slots
          (all-both (λ (s : List ℕ × Slot). named_in s.0 r.slots ≡ Some s.1) IsKidSlot r.slots (each-named r.slots (names-at b firm q r e))
          (kid-slots r.kind bus (shape.shaped q r e).slots)))

  home : (d : ℕ) → stands b d ≡ true → IsHome b d
  home d e =
      let its : IsOnBus b d = (stands-place d e).on in
      record {
        bus = its.bus;
        on = its.on;
        is_bus = its.is_bus;
        kid =
            kid-has (λ (x : List ℕ × ℕ). listed x.1 (kid_entries b its.bus) ≡ true) (kid_name its.slot) d (slots_at b its.bus)
            (each-listed (kid_entries b its.bus)) its.there;
      }

  -- the bus that a device is on
  its-bus : (d q : ℕ) → stands b d ≡ true → bus_of b d ≡ Some q → (is_of b (codes "bus") q ≡ true) × (attached b q ≡ true)
  its-bus d q e on =
      let its : IsOnBus b d = (stands-place d e).on in
      let same : its.bus ≡ q = same_Some its.bus q (sym its.on ∙ on) in
      (subst (λ (m : ℕ). is_of b (codes "bus") m ≡ true) same its.is_bus, subst (λ (m : ℕ). attached b m ≡ true) same its.home)

  owner : (d q : ℕ) → stands b d ≡ true → bus_of b d ≡ Some q → HasOwner b q
  owner d q e on = let (is, above) = its-bus d q e on in bus-owner q is above

  -- how deep buses are

  room : 8 ≤ length (births b)
  unfolding opening_board types
  room =
      rises-room (births b) (births opening_board) firm.rising opening-firm.rising
      (all-map (λ (r : Record). is_live b r.birth ≡ true) (λ n. among (births b) n ≡ true) (λ (r : Record). r.birth)
      (λ r e. sym (live-among b r.birth) ∙ e) opening_board.records (shape-live b shape))

  bridge-is : (p m : ℕ) → listed m (child_entries b p) ≡ true → bridge_of b m ≡ (if is_of b (codes "device") p then Some p else None)
  bridge-is p m l = ap (option_and_then (λ x. if is_of b (codes "device") x then Some x else None)) (parent-is b firm p m l)

  top : (q : ℕ) → listed q machine_entries ≡ true → depth_of b q ≡ 0
  unfolding depth_of opening_board types
  top q e = rw (depth_turn, none) refl
    where
      none : bus_above b q ≡ None
      none =
          ap (option_and_then (bus_of b))
          (bridge-is MACHINE_BIRTH q (machine-has q e)
          ∙ ap (λ (t : Bool). if t then Some MACHINE_BIRTH else None) (opened MACHINE_BIRTH Machine (codes "device") refl))

  below : (p q m : ℕ) → stands b p ≡ true → bus_of b p ≡ Some q → owns b p m ≡ true → depth_of b m ≡ suc (depth_of b q)
  unfolding depth_of
  below p q m s on o =
      let (is, home) = its-bus p q s on in
      let few : depth_of b q ≤ 8 = h.depth q is home in
      rw (depth_turn, above) (ap suc (settled b (length (births b)) q (omega (arith, few, room))))
    where
      above : bus_above b m ≡ Some q
      above =
          ap (option_and_then (bus_of b))
          (bridge-is p m (owns-listed m (child_entries b p) o) ∙ ap (λ (t : Bool). if t then Some p else None) (device-stands p s))
          ∙ on

  pub places-are : SoundPlaces b
  places-are = (
    depth_of b,
    record {
      machine = root-has MACHINE_BIRTH refl;
      objects = root-has OBJECTS_BIRTH refl;
      parts = (
        machine-has PERIPHERAL_BIRTH refl,
        (
          machine-has ANONYMOUS_BIRTH refl,
          (machine-has ROOT_BUS_BIRTH refl, (machine-has MEMORY_BUS_BIRTH refl, (machine-has SYSTEM_CLOCK_BIRTH refl, tt))),
        ),
      );
      rooted = rooted;
      children = children;
      aside = aside;
      peripheral =
          all-imply (λ (e : List ℕ × ℕ). has_entry e (child_entries b PERIPHERAL_BIRTH) ≡ true) (IsPeripheral b) is-peripheral
          (child_entries b PERIPHERAL_BIRTH) (each-entry (child_entries b PERIPHERAL_BIRTH));
      anonymous =
          all-imply (λ (e : List ℕ × ℕ). has_entry e (child_entries b ANONYMOUS_BIRTH) ≡ true) (IsAnonymous b) is-anonymous
          (child_entries b ANONYMOUS_BIRTH) (each-entry (child_entries b ANONYMOUS_BIRTH));
      kids = kids;
      home = λ d e away. home d e;
      owner = owner;
      shallow =
          record {
            top = (top ROOT_BUS_BIRTH refl, (top MEMORY_BUS_BIRTH refl, tt));
            below = below;
            most = λ q o. h.depth q (owner-bus q o) (owner-attached q o);
          };
      only = realized-stands;
      each = λ d e out. stands-realized d e;
      ids = h.ids;
      once = h.once;
    },
  )

pub places_lem : PlacesLaw
places_lem = record { says = places-say; is = places-are }
