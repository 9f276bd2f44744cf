-- What stands in `/objects` is of a type of objects that a user creates: what keeps it so.
use Rattle.std.proofs.Common.{◌≡◌, refl, ap, sym, subst, ◌∙◌, rules, ℕ, ◌+◌, ◌==◌, true, false, List, [], ◌∷◌, ◌++◌, filter_map, map, length, codes, arith, Option, Some, None, is_some, option_map}
use Rattle.qo_model.proofs.Common.{⊤, AllByRecursion, option_map_or, option_or, bytes_eq, Registers, fresh_registers, OBJECTS_BIRTH, Code, Act, TypeId, Val, Board, Record, child, is_live, kind_of, record_of, slots_at, with_added, acted, after_write, Change, added, changed, deleted, severed, wrote, Given, added_as, given_slots, object_del, sever, severed_from, with_attempt, with_object, opening_board, is_of, Wanted, plug, plug_attempt, resources_of, with_plugged, write, edited, let_go, pin, unpin, is_a, types, detach, set_named, unrealize}
use Rattle.std.proofs.lemmas.Bool.{eq-eqb}
use Rattle.qo_model.proofs.ComesToLemmas.{addition-comes, deletion-comes, sever-comes, severed-comes}
use Rattle.qo_model.proofs.StepLemmas.{found_at, found-edited, found-birth}
use Rattle.qo_sound.proofs.AddLemmas.{creatable}
use Rattle.qo_sound.proofs.DraftLemmas.{absent-above}
use Rattle.qo_sound.proofs.FirmBoardLemmas.{edited-kind, WellFormed}
use Rattle.qo_sound.proofs.SearchLemmas.{found-append}
use Rattle.qo_sound.proofs.RecordLemmas.{all-append, all-both}
use Rattle.qo_values.proofs.ListLemmas.{all-imply}
use Rattle.qo_sound.proofs.TestLemmas.{decide}
use Rattle.qo_sound.proofs.ViewLemmas.{PinsRootAlone, rest-from_sound}
use Rattle.qo_sound_clocks.specs.RegisterWrites.{registers_set, with_registers}
use Rattle.qo_sound_devices.specs.SoundDevices.{SoundDevices}
use Rattle.qo_sound_devices.specs.SoundPlaces.{child_entries, child_entry}
use Rattle.qo_sound_devices.proofs.AddLemmas.{entry-added}
use Rattle.qo_sound_devices.proofs.DevicesLawLemmas.{devices_kept_lem}
use Rattle.qo_sound_devices.proofs.AdditionLemmas.{done, Joined}
use Rattle.qo_sound_devices.proofs.PinLemmas.{pin-kind, pin-children}
use Rattle.qo_sound_devices.proofs.PlacesLemmas.{all-within, child-live, children-there, IsThere, kind-alike, linked-at, nothing, Within, within-all, within-same}
use Rattle.qo_sound_devices.proofs.PlugLemmas.{Accepted, after-plug}
use Rattle.qo_sound_devices.proofs.PlugStageLemmas.{accepted-joined}
use Rattle.qo_sound_devices.proofs.UnrealizingLemmas.{FewerRealized, dims-acted, dims-set}
use Rattle.qo_sound_phases.proofs.UnparentingLemmas.{Keeps, Walked, walked-let_go, walked-none, walked-pin, walked-unpin}
use Rattle.qo_sound_phases.proofs.DetachmentLemmas.{walked}
use Rattle.qo_sound_devices.proofs.DetachmentLemmas.{dims}
use Rattle.qo_sound_phases.proofs.FixedObjectLemmas.{Fixed, fixed-write}
use Rattle.qo_sound_shapes.proofs.CompletenessLemmas.{edit-read}

abbrev pub IsCreatable : Board → List ℕ × ℕ → Type 0
IsCreatable b e = is_of b (codes "user-creatable") e.1 ≡ true

abbrev pub Creatable : Board → Type 0
Creatable b = AllByRecursion (IsCreatable b) (child_entries b OBJECTS_BIRTH)

of-kind : (b c : Board) (name : List ℕ) (x : ℕ) → kind_of c x ≡ kind_of b x → is_of c name x ≡ is_of b name x
of-kind b c name x e = ap (λ (o : Option TypeId). option_map_or (λ (t : TypeId). is_a t name) o false) e

-- the same types and children
pub creatable-same : (b c : Board) → ((x : ℕ) → kind_of c x ≡ kind_of b x) → child_entries c OBJECTS_BIRTH ≡ child_entries b OBJECTS_BIRTH → Creatable b
    → Creatable c
creatable-same b c kinds children h =
    subst (AllByRecursion (IsCreatable c)) (sym children)
    (all-imply (IsCreatable b) (IsCreatable c) (λ e k. of-kind b c (codes "user-creatable") e.1 (kinds e.1) ∙ k) (child_entries b OBJECTS_BIRTH) h)

-- what changes no object, and what leaves types and children
pub creatable-beside : (b c : Board) → c.records ≡ b.records → Creatable b → Creatable c
creatable-beside b c e h =
    creatable-same b c (λ x. ap (λ (rs : List Record). option_map (λ (r : Record). r.kind) (found_at x rs)) e)
    (ap (λ (rs : List Record). filter_map child_entry (option_map_or (λ (r : Record). r.slots) (found_at OBJECTS_BIRTH rs) [])) e) h

creatable-dimmed : (b c : Board) → FewerRealized b c → Creatable b → Creatable c
creatable-dimmed b c dims h = creatable-same b c (λ x. kind-alike b c x (dims.body x)) (dims.children OBJECTS_BIRTH) h

pub creatable-acted : (act : Act) (n period : ℕ) (b : Board) → Creatable b → Creatable (acted act n period b)
creatable-acted act n period b h = creatable-dimmed b (acted act n period b) (dims-acted act n period b).dimmed h

pub creatable-set : (n : ℕ) (name : List ℕ) (v : Val) → bytes_eq name (codes "slot") ≡ false → bytes_eq name (codes "realized") ≡ false → (b : Board)
    → Creatable b → Creatable (set_named n name v b)
creatable-set n name v slot mark b h = creatable-dimmed b (set_named n name v b) (dims-set n name v slot mark b).dimmed h

pub creatable-registers : (b : Board) (n : ℕ) (registers : Registers) → Creatable b → Creatable (registers_set b n registers)
creatable-registers b n registers h =
    creatable-same b (registers_set b n registers) (edited-kind n (with_registers registers) (λ r. refl) (λ r. refl) b)
    (edit-read (filter_map child_entry) n (with_registers registers) (λ r. refl) (λ r. refl) b OBJECTS_BIRTH) h

-- no more children, of the same types
record Thin (b c : Board) : Type 0 where
  kind : (x : ℕ) → is_live c x ≡ true → kind_of c x ≡ kind_of b x
  children : Within (child_entries c OBJECTS_BIRTH) (child_entries b OBJECTS_BIRTH)

thin-none : (b : Board) → Thin b b
thin-none b = record { kind = λ x e. refl; children = within-all (child_entries b OBJECTS_BIRTH) }

creatable-thin : (b c : Board) → WellFormed c → Thin b c → Creatable b → Creatable c
creatable-thin b c firm thin h =
    all-imply (λ (e : List ℕ × ℕ). IsThere c e × IsCreatable b e) (IsCreatable c)
    (λ e k. of-kind b c (codes "user-creatable") e.1 (thin.kind e.1 k.0) ∙ k.1) (child_entries c OBJECTS_BIRTH)
    (all-both (IsThere c) (IsCreatable b) (child_entries c OBJECTS_BIRTH) (children-there c (slots_at c OBJECTS_BIRTH) (linked-at c firm OBJECTS_BIRTH))
    (all-within (IsCreatable b) thin.children h))

-- the same children, where what was there keeps its type
pub creatable-grown : (b c : Board) → WellFormed b → ((x : ℕ) → is_live b x ≡ true → kind_of c x ≡ kind_of b x)
    → AllByRecursion (IsCreatable b) (child_entries b OBJECTS_BIRTH) → AllByRecursion (IsCreatable c) (child_entries b OBJECTS_BIRTH)
creatable-grown b c firm kinds h =
    all-imply (λ (e : List ℕ × ℕ). IsThere b e × IsCreatable b e) (IsCreatable c)
    (λ e k. of-kind b c (codes "user-creatable") e.1 (kinds e.1 k.0) ∙ k.1) (child_entries b OBJECTS_BIRTH)
    (all-both (IsThere b) (IsCreatable b) (child_entries b OBJECTS_BIRTH) (children-there b (slots_at b OBJECTS_BIRTH) (linked-at b firm OBJECTS_BIRTH)) h)

pub firm-devices : (b : Board) → SoundDevices b → WellFormed b
firm-devices b h = (rest-from_sound b h.tree).used.firm

-- where some children were taken away
Nobody : ℕ → Type 0
Nobody x = ⊥

none-stays : (x : ℕ) → Nobody x → ⊥
unfolding Nobody
none-stays x h = h

thin-walked : (Stays : ℕ → Type 0) (b c : Board) → Walked b Stays c → Thin b c
thin-walked Stays b c h = record { kind = λ x e. (h.kin x e).1; children = h.children OBJECTS_BIRTH }

-- `object-del`
thin-deleted : (b : Board) (id : List ℕ) → Thin b (object_del b id).board
thin-deleted b id = deletion-comes (Thin b) b id (thin-none b) (λ i e.
    thin-walked Nobody b (let_go b OBJECTS_BIRTH i) (walked-let_go b Nobody OBJECTS_BIRTH i (none-stays OBJECTS_BIRTH) b (walked-none b Nobody)))

-- `x-sever`
walked-severed : (b : Board) (places i n : ℕ) (c : Board) → Walked b Nobody c → Walked b Nobody (severed_from places i n c)
walked-severed b places i n c h = severed-comes (Walked b Nobody) n (λ d j t target e k. walked-let_go b Nobody n j (none-stays n) d k) places i c h

thin-severed : (b : Board) (n : ℕ) → Thin b (sever b n).board
thin-severed b n =
    sever-comes (Thin b) b n (thin-none b) (λ there away.
    thin-walked Nobody b (unpin (severed_from (length (slots_at b n)) 0 n (pin b n)) n)
    (walked-unpin b Nobody n (severed_from (length (slots_at b n)) 0 n (pin b n))
    (walked-severed b (length (slots_at b n)) 0 n (pin b n) (walked-pin b Nobody n b (walked-none b Nobody)))))

-- `qom-set`
thin-wrote : (b : Board) → WellFormed b → (n : ℕ) (name : List ℕ) (v : Val) → Thin b (after_write b (write b n name v))
thin-wrote b firm n name v = record { kind = λ x e. (fixed x tt e).kind; children = go (record_of c OBJECTS_BIRTH) refl }
  where
    c : Board
    c = after_write b (write b n name v)

    fixed : Fixed (λ x. ⊤) b (after_write b (write b n name v))
    fixed = fixed-write (λ x. ⊤) b firm n name v

    go : (o : Option Record) → record_of c OBJECTS_BIRTH ≡ o → Within (child_entries c OBJECTS_BIRTH) (child_entries b OBJECTS_BIRTH)
    go None e =
        subst (λ (xs : List (List ℕ × ℕ)). Within xs (child_entries b OBJECTS_BIRTH))
        (sym (ap (λ (o : Option Record). filter_map child_entry (option_map_or (λ (r : Record). r.slots) o [])) e)) (nothing (child_entries b OBJECTS_BIRTH))
    go (Some r) e = within-same (fixed OBJECTS_BIRTH tt (ap is_some e)).children

pub creatable-deleted : (b : Board) (id : List ℕ) → WellFormed (object_del b id).board → Creatable b → Creatable (object_del b id).board
creatable-deleted b id firm h = creatable-thin b (object_del b id).board firm (thin-deleted b id) h

pub creatable-severed : (b : Board) (n : ℕ) → WellFormed (sever b n).board → Creatable b → Creatable (sever b n).board
creatable-severed b n firm h = creatable-thin b (sever b n).board firm (thin-severed b n) h

pub creatable-wrote : (b : Board) (n : ℕ) (name : List ℕ) (v : Val) → WellFormed b → WellFormed (after_write b (write b n name v)) → Creatable b
    → Creatable (after_write b (write b n name v))
creatable-wrote b n name v firm after h = creatable-thin b (after_write b (write b n name v)) after (thin-wrote b firm n name v) h

-- a device that is detached
module _ (b : Board) (d : ℕ) where
  pub creatable-detach : WellFormed (detach b d) → Creatable b → Creatable (detach b d)
  creatable-detach firm h =
      creatable-thin (unrealize (pin b d) d) (detach b d) firm
      (thin-walked (Keeps (pin b d) (unrealize (pin b d) d) (dims b d) d) (unrealize (pin b d) d) (detach b d) (walked b d))
      (creatable-same b (unrealize (pin b d) d) (λ x. kind-alike (pin b d) (unrealize (pin b d) d) x ((dims b d).body x) ∙ pin-kind b d x)
      ((dims b d).children OBJECTS_BIRTH ∙ pin-children b d OBJECTS_BIRTH) h)

-- a device that is added
pub creatable-with_plugged : (b : Board) (a : Wanted) (t : TypeId) (bus : ℕ) → SoundDevices b → Accepted b t bus a → Creatable b
    → Creatable (with_plugged b t a (resources_of b t bus a.props))
creatable-with_plugged b a t bus devices k h =
    subst (AllByRecursion (IsCreatable c)) (sym (joined.children OBJECTS_BIRTH (child-live b rest.used.firm 1 OBJECTS_BIRTH devices.places.1.objects) refl))
    (creatable-grown b c rest.used.firm (λ x e. kind-alike b c x (joined.body x e)) h)
  where
    c : Board
    c = with_plugged b t a (resources_of b t bus a.props)

    rest : PinsRootAlone b
    rest = rest-from_sound b devices.tree

    joined : Joined devices.places.0 b (b.born + 1) bus (resources_of b t bus a.props).slot a.id t (done b bus (resources_of b t bus a.props).slot a.id)
        (with_plugged b t a (resources_of b t bus a.props))
    joined = accepted-joined devices.places.0 b a rest devices.places.1 t bus k

-- `object-add`
module _ (b : Board) (t : TypeId) (id : List ℕ) (props : List Given) where
  abbrev c : Board
  c = with_object b t id props

  abbrev new : Record
  new = record { birth = b.born + 1; kind = t; slots = given_slots b t props; registers = fresh_registers t; device_id = None; kept_path = None }

  abbrev change : Record → Record
  change = with_added id (child (b.born + 1))

  found : (x : ℕ) → record_of (with_object b t id props) x ≡ option_or (option_map (edited OBJECTS_BIRTH change) (record_of b x)) (found_at x (new ∷ []))
  found x =
      found-append x (map (edited OBJECTS_BIRTH change) b.records) (new ∷ [])
      ∙ ap (λ (o : Option Record). option_or o (found_at x (new ∷ []))) (found-edited OBJECTS_BIRTH change (λ y. refl) x b.records)

  old : (x : ℕ) (y : Record) → record_of b x ≡ Some y → record_of (with_object b t id props) x ≡ Some (edited OBJECTS_BIRTH change y)
  old x y e = found x ∙ ap (λ (o : Option Record). option_or (option_map (edited OBJECTS_BIRTH change) o) (found_at x (new ∷ []))) e

  none-old : (x : ℕ) → record_of b x ≡ None → record_of (with_object b t id props) x ≡ found_at x (new ∷ [])
  none-old x e = found x ∙ ap (λ (o : Option Record). option_or (option_map (edited OBJECTS_BIRTH change) o) (found_at x (new ∷ []))) e

  kind-edited : (y : Record) → (edited OBJECTS_BIRTH change y).kind ≡ y.kind
  kind-edited y = decide (y.birth == OBJECTS_BIRTH) (λ p. rw (edited, p) refl) (λ p. rw (edited, p) refl)

  kind-old : (x : ℕ) → is_live b x ≡ true → kind_of (with_object b t id props) x ≡ kind_of b x
  kind-old x live = go (record_of b x) refl
    where
      go : (o : Option Record) → record_of b x ≡ o → kind_of (with_object b t id props) x ≡ kind_of b x
      go None e = absurd (let clash : false ≡ true = sym (ap is_some e) ∙ live in cc)
      go (Some y) e =
          ap (option_map (λ (r : Record). r.kind)) (old x y e) ∙ ap Some (kind-edited y) ∙ sym (ap (option_map (λ (r : Record). r.kind)) e)

  kind-new : record_of b (b.born + 1) ≡ None → kind_of (with_object b t id props) (b.born + 1) ≡ Some t
  kind-new e =
      let own : (new.birth == b.born + 1) ≡ true = eq-eqb (b.born + 1) (b.born + 1) refl in
      let its : found_at (b.born + 1) (new ∷ []) ≡ Some new = rw own refl in
      ap (option_map (λ (r : Record). r.kind)) (none-old (b.born + 1) e ∙ its)

  pub creatable-object : WellFormed b → is_live b OBJECTS_BIRTH ≡ true → is_a t (codes "user-creatable") ≡ true → Creatable b
      → Creatable (with_object b t id props)
  creatable-object firm live its h = go (record_of b OBJECTS_BIRTH) refl
    where
      go : (o : Option Record) → record_of b OBJECTS_BIRTH ≡ o → Creatable (with_object b t id props)
      go None e = absurd (let clash : false ≡ true = sym (ap is_some e) ∙ live in cc)
      go (Some y) e =
          subst (AllByRecursion (IsCreatable c)) (sym entries)
          (all-append (IsCreatable c) (child_entries b OBJECTS_BIRTH) ((id, b.born + 1) ∷ []) (creatable-grown b c firm kind-old h) (one, tt))
        where
          own : (y.birth == OBJECTS_BIRTH) ≡ true
          own = eq-eqb y.birth OBJECTS_BIRTH (found-birth OBJECTS_BIRTH b.records y e)

          now : record_of (with_object b t id props) OBJECTS_BIRTH ≡ Some (change y)
          now = old OBJECTS_BIRTH y e ∙ rw (edited, own) refl

          entries : child_entries (with_object b t id props) OBJECTS_BIRTH ≡ child_entries b OBJECTS_BIRTH ++ (id, b.born + 1) ∷ []
          entries =
              ap (λ (o : Option Record). filter_map child_entry (option_map_or (λ (r : Record). r.slots) o [])) now
              ∙ entry-added child_entry (id, child (b.born + 1)) (id, b.born + 1) refl y.slots
              ∙ sym (ap (λ (o : Option Record). filter_map child_entry (option_map_or (λ (r : Record). r.slots) o []) ++ (id, b.born + 1) ∷ []) e)

          one : IsCreatable (with_object b t id props) (id, b.born + 1)
          one =
              ap (λ (o : Option TypeId). option_map_or (λ (k : TypeId). is_a k (codes "user-creatable")) o false)
              (kind-new (absent-above b firm (b.born + 1) (omega arith))) ∙ its

-- each change by command on objects
creatable-added : (b : Board) (t : TypeId) (id : List ℕ) (props : List Given) (o : Option Code) → WellFormed b → is_live b OBJECTS_BIRTH ≡ true
    → is_a t (codes "user-creatable") ≡ true → Creatable b → Creatable (added_as b t id props o).board
creatable-added b t id props None firm live its h = creatable-object b t id props firm live its h
creatable-added b t id props (Some code) firm live its h = creatable-beside b (with_attempt b t) refl h

pub creatable-changed : (b : Board) (change : Change) → SoundDevices b → Creatable b → Creatable (changed b change)
creatable-changed b (deleted id) devices h =
    creatable-deleted b id (firm-devices (object_del b id).board (devices_kept_lem.change b (deleted id) devices)) h
creatable-changed b (wrote n name v) devices h =
    creatable-wrote b n name v (firm-devices b devices)
    (firm-devices (after_write b (write b n name v)) (devices_kept_lem.change b (wrote n name v) devices)) h
creatable-changed b (severed n) devices h =
    creatable-severed b n (firm-devices (sever b n).board (devices_kept_lem.change b (severed n) devices)) h
creatable-changed b (added driver id props) devices h = addition-comes Creatable b driver id props h (λ row e o is.
    let live : is_live b OBJECTS_BIRTH ≡ true = child-live b (firm-devices b devices) 1 OBJECTS_BIRTH devices.places.1.objects in
    creatable-added b row.id id props o (firm-devices b devices) live (creatable b row id e) h)

-- adding a device
pub creatable-plug : (b : Board) (a : Wanted) → SoundDevices b → Creatable b → Creatable (plug b a).board
creatable-plug b a devices h =
    after-plug Creatable b a h (λ t bus stage. creatable-beside b (plug_attempt b t bus stage) refl h)
    (λ t bus k. creatable-with_plugged b a t bus devices k h)

-- the opening board
pub creatable-opening : Creatable opening_board
unfolding opening_board types
creatable-opening = search rules
