-- Adding a device keeps a board at rest, taken or refused, and so does an attempt that was cut.
use Rattle.std.proofs.Common.{rules, nat_eq, ◌≡◌, refl, ap, sym, subst, ◌∙◌, ℕ, suc, ◌+◌, ◌<◌, ◌≤◌, Bool, true, false, not, ◌==◌, List, [], ◌∷◌, filter, take, length, codes, Option, Some, None, is_some, option_map, arith}
use Rattle.qo_model.proofs.Common.{nat_lt, if◌then◌else◌, ◌||◌, list_any, option_map_or, option_or, bytes_eq, least, Code, E15, E21, E22, E24, E26, E27, E28, E29, E30, Act, Realize, Enter, Hold, Exit, TypeId, Device, BUS_SLOTS, Range, Board, Record, Slot, child, strong, record_of, kind_of, add, with_added, leads, Leads, one, more, is_going, kid_name, has_slot, refusal_of, attached, canonical, children_of, is_of, Resources, Wanted, acted_all, addressed_at, at_stage, barred_early, barred_late, born_from, bus_barred, bus_births, bus_for, bus_type, code_in, container_barred, counted, cut_attempt, cut_order, device_last, drafted, id_barred, id_refused, is_free, joined, kind_barred, name_for, notice_barred, number_for, ok_or_zero, parent_for, passed_notes, place_barred, plug, plug_as, plug_attempt, plug_by, plug_late, realize_barred, room_barred, bus_slot_for, resources_of, stood, notified_plug, type_barred, types_in, valued, with_body_of, with_device, with_ended, with_given, with_path, with_plugged, with_source, edit, is_not_in_reset, phased, plugged, post, is_open, TypeInfo, is_a, type_named, types, slots_of}
use Rattle.qo_model.specs.declared.notes.Note.{Note}
use Rattle.std.proofs.lemmas.Bool.{eqb-true, not-false, not-true}
use Rattle.std.proofs.lemmas.Option.{same_Some}
use Rattle.qo_values.proofs.PlacingLemmas.{least-passes}
use Rattle.qo_values.specs.declared.properties.Val.TheVariants as val
use Rattle.qo_values.proofs.EachLemmas.{each}
use Rattle.qo_model.specs.Plug.{first_of}
use Rattle.qo_sound.proofs.FirmBoardLemmas.{WellFormed, edited-kinds, firm-born, firm-beside}
use Rattle.qo_sound.proofs.ChildSlotLemmas.{IsNameless, named-near}
use Rattle.qo_sound.proofs.WorkLemmas.{InvariantBut}
use Rattle.qo_sound.proofs.ViewLemmas.{PinsRootAlone}
use Rattle.qo_sound.proofs.AddLemmas.{name-free, unbarred}
use Rattle.qo_sound.proofs.SlotGrowthLemmas.{near-added}
use Rattle.qo_sound.proofs.CutLemmas.{near-beside, near-same_slots}
use Rattle.qo_sound.proofs.DraftLemmas.{Drafts, drafted-drafts, found-low, pinned_once, near-let_down, other-record, rows-pins}
use Rattle.qo_sound.proofs.GivenPropertyLemmas.{held-linked, near-given}
use Rattle.qo_sound.proofs.UnplugLemmas.{HasPins, held-acted, held-set}

-- what is known where an add is not refused before its attempt: the container is there, and its name for the device is free; the bus is there, and its slot is
-- free
pub record IsPlace (b : Board) (t : TypeId) (a : Wanted) (resources : Resources) : Type 0 where
  pub container : is_of b (codes "container") (parent_for a.id) ≡ true
  pub free_name : has_slot b (parent_for a.id) (name_for b a.id) ≡ false
  pub bus : is_of b (bus_type t) resources.bus ≡ true
  pub free_slot : has_slot b resources.bus (kid_name resources.slot) ≡ false
  pub device : is_a t (codes "device") ≡ true

-- no type is that of a container and that of a bus
apart-container : (k : TypeId) → is_a k (codes "container") ≡ true → is_a k (codes "slot-bus") ≡ false
unfolding types
apart-container = each (λ (k : TypeId). is_a k (codes "container") ≡ true → is_a k (codes "slot-bus") ≡ false) (search rules)

apart-container_mem : (k : TypeId) → is_a k (codes "container") ≡ true → is_a k (codes "mem-bus") ≡ false
unfolding types
apart-container_mem = each (λ (k : TypeId). is_a k (codes "container") ≡ true → is_a k (codes "mem-bus") ≡ false) (search rules)

no-bus : (k t : TypeId) → is_a k (codes "container") ≡ true → is_a k (bus_type t) ≡ true → ⊥
no-bus k t e h = go (is_a t (codes "slot-device")) refl
  where
    go : (u : Bool) → is_a t (codes "slot-device") ≡ u → ⊥
    go true p = let clash : false ≡ true = sym (apart-container k e) ∙ (rw (bus_type, p) at h) in cc
    go false p = let clash : false ≡ true = sym (apart-container_mem k e) ∙ (rw (bus_type, p) at h) in cc

-- what is of a type is there
record Stands (b : Board) (wanted : List ℕ) (m : ℕ) : Type 0 where
  record_is : Record
  found : record_of b m ≡ Some record_is
  fits : is_a record_is.kind wanted ≡ true

stands-of : (b : Board) (wanted : List ℕ) (m : ℕ) → is_of b wanted m ≡ true → Stands b wanted m
stands-of b wanted m e = go (record_of b m) refl e
  where
    go : (o : Option Record) → record_of b m ≡ o → option_map_or (λ (t : TypeId). is_a t wanted) (option_map (λ (r : Record). r.kind) o) false ≡ true
        → Stands b wanted m
    go None p h = absurd (let clash : false ≡ true = h in cc)
    go (Some r) p h = record { record_is = r; found = p; fits = h }

free-at : (b : Board) (m : ℕ) (name : List ℕ) (r : Record) → record_of b m ≡ Some r → has_slot b m name ≡ false
    → list_any (λ (s : List ℕ × Slot). bytes_eq s.0 name) r.slots ≡ false
free-at b m name r e h = sym (ap (λ (o : Option Record). list_any (λ (s : List ℕ × Slot). bytes_eq s.0 name) (option_map_or (λ (y : Record). y.slots) o [])) e)
    ∙ h

-- the number of accepted adds is beside the tree
counted-sits : (id : Option (List ℕ)) (c : Board) → HasPins (1 ∷ []) c → HasPins (1 ∷ []) (counted id c)
counted-sits (Some id) c h = h
counted-sits None c h =
    let g : WellFormed c = h.near.firm in
    record {
      near =
          record {
            firm = firm-beside c (counted None c) g;
            aliases = h.near.aliases;
            used = h.near.used;
          };
      pins = h.pins;
    }

-- ways lead up from what is new
leads-up : (next : ℕ → List ℕ) (n : ℕ) → ((x y : ℕ) → n ≤ x → leads next x y ≡ true → n < y) → {x y : ℕ} → Leads next x y → n ≤ x → n < y
leads-up next n up (one {n = x} {m = y} e) low = up x y low e
leads-up next n up (more {n = x} {m = k} {k = y} e l) low = leads-up next n up l (let high : n < k = up x k low e in omega (arith, high))

module _ (b : Board) (t : TypeId) (a : Wanted) (resources : Resources) (rest : PinsRootAlone b) (shut : is_open (b.born + 1) ≡ false)
    (place : IsPlace b t a resources) where
  abbrev n : ℕ
  n = b.born + 1

  abbrev c : Board
  c = drafted b t

  d : Drafts b n t [] (pinned_once n c)
  d = drafted-drafts b t shut rest.used

  f : WellFormed b
  f = rest.used.firm

  there : Stands b (codes "container") (parent_for a.id)
  there = stands-of b (codes "container") (parent_for a.id) place.container

  bus : Stands b (bus_type t) resources.bus
  bus = stands-of b (bus_type t) resources.bus place.bus

  parent-low : parent_for a.id ≤ b.born
  parent-low = found-low b.born (parent_for a.id) b.records there.record_is f.within there.found

  bus-low : resources.bus ≤ b.born
  bus-low = found-low b.born resources.bus b.records bus.record_is f.within bus.found

  bus-apart : (resources.bus == parent_for a.id) ≡ false
  bus-apart = go (resources.bus == parent_for a.id) refl
    where
      go : (u : Bool) → (resources.bus == parent_for a.id) ≡ u → (resources.bus == parent_for a.id) ≡ false
      go false p = p
      go true p =
          let same : bus.record_is ≡ there.record_is =
          same_Some bus.record_is there.record_is (sym bus.found ∙ ap (record_of b) (eqb-true resources.bus (parent_for a.id) p) ∙ there.found) in
          absurd (no-bus there.record_is.kind t there.fits (subst (λ (r : Record). is_a r.kind (bus_type t) ≡ true) same bus.fits))

  -- its name in the container
  bare : IsNameless c (parent_for a.id) n (name_for b a.id)
  bare =
      record {
        owner = there.record_is;
        found = d.old (parent_for a.id) there.record_is there.found;
        free_name =
            name-free (name_for b a.id) there.record_is.slots (free-at b (parent_for a.id) (name_for b a.id) there.record_is there.found place.free_name);
        there = ap (λ (o : Option Record). is_some (option_map (λ (r : Record). r.kind) o)) d.found;
        no_parent = d.alone;
        none_back = λ l. let high : n < parent_for a.id = leads-up (children_of c) n d.upward l (omega arith) in
            let clash : 0 < 0 = omega (arith, high, parent-low) in omega arith;
        apart = grind (arith, parent-low);
      }

  abbrev c1 : Board
  c1 = edit (parent_for a.id) (with_added (name_for b a.id) (child n)) c

  near1 : InvariantBut None c1
  near1 = named-near c (parent_for a.id) n (name_for b a.id) bare (near-let_down n c d.near)

  kind1 : kind_of c1 ≡ kind_of c
  kind1 = edited-kinds (parent_for a.id) (with_added (name_for b a.id) (child n)) (λ r. refl) (λ r. refl) c

  device-kind : kind_of c n ≡ Some t
  device-kind = ap (option_map (λ (r : Record). r.kind)) d.found ∙ ap Some d.kind

  -- its link at the bus
  abbrev c2 : Board
  c2 = add resources.bus (kid_name resources.slot) (strong Device (Some n)) c1

  near2 : InvariantBut None c2
  near2 =
      near-added None c1 resources.bus (kid_name resources.slot) (strong Device (Some n)) bus.record_is
      (other-record (parent_for a.id) (with_added (name_for b a.id) (child n)) (λ r. refl) c.records resources.bus bus.record_is bus-apart
      (d.old resources.bus bus.record_is bus.found))
      (name-free (kid_name resources.slot) bus.record_is.slots (free-at b resources.bus (kid_name resources.slot) bus.record_is bus.found place.free_slot))
      refl
      (ap (λ (o : Option TypeId). option_map_or (λ (k : TypeId). is_a k (codes "device")) o false)
      (ap (λ (kinds : ℕ → Option TypeId). kinds n) kind1 ∙ device-kind) ∙ place.device)
      tt near1

  -- its slots
  wide : (x : ℕ) (k : TypeId) → kind_of b x ≡ Some k → kind_of c2 x ≡ Some k
  unfolding add
  wide x k e = ap (λ (kinds : ℕ → Option TypeId). kinds x)
      (edited-kinds resources.bus (with_added (kid_name resources.slot) (strong Device (Some n))) (λ r. refl) (λ r. refl) c1 ∙ kind1)
      ∙ go (record_of b x) refl e
    where
      go : (o : Option Record) → record_of b x ≡ o → option_map (λ (r : Record). r.kind) o ≡ Some k → kind_of c x ≡ Some k
      go None p q = absurd (let clash : None ≡ Some k = q in cc)
      go (Some r) p q = ap (option_map (λ (y : Record). y.kind)) (d.old x r p) ∙ q

  found2 : record_of c2 n ≡ Some d.owner
  unfolding add
  found2 =
      other-record resources.bus (with_added (kid_name resources.slot) (strong Device (Some n))) (λ r. refl) c1.records n d.owner (grind (arith, bus-low))
      (other-record (parent_for a.id) (with_added (name_for b a.id) (child n)) (λ r. refl) c.records n d.owner (grind (arith, parent-low)) d.found)

  sits3 : HasPins (1 ∷ []) (edit n (with_given b a.props) c2)
  unfolding add
  sits3 = record { near = near-given b a.props None c2 n wide d.owner found2 d.empty near2; pins = rows-pins n t (slots_of t) _ ∙ rest.pinned }

  sits-valued : HasPins (1 ∷ []) (valued b n a.props resources (joined b n a resources c))
  unfolding add
  sits-valued = held-set (1 ∷ []) n (codes "realized") (val.Bool true)
      _ (held-linked (1 ∷ []) n (codes "parent_bus") resources.bus _ (held-set (1 ∷ []) n (codes "slot") (val.Uint resources.slot) _ sits3))

  sits-stood : HasPins (1 ∷ []) (stood b n a resources c)
  sits-stood =
      let k : HasPins (1 ∷ []) (addressed_at n resources.range (valued b n a.props resources (joined b n a resources c))) = addressed resources.range in
      record { near = near-same_slots n (with_body_of a.id resources.range) (λ r. refl) (λ r. refl) (λ r. refl) None _ k.near; pins = k.pins }
    where
      addressed : (range : Option Range) → HasPins (1 ∷ []) (addressed_at n range (valued b n a.props resources (joined b n a resources c)))
      addressed None = sits-valued
      addressed (Some r) = held-set (1 ∷ []) n (codes "addr") (val.Uint r.at) _ sits-valued

  sits-source : (source : ℕ) (clock : Option ℕ) → HasPins (1 ∷ []) (with_source source clock (stood b n a resources c))
  sits-source source None = sits-stood
  sits-source source (Some m) = held-linked (1 ∷ []) m (codes "source") source _ sits-stood

  pub sits-device : HasPins (1 ∷ []) (with_device b t a resources)
  sits-device = counted-sits a.id _ (sits-source _ _)

-- acts, phases and what is told change no slot
pub held-all : (ps : List ℕ) (act : Act) (ns : List ℕ) (c : Board) → HasPins ps c → HasPins ps (acted_all act ns c)
held-all ps act [] c h = h
held-all ps act (m ∷ ns) c h = held-all ps act ns _ (held-acted ps act m 0 c h)

pub held-phased : (ps : List ℕ) (act : Act) (ns : List ℕ) (c : Board) → HasPins ps c → HasPins ps (phased act ns c)
held-phased ps act [] c h = h
held-phased ps act (m ∷ ns) c h = held-phased ps act ns _ (held-acted ps act m 0 c h)

pub held-plugged : (ps : List ℕ) (m : ℕ) (c : Board) → HasPins ps c → HasPins ps (plugged c m)
unfolding plugged
held-plugged ps m c h = held-phased ps Exit (filter (is_not_in_reset c) (post c m)) _ (held-phased ps Hold (post c m) _ (held-phased ps Enter (post c m) c h))

held-told : (ps : List ℕ) (m : ℕ) (c : Board) → HasPins ps c → HasPins ps (notified_plug m c)
held-told ps m c h =
    record {
      near = near-beside None (edit m (with_path (canonical c m)) c) c.holds c.pending _ c.notes
          (near-same_slots m (with_path (canonical c m)) (λ r. refl) (λ r. refl) (λ r. refl) None c h.near);
      pins = h.pins;
    }

-- a device that is added
pub plugged-rest : (b : Board) (t : TypeId) (a : Wanted) (resources : Resources) → PinsRootAlone b → is_open (b.born + 1) ≡ false → IsPlace b t a resources
    → PinsRootAlone (with_plugged b t a resources)
plugged-rest b t a resources h shut place =
    let k : HasPins (1 ∷ []) (with_plugged b t a resources) = held-told (1 ∷ []) (b.born + 1) _ (held-plugged (1 ∷ []) (b.born + 1)
    _ (held-all (1 ∷ []) Realize ((b.born + 1) ∷ bus_births (b.born + 1) t) _ (sits-device b t a resources h shut place))) in
    record { used = k.near; pinned = k.pins }

-- attempts take births, and are noted
pub ended-rest : (b : Board) (made : List (ℕ × TypeId)) (passed : List Note) (ended : List (ℕ × TypeId)) → PinsRootAlone b
    → PinsRootAlone (with_ended b made passed ended)
ended-rest b made passed ended h =
    record {
      used = record {
        firm = firm-born b (b.born + length made) (with_ended b made passed ended).notes (omega arith) h.used.firm;
        aliases = h.used.aliases;
        used = h.used.used;
      };
      pinned = h.pinned;
    }

pub plug_attempt-rest : (b : Board) (t : TypeId) (m stage : ℕ) → PinsRootAlone b → PinsRootAlone (plug_attempt b t m stage)
plug_attempt-rest b t m stage h =
    let os : List (ℕ × TypeId) = born_from (suc b.born) (types_in t) in
    ended-rest b os (if stage == 8 then passed_notes b m (suc b.born) t else []) (device_last os) h

pub cut_attempt-rest : (b : Board) (t : TypeId) (i : ℕ) (joined : Bool) → PinsRootAlone b → PinsRootAlone (cut_attempt b t i joined)
cut_attempt-rest b t i joined h =
    let os : List (ℕ × TypeId) = take i (born_from (suc b.born) (types_in t)) in
    ended-rest b os [] (cut_order joined i os) h

-- what is known where nothing refuses

pub or-none : {T : Type 0} (o p : Option T) → option_or o p ≡ None → (o ≡ None) × (p ≡ None)
or-none None p e = (refl, e)
or-none (Some x) p e = absurd (let clash : Some x ≡ None = e in cc)

pub stage-none : (stage : ℕ) (o : Option Code) → at_stage stage o ≡ None → o ≡ None
stage-none stage None e = refl
stage-none stage (Some code) e = absurd (let clash : Some (stage, code) ≡ None = e in cc)

-- the container
container-free : (b : Board) (parent : ℕ) (name : List ℕ) → container_barred b parent name ≡ None
    → (is_of b (codes "container") parent ≡ true) × (has_slot b parent name ≡ false)
container-free b parent name e =
    let after_there : Option Code = if has_slot b parent name then Some E24 else None in
    let first : (not (is_of b (codes "container") parent) ≡ false) × (after_there ≡ None) =
    unbarred (not (is_of b (codes "container") parent)) E15 after_there e in
    let second : (has_slot b parent name ≡ false) × (None ≡ None) = unbarred (has_slot b parent name) E24 None first.1 in
    (not-false (is_of b (codes "container") parent) first.0, second.0)

-- the bus
bus-is : (b : Board) (t : TypeId) (m : ℕ) → bus_barred b t (Some m) ≡ None → is_of b (bus_type t) m ≡ true
bus-is b t m e =
    let after_it : Option Code = if not (attached b m) || is_going b m then Some E27 else None in
    let first : (not (is_of b (bus_type t) m) ≡ false) × (after_it ≡ None) = unbarred (not (is_of b (bus_type t) m)) E26 after_it e in
    not-false (is_of b (bus_type t) m) first.0

slot-free : (b : Board) (bus : ℕ) (given : Option ℕ) → code_in (bus_slot_for b bus given) ≡ None
    → has_slot b bus (kid_name (ok_or_zero (bus_slot_for b bus given))) ≡ false
slot-free b bus (Some slot) e = go (nat_lt slot BUS_SLOTS) refl (is_free b bus slot) refl
  where
    go : (u : Bool) → nat_lt slot BUS_SLOTS ≡ u → (v : Bool) → is_free b bus slot ≡ v
        → has_slot b bus (kid_name (ok_or_zero (bus_slot_for b bus (Some slot)))) ≡ false
    go true p true q = rw (bus_slot_for, p, q) (not-true (has_slot b bus (kid_name slot)) q)
    go true p false q = absurd (let clash : Some E29 ≡ None = rw (bus_slot_for, p, q) at e in cc)
    go false p v q = absurd (let clash : Some E28 ≡ None = rw (bus_slot_for, p) at e in cc)
slot-free b bus None e = go (least (is_free b bus) 0 BUS_SLOTS) refl
  where
    go : (o : Option ℕ) → least (is_free b bus) 0 BUS_SLOTS ≡ o → has_slot b bus (kid_name (ok_or_zero (bus_slot_for b bus None))) ≡ false
    go None p = absurd (let clash : Some E30 ≡ None = rw (bus_slot_for, p) at e in cc)
    go (Some slot) p = rw (bus_slot_for, p) (not-true (has_slot b bus (kid_name slot)) (least-passes (is_free b bus) 0 BUS_SLOTS slot p))

-- the stages

late-rest : (b : Board) (t : TypeId) (bus : ℕ) (a : Wanted) (refusal : Option (ℕ × Code)) → barred_late b t bus a.props ≡ refusal → PinsRootAlone b
    → is_open (b.born + 1) ≡ false → (barred_late b t bus a.props ≡ None → IsPlace b t a (resources_of b t bus a.props))
    → PinsRootAlone (plug_late b t bus a refusal).board
late-rest b t bus a (Some refusal) e h shut place = plug_attempt-rest b t bus refusal.0 h
late-rest b t bus a None e h shut place = plugged-rest b t a (resources_of b t bus a.props) h shut (place e)

pub place-of : (b : Board) (t : TypeId) (bus : ℕ) (a : Wanted) → is_a t (codes "device") ≡ true → bus_for b t a.bus ≡ Some bus → barred_early b t a ≡ None
    → barred_late b t bus a.props ≡ None → IsPlace b t a (resources_of b t bus a.props)
place-of b t bus a device chosen early late =
    let bus_stage : Option (ℕ × Code) = at_stage 3 (bus_barred b t (bus_for b t a.bus)) in
    let room_stages : Option (ℕ × Code) = first_of (at_stage 4 (room_barred b t) ∷ []) in
    let first : (at_stage 2 (id_barred b a.id) ≡ None) × (option_or bus_stage room_stages ≡ None) =
    or-none (at_stage 2 (id_barred b a.id)) (option_or bus_stage room_stages) early in
    let second : (bus_stage ≡ None) × (room_stages ≡ None) = or-none bus_stage room_stages first.1 in
    let container : (id_refused b a.id ≡ None) × (container_barred b (parent_for a.id) (name_for b a.id) ≡ None) =
    or-none (id_refused b a.id) (container_barred b (parent_for a.id) (name_for b a.id)) (stage-none 2 (id_barred b a.id) first.0) in
    let free : (is_of b (codes "container") (parent_for a.id) ≡ true) × (has_slot b (parent_for a.id) (name_for b a.id) ≡ false) =
    container-free b (parent_for a.id) (name_for b a.id) container.1 in
    let last_stages : Option (ℕ × Code) = first_of (at_stage 6 (realize_barred b t a.props) ∷ at_stage 8 (notice_barred b) ∷ []) in
    let place_stage : Option (ℕ × Code) = at_stage 5 (place_barred b t bus a.props) in
    let props : (at_stage 4 (refusal_of b t a.props) ≡ None) × (option_or place_stage last_stages ≡ None) =
    or-none (at_stage 4 (refusal_of b t a.props)) (option_or place_stage last_stages) late in
    let here : (place_stage ≡ None) × (last_stages ≡ None) = or-none place_stage last_stages props.1 in
    let slot_code : Option Code = code_in (bus_slot_for b bus (number_for a.props (codes "slot"))) in
    let slot : (slot_code ≡ None) × (kind_barred b t bus a.props ≡ None) =
    or-none slot_code (kind_barred b t bus a.props) (stage-none 5 (place_barred b t bus a.props) here.0) in
    record {
      container = free.0;
      free_name = free.1;
      bus = bus-is b t bus (sym (ap (bus_barred b t) chosen) ∙ stage-none 3 (bus_barred b t (bus_for b t a.bus)) second.0);
      free_slot = slot-free b bus (number_for a.props (codes "slot")) slot.0;
      device = device;
    }

as-rest : (b : Board) (t : TypeId) (a : Wanted) → is_a t (codes "device") ≡ true → PinsRootAlone b → is_open (b.born + 1) ≡ false → (o : Option (ℕ × Code))
    → barred_early b t a ≡ o → PinsRootAlone (plug_as b t a o).board
as-rest b t a device h shut (Some refusal) e = h
as-rest b t a device h shut None e = go (bus_for b t a.bus) refl
  where
    go : (m : Option ℕ) → bus_for b t a.bus ≡ m → PinsRootAlone (plug_as b t a None).board
    go None p = rw (plug_as, p) h
    go (Some bus) p = rw (plug_as, p) (late-rest b t bus a (barred_late b t bus a.props) refl h shut (place-of b t bus a device p e))

pub device-of : (row : TypeInfo) → (if row.is_abstract then Some E21 else if not (is_a row.id (codes "device")) then Some E22 else None) ≡ None
    → is_a row.id (codes "device") ≡ true
device-of row e =
    let after_it : Option Code = if not (is_a row.id (codes "device")) then Some E22 else None in
    let first : (row.is_abstract ≡ false) × (after_it ≡ None) = unbarred row.is_abstract E21 after_it e in
    let second : (not (is_a row.id (codes "device")) ≡ false) × (None ≡ None) = unbarred (not (is_a row.id (codes "device"))) E22 None first.1 in
    not-false (is_a row.id (codes "device")) second.0

by-rest : (b : Board) (a : Wanted) → PinsRootAlone b → is_open (b.born + 1) ≡ false → (o : Option Code) → type_barred a.driver ≡ o
    → PinsRootAlone (plug_by b a o).board
by-rest b a h shut (Some code) e = h
by-rest b a h shut None e = go (type_named a.driver) refl
  where
    go : (row : Option TypeInfo) → type_named a.driver ≡ row → PinsRootAlone (plug_by b a None).board
    go None p = rw (plug_by, p) h
    go (Some row) p = rw (plug_by, p) (as-rest b row.id a (device-of row (rw (type_barred, p) at e)) h shut (barred_early b row.id a) refl)

-- births 3, 4 and 8 are given when a machine begins
pub shut-above : (k : ℕ) → 8 ≤ k → is_open (k + 1) ≡ false
shut-above k le =
    let three : nat_eq (k + 1) 3 ≡ false = grind (arith, le) in
    let four : nat_eq (k + 1) 4 ≡ false = grind (arith, le) in
    let eight : nat_eq (k + 1) 8 ≡ false = grind (arith, le) in
    rw (is_open, three, four, eight) refl

-- adding a device, taken or refused
pub plug-rest : (b : Board) (a : Wanted) → PinsRootAlone b → PinsRootAlone (plug b a).board
unfolding plug
plug-rest b a h = by-rest b a h (shut-above b.born h.used.firm.begun) (type_barred a.driver) refl
