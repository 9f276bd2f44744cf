-- Devices that nothing refuses are added, and told as they are wanted.
use Rattle.std.proofs.Common.{◌≡◌, ◌≢◌, ◌⊎◌, inl, inr, refl, ap, sym, subst, ◌∙◌, ℕ, ◌+◌, ◌<◌, Bool, true, false, not, ◌&&◌, List, [], ◌∷◌, find, Option, Some, None, option_map, option_and_then, unwrap_or, Ok, Err, codes, arith}
use Rattle.std.specs.Prelude.{Result}
use Rattle.std.proofs.lemmas.Option.{same_Some}
use Rattle.std.proofs.lemmas.Slice.Eq.{bytes_eq-Decides}
use Rattle.qo_model.proofs.Common.{AllByRecursion, nat_lt, bytes_eq, is_id, type_name, PERIPHERAL_BIRTH, BUS_SLOTS, TypeId, MemDimm, MemoryBackend, SlotBridge, SlotTimer, SlotUart, Code, E15, E16, E28, E29, E31, E39, E40, Object, MemoryBackendRam, OBJECTS_BIRTH, Board, Slot, plain, strong, is_live, is_of, kind_of, record_of, slot_named, path_down_to, option_map_or, is_in_window, overlaps_any, range_at, list_any, number_in, strong_in, text_at, plain_in, text_in, Given, slot_given, bus_slot_for, code_in, is_free, number_for, ok_or_zero, resources_of, is_a, slots_of, types}
use Rattle.qo_values.specs.declared.properties.Val.TheVariants as val
use Rattle.qo_model.specs.Objects.{target_given}
use Rattle.qo_model.specs.Paths.{found, is_absolute, missing, Resolution, resolve, several}
use Rattle.qo_model.specs.Plug.{dimms, has_backend, kind_barred, ok_in, range_barred, range_for, range_of, ranges_of, size_of, target_for}
use Rattle.qo_model.specs.Properties.{link_target, path_text}
use Rattle.qo_model.specs.Types.{TypeInfo, type_named}
use Rattle.qo_save.specs.Described.{description, device_given, is_describable, is_unset, props_under}
use Rattle.qo_save.specs.Description.{Description, DeviceItem, RingItem}
use Rattle.qo_save.specs.Rebuilding.{wanted_by, with_slot}
use Rattle.qo_sound.proofs.AddLemmas.{unbarred}
use Rattle.qo_sound.proofs.TestLemmas.{clash-back, decide}
use Rattle.qo_sound_claims.proofs.ClaimValueLemmas.{first_row, own-addr, own-is}
use Rattle.qo_sound_claims.specs.SoundClaims.{HasRange as RangeKept}
use Rattle.qo_sound_devices.specs.SoundPlaces.{child_entries}
use Rattle.qo_sound_devices.proofs.PlugLemmas.{Accepted}
use Rattle.qo_sound_devices.proofs.AcceptanceLemmas.{Passes, passes}
use Rattle.qo_good.specs.Good.{HasRange, IsGiven, IsGoodDevice, IsMemory, IsGoodRing, Layout, NamesRing, no_ring, object_path, OneOf, ring}
use Rattle.qo_good.specs.GoodBoards.{IsWhole}
use Rattle.qo_good.proofs.ClaimLemmas.{as_dimm, as_other, as_uart, range_given, ring_given, Says, says-of}
use Rattle.qo_good.proofs.BusLemmas.{Stood, stood-all}
use Rattle.qo_good.proofs.ObjectLemmas.{rings-good}
use Rattle.qo_good.proofs.PlaceLemmas.{all-entry, apart, at, leads, object-way, told}
use Rattle.qo_good.proofs.ItemLemmas.{one-both, one-of, one-unmap}
use Rattle.qo_good.proofs.PartLemmas.{Here, object_as, objects-said, users}
use Rattle.qo_rebuilt.specs.Made.{Tells}
use Rattle.qo_rebuilt.specs.DevicesMade.{IsMade, IsPlugged, PluggedMadeLaw, with_taken}
use Rattle.qo_rebuilt.proofs.GrowthLemmas.{kind-live, texts-kept}
use Rattle.qo_rebuilt.proofs.ObjectLemmas.{row-own}
use Rattle.qo_rebuilt.proofs.PluggedLemmas.{absent, accepted, device-describable, device-done, device-grown, device-id, device-kind, device-tells, device-whole}
use Rattle.qo_rebuilt.proofs.RingLemmas.{Has, has}
use Rattle.qo_rebuilt.proofs.StayLemmas.{is_open, LeavesOpen}

-- ---- what is given besides the slot

-- nothing, a ring, or an address and a memory backend
data Form (props : List Given) : Type 0 where
  bare : props ≡ [] → Form props
  ringed : (id : List ℕ) → props ≡ (codes "chardev", val.Text id) ∷ [] → Form props
  ranged : (at : ℕ) (path : List ℕ) → props ≡ (codes "addr", val.Uint at) ∷ (codes "memdev", val.Text path) ∷ [] → Form props

open-two : (name : List ℕ) → is_open name ≡ true → (name ≡ codes "peer") ⊎ (name ≡ codes "watch")
open-two name e =
    decide (bytes_eq name (codes "peer")) (λ q. inl ((bytes_eq-Decides name (codes "peer")).0 q))
    (λ q. inr ((bytes_eq-Decides name (codes "watch")).0 (rw q at e)))

abbrev given_under : List Given → List ℕ → Option Given
given_under props name = find (λ (p : Given). bytes_eq p.0 name) props

-- with the slot among it
module _ (slot : ℕ) where
  leaves-both : (props : List Given) → Form props
      → (given_under (with_slot slot props) (codes "peer") ≡ None) × (given_under (with_slot slot props) (codes "watch") ≡ None)
  leaves-both props (bare e) = rw e (refl, refl)
  leaves-both props (ringed id e) = rw e (refl, refl)
  leaves-both props (ranged at path e) = rw e (refl, refl)

  form-leaves : (props : List Given) → Form props → LeavesOpen (with_slot slot props)
  form-leaves props form name on = go (open-two name on)
    where
      go : (name ≡ codes "peer") ⊎ (name ≡ codes "watch") → given_under (with_slot slot props) name ≡ None
      go (inl is) = subst (λ (x : List ℕ). given_under (with_slot slot props) x ≡ None) (sym is) (leaves-both props form).0
      go (inr is) = subst (λ (x : List ℕ). given_under (with_slot slot props) x ≡ None) (sym is) (leaves-both props form).1

  form-slot : (props : List Given) → Form props → number_for (with_slot slot props) (codes "slot") ≡ Some slot
  form-slot props (bare e) = rw e refl
  form-slot props (ringed id e) = rw e refl
  form-slot props (ranged at path e) = rw e refl

-- the slot that it gets
slot-is : (b : Board) (bus slot : ℕ) → code_in (bus_slot_for b bus (Some slot)) ≡ None → ok_or_zero (bus_slot_for b bus (Some slot)) ≡ slot
slot-is b bus slot e = go (nat_lt slot BUS_SLOTS) refl (is_free b bus slot) refl
  where
    go : (u : Bool) → nat_lt slot BUS_SLOTS ≡ u → (v : Bool) → is_free b bus slot ≡ v → ok_or_zero (bus_slot_for b bus (Some slot)) ≡ slot
    go true p true q = rw (bus_slot_for, p, q) refl
    go true p false q = absurd (let clash : Some E29 ≡ None = rw (bus_slot_for, p, q) at e in cc)
    go false p v q = absurd (let clash : Some E28 ≡ None = rw (bus_slot_for, p) at e in cc)

-- what is given to a good device
good-form : (d : Description) (l : Layout) (before : List DeviceItem) (x : DeviceItem) (good : IsGoodDevice d l before x) → Form x.props
good-form d l before x good = by good.kind good.props
  where
    uart : NamesRing d before x → Form x.props
    uart (no_ring e) = bare e
    uart (ring id e there alone) = ringed id e

    by : (t : TypeId) → IsGiven d l before x t → Form x.props
    by SlotUart given = uart given
    by MemDimm given = ranged (l.range x.id).at (object_path given.backend) given.props
    by t given = bare given

-- a ring has an id that is not empty
some-id : (id : List ℕ) → is_id id ≡ true → id ≢ []
some-id id e none = clash-back (sym (ap is_id none) ∙ e)

ring-some : (id : List ℕ) → id ≢ [] → ring_given id ≡ (codes "chardev", val.Text id) ∷ []
ring-some [] some = absurd (some refl)
ring-some (c ∷ cs) some = refl

text-own : (text id : List ℕ) (s : Slot) → s ≡ plain (val.Text text) → option_and_then text_in (option_and_then plain_in (Some s)) ≡ Some id → text ≡ id
text-own text id s is e = same_Some text id (sym (ap (λ (y : Slot). option_and_then text_in (option_and_then plain_in (Some y))) is) ∙ e)

-- ---- memory backends

memory-is : is_a MemoryBackendRam (type_name MemoryBackend) ≡ true
unfolding types
memory-is = refl

pub same-named : (t u : TypeId) → type_name t ≡ type_name u → t ≡ u
same-named t u e =
    same_Some t u (sym (row-own t) ∙ ap (λ (name : List ℕ). option_map (λ (r : TypeInfo). r.id) (type_named name)) e ∙ row-own u)

-- an absolute path that leads to an object of a type resolves to it
pub resolves-to : (b : Board) (n : ℕ) (path wanted : List ℕ) → is_absolute path ≡ true → at b path ≡ Some n → is_of b wanted n ≡ true
    → resolve b path wanted ≡ found n
resolves-to b n path wanted absolute leads its = rw (absolute, leads, its) refl

-- a memory backend that a description says stands at its path
record BackendAt (b : Board) (id : List ℕ) : Type 0 where
  birth : ℕ
  live : is_live b birth ≡ true
  told_at : path_text b birth ≡ object_path id
  target : link_target b MemoryBackend (object_path id) ≡ Ok (Some birth)

backend-at : (b : Board) (w : IsWhole b) (id : List ℕ) (long : ℕ) → OneOf (IsMemory id long) (description b).objects → BackendAt b id
backend-at b w id long there =
    let es : List (List ℕ × ℕ) = child_entries b OBJECTS_BIRTH in
    let among : OneOf (λ (e : List ℕ × ℕ). IsMemory id long (object_as b e)) es =
    one-unmap (IsMemory id long) (object_as b) es (subst (OneOf (IsMemory id long)) (objects-said b w.order) there) in
    let (e, (here, memory)) = one-of _ es
    (one-both (Here b OBJECTS_BIRTH (codes "user-creatable")) (λ (e : List ℕ × ℕ). IsMemory id long (object_as b e)) es (users b w.order) among) in
    let its : here.kind ≡ MemoryBackendRam =
    same-named here.kind MemoryBackendRam (sym (ap (λ (o : Option TypeId). type_name (unwrap_or o Object)) here.its) ∙ memory.kind) in
    let way : path_down_to b e.1 ≡ Some (object_path id) =
    object-way b w.order e.1 e.0 here.there ∙ ap (λ (name : List ℕ). Some (object_path name)) memory.id in
    let of : is_of b (type_name MemoryBackend) e.1 ≡ true =
    ap (λ (o : Option TypeId). option_map_or (λ (t : TypeId). is_a t (type_name MemoryBackend)) o false) (here.its ∙ ap Some its) ∙ memory-is in
    let found_it : resolve b (object_path id) (type_name MemoryBackend) ≡ found e.1 =
    resolves-to b e.1 (object_path id) (type_name MemoryBackend) refl (leads b w.order e.1 (object_path id) way) of in
    record {
      birth = e.1;
      live = kind-live b e.1 here.kind here.its;
      told_at = told b w.order e.1 (object_path id) (apart b w.order OBJECTS_BIRTH e (omega arith) here.there) way;
      target = ap (target_by b (object_path id)) found_it;
    }
  where
    target_by : Board → List ℕ → Resolution → Result (Option ℕ) Code
    target_by b path (found m) = Ok (Some m)
    target_by b path several = Err E16
    target_by b path missing = elim (resolve b path (codes "object")) [ missing ↦ Err E15 | _ ↦ Err E31 ]

-- a range that is not refused is the one that was asked for
range-is : (b : Board) (at size : ℕ) → code_in (range_for b (Some at) size) ≡ None → range_for b (Some at) size ≡ Ok (range_at at size)
range-is b at size e =
    decide (is_in_window (range_at at size) && not (overlaps_any (range_at at size) (ranges_of b))) (λ q. rw q refl)
    (λ q. absurd (let clash : Some E40 ≡ None = rw q at e in cc))

late-range : (b : Board) (props : List Given) (m : ℕ) → range_barred b props (Some m) ≡ None
    → code_in (range_for b (number_for props (codes "addr")) (size_of b m)) ≡ None
late-range b props m e = (unbarred (list_any (has_backend b m) (dimms b)) E39 (code_in (range_for b (number_for props (codes "addr")) (size_of b m))) e).1

-- ---- what it says of what was given

module _ (b : Board) (d : Description) (l : Layout) (x : DeviceItem) (tells : Tells b d) (good : IsGoodDevice d l d.devices x)
    (k : IsPlugged b good.kind x) where
  abbrev n : ℕ
  n = b.born + 1

  abbrev c : Board
  c = with_taken b good.kind k.bus x

  leaves : LeavesOpen (wanted_by x).props
  leaves = form-leaves x.slot x.props (good-form d l d.devices x good)

  taken-place : Accepted b good.kind k.bus (wanted_by x)
  taken-place = accepted b tells.whole tells.quiet good.kind x good.driver good.concrete good.device k leaves

  passed : Passes b good.kind k.bus (wanted_by x)
  passed = passes b good.kind k.bus (wanted_by x) taken-place

  slot-said : (resources_of b good.kind k.bus (wanted_by x).props).slot ≡ x.slot
  slot-said =
      let given : number_for (wanted_by x).props (codes "slot") ≡ Some x.slot = form-slot x.slot x.props (good-form d l d.devices x good) in
      ap (λ (o : Option ℕ). ok_or_zero (bus_slot_for b k.bus o)) given
      ∙ slot-is b k.bus x.slot (sym (ap (λ (o : Option ℕ). code_in (bus_slot_for b k.bus o)) given) ∙ passed.slot)

  whole : IsWhole c
  whole = device-whole b tells.whole tells.quiet good.kind x good.driver good.concrete good.device k leaves

  h : Has b d
  h = has b d tells.says

  describable : is_describable c ≡ true
  describable = device-describable b tells.whole tells.quiet good.kind x good.driver good.concrete good.device k leaves h.says

  kind : kind_of c (b.born + 1) ≡ Some good.kind
  kind = device-kind b tells.whole tells.quiet good.kind x good.driver good.concrete good.device k leaves

  stood : Stood c (x.id, b.born + 1)
  stood =
      all-entry (Stood c) (x.id, b.born + 1) (child_entries c PERIPHERAL_BIRTH) (stood-all c whole.order describable)
      (device-id b tells.whole tells.quiet good.kind x good.driver good.concrete good.device k leaves)

  same-kind : stood.here.kind ≡ good.kind
  same-kind = same_Some stood.here.kind good.kind (sym stood.here.its ∙ kind)

  -- a UART
  chardev-row : good.kind ≡ SlotUart → first_row good.kind (codes "chardev") (slots_of good.kind) ≡ Some (plain (val.Text []))
  unfolding types
  chardev-row is = subst (λ (t : TypeId). first_row t (codes "chardev") (slots_of t) ≡ Some (plain (val.Text []))) (sym is) refl

  chardev : good.kind ≡ SlotUart
      → slot_named c (b.born + 1) (codes "chardev") ≡ Some (slot_given b (wanted_by x).props (codes "chardev", plain (val.Text []))).1
  chardev is =
      own-is b (absent b tells.whole tells.quiet good.kind x good.driver good.concrete good.device k leaves) good.kind (wanted_by x)
      (resources_of b good.kind k.bus (wanted_by x).props) (codes "chardev") (record { slot = refl; parent_bus = refl; realized = refl; source = refl }) refl
      (plain (val.Text [])) (chardev-row is)

  uart-said : good.kind ≡ SlotUart → (id : List ℕ) → text_at c (b.born + 1) (codes "chardev") ≡ Some id → ring_given id ≡ x.props
  uart-said is id at = by (subst (IsGiven d l d.devices x) is good.props)
    where
      read : option_and_then text_in (option_and_then plain_in (Some (slot_given b (wanted_by x).props (codes "chardev", plain (val.Text []))).1)) ≡ Some id
      read = sym (ap (λ (o : Option Slot). option_and_then text_in (option_and_then plain_in o)) (chardev is)) ∙ at

      given-none : x.props ≡ [] → (slot_given b (wanted_by x).props (codes "chardev", plain (val.Text []))).1 ≡ plain (val.Text [])
      given-none e = ap (λ (ps : List Given). (slot_given b (with_slot x.slot ps) (codes "chardev", plain (val.Text []))).1) e

      given-one : (text : List ℕ) → x.props ≡ (codes "chardev", val.Text text) ∷ []
          → (slot_given b (wanted_by x).props (codes "chardev", plain (val.Text []))).1 ≡ plain (val.Text text)
      given-one text e = ap (λ (ps : List Given). (slot_given b (with_slot x.slot ps) (codes "chardev", plain (val.Text []))).1) e

      by : NamesRing d d.devices x → ring_given id ≡ x.props
      by (no_ring e) =
          let none : [] ≡ id = text-own [] id (slot_given b (wanted_by x).props (codes "chardev", plain (val.Text []))).1 (given-none e) read in
          ap ring_given (sym none) ∙ sym e
      by (ring text e there alone) =
          let own : text ≡ id = text-own text id (slot_given b (wanted_by x).props (codes "chardev", plain (val.Text []))).1 (given-one text e) read in
          let rings : AllByRecursion IsGoodRing d.rings =
          subst (λ (y : Description). AllByRecursion IsGoodRing y.rings) h.is (rings-good b tells.whole) in
          let (r, (ring_good, named)) = one-of _ d.rings (one-both IsGoodRing (λ (r : RingItem). r.id ≡ text) d.rings rings there) in
          let some : text ≢ [] = some-id text (sym (ap is_id named) ∙ ring_good.id) in
          ap ring_given (sym own) ∙ ring-some text some ∙ sym e

  -- a DIMM
  memdev-row : first_row MemDimm (codes "memdev") (slots_of MemDimm) ≡ Some (strong MemoryBackend None)
  unfolding types
  memdev-row = refl

  addr-row : first_row MemDimm (codes "addr") (slots_of MemDimm) ≡ Some (plain val.Nothing)
  unfolding types
  addr-row = refl

  abbrev old_absent : (m : ℕ) → b.born < m → record_of b m ≡ None
  old_absent = absent b tells.whole tells.quiet good.kind x good.driver good.concrete good.device k leaves

  module _ (is : good.kind ≡ MemDimm) (g : HasRange d l d.devices x) where
    abbrev path : List ℕ
    path = object_path g.backend

    abbrev start : ℕ
    start = (l.range x.id).at

    abbrev wished : List Given
    wished = (codes "addr", val.Uint start) ∷ (codes "memdev", val.Text path) ∷ []

    backend : BackendAt b g.backend
    backend =
        backend-at b tells.whole g.backend (l.range x.id).size
        (subst (λ (y : Description). OneOf (IsMemory g.backend (l.range x.id).size) y.objects) (sym h.is) g.memory)

    target-found : target_for b MemoryBackend (wanted_by x).props (codes "memdev") ≡ Some backend.birth
    target-found =
        ap (λ (ps : List Given). target_for b MemoryBackend (with_slot x.slot ps) (codes "memdev")) g.props
        ∙ ap (λ (r : Result (Option ℕ) Code). elim r [ Ok target ↦ target | Err code ↦ None ]) backend.target

    asked : number_for (wanted_by x).props (codes "addr") ≡ Some start
    asked = ap (λ (ps : List Given). number_for (with_slot x.slot ps) (codes "addr")) g.props

    size : ℕ
    size = size_of b backend.birth

    in-range : range_for b (number_for (wanted_by x).props (codes "addr")) (size_of b backend.birth) ≡ Ok (range_at start (size_of b backend.birth))
    in-range =
        let barred : range_barred b (wanted_by x).props (Some backend.birth) ≡ None =
        ap (range_barred b (wanted_by x).props) (sym target-found)
        ∙ ap (λ (t : TypeId). kind_barred b t k.bus (wanted_by x).props) (sym is) ∙ passed.kind in
        let free : code_in (range_for b (Some start) (size_of b backend.birth)) ≡ None =
        ap (λ (o : Option ℕ). code_in (range_for b o (size_of b backend.birth))) (sym asked) ∙ late-range b (wanted_by x).props backend.birth barred in
        ap (λ (o : Option ℕ). range_for b o (size_of b backend.birth)) asked ∙ range-is b start (size_of b backend.birth) free

    range-got : (resources_of b good.kind k.bus (wanted_by x).props).range ≡ Some (range_at start (size_of b backend.birth))
    range-got =
        ap (λ (t : TypeId). range_of b t (wanted_by x).props) is
        ∙ ap (option_and_then (λ m. ok_in (range_for b (number_for (wanted_by x).props (codes "addr")) (size_of b m)))) target-found
        ∙ ap ok_in in-range

    addr-said : slot_named c (b.born + 1) (codes "addr") ≡ Some (plain (val.Uint start))
    addr-said =
        own-addr b old_absent good.kind (wanted_by x) (resources_of b good.kind k.bus (wanted_by x).props) (range_at start (size_of b backend.birth)) range-got
        val.Nothing (val.Uint start)
        (subst (λ (t : TypeId). first_row t (codes "addr") (slots_of t) ≡ Some (plain val.Nothing)) (sym is) addr-row)
        (ap (λ (ps : List Given). (slot_given b (with_slot x.slot ps) (codes "addr", plain val.Nothing)).1) g.props)

    memdev-said : slot_named c (b.born + 1) (codes "memdev") ≡ Some (strong MemoryBackend (Some backend.birth))
    memdev-said =
        own-is b old_absent good.kind (wanted_by x) (resources_of b good.kind k.bus (wanted_by x).props) (codes "memdev")
        (record { slot = refl; parent_bus = refl; realized = refl; source = refl }) refl (strong MemoryBackend None)
        (subst (λ (t : TypeId). first_row t (codes "memdev") (slots_of t) ≡ Some (strong MemoryBackend None)) (sym is) memdev-row)
        ∙ ap (λ (ps : List Given). Some (slot_given b (with_slot x.slot ps) (codes "memdev", strong MemoryBackend None)).1) g.props
        ∙ ap (λ (r : Result (Option ℕ) Code). Some (strong MemoryBackend (target_given r))) backend.target

    range-said : (m : RangeKept c (b.born + 1)) → range_given m.range.at (path_text c m.backend) ≡ x.props
    range-said m =
        let first : start ≡ m.range.at =
        same_Some start m.range.at (sym (ap (λ (o : Option Slot). option_and_then number_in (option_and_then plain_in o)) addr-said) ∙ m.addr) in
        let second : backend.birth ≡ m.backend =
        same_Some backend.birth m.backend (sym (ap (option_and_then strong_in) memdev-said) ∙ m.memdev) in
        let way : path_text c m.backend ≡ path =
        ap (path_text c) (sym second)
        ∙ texts-kept b c tells.whole.order whole.order (device-grown b tells.whole tells.quiet good.kind x good.driver good.concrete good.device k leaves).grows
        h.says
        backend.birth backend.live
        ∙ backend.told_at in
        ap (λ (y : ℕ). range_given y (path_text c m.backend)) (sym first) ∙ ap (range_given start) way ∙ sym g.props

  dimm-said : good.kind ≡ MemDimm → (m : RangeKept c (b.born + 1)) → range_given m.range.at (path_text c m.backend) ≡ x.props
  dimm-said is m = range-said is (subst (IsGiven d l d.devices x) is good.props) m

  props-said : props_under c is_unset device_given (b.born + 1) ≡ x.props
  props-said = by (says-of c whole describable (x.id, b.born + 1) stood)
    where
      bare-kind : (good.kind ≡ SlotTimer) ⊎ (good.kind ≡ SlotBridge) → x.props ≡ []
      bare-kind (inl is) = subst (IsGiven d l d.devices x) is good.props
      bare-kind (inr is) = subst (IsGiven d l d.devices x) is good.props

      turned : (stood.here.kind ≡ SlotTimer) ⊎ (stood.here.kind ≡ SlotBridge) → (good.kind ≡ SlotTimer) ⊎ (good.kind ≡ SlotBridge)
      turned (inl is) = inl (sym same-kind ∙ is)
      turned (inr is) = inr (sym same-kind ∙ is)

      by : Says c (b.born + 1) stood.here.kind (props_under c is_unset device_given (b.born + 1)) → props_under c is_unset device_given (b.born + 1) ≡ x.props
      by (as_uart is id at on e) = e ∙ uart-said (sym same-kind ∙ is) id at
      by (as_dimm is m on e) = e ∙ dimm-said (sym same-kind ∙ is) m
      by (as_other which e) = e ∙ sym (bare-kind (turned which))

  made : IsMade b d x
  made =
      record {
        after = c;
        done = device-done b tells.whole tells.quiet good.kind x good.driver good.concrete good.device k leaves;
        tells = device-tells b tells.whole tells.quiet good.kind x good.driver good.concrete good.device k leaves d tells.says props-said slot-said;
      }

-- a device that nothing refuses is added, and told after the others
pub plugged_made_lem : PluggedMadeLaw
plugged_made_lem = record { made = λ b d l x tells clocks links good k. made b d l x tells good k }
