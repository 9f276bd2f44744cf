-- The law: the board with a device more, as one record.
use Rattle.std.proofs.Common.{rules, ◌≡◌, ◌⊎◌, inl, inr, refl, ap, ap₂, sym, subst, ◌∙◌, ℕ, suc, ◌+◌, ◌<◌, ◌≤◌, Bool, true, false, List, [], ◌∷◌, map, find, codes, Option, Some, None, option_and_then, unwrap_or, Result, Ok, Err, arith}
use Rattle.qo_model.proofs.Common.{AllByRecursion, list_any, option_map_or, option_or, bytes_eq, SYSTEM_CLOCK_BIRTH, Code, E18, E20, E25, E38, E39, TypeId, MemDimm, Bus, Clock, MemoryBackend, Range, Board, Record, Slot, plain, strong, is_live, kind_of, add, clock_of, Given, refusal_by, refusal_of, slot_given, is_of, Resources, Wanted, addressed_at, at_stage, barred_early, barred_late, born_from, bus_barred, bus_for, bus_slot_for, clocked, code_in, counted, dimms, drafted, has_backend, id_barred, joined, kind_barred, number_for, ok_in, ok_or_zero, plug, plug_as, plug_by, plug_late, range_barred, range_for, range_of, room_barred, size_of, source_for, resources_of, started, stood, target_for, type_barred, valued, with_body_of, with_device, property_named, edit, TypeInfo, is_a, type_named, types}
use Rattle.std.proofs.lemmas.Bool.{cases_lt}
use Rattle.std.proofs.lemmas.Slice.Eq.{bytes_eq-Decides}
use Rattle.qo_values.specs.declared.properties.Val.TheVariants as val
use Rattle.qo_values.proofs.EachLemmas.{each}
use Rattle.qo_model.specs.Plug.{first_of}
use Rattle.qo_model.proofs.GraphLemmas.{births_at}
use Rattle.qo_sound.specs.TreeKept.{SoundTree}
use Rattle.qo_sound.proofs.AddLemmas.{unbarred}
use Rattle.qo_sound.proofs.FirmBoardLemmas.{WellFormed}
use Rattle.qo_sound.proofs.PlugLemmas.{device-of, or-none, place-of, stage-none}
use Rattle.qo_sound.proofs.ViewLemmas.{rest-from_sound}
use Rattle.qo_sound_bounds.specs.SoundSources.{SoundSources}
use Rattle.qo_sound_bounds.proofs.ClockLemmas.{source-bridge, source-machines}
use Rattle.qo_sound_devices.specs.SoundDevices.{SoundDevices}
use Rattle.qo_sound_devices.specs.SoundPlaces.{HasOwner, machines, bridges}
use Rattle.qo_sound_devices.proofs.AcceptanceLemmas.{Passes, goal-of, passes}
use Rattle.qo_sound_devices.proofs.AdditionLemmas.{Goal}
use Rattle.qo_sound_devices.proofs.PlacesLemmas.{high-absent, of-live}
use Rattle.qo_sound_devices.proofs.PlugLemmas.{Accepted}
use Rattle.qo_sound_phases.proofs.ResetTreeLemmas.{Placed, placed}
use Rattle.qo_plain.specs.Plugged.{HasRange, IsAdded, PluggedLaw, at_address, begun_slots, count_with, further_record, placed_slots, plain_device}
use Rattle.qo_plain.proofs.StarLemmas.{Low, Slots, beside, drafted-is, kinds_of, made, star, star-own}
use Rattle.qo_plain.proofs.StandingLemmas.{counted-is, given, head, joined-low, joined-of, joined-star, parent-low, valued-is}
use Rattle.qo_plain.proofs.DeviceRowsLemmas.{Rowed, body_with, rows}

-- what is known where nothing refuses a device
record Admitted (b : Board) (t : TypeId) (a : Wanted) (resources : Resources) : Type 0 where
  low : Low (b.born + 1) b.records
  begun : 8 ≤ b.born
  free : find (λ (p : Given). bytes_eq p.0 (codes "parent_bus")) a.props ≡ None
  is_bus : is_of b (codes "bus") resources.bus ≡ true
  bus_low : resources.bus ≤ b.born
  is_clock : is_of b (codes "clock") (source_for b resources.bus) ≡ true

module _ (b : Board) (t : TypeId) (a : Wanted) (resources : Resources) (k : Admitted b t a resources) (r : Rowed (b.born + 1) t) where
  abbrev n : ℕ
  n = b.born + 1

  abbrev source : ℕ
  source = source_for b resources.bus

  abbrev c : Board
  c = joined b (b.born + 1) a resources (beside b t)

  low_c : Low (b.born + 1) (joined b (b.born + 1) a resources (beside b t)).records
  low_c = joined-low b (b.born + 1) a resources (beside b t) k.low

  abbrev first : Slots
  first = head r.text (plain (val.Bool false)) (strong Bus None) (plain val.Nothing) r.rest

  abbrev after_it : Slots
  after_it = at_address resources.range (map (slot_given b a.props) r.rest)

  abbrev g0 : Slot
  g0 = given b a.props (codes "type") r.text

  abbrev last : Slots → Slots
  last rest = head (given b a.props (codes "type") r.text) (plain (val.Bool true)) (strong Bus (Some resources.bus)) (plain (val.Uint resources.slot)) rest

  drafted-so : drafted b t ≡ star (beside b t) (made n t first) r.kids
  drafted-so =
      drafted-is b t k.low (r.grows b)
      ∙ ap₂ (λ (ss : Slots) (ks : List Record). star (beside b t) (made n t ss) ks) r.slots_are r.kids_are

  joined-so : joined b n a resources (drafted b t) ≡ star c (made n t first) r.kids
  joined-so =
      ap (joined b n a resources) drafted-so
      ∙ joined-star b n a resources (beside b t) (made n t first) refl k.low r.kids r.high (parent-low b.born a.id k.begun) (omega (arith, k.bus_low))

  stood-so : stood b n a resources (drafted b t) ≡ star c (body_with n t a.id resources.range (last after_it)) r.kids
  stood-so =
      ap (λ (e : Board). edit n (with_body_of a.id resources.range) (addressed_at n resources.range (valued b n a.props resources e))) joined-so
      ∙ ap (λ (e : Board). edit n (with_body_of a.id resources.range) (addressed_at n resources.range e))
      (valued-is b t n c low_c r.kids r.high a.props resources k.free (joined-of b n a resources (beside b t) (codes "bus") resources.bus k.is_bus) r.text
      (val.Bool false)
      val.Nothing r.rest)
      ∙ ap (edit n (with_body_of a.id resources.range))
      (r.addressed b a.props c low_c resources.range g0 (plain (val.Bool true)) (strong Bus (Some resources.bus)) (plain (val.Uint resources.slot)))
      ∙ star-own n c (made n t (last after_it)) refl low_c (with_body_of a.id resources.range) r.kids r.high

  slots-so : last after_it ≡ placed_slots resources (begun_slots b n t a)
  slots-so =
      sym (r.placed b a.props resources.bus resources.slot resources.range g0 (given b a.props (codes "realized") (plain (val.Bool false)))
      (given b a.props (codes "parent_bus") (strong Bus None)) (given b a.props (codes "slot") (plain val.Nothing)))
      ∙ ap (λ (ss : Slots). placed_slots resources (map (slot_given b a.props) ss)) (sym r.begun_are)

  abbrev further : List Record
  further = map (further_record (source_for b resources.bus)) (born_from (suc (b.born + 1)) (kinds_of t))

  device-by : with_device b t a resources ≡ plain_device b t a resources
  unfolding add
  device-by =
      ap (λ (e : Board). counted a.id (clocked source n e)) stood-so
      ∙ ap (counted a.id)
      (r.fed b a.props c low_c source (joined-of b n a resources (beside b t) (codes "clock") source k.is_clock) a.id resources.range g0 (plain (val.Bool true))
      (strong Bus (Some resources.bus)) (plain (val.Uint resources.slot)))
      ∙ counted-is a.id (star c (body_with n t a.id resources.range (last after_it)) further)
      ∙ ap (λ (ss : Slots). record (star c (body_with n t a.id resources.range ss) further) { anonymous = count_with a.id b.anonymous }) slots-so

-- nothing is given for its bus
none-given : (b : Board) (n : ℕ) (t : TypeId) → Rowed n t → (props : List Given) → refusal_of b t props ≡ None
    → find (λ (p : Given). bytes_eq p.0 (codes "parent_bus")) props ≡ None
none-given b n t k [] e = refl
none-given b n t k (p ∷ props) e = go (bytes_eq p.0 (codes "parent_bus")) refl (refusal_by b (property_named t p.0) p.1) refl (none-given b n t k props)
  where
    go : (u : Bool) → bytes_eq p.0 (codes "parent_bus") ≡ u → (o : Option Code) → refusal_by b (property_named t p.0) p.1 ≡ o
        → (refusal_of b t props ≡ None → find (λ (q : Given). bytes_eq q.0 (codes "parent_bus")) props ≡ None)
        → find (λ (q : Given). bytes_eq q.0 (codes "parent_bus")) (p ∷ props) ≡ None
    go u q (Some code) r rest = absurd (let clash : Some code ≡ None = rw (refusal_of, r) at e in cc)
    go false q None r rest = rw q (rest (rw (refusal_of, r) at e))
    go true q None r rest =
        let own : p.0 ≡ codes "parent_bus" = (bytes_eq-Decides p.0 (codes "parent_bus")).0 q in
        absurd (let clash : None ≡ Some E18 = sym r ∙ ap (λ (name : List ℕ). refusal_by b (property_named t name) p.1) own ∙ k.no_bus b p.1 in cc)

-- births are low
births-low : (k : ℕ) (rs : List Record) → AllByRecursion (λ n. n ≤ k) (births_at rs) → Low (k + 1) rs
births-low k [] h = tt
births-low k (r ∷ rs) h = let low : r.birth ≤ k = h.0 in (omega (arith, low), births-low k rs h.1)

live-low : (b : Board) → WellFormed b → (m : ℕ) → is_live b m ≡ true → m ≤ b.born
live-low b firm m e = go (cases_lt b.born m)
  where
    go : (b.born < m) ⊎ (m ≤ b.born) → m ≤ b.born
    go (inl high) = absurd (let clash : true ≡ false = sym e ∙ high-absent b firm m high in cc)
    go (inr low) = low

-- the source for a bus is a clock
kind-clock : (b : Board) (m : ℕ) → kind_of b m ≡ Some Clock → is_of b (codes "clock") m ≡ true
unfolding types
kind-clock b m e = ap (λ (o : Option TypeId). option_map_or (λ (t : TypeId). is_a t (codes "clock")) o false) e

source-kind : (b : Board) → Placed b → SoundSources b → (bus : ℕ) → HasOwner b bus → kind_of b (source_for b bus) ≡ Some Clock
source-kind b k h bus (machines u) = ap (kind_of b) (source-machines b k bus u) ∙ h.system
source-kind b k h bus (bridges p s o) = ap (kind_of b) (source-bridge b k p bus s o) ∙ by-clock (clock_of b p) refl
  where
    by-clock : (u : Option ℕ) → clock_of b p ≡ u → kind_of b (unwrap_or u SYSTEM_CLOCK_BIRTH) ≡ Some Clock
    by-clock None q = h.system
    by-clock (Some m) q = h.clocks p m (k.places.each p s refl) q

admitted : (b : Board) → SoundTree b → (t : TypeId) → is_a t (codes "device") ≡ true → (a : Wanted) → refusal_of b t a.props ≡ None → (resources : Resources)
    → is_of b (codes "bus") resources.bus ≡ true → is_of b (codes "clock") (source_for b resources.bus) ≡ true → Admitted b t a resources
admitted b tree t device a given resources is_bus is_clock =
    record {
      low = births-low b.born b.records firm.within;
      begun = firm.begun;
      free = none-given b (b.born + 1) t (rows (b.born + 1) t device) a.props given;
      is_bus = is_bus;
      bus_low = live-low b firm resources.bus (of-live b (codes "bus") resources.bus is_bus);
      is_clock = is_clock;
    }
  where
    firm : WellFormed b
    firm = (rest-from_sound b tree).used.firm

made-is : (b : Board) → SoundTree b → (t : TypeId) → is_a t (codes "device") ≡ true → (a : Wanted) → refusal_of b t a.props ≡ None → (resources : Resources)
    → is_of b (codes "bus") resources.bus ≡ true → is_of b (codes "clock") (source_for b resources.bus) ≡ true
    → with_device b t a resources ≡ plain_device b t a resources
made-is b tree t device a given resources is_bus is_clock =
    device-by b t a resources (admitted b tree t device a given resources is_bus is_clock) (rows (b.born + 1) t device)

-- where it goes
ok-slot : (o : Result ℕ Code) → code_in o ≡ None → o ≡ Ok (ok_or_zero o)
ok-slot (Ok m) e = refl
ok-slot (Err code) e = absurd (let clash : Some code ≡ None = e in cc)

dimm-range : (b : Board) (bus : ℕ) (props : List Given) → kind_barred b MemDimm bus props ≡ None → HasRange b MemDimm props (range_of b MemDimm props)
dimm-range b bus props e = go (target_for b MemoryBackend props (codes "memdev")) refl
  where
    range : ℕ → Result Range Code
    range m = range_for b (number_for props (codes "addr")) (size_of b m)

    go : (o : Option ℕ) → target_for b MemoryBackend props (codes "memdev") ≡ o → HasRange b MemDimm props (range_of b MemDimm props)
    go None p = absurd (let clash : Some E38 ≡ None = ap (range_barred b props) (sym p) ∙ e in cc)
    go (Some m) p = by-range (range m) refl
      where
        fits : code_in (range m) ≡ None
        fits = (unbarred (list_any (has_backend b m) (dimms b)) E39 (code_in (range m)) (ap (range_barred b props) (sym p) ∙ e)).1

        by-range : (r : Result Range Code) → range m ≡ r → HasRange b MemDimm props (range_of b MemDimm props)
        by-range (Err code) q = absurd (let clash : Some code ≡ None = ap code_in (sym q) ∙ fits in cc)
        by-range (Ok r) q =
            subst (HasRange b MemDimm props)
            (sym (ap (option_and_then (λ (x : ℕ). ok_in (range_for b (number_for props (codes "addr")) (size_of b x)))) p ∙ ap ok_in q)) (m, (p, q))

has-range : (b : Board) (t : TypeId) (bus : ℕ) (props : List Given) → kind_barred b t bus props ≡ None → HasRange b t props (range_of b t props)
has-range b t bus props =
    each (λ (t : TypeId). kind_barred b t bus props ≡ None → HasRange b t props (range_of b t props)) (search (rules, dimm-range)) t

module _ (b : Board) (d : SoundDevices b) (h : SoundSources b) (a : Wanted) where
  accepted-made : (t : TypeId) (bus : ℕ) → Accepted b t bus a
      → with_device b t a (resources_of b t bus a.props) ≡ plain_device b t a (resources_of b t bus a.props)
  accepted-made t bus k =
      made-is b d.tree t k.device a (passes b t bus a k).properties (resources_of b t bus a.props) goal.is_bus
      (kind-clock b (source_for b bus) (source-kind b (placed b d) h bus goal.owner))
    where
      goal : Goal d.places.0 b (b.born + 1) bus (resources_of b t bus a.props).slot a.id t (drafted b t)
      goal = goal-of d.places.0 b t bus a (rest-from_sound b d.tree) d.places.1 k

  module _ (row : TypeInfo) (type : type_named a.driver ≡ Some row) where
    by-late : (bus : ℕ) → bus_for b row.id a.bus ≡ Some bus → (o : Option (ℕ × Code)) → (o ≡ None → Accepted b row.id bus a)
        → (plug_late b row.id bus a o).refusal ≡ None → IsAdded b a (plug_late b row.id bus a o).board
    by-late bus p (Some refusal) k e = absurd (let clash : Some refusal ≡ None = e in cc)
    by-late bus p None k e =
        let it : Accepted b row.id bus a = k refl in
        let shown : Passes b row.id bus a = passes b row.id bus a it in
        record {
          row = row;
          type = type;
          resources = resources_of b row.id bus a.props;
          goes =
              record {
                bus = p;
                slot = ok-slot (bus_slot_for b bus (number_for a.props (codes "slot"))) shown.slot;
                range = has-range b row.id bus a.props shown.kind;
              };
          board = ap (started (b.born + 1) row.id) (accepted-made row.id bus it);
        }

    -- an add that goes on has a bus
    no-bus : barred_early b row.id a ≡ None → bus_for b row.id a.bus ≡ None → ⊥
    no-bus e p =
        let bus_stage : Option (ℕ × Code) = at_stage 3 (bus_barred b row.id (bus_for b row.id a.bus)) in
        let room_stages : Option (ℕ × Code) = first_of (at_stage 4 (room_barred b row.id) ∷ []) in
        let first : (at_stage 2 (id_barred b a.id) ≡ None) × (option_or bus_stage room_stages ≡ None) =
        or-none (at_stage 2 (id_barred b a.id)) (option_or bus_stage room_stages) e in
        let second : (bus_stage ≡ None) × (room_stages ≡ None) = or-none bus_stage room_stages first.1 in
        let clash : Some E25 ≡ None =
        ap (bus_barred b row.id) (sym p) ∙ stage-none 3 (bus_barred b row.id (bus_for b row.id a.bus)) second.0 in
        absurd cc

    by-stage : is_a row.id (codes "device") ≡ true → (o : Option (ℕ × Code)) → barred_early b row.id a ≡ o → (plug_as b row.id a o).refusal ≡ None
        → IsAdded b a (plug_as b row.id a o).board
    by-stage device (Some refusal) early e = absurd (let clash : Some refusal ≡ None = e in cc)
    by-stage device None early e = go (bus_for b row.id a.bus) refl
      where
        go : (m : Option ℕ) → bus_for b row.id a.bus ≡ m → IsAdded b a (plug_as b row.id a None).board
        go None p = absurd (no-bus early p)
        go (Some bus) p =
            rw (plug_as, p)
            (by-late bus p (barred_late b row.id bus a.props)
            (λ late. record { device = device; chosen = p; early = early; late = late; place = place-of b row.id bus a device p early late })
            (rw (plug_as, p) at e))

  by-type : (o : Option Code) → type_barred a.driver ≡ o → (plug_by b a o).refusal ≡ None → IsAdded b a (plug_by b a o).board
  by-type (Some code) t e = absurd (let clash : Some (1, code) ≡ None = e in cc)
  by-type None t e = go (type_named a.driver) refl
    where
      go : (r : Option TypeInfo) → type_named a.driver ≡ r → IsAdded b a (plug_by b a None).board
      go None p = absurd (let clash : Some E20 ≡ None = rw (type_barred, p) at t in cc)
      go (Some row) p =
          rw (plug_by, p) (by-stage row p (device-of row (rw (type_barred, p) at t)) (barred_early b row.id a) refl (rw (plug_by, p) at e))

  plug-added : (plug b a).refusal ≡ None → IsAdded b a (plug b a).board
  unfolding plug
  plug-added e = by-type (type_barred a.driver) refl e

pub plugged_lem : PluggedLaw
plugged_lem = record { plugged = λ b d h a e. plug-added b d h a e; made = made-is }
