-- A device that is added: its clock goes by the one for its bus, and the others go by what they went by.
use Rattle.std.proofs.Common.{◌≡◌, ◌⊎◌, inl, inr, refl, ap, sym, subst, ◌∙◌, ℕ, suc, ◌+◌, ◌<◌, ◌≤◌, Bool, true, false, ◌==◌, List, [], ◌∷◌, Option, Some, None, option_map, option_and_then, unwrap_or, codes, arith}
use Rattle.qo_model.proofs.Common.{if◌then◌else◌, nat_eq_equiv, AllByRecursion, list_any, option_map_or, ANONYMOUS_BIRTH, MACHINE_BIRTH, PERIPHERAL_BIRTH, SYSTEM_CLOCK_BIRTH, Realize, TypeId, Clock, Device, Val, Range, Board, Record, child, strong, is_live, kind_of, record_of, slots_at, add, changed_at, fresh, set, with_added, with_changed, with_val, source_of, bus_of, child_named, clock_of, is_realized, kid_name, index_from, fresh_slots, is_of, only_of, Resources, Wanted, acted_all, addressed_at, bus_births, clocked, counted, drafted, fitted, joined, link_named, name_for, parent_for, plug, plug_attempt, source_for, resources_of, stood, valued, with_body_of, with_device, with_given, with_new, with_plugged, with_source, edit, is_a, slots_of, types, is_named, set_named}
use Rattle.std.proofs.lemmas.Bool.{cases_lt, eqb-true}
use Rattle.std.proofs.lemmas.Option.{same_Some}
use Rattle.qo_values.specs.declared.properties.Val.TheVariants as val
use Rattle.qo_model.specs.Clocks.{weak_in}
use Rattle.qo_model.proofs.FirstSlotLemmas.{slots_in, named_in}
use Rattle.qo_model.proofs.StepLemmas.{found-edited, map-edited}
use Rattle.qo_sound.proofs.AdditionStepsLemmas.{link-by}
use Rattle.qo_sound.proofs.DraftLemmas.{absent-above, live-apart}
use Rattle.qo_sound.proofs.PlugLemmas.{plugged-rest, shut-above}
use Rattle.qo_sound.proofs.RecordLemmas.{all-map}
use Rattle.qo_sound.proofs.TestLemmas.{decide, clash}
use Rattle.qo_sound.proofs.ViewLemmas.{PinsRootAlone, rest-from_sound}
use Rattle.qo_sound_devices.specs.SoundDevices.{SoundDevices}
use Rattle.qo_sound_devices.specs.SoundPlaces.{child_entries, HasOwner, machines, bridges, owns_it, stands}
use Rattle.qo_sound_devices.proofs.DropLemmas.{edited-slots}
use Rattle.qo_sound_devices.proofs.DraftLemmas.{drafted-made}
use Rattle.qo_sound_devices.proofs.AdditionLemmas.{deepened, done, Joined, old-stands, places-joined}
use Rattle.qo_sound_devices.proofs.PlacesLemmas.{child-live, high-absent, kind-alike, of-live, stands-live, aside-apart}
use Rattle.qo_sound_devices.proofs.PlugLemmas.{Accepted, after-plug}
use Rattle.qo_sound_devices.proofs.PlugStageLemmas.{accepted-joined}
use Rattle.qo_sound_devices.proofs.SourceLemmas.{add-other, addressed-other, edit-other, link-other, set-other, stood-other}
use Rattle.qo_sound_clocks.proofs.SlotLemmas.{sees, Slots}
use Rattle.qo_sound_clocks.proofs.PlugLemmas.{OnlySource, edited-at, Growing, growing-first, growing-rows, growing-stood, rows-quiet}
use Rattle.qo_sound_clocks.proofs.PlugStageLemmas.{growing}
use Rattle.qo_sound_clocks.proofs.ReadLemmas.{named-reads, Reads, tree-reads}
use Rattle.qo_sound_phases.proofs.ResetTreeLemmas.{Placed}
use Rattle.qo_sound_phases.proofs.PlugLemmas.{same-acts, told-so}
use Rattle.qo_sound_phases.proofs.ShapeLemmas.{PhasedSo, phased-so, SameShape, shape-none, shape-records, shape-then}
use Rattle.qo_sound_bounds.specs.SoundSources.{IsDeviceClock, SoundSources}
use Rattle.qo_sound_bounds.proofs.ClockLemmas.{clock-live, clock-same, source-bridge, source-live, source-machines, system-live}
use Rattle.qo_sound_bounds.proofs.DraftLemmas.{clock-fitted, clock-given, clock-in, clocks-changed, clock-val, ClockIn, drafted-clock, IsNewClock, young-apart}
use Rattle.qo_sound_bounds.proofs.SightLemmas.{edit-seen, sees-added}
use Rattle.qo_sound_bounds.proofs.SourceLemmas.{beside-sources}

-- what follows leaves slots and types
counted-shape : (id : Option (List ℕ)) (b : Board) → SameShape b (counted id b)
counted-shape None b = shape-records b (counted None b) refl
counted-shape (Some id) b = shape-none b

started-shape : (b : Board) (t : TypeId) (a : Wanted) (resources : Resources)
    → SameShape (clocked (source_for b resources.bus) (b.born + 1) (stood b (b.born + 1) a resources (drafted b t))) (with_plugged b t a resources)
started-shape b t a resources =
    shape-then q made (with_plugged b t a resources) (counted-shape a.id q)
    (shape-then made f (with_plugged b t a resources) acts.shape (told-so (b.born + 1) f).shape)
  where
    q : Board
    q = clocked (source_for b resources.bus) (b.born + 1) (stood b (b.born + 1) a resources (drafted b t))

    made : Board
    made = with_device b t a resources

    ns : List ℕ
    ns = (b.born + 1) ∷ bus_births (b.born + 1) t

    f : Board
    f = acted_all Realize ns made

    acts : PhasedSo Realize ns made f
    acts = subst (PhasedSo Realize ns made) (sym (same-acts Realize ns made)) (phased-so Realize ns made)

-- the board after a device that nothing refuses
pub added-placed : (b : Board) (a : Wanted) → SoundDevices b → (t : TypeId) (at : ℕ) → Accepted b t at a
    → Placed (with_plugged b t a (resources_of b t at a.props))
added-placed b a d t at k =
    record {
      depth = deepened d.places.0 (b.born + 1) at c;
      places = places-joined d.places.0 b (b.born + 1) at resources.slot a.id t c j rest.used.firm d.places.1;
      firm = (plugged-rest b t a resources rest (shut-above b.born rest.used.firm.begun) k.place).used.firm;
    }
  where
    resources : Resources
    resources = resources_of b t at a.props

    c : Board
    c = with_plugged b t a (resources_of b t at a.props)

    rest : PinsRootAlone b
    rest = rest-from_sound b d.tree

    j : Joined d.places.0 b (b.born + 1) at resources.slot a.id t (done b at resources.slot a.id) c
    j = accepted-joined d.places.0 b a rest d.places.1 t at k

-- the device where it stands
module _ (b : Board) (a : Wanted) (resources : Resources) (c : Board) where
  abbrev n : ℕ
  n = b.born + 1

  abbrev c1 : Board
  c1 = add (parent_for a.id) (name_for b a.id) (child (b.born + 1)) c

  abbrev c2 : Board
  c2 = joined b (b.born + 1) a resources c

  -- another object
  valued-other : (x : ℕ) → (x == b.born + 1) ≡ false → record_of (stood b (b.born + 1) a resources c) x ≡ record_of (joined b (b.born + 1) a resources c) x
  valued-other x apart =
      let c3 : Board = edit n (with_given b a.props) c2 in
      let c4 : Board = set_named n (codes "slot") (val.Uint resources.slot) c3 in
      let c5 : Board = link_named n (codes "parent_bus") resources.bus c4 in
      edit-other x n (with_body_of a.id resources.range) (λ r. refl) apart (addressed_at n resources.range (valued b n a.props resources c2))
      ∙ addressed-other x n resources.range apart (valued b n a.props resources c2)
      ∙ set-other x n (codes "realized") (val.Bool true) apart c5
      ∙ link-other x n (codes "parent_bus") resources.bus apart c4
      ∙ set-other x n (codes "slot") (val.Uint resources.slot) apart c3
      ∙ edit-other x n (with_given b a.props) (λ r. refl) apart c2

  joined-seen : (x s : ℕ) → sees s (slots_at c x) ≡ true → sees s (slots_at (joined b (b.born + 1) a resources c) x) ≡ true
  unfolding add
  joined-seen x s e =
      edit-seen resources.bus (with_added (kid_name resources.slot) (strong Device (Some n))) (λ r. refl) c1
      (λ r q. sees-added (kid_name resources.slot) (strong Device (Some n)) r.slots) x s
      (edit-seen (parent_for a.id) (with_added (name_for b a.id) (child n)) (λ r. refl) c (λ r q. sees-added (name_for b a.id) (child n) r.slots) x s e)

  pub stood-seen : (x : ℕ) → (x == b.born + 1) ≡ false → (s : ℕ) → sees s (slots_at c x) ≡ true
      → sees s (slots_at (stood b (b.born + 1) a resources c) x) ≡ true
  stood-seen x apart s e = subst (λ (o : Option Record). sees s (slots_in o) ≡ true) (sym (valued-other x apart)) (joined-seen x s e)

  -- its own slots
  module _ (dr : Board) where
    abbrev Own : Slots → Type 0
    Own xs = AllByRecursion (ClockIn (b.born + 1) dr) xs

    own-edit : (change : Record → Record) → ((r : Record) → (change r).birth ≡ r.birth) → ((r : Record) → Own r.slots → Own (change r).slots) → (e : Board)
        → Own (slots_at e (b.born + 1)) → Own (slots_at (edit (b.born + 1) change e) (b.born + 1))
    own-edit change birth keeps e h =
        edited-at Own n change birth e n (λ p. h) (λ r q p. keeps r (subst Own (ap slots_in q) h)) tt

    own-set : (name : List ℕ) (v : Val) (e : Board) → Own (slots_at e (b.born + 1)) → Own (slots_at (set_named (b.born + 1) name v e) (b.born + 1))
    unfolding set
    own-set name v e h = go (index_from (is_named name) 0 (slots_at e n)) refl
      where
        go : (o : Option ℕ) → index_from (is_named name) 0 (slots_at e n) ≡ o → Own (slots_at (set_named n name v e) n)
        go None q = rw (set_named, q) h
        go (Some i) q =
            rw (set_named, q)
            (own-edit (with_changed (with_val v) i) (λ r. refl) (λ r k. clocks-changed n dr (with_val v) (clock-val n dr v) i r.slots k) e h)

    own-link : (name : List ℕ) (m : ℕ) (e : Board) → Own (slots_at e (b.born + 1)) → Own (slots_at (link_named (b.born + 1) name m e) (b.born + 1))
    own-link name m e h = go (index_from (is_named name) 0 (slots_at e n)) refl
      where
        go : (o : Option ℕ) → index_from (is_named name) 0 (slots_at e n) ≡ o → Own (slots_at (link_named n name m e) n)
        go None q = rw (link_named, q) h
        go (Some i) q =
            rw (link_named, q)
            (own-edit (with_changed (fitted e m) i) (λ r. refl) (λ r k. clocks-changed n dr (fitted e m) (clock-fitted n dr e m) i r.slots k) e h)

    own-addressed : (range : Option Range) (e : Board) → Own (slots_at e (b.born + 1)) → Own (slots_at (addressed_at (b.born + 1) range e) (b.born + 1))
    own-addressed None e h = h
    own-addressed (Some r) e h = own-set (codes "addr") (val.Uint r.at) e h

    pub stood-own : (b.born + 1 == resources.bus) ≡ false → (b.born + 1 == parent_for a.id) ≡ false → Own (slots_at c (b.born + 1))
        → Own (slots_at (stood b (b.born + 1) a resources c) (b.born + 1))
    stood-own bus parent h =
        let c3 : Board = edit n (with_given b a.props) c2 in
        let c4 : Board = set_named n (codes "slot") (val.Uint resources.slot) c3 in
        let c5 : Board = link_named n (codes "parent_bus") resources.bus c4 in
        let first : Own (slots_at c1 n) =
        subst Own (sym (ap slots_in (add-other n (parent_for a.id) (name_for b a.id) (child n) parent c))) h in
        let second : Own (slots_at c2 n) =
        subst Own (sym (ap slots_in (add-other n resources.bus (kid_name resources.slot) (strong Device (Some n)) bus c1))) first in
        own-edit (with_body_of a.id resources.range) (λ r. refl) (λ r k. k) (addressed_at n resources.range (valued b n a.props resources c2))
        (own-addressed resources.range (valued b n a.props resources c2)
        (own-set (codes "realized") (val.Bool true) c5
        (own-link (codes "parent_bus") resources.bus c4
        (own-set (codes "slot") (val.Uint resources.slot) c3
        (own-edit (with_given b a.props) (λ r. refl)
        (λ r k. all-map (ClockIn n dr) (ClockIn n dr) _ (clock-given n dr b a.props) r.slots k) c2 second)))))

-- the source of a clock as new
source-place : index_from (is_named (codes "source")) 0 (fresh_slots Clock) ≡ Some 4
unfolding types
source-place = refl

source-now : (d : Board) (m : ℕ)
    → option_and_then weak_in (named_in (codes "source") (changed_at (fitted d m) 4 (fresh_slots Clock))) ≡ only_of d (codes "clock") m
unfolding types
source-now d m = refl

linked-source : (d : Board) (m k : ℕ) (r : Record) → record_of d k ≡ Some r → r.slots ≡ fresh_slots Clock → is_of d (codes "clock") m ≡ true
    → source_of (link_named k (codes "source") m d) k ≡ Some m
linked-source d m k r e fresh is =
    rw (link_named, place)
    (ap (λ (xs : Slots). option_and_then weak_in (named_in (codes "source") xs)) (edited-slots d k (with_changed (fitted d m) 4) (λ y. refl) r e)
    ∙ ap (λ (xs : Slots). option_and_then weak_in (named_in (codes "source") (changed_at (fitted d m) 4 xs))) fresh
    ∙ source-now d m
    ∙ ap (λ (t : Bool). if t then Some m else None) is)
  where
    place : index_from (is_named (codes "source")) 0 (slots_at d k) ≡ Some 4
    place = ap (index_from (is_named (codes "source")) 0) (ap slots_in e ∙ fresh) ∙ source-place

kind-clock : (d : Board) (m : ℕ) → kind_of d m ≡ Some Clock → is_of d (codes "clock") m ≡ true
unfolding types
kind-clock d m e = ap (λ (o : Option TypeId). option_map_or (λ (t : TypeId). is_a t (codes "clock")) o false) e

-- a link that is pointed leaves types
kind-link : (n : ℕ) (name : List ℕ) (m : ℕ) (c : Board) (x : ℕ) → kind_of (link_named n name m c) x ≡ kind_of c x
kind-link n name m c x =
    link-by (λ d. kind_of d x ≡ kind_of c x) n name c refl m
    (λ i e.
    ap (option_map (λ (r : Record). r.kind)) (found-edited n (with_changed (fitted c m) i) (λ r. refl) x c.records)
    ∙ map-edited (λ (r : Record). r.kind) n (with_changed (fitted c m) i) (λ r. refl) (record_of c x))

-- a device that nothing refuses
module _ (b : Board) (a : Wanted) (d : SoundDevices b) (h : SoundSources b) (t : TypeId) (at : ℕ) (k : Accepted b t at a) where
  abbrev resources : Resources
  resources = resources_of b t at a.props

  abbrev source : ℕ
  source = source_for b at

  abbrev made : Board
  made = stood b (b.born + 1) a (resources_of b t at a.props) (drafted b t)

  abbrev fed_so : Board
  fed_so = clocked (source_for b at) (b.born + 1) (stood b (b.born + 1) a (resources_of b t at a.props) (drafted b t))

  abbrev c : Board
  c = with_plugged b t a (resources_of b t at a.props)

  rest : PinsRootAlone b
  rest = rest-from_sound b d.tree

  abbrev kb : Placed b
  kb = record { depth = d.places.0; places = d.places.1; firm = (rest-from_sound b d.tree).used.firm }

  j : Joined kb.depth b (b.born + 1) at (resources_of b t at a.props).slot a.id t (done b at (resources_of b t at a.props).slot a.id)
      (with_plugged b t a (resources_of b t at a.props))
  j = accepted-joined d.places.0 b a (rest-from_sound b d.tree) d.places.1 t at k

  kc : Placed (with_plugged b t a (resources_of b t at a.props))
  kc = added-placed b a d t at k

  shape : SameShape (clocked (source_for b at) (b.born + 1) (stood b (b.born + 1) a (resources_of b t at a.props) (drafted b t)))
      (with_plugged b t a (resources_of b t at a.props))
  shape = started-shape b t a (resources_of b t at a.props)

  dead : (x : ℕ) → b.born < x → is_live b x ≡ false
  dead x high = high-absent b kb.firm x high

  bus-live : is_live b at ≡ true
  bus-live = of-live b (codes "bus") at j.goal.is_bus

  parent-live : is_live b (parent_for a.id) ≡ true
  parent-live = go a.id
    where
      go : (o : Option (List ℕ)) → is_live b (parent_for o) ≡ true
      go None = child-live b kb.firm MACHINE_BIRTH ANONYMOUS_BIRTH kb.places.parts.1.0
      go (Some i) = child-live b kb.firm MACHINE_BIRTH PERIPHERAL_BIRTH kb.places.parts.0

  new-dead : is_live b (b.born + 1) ≡ false
  new-dead = dead (b.born + 1) (omega arith)

  live-old : (x : ℕ) → is_live b x ≡ true → (x == b.born + 1) ≡ false
  live-old x there = decide (x == b.born + 1) (λ p. clash (sym there ∙ ap (is_live b) (eqb-true x (b.born + 1) p) ∙ new-dead)) (λ p. p)

  -- the clock of the device
  its-clock : (m : ℕ) → clock_of (stood b (b.born + 1) a (resources_of b t at a.props) (drafted b t)) (b.born + 1) ≡ Some m
      → IsNewClock (b.born + 1) (drafted b t) m
  its-clock m e =
      clock-in n (drafted b t) (slots_at made n)
      (stood-own b a resources (drafted b t) (drafted b t) (live-apart b n at new-dead bus-live) (live-apart b n (parent_for a.id) new-dead parent-live)
      (drafted-clock b (absent-above b kb.firm) t)) m e
    where
      n : ℕ
      n = b.born + 1

  clock-record : (m : ℕ) (i : IsNewClock (b.born + 1) (drafted b t) m)
      → record_of (stood b (b.born + 1) a (resources_of b t at a.props) (drafted b t)) m ≡ Some i.its
  clock-record m i =
      let none : is_live b m ≡ false = dead m (omega (arith, i.young)) in
      stood-other m b (b.born + 1) a resources (drafted b t) (young-apart (b.born + 1) m i.young) (live-apart b m at none bus-live)
      (live-apart b m (parent_for a.id) none parent-live)
      ∙ i.found

  -- what was there goes by what it went by
  old-made : (x s : ℕ) → is_live b x ≡ true → sees s (slots_at b x) ≡ true
      → sees s (slots_at (stood b (b.born + 1) a (resources_of b t at a.props) (drafted b t)) x) ≡ true
  old-made x s there e =
      stood-seen b a resources (drafted b t) x (live-old x there) s
      (subst (λ (o : Option Record). sees s (slots_in o) ≡ true)
      (sym ((drafted-made b t (shut-above b.born kb.firm.begun) rest.used k.device).old x there)) e)

  -- and what is new goes by nothing
  grown : (s : ℕ) → Growing b s (stood b (b.born + 1) a (resources_of b t at a.props) (drafted b t))
  grown s =
      growing-stood b s a resources (drafted b t)
      (growing-rows b s t (slots_of t) (rows-quiet t k.device) (with_new (fresh (b.born + 1) t) b) (growing-first b s (absent-above b kb.firm) t))

  new-made : (x s : ℕ) → b.born < x → sees s (slots_at (stood b (b.born + 1) a (resources_of b t at a.props) (drafted b t)) x) ≡ true → ⊥
  new-made x s high e =
      let calm : OnlySource (suc s) (slots_at made x) = (grown (suc s)).new x high in
      let is : s ≡ suc s = calm.only s e in
      omega (arith, is)

  -- the source for its bus is a clock
  source-kind : kind_of b (source_for b at) ≡ Some Clock
  source-kind = go j.goal.owner
    where
      go : HasOwner b at → kind_of b (source_for b at) ≡ Some Clock
      go (machines u) = ap (kind_of b) (source-machines b kb at u) ∙ h.system
      go (bridges p s o) = ap (kind_of b) (source-bridge b kb p at s o) ∙ by (clock_of b p) refl
        where
          by : (u : Option ℕ) → clock_of b p ≡ u → kind_of b (unwrap_or u SYSTEM_CLOCK_BIRTH) ≡ Some Clock
          by None q = h.system
          by (Some m) q = h.clocks p m (kb.places.each p s refl) q

  kind-fed : (o : Option ℕ) (x : ℕ) → kind_of (with_source (source_for b at) o made) x ≡ kind_of made x
  kind-fed None x = refl
  kind-fed (Some m) x = kind-link m (codes "source") source made x

  made-kind : kind_of (stood b (b.born + 1) a (resources_of b t at a.props) (drafted b t)) (source_for b at) ≡ Some Clock
  made-kind =
      sym (kind-fed (clock_of made (b.born + 1)) source)
      ∙ sym (shape.kind source)
      ∙ kind-alike b c source (j.body source (source-live b kb at j.goal.owner))
      ∙ source-kind

  -- after it
  record Fed (q : Board) : Type 0 where
    old : (x s : ℕ) → is_live b x ≡ true → sees s (slots_at b x) ≡ true → sees s (slots_at q x) ≡ true
    kind : (m : ℕ) → clock_of q (b.born + 1) ≡ Some m → kind_of q m ≡ Some Clock
    its : (m : ℕ) → clock_of q (b.born + 1) ≡ Some m → source_of q m ≡ Some (source_for b at)
    new : (x s : ℕ) → b.born < x → sees s (slots_at q x) ≡ true → clock_of q (b.born + 1) ≡ Some x

  fed-at : (o : Option ℕ) → clock_of (stood b (b.born + 1) a (resources_of b t at a.props) (drafted b t)) (b.born + 1) ≡ o
      → Fed (with_source (source_for b at) o (stood b (b.born + 1) a (resources_of b t at a.props) (drafted b t)))
  fed-at None e =
      record {
        old = old-made;
        kind = λ m q. absurd (let bad : None ≡ Some m = sym e ∙ q in cc);
        its = λ m q. absurd (let bad : None ≡ Some m = sym e ∙ q in cc);
        new = λ x s high q. absurd (new-made x s high q);
      }
  fed-at (Some m) e =
      record {
        old = λ x s there q.
            subst (λ (o : Option Record). sees s (slots_in o) ≡ true)
            (sym (link-other x m (codes "source") source (nat_eq_equiv.symm x m ∙ live-apart b m x none there) made)) (old-made x s there q);
        kind = λ l q.
            let is : l ≡ m = same_Some l m (sym q ∙ same ∙ e) in
            ap (kind_of z) is ∙ kind-link m (codes "source") source made m ∙ ap (option_map (λ (r : Record). r.kind)) (clock-record m i) ∙ ap Some i.kind;
        its = λ l q.
            let is : l ≡ m = same_Some l m (sym q ∙ same ∙ e) in
            ap (source_of z) is ∙ linked-source made source m i.its (clock-record m i) i.slots (kind-clock made source made-kind);
        new = λ x s high q.
            decide (x == m) (λ p. same ∙ e ∙ ap Some (sym (eqb-true x m p)))
            (λ p. absurd (new-made x s high (subst (λ (o : Option Record). sees s (slots_in o) ≡ true) (link-other x m (codes "source") source p made) q)));
      }
    where
      z : Board
      z = link_named m (codes "source") source made

      i : IsNewClock (b.born + 1) (drafted b t) m
      i = its-clock m e

      none : is_live b m ≡ false
      none = dead m (omega (arith, i.young))

      same : clock_of z (b.born + 1) ≡ clock_of made (b.born + 1)
      same =
          ap (λ (o : Option Record). option_and_then child_named (named_in (codes "clk") (slots_in o)))
          (link-other (b.born + 1) m (codes "source") source (nat_eq_equiv.symm (b.born + 1) m ∙ young-apart (b.born + 1) m i.young) made)

  fed-now : Fed (with_plugged b t a (resources_of b t at a.props))
  fed-now =
      let f : Fed fed_so = fed-at (clock_of made (b.born + 1)) refl in
      let same : clock_of c (b.born + 1) ≡ clock_of fed_so (b.born + 1) =
      ap (λ (ss : Slots). option_and_then child_named (named_in (codes "clk") ss)) (shape.slots (b.born + 1)) in
      record {
        old = λ x s there q. subst (λ (ss : Slots). sees s ss ≡ true) (sym (shape.slots x)) (f.old x s there q);
        kind = λ m q. shape.kind m ∙ f.kind m (sym same ∙ q);
        its = λ m q. ap (λ (ss : Slots). option_and_then weak_in (named_in (codes "source") ss)) (shape.slots m) ∙ f.its m (sym same ∙ q);
        new = λ x s high q. same ∙ f.new x s high (subst (λ (ss : Slots). sees s ss ≡ true) (shape.slots x) q);
      }

  on : Reads b
  on = tree-reads b d.tree

  now : Reads (with_plugged b t a (resources_of b t at a.props))
  now = named-reads c kc.firm.named

  old-children : (x : ℕ) → is_live b x ≡ true → stands b x ≡ true → child_entries (with_plugged b t a (resources_of b t at a.props)) x ≡ child_entries b x
  old-children x there s =
      j.children x there (aside-apart b (PERIPHERAL_BIRTH ∷ ANONYMOUS_BIRTH ∷ []) (kb.places.aside.1.1.0, (kb.places.aside.1.1.1.0, tt)) x s)

  old-clock : (x : ℕ) → is_live b x ≡ true → stands b x ≡ true → clock_of (with_plugged b t a (resources_of b t at a.props)) x ≡ clock_of b x
  old-clock x there s = clock-same b c kb.firm kc.firm x (old-children x there s)

  source-old : (q : ℕ) → HasOwner b q → source_for (with_plugged b t a (resources_of b t at a.props)) q ≡ source_for b q
  source-old q (machines u) = source-machines c kc q u ∙ sym (source-machines b kb q u)
  source-old q (bridges p s o) =
      let there : is_live b p ≡ true = stands-live b kb.firm p s in
      source-bridge c kc p q (old-stands kb.depth b (b.born + 1) at resources.slot a.id t c j kb.firm kb.places p s)
      (ap (list_any (owns_it q)) (old-children p there s) ∙ o)
      ∙ ap (λ (u : Option ℕ). unwrap_or u SYSTEM_CLOCK_BIRTH) (old-clock p there s)
      ∙ sym (source-bridge b kb p q s o)

  -- who is realized was so, or is the device
  lit-cases : (x : ℕ) → is_realized (with_plugged b t a (resources_of b t at a.props)) x ≡ true → {A : Type 0}
      → (is_live b x ≡ true → is_realized b x ≡ true → A) → (x ≡ b.born + 1 → A) → A
  lit-cases x r f g =
      decide (is_live b x) (λ there. f there (sym (j.realized x there) ∙ r))
      (λ none. decide (x == b.born + 1) (λ p. g (eqb-true x (b.born + 1) p)) (λ p. clash (sym r ∙ j.unrealized x none p)))

  accepted-sources : SoundSources (with_plugged b t a (resources_of b t at a.props))
  accepted-sources =
      record {
        fed = λ x bus m r held its. lit-cases x r (old-fed x bus m held its) (new-fed x bus m held its);
        only = only;
        clocks = λ x m r its. lit-cases x r (old-kind x m its) (λ is. fed-now.kind m (ap (clock_of c) (sym is) ∙ its));
        system = kind-alike b c SYSTEM_CLOCK_BIRTH (j.body SYSTEM_CLOCK_BIRTH (system-live b kb)) ∙ h.system;
      }
    where
      old-fed : (x bus m : ℕ) → bus_of c x ≡ Some bus → clock_of c x ≡ Some m → is_live b x ≡ true → is_realized b x ≡ true
          → source_of c m ≡ Some (source_for c bus)
      old-fed x bus m held its there r =
          let s : stands b x ≡ true = kb.places.only x r in
          let before : bus_of b x ≡ Some bus = sym (j.bus_same x there) ∙ held in
          let its_own : clock_of b x ≡ Some m = sym (old-clock x there s) ∙ its in
          let from : source_of b m ≡ Some (source_for b bus) = h.fed x bus m r before its_own in
          now.source m (source_for b bus) (fed-now.old m (source_for b bus) (clock-live b kb.firm x m its_own) (on.seen m (source_for b bus) from))
          ∙ ap Some (sym (source-old bus (kb.places.owner x bus s before)))

      new-fed : (x bus m : ℕ) → bus_of c x ≡ Some bus → clock_of c x ≡ Some m → x ≡ b.born + 1 → source_of c m ≡ Some (source_for c bus)
      new-fed x bus m held its is =
          let bus_is : bus ≡ at = same_Some bus at (sym held ∙ ap (bus_of c) is ∙ j.on) in
          fed-now.its m (ap (clock_of c) (sym is) ∙ its) ∙ ap Some (sym (ap (source_for c) bus_is ∙ source-old at j.goal.owner))

      old-kind : (x m : ℕ) → clock_of c x ≡ Some m → is_live b x ≡ true → is_realized b x ≡ true → kind_of c m ≡ Some Clock
      old-kind x m its there r =
          let its_own : clock_of b x ≡ Some m = sym (old-clock x there (kb.places.only x r)) ∙ its in
          kind-alike b c m (j.body m (clock-live b kb.firm x m its_own)) ∙ h.clocks x m r its_own

      only : (m s : ℕ) → source_of c m ≡ Some s → IsDeviceClock c m
      only m s e = go (cases_lt b.born m)
        where
          go : (b.born < m) ⊎ (m ≤ b.born) → IsDeviceClock c m
          go (inl high) = record { device = b.born + 1; realized = j.stands_realized; its = fed-now.new m s high (now.seen m s e) }
          go (inr low) =
              let i : IsDeviceClock b m = h.only m s (on.source m s (((growing b t a resources k.device d.tree).old m low).source s (now.seen m s e))) in
              let stood : stands b i.device ≡ true = kb.places.only i.device i.realized in
              let there : is_live b i.device ≡ true = stands-live b kb.firm i.device stood in
              record { device = i.device; realized = j.realized i.device there ∙ i.realized; its = old-clock i.device there stood ∙ i.its }

pub plug-sources : (b : Board) (a : Wanted) → SoundDevices b → SoundSources b → SoundSources (plug b a).board
plug-sources b a d h =
    after-plug SoundSources b a h (λ t bus stage. beside-sources b (plug_attempt b t bus stage) refl h)
    (λ t bus k. accepted-sources b a d h t bus k)
