-- A device that was made and joined gets its values, its address and its id: of what places speak of, only what stands on itself changes.
use Rattle.std.proofs.Common.{◌≡◌, refl, ap, subst, ◌∙◌, ℕ, ◌+◌, Bool, true, false, ◌==◌, List, [], filter_map, Option, Some, None, option_map, codes}
use Rattle.qo_model.proofs.Common.{option_map_or, TypeId, Val, Range, Board, Record, Slot, plain, child, strong, weak, alias, record_of, slots_at, add, set, with_changed, with_val, bus_of, is_realized, bus_slot_of, Given, index_from, canonical, Resources, Wanted, addressed_at, clocked, drafted, fitted, joined, link_named, source_for, stood, valued, with_device, with_given, with_plugged, edit, edited, is_named, set_named}
use Rattle.qo_values.specs.declared.properties.Val.TheVariants as val
use Rattle.qo_model.proofs.StepLemmas.{found-edited, map-edited}
use Rattle.qo_sound.proofs.FirmBoardLemmas.{WellFormed}
use Rattle.qo_sound.proofs.PlugLemmas.{shut-above}
use Rattle.qo_sound.proofs.TestLemmas.{decide}
use Rattle.qo_sound.proofs.ViewLemmas.{PinsRootAlone}
use Rattle.qo_sound_devices.specs.SoundPlaces.{child_entry, path_of, PlacesBut}
use Rattle.qo_sound_devices.proofs.AddLemmas.{children-given}
use Rattle.qo_sound_devices.proofs.LikenessLemmas.{alike-none, alike-record, other-record}
use Rattle.qo_sound_devices.proofs.DraftLemmas.{drafted-made}
use Rattle.qo_sound_devices.proofs.AdditionLemmas.{Goal, done, Joined, Now, path_after}
use Rattle.qo_sound_devices.proofs.JoiningLemmas.{joined-wanted, now_at}
use Rattle.qo_sound_devices.proofs.RealizationLemmas.{valued-at, valued-realized}
use Rattle.qo_sound_devices.proofs.StartLemmas.{acting, Beside, IsNow, joined-beside, joined-body, joined-counted, joined-dims, started-joined}
use Rattle.qo_sound_devices.proofs.UnrealizingLemmas.{Dims, dims-none, dims-set, entries-changed, mild-val}

beside-none : (n : ℕ) (c : Board) → Beside n c c
beside-none n c = record { others = λ x apart. alike-none c x; children = refl; kind = refl }

-- an edit of the device that leaves its children
beside-slots : (n : ℕ) (change : Record → Record) → ((r : Record) → (change r).birth ≡ r.birth) → ((r : Record) → (change r).kind ≡ r.kind)
    → ((r : Record) → filter_map child_entry (change r).slots ≡ filter_map child_entry r.slots) → (c : Board) → Beside n c (edit n change c)
beside-slots n change same_birth same_kind same c =
    record {
      others = λ x apart.
          alike-record c (edit n change c) x (found-edited n change same_birth x c.records ∙ other-record n x change c refl apart (record_of c x) refl);
      children =
          ap (λ (o : Option Record). filter_map child_entry (option_map_or (λ (r : Record). r.slots) o []))
          (found-edited n change same_birth n c.records)
          ∙ slots (record_of c n);
      kind = ap (option_map (λ (r : Record). r.kind)) (found-edited n change same_birth n c.records)
          ∙ map-edited (λ (r : Record). r.kind) n change same_kind (record_of c n);
    }
  where
    slots : (o : Option Record)
        → filter_map child_entry (option_map_or (λ (r : Record). r.slots) (option_map (edited n change) o) [])
        ≡ filter_map child_entry (option_map_or (λ (r : Record). r.slots) o [])
    slots None = refl
    slots (Some r) =
        decide (r.birth == n) {A = filter_map child_entry (edited n change r).slots ≡ filter_map child_entry r.slots} (λ p. rw (edited, p) (same r))
        (λ p. rw (edited, p) refl)

pub child-fitted : (b : Board) (m : ℕ) (s : List ℕ × Slot) → child_entry (s.0, fitted b m s.1) ≡ child_entry s
child-fitted b m (name, plain v) = refl
child-fitted b m (name, child k) = refl
child-fitted b m (name, strong t None) = refl
child-fitted b m (name, strong t (Some k)) = refl
child-fitted b m (name, weak t None) = refl
child-fitted b m (name, weak t (Some k)) = refl
child-fitted b m (name, alias k property) = refl

beside-given : (b : Board) (n : ℕ) (props : List Given) (c : Board) → Beside n c (edit n (with_given b props) c)
beside-given b n props c = beside-slots n (with_given b props) (λ r. refl) (λ r. refl) (λ r. children-given b props r.slots) c

beside-set : (n : ℕ) (name : List ℕ) (v : Val) (c : Board) → Beside n c (set_named n name v c)
unfolding set
beside-set n name v c = go (index_from (is_named name) 0 (slots_at c n)) refl
  where
    go : (o : Option ℕ) → index_from (is_named name) 0 (slots_at c n) ≡ o → Beside n c (set_named n name v c)
    go None e = rw (set_named, e) (beside-none n c)
    go (Some i) e =
        rw (set_named, e)
        (beside-slots n (with_changed (with_val v) i) (λ r. refl) (λ r. refl) (λ r. entries-changed child_entry (with_val v) (mild-val v).children i r.slots) c)

beside-link : (n : ℕ) (name : List ℕ) (m : ℕ) (c : Board) → Beside n c (link_named n name m c)
beside-link n name m c = go (index_from (is_named name) 0 (slots_at c n)) refl
  where
    go : (o : Option ℕ) → index_from (is_named name) 0 (slots_at c n) ≡ o → Beside n c (link_named n name m c)
    go None e = rw (link_named, e) (beside-none n c)
    go (Some i) e =
        rw (link_named, e)
        (beside-slots n (with_changed (fitted c m) i) (λ r. refl) (λ r. refl) (λ r. entries-changed child_entry (fitted c m) (child-fitted c m) i r.slots) c)

dims-addressed : (n : ℕ) (range : Option Range) (c : Board) → Dims c (addressed_at n range c)
dims-addressed n None c = dims-none c
dims-addressed n (Some r) c = dims-set n (codes "addr") (val.Uint r.at) refl refl c

set-count : (n : ℕ) (name : List ℕ) (v : Val) (c : Board) → (set_named n name v c).anonymous ≡ c.anonymous
unfolding set
set-count n name v c = go (index_from (is_named name) 0 (slots_at c n)) refl
  where
    go : (o : Option ℕ) → index_from (is_named name) 0 (slots_at c n) ≡ o → (set_named n name v c).anonymous ≡ c.anonymous
    go None e = rw (set_named, e) refl
    go (Some i) e = rw (set_named, e) refl

link-count : (n : ℕ) (name : List ℕ) (m : ℕ) (c : Board) → (link_named n name m c).anonymous ≡ c.anonymous
link-count n name m c = go (index_from (is_named name) 0 (slots_at c n)) refl
  where
    go : (o : Option ℕ) → index_from (is_named name) 0 (slots_at c n) ≡ o → (link_named n name m c).anonymous ≡ c.anonymous
    go None e = rw (link_named, e) refl
    go (Some i) e = rw (link_named, e) refl

read-now : (n : ℕ) (d : Board) → IsNow n (now_at n d) d
read-now n d = record { its_id = refl; its_path = refl; anonymous = refl; on = refl; at = refl; realized = refl }

-- its clock gets its source, which leaves all that is read of places
abbrev pub HasSource : Board → TypeId → Wanted → Resources → Type 0
HasSource b t a resources =
    Dims (stood b (b.born + 1) a resources (drafted b t)) (clocked (source_for b resources.bus) (b.born + 1) (stood b (b.born + 1) a resources (drafted b t)))

-- its path is the one below its container
abbrev pub HasPath : Board → TypeId → Wanted → Resources → Type 0
HasPath b t a resources = canonical (acting (b.born + 1) t (with_device b t a resources)) (b.born + 1) ≡ Some (path_after b a.id)

module _ (depth : ℕ → ℕ) (b : Board) (t : TypeId) (a : Wanted) (resources : Resources) (rest : PinsRootAlone b) (h : PlacesBut depth None (λ x. false) b)
    (goal : Goal depth b (b.born + 1) resources.bus resources.slot a.id t (drafted b t)) where
  abbrev n : ℕ
  n = b.born + 1

  abbrev IsJoined : Now → Board → Type 0
  IsJoined now c = Joined depth b n resources.bus resources.slot a.id t now c

  firm : WellFormed b
  firm = rest.used.firm

  step : (now : Now) (c d : Board) → Beside n c d → IsJoined now c → IsJoined (now_at n d) d
  step now c d k j = joined-beside depth b n resources.bus resources.slot a.id t None (λ x. false) firm h now (now_at n d) c d k (read-now n d) j

  -- the device stands in its container and at its bus
  pub joined-drafted : Joined depth b (b.born + 1) resources.bus resources.slot a.id t (now_at (b.born + 1) (joined b (b.born + 1) a resources (drafted b t)))
      (joined b (b.born + 1) a resources (drafted b t))
  joined-drafted =
      joined-wanted depth b n a resources t (drafted b t) (drafted-made b t (shut-above b.born rest.used.firm.begun) rest.used goal.device) goal firm h

  -- with the values given and its slot
  pub joined-slotted : Joined depth b (b.born + 1) resources.bus resources.slot a.id t (now_at (b.born + 1)
      (set_named (b.born + 1) (codes "slot") (val.Uint resources.slot)
      (edit (b.born + 1) (with_given b a.props) (joined b (b.born + 1) a resources (drafted b t)))))
      (set_named (b.born + 1) (codes "slot") (val.Uint resources.slot)
      (edit (b.born + 1) (with_given b a.props) (joined b (b.born + 1) a resources (drafted b t))))
  joined-slotted =
      let c : Board = joined b n a resources (drafted b t) in
      let c3 : Board = edit n (with_given b a.props) c in
      step (now_at n c3) c3 (set_named n (codes "slot") (val.Uint resources.slot) c3) (beside-set n (codes "slot") (val.Uint resources.slot) c3)
      (step (now_at n c) c c3 (beside-given b n a.props c) joined-drafted)

  -- with its values
  pub joined-valued : Joined depth b
      (b.born + 1) resources.bus resources.slot a.id t
      (now_at (b.born + 1) (valued b (b.born + 1) a.props resources (joined b (b.born + 1) a resources (drafted b t))))
      (valued b (b.born + 1) a.props resources (joined b (b.born + 1) a resources (drafted b t)))
  joined-valued =
      let c : Board = joined b n a resources (drafted b t) in
      let c3 : Board = edit n (with_given b a.props) c in
      let c4 : Board = set_named n (codes "slot") (val.Uint resources.slot) c3 in
      let c5 : Board = link_named n (codes "parent_bus") resources.bus c4 in
      step (now_at n c5) c5 (set_named n (codes "realized") (val.Bool true) c5) (beside-set n (codes "realized") (val.Bool true) c5)
      (step (now_at n c4) c4 c5 (beside-link n (codes "parent_bus") resources.bus c4) joined-slotted)

  abbrev has_values : Board
  has_values = valued b (b.born + 1) a.props resources (joined b (b.born + 1) a resources (drafted b t))

  -- and with its address and its id
  pub joined-stood : Joined depth b (b.born + 1)
      resources.bus resources.slot a.id t
      (record (now_at (b.born + 1) (valued b (b.born + 1) a.props resources (joined b (b.born + 1) a resources (drafted b t)))) { its = a.id })
      (stood b (b.born + 1) a resources (drafted b t))
  joined-stood =
      joined-body depth b n resources.bus resources.slot a.id t firm h (now_at n has_values) (addressed_at n resources.range has_values) resources.range
      (joined-dims depth b n resources.bus resources.slot a.id t (now_at n has_values) has_values (addressed_at n resources.range has_values)
      (dims-addressed n resources.range has_values) joined-valued)

  -- what is left: its link holds its bus; its clock gets its source; its path is the one below its container
  pub record Holds : Type 0 where
    pub on : bus_of (valued b (b.born + 1) a.props resources (joined b (b.born + 1) a resources (drafted b t))) (b.born + 1) ≡ Some resources.bus
    pub source : HasSource b t a resources
    pub path : HasPath b t a resources

  uncounted : has_values.anonymous ≡ b.anonymous
  unfolding add
  uncounted =
      let c : Board = joined b n a resources (drafted b t) in
      let c3 : Board = edit n (with_given b a.props) c in
      let c4 : Board = set_named n (codes "slot") (val.Uint resources.slot) c3 in
      let c5 : Board = link_named n (codes "parent_bus") resources.bus c4 in
      set-count n (codes "realized") (val.Bool true) c5
      ∙ link-count n (codes "parent_bus") resources.bus c4
      ∙ set-count n (codes "slot") (val.Uint resources.slot) c3
      ∙ (drafted-made b t (shut-above b.born rest.used.firm.begun) rest.used goal.device).anonymous

  module _ (k : Holds) where
    stands_so : Now
    stands_so = record { its = a.id; path = path_of has_values n; count = b.anonymous; on = Some resources.bus; at = Some resources.slot; realized = true }

    joined-so : IsJoined (record {
      its = a.id;
      path = path_of has_values n;
      count = b.anonymous;
      on = Some resources.bus;
      at = Some resources.slot;
      realized = true;
    })
        (stood b n a resources (drafted b t))
    joined-so =
        subst
        (λ (x : Bool).
        IsJoined (record { its = a.id; path = path_of has_values n; count = b.anonymous; on = Some resources.bus; at = Some resources.slot; realized = x })
        (stood b n a resources (drafted b t)))
        (valued-realized b t firm goal.device a resources)
        (subst (λ (x : Option ℕ).
        IsJoined (record { its = a.id; path = path_of has_values n; count = b.anonymous; on = Some resources.bus; at = x; realized = is_realized has_values n })
        (stood b n a resources (drafted b t))) (valued-at b t firm goal.device a resources)
        (subst (λ (x : Option ℕ). IsJoined
        (record { its = a.id; path = path_of has_values n; count = b.anonymous; on = x; at = bus_slot_of has_values n; realized = is_realized has_values n })
        (stood b n a resources (drafted b t))) k.on
        (subst
        (λ (x : ℕ). IsJoined (record {
          its = a.id;
          path = path_of has_values n;
          count = x;
          on = bus_of has_values n;
          at = bus_slot_of has_values n;
          realized = is_realized has_values n;
        }) (stood b n a resources (drafted b t))) uncounted joined-stood)))

    pub plugged-joined : Joined depth b (b.born + 1) resources.bus resources.slot a.id t (done b resources.bus resources.slot a.id)
        (with_plugged b t a resources)
    plugged-joined =
        let e : Board = clocked (source_for b resources.bus) n (stood b n a resources (drafted b t)) in
        let now : Now =
        record { its = a.id; path = path_of has_values n; count = b.anonymous; on = Some resources.bus; at = Some resources.slot; realized = true } in
        started-joined depth b n resources.bus resources.slot a.id t firm h (with_device b t a resources) (path_of has_values n)
        (joined-counted depth b n resources.bus resources.slot a.id t now e a.id
        (joined-dims depth b n resources.bus resources.slot a.id t now (stood b n a resources (drafted b t)) e k.source joined-so))
        k.path
