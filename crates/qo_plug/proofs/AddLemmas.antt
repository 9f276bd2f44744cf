-- What adding a device comes to, by what was done of it.
use Rattle.std.proofs.Common.{◌≡◌, refl, ap, sym, subst, ◌∙◌, ℕ, ◌+◌, ◌≤◌, true, codes, List, [], ◌∷◌, Option, Some, None, option_map, Err, IfSome, inr, arith, ◌<◌, ◌==◌, false, find, map}
use Rattle.std.specs.List.{AllByRecursion}
use Rattle.std.proofs.lemmas.Bool.Decides.{nat_tests}
use Rattle.std.proofs.lemmas.Option.{same_Some}
use Rattle.std.specs.Option.{option_and_then, option_map_or}
use Rattle.qo_values.specs.declared.kinds.TypeId.{TypeId}
use Rattle.qo_model.specs.Board.{Board, Record, Ring, kind_of, record_of, slots_at}
use Rattle.qo_slots.specs.declared.keys.Key.{Key}
use Rattle.qo_heap.specs.Rows.{IsLive}
use Rattle.qo_values.specs.declared.codes.Code.{Code}
use Rattle.qo_values.specs.declared.codes.Code.TheVariants.{E44}
use Rattle.qo_model.specs.Objects.{refusal_of}
use Rattle.qo_model.specs.Devices.{buses_of}
use Rattle.qo_model.specs.Paths.{canonical}
use Rattle.qo_model.specs.Plug.{Plugged, Resources, Wanted, barred_late, bus_births, bus_for, clocked, counted, objects_in, parent_for, plug, plug_attempt, plug_late, resources_of, source_for, started, stood, with_plugged}
use Rattle.qo_model.specs.Depth.{among}
use Rattle.qo_model.specs.Release.{unpin}
use Rattle.qo_model.specs.Reset.{count, post}
use Rattle.qo_model.specs.Types.{TypeInfo, is_a, type_named}
use Rattle.qo_sound.proofs.PlugLemmas.{IsPlace, place-of}
use Rattle.qo_sound.proofs.ViewLemmas.{PinsRootAlone, rest-from_sound}
use Rattle.qo_heap.specs.Acts.{counted_in}
use Rattle.qo_heap.specs.Board.{Shows}
use Rattle.qo_heap.specs.Objects.{IsHeap, Objects, content_of}
use Rattle.qo_heap.proofs.BoardReads.{shows-kind, shows-record}
use Rattle.qo_object.specs.BoardObject.{shown}
use Rattle.qo_object.specs.Content.{Content}
use Rattle.qo_properties.specs.Filling.{target_in}
use Rattle.qo_properties.specs.OpeningSteps.{KeepsNames}
use Rattle.qo_properties.specs.declared.adding.filling.InitialValue.{InitialValue}
use Rattle.qo_reset.specs.Counts.{CountedBelow}
use Rattle.qo_reset.specs.Phases.{Holds, count_on, is_under}
use Rattle.qo_reset.proofs.BoardLemmas.{shows-count, shows-post}
use Rattle.qo_reset.proofs.EditLemmas.{counted-pair}
use Rattle.qo_sound.specs.TreeKept.{SoundTree}
use Rattle.qo_hotplug.specs.Hotplug.{Asked}
use Rattle.qo_plug.specs.declared.adding.Added.{Added}
use Rattle.qo_plug.specs.declared.targets.Target.{Target}
use Rattle.qo_plug.specs.declared.planning.Planned.{Planned}
use Rattle.qo_plug.specs.declared.refusals.AddRefusal.{AddRefusal}
use Rattle.qo_plug.specs.declared.refusals.AddRefusal.TheVariants.{Refused, Memory}
use Rattle.qo_plug.specs.declared.refusals.Barred.{Barred}
use Rattle.qo_plug.specs.declared.resources.Resources.{Resources as Chosen}
use Rattle.qo_plug.specs.Admission.{IfRefused, IsAdmitted, barred_in}
use Rattle.qo_plug.specs.Answers.{IsAdded, IsCut, IsOpen, IsPlugged, IsRefused, IsShown, turned_down}
use Rattle.qo_plug.specs.Resources.{claims_given}
use Rattle.qo_plug.specs.DevicePlans.{IsJudgedOn, IsPlanned}
use Rattle.qo_plug.specs.Drafts.{CutShort, pinned_draft}
use Rattle.qo_plug.specs.Stages.{IsSettled, resources_barred}
use Rattle.qo_plug.specs.Placement.{Stood, resources_in}
use Rattle.qo_plug.specs.Placement as placement
use Rattle.qo_plug.specs.declared.placing.AttachedDevice.{AttachedDevice}
use Rattle.qo_plug.specs.declared.placing.Plugging.TheVariants.{Attached}
use Rattle.qo_plug.specs.declared.standing.DevicePath.{DevicePath}
use Rattle.qo_properties.specs.KeptClaims.{kept_by}
use Rattle.qo_clocks.proofs.ReadLemmas.{shows-clock}
use Rattle.qo_properties.specs.KeptPeriods.{PeriodsBefore}
use Rattle.qo_plug.specs.KeptClaims.{CountedOn, OthersBefore}
use Rattle.qo_plug.specs.KeptPeriods.{FedStays}
use Rattle.qo_plug.proofs.FedLemmas.{clock-alike, fed-boards}
use Rattle.qo_plug.proofs.StartLemmas.{started-slots}
use Rattle.qo_plug.proofs.AdmissionLemmas.{added-late, admitted-bus}
use Rattle.qo_plug.proofs.JudgementLemmas.{late-given, late-resources}
use Rattle.qo_plug.proofs.PlugSteps.{counted-path, cut-whole, let-go, plugged-count, plugged-holds, plugged-kinds, plugged-notices, plugged-pending, plugged-post, plugged-records, seat-holds, seat-notices, seated}
use Rattle.qo_plug.proofs.StartBuses.{plugged-buses}

-- all of it was made, and ended
pub whole-cut : (b : Board) (t : TypeId) (bus : ℕ) (w : Objects) → Shows (plug_attempt b t bus 0) w → CutShort b t w
whole-cut b t bus w s = inr (objects_in t, true, omega arith, omega arith, subst (λ (c : Board). Shows c w) (cut-whole b t bus) s)

-- the path that is kept of an object
pub shows-path : (b : Board) (v : Objects) → Shows b v → (n : ℕ)
    → option_and_then (λ (r : Record). r.kept_path) (record_of b n) ≡ option_and_then (λ (c : Content). c.kept_path) (content_of v n)
shows-path b v s n = ap (λ (o : Option Record). option_and_then (λ (r : Record). r.kept_path) o) (shows-record b v s n) ∙ go (content_of v n)
  where
    go : (o : Option Content)
        → option_and_then (λ (r : Record). r.kept_path) (option_map (shown n) o) ≡ option_and_then (λ (c : Content). c.kept_path) o
    go None = refl
    go (Some c) = refl

-- what a heap shows, a heap that is the same shows
module _ {b : Board} {anonymous : ℕ} {holds : List ℕ} {rings : List Ring} {h : Asked} {v w : Objects} (same : w ≡ v) where
  pub shown-same : IsShown b anonymous holds rings h v → IsShown b anonymous holds rings h w
  shown-same is = subst (IsShown b anonymous holds rings h) (sym same) is

-- a planned device is judged on the board that is shown
module _ {b : Board} {a : Wanted} {p : Planned} {anonymous : ℕ} {holds : List ℕ} {rings : List Ring} {h : Asked} {v : Objects} where
  pub planned-judged : IsShown b anonymous holds rings h v → IsPlanned b a p → IsJudgedOn b a.props p rings v
  planned-judged is planned =
      record {
        shown = is.shown;
        recounted = is.recounted;
        rings_are = is.rings_are;
        bus = admitted-bus b a p.target planned.admitted;
        given = planned.has;
      }

module _ (b : Board) (a : Wanted) where
  -- nothing bars the device, and it is plugged in
  module _ (target : Target) (at : Chosen) (o : IsOpen b a target at) where
    pub open-place : is_a target.kind (codes "device") ≡ true → IsPlace b target.kind a (resources_in target.bus.birth at)
    open-place device =
        subst (IsPlace b target.kind a) o.chosen.resources (place-of b target.kind target.bus.birth a device o.admitted.bus o.admitted.early o.late)

    added-plugged : plug b a ≡ record { refusal = None; board = with_plugged b target.kind a (resources_in target.bus.birth at) }
    added-plugged =
        added-late b a target.kind o.admitted.kind o.admitted.driver target.bus.birth o.admitted.early o.admitted.bus
        ∙ ap (plug_late b target.kind target.bus.birth a) o.late
        ∙ ap (λ (resources : Resources). late_as resources) o.chosen.resources
      where
        late_as : Resources → Plugged
        late_as resources = record { refusal = None; board = with_plugged b target.kind a resources }

    -- so is what is kept of holds
    pub added-counts : (one : ℕ) (v w : Objects)
        → CountedOn (with_plugged b target.kind a (resources_in target.bus.birth at)) one w
        × OthersBefore (with_plugged b target.kind a (resources_in target.bus.birth at)) one v w
        → CountedOn (plug b a).board one w × OthersBefore (plug b a).board one v w
    added-counts one v w h = subst (λ (q : Plugged). CountedOn q.board one w × OthersBefore q.board one v w) (sym added-plugged) h

    -- and its clock
    pub added-fed : (one : ℕ) (v w : Objects) → FedStays (with_plugged b target.kind a (resources_in target.bus.birth at)) one v w
        → FedStays (plug b a).board one v w
    added-fed one v w h = subst (λ (q : Plugged). FedStays q.board one v w) (sym added-plugged) h

    pub is-added : (x : Added) (h : Asked) (w : Objects) → IsPlugged b target.kind a (resources_in target.bus.birth at) h w → x.birth ≡ b.born + 1
        → x.slot ≡ at.slot
        → option_and_then (λ (c : Content). c.kept_path) (content_of w x.birth) ≡ Some x.path
        → kept_by w x.birth ≡ Some (claims_given b target.kind target.bus.birth a.props) → IsAdded b a x h w
    is-added x h w p birth slot path kept =
        record {
          refusal = ap (λ (q : Plugged). q.refusal) added-plugged;
          shown = subst (λ (q : Plugged). Shows q.board w) (sym added-plugged) p.shown;
          pending = ap (λ (q : Plugged). q.board.pending) added-plugged ∙ p.pending;
          notices = ap (λ (q : Plugged). q.board.notices) added-plugged ∙ p.notices;
          birth = birth;
          slot = λ t bus kind goes.
              slot
              ∙ ap (λ (s : Resources). s.slot) (sym o.chosen.resources)
              ∙ own (λ (k : TypeId) (m : ℕ). (resources_of b k m a.props).slot) t bus kind goes;
          path = path;
          kept = λ t bus kind goes. kept ∙ own (λ (k : TypeId) (m : ℕ). Some (claims_given b k m a.props)) t bus kind goes;
        }
      where
        own : {A : Type 0} (f : TypeId → ℕ → A) (t : TypeId) (bus : ℕ) → option_map (λ (row : TypeInfo). row.id) (type_named a.driver) ≡ Some t
            → bus_for b t a.bus ≡ Some bus → f target.kind target.bus.birth ≡ f t bus
        own f t bus kind goes =
            let type_is : target.kind ≡ t = same_Some target.kind t (sym o.admitted.kind ∙ kind) in
            let goes_as : bus_for b target.kind a.bus ≡ Some bus = ap (λ (k : TypeId). bus_for b k a.bus) type_is ∙ goes in
            let bus_is : target.bus.birth ≡ bus = same_Some target.bus.birth bus (sym o.admitted.bus ∙ goes_as) in
            λ j. f (type_is j) (bus_is j)

  -- it is refused before an attempt
  pub refused-early : (T U : Type 0) (r : AddRefusal) (w : Objects) → Shows b w
      → IfRefused {T = T} (Err r) (λ stage code. (1 ≤ stage) × (stage ≤ 4) × (plug b a ≡ record { refusal = Some (stage, code); board = b }))
      → IfRefused {T = U} (Err r) (λ stage code. (1 ≤ stage) × (stage ≤ 4) × IsRefused b a stage code w)
  refused-early T U (Refused stage code) w s e =
      (e.0, e.1, record { refusal = ap (λ (q : Plugged). q.refusal) e.2; shown = subst (λ (q : Plugged). Shows q.board w) (sym e.2) s })
  refused-early T U Memory w s e = tt

  pub refused-only : (T U : Type 0) (r : AddRefusal) (w : Objects)
      → IfRefused {T = T} (Err r) (λ stage code. (1 ≤ stage) × (stage ≤ 4) × IsRefused b a stage code w)
      → IfRefused {T = U} (Err r) (λ stage code. IsRefused b a stage code w)
  refused-only T U (Refused stage code) w h = h.2
  refused-only T U Memory w h = tt

  -- or after one
  module _ (target : Target) (admitted : IsAdmitted b a target) (w : Objects) where
    pub is-refused : (stage : ℕ) (code : Code) → Some (stage, code) ≡ barred_late b target.kind target.bus.birth a.props
        → Shows (plug_attempt b target.kind target.bus.birth stage) w
        → IsRefused b a stage code w
    is-refused stage code late s =
        record { refusal = ap (λ (q : Plugged). q.refusal) comes; shown = subst (λ (q : Plugged). Shows q.board w) (sym comes) s }
      where
        comes : plug b a ≡ record { refusal = Some (stage, code); board = plug_attempt b target.kind target.bus.birth stage }
        comes =
            added-late b a target.kind admitted.kind admitted.driver target.bus.birth admitted.early admitted.bus
            ∙ ap (plug_late b target.kind target.bus.birth a) (sym late)

    pub cut-late : CutShort b target.kind w → IsCut b a w
    cut-late cut = inr (target.kind, admitted.kind, admitted.driver, admitted.early, cut)

    -- as what is given for its properties is refused
    module _ (code : Code) (given : Some code ≡ refusal_of b target.kind a.props) where
      pub turned-refused : (T : Type 0) (r : AddRefusal) → turned_down b target.kind target.bus.birth (record { stage = 4; code = code }) r w
          → IfRefused {T = T} (Err r) (λ stage code. (1 ≤ stage) × (stage ≤ 4) × IsRefused b a stage code w)
      turned-refused T (Refused stage told) h =
          let its_stage : stage ≡ 4 = h.0 in
          let its_code : told ≡ code = h.1 in
          let late : Some (4, code) ≡ barred_late b target.kind target.bus.birth a.props = late-given b target.bus.birth target.kind a.props code given in
          (omega (arith, its_stage), omega (arith, its_stage), rw (its_stage, its_code) (is-refused 4 code late h.2))
      turned-refused T Memory h = tt

    -- or as its resources are not free
    module _ (bar : Barred) (given : None ≡ refusal_of b target.kind a.props)
        (barred : Some (bar.stage, bar.code) ≡ resources_barred b target.kind target.bus.birth a.props) where
      pub resources-refused : (T : Type 0) (r : AddRefusal) → turned_down b target.kind target.bus.birth bar r w
          → IfRefused {T = T} (Err r) (λ stage code. IsRefused b a stage code w)
      resources-refused T (Refused stage told) h =
          let its_stage : stage ≡ bar.stage = h.0 in
          let its_code : told ≡ bar.code = h.1 in
          rw (its_stage, its_code)
          (is-refused bar.stage bar.code (late-resources b target.bus.birth target.kind a.props (bar.stage, bar.code) given barred) h.2)
      resources-refused T Memory h = tt

-- a refusal of some stages is one
pub refused-within : (b : Board) (a : Wanted) (first last : ℕ) (T U : Type 0) (r : AddRefusal) (w : Objects)
    → IfRefused {T = T} (Err r) (λ stage code. (first ≤ stage) × (stage ≤ last) × IsRefused b a stage code w)
    → IfRefused {T = U} (Err r) (λ stage code. IsRefused b a stage code w)
refused-within b a first last T U (Refused stage code) w h = h.2
refused-within b a first last T U Memory w h = tt

-- so is that of the notices
pub refused-last : (b : Board) (a : Wanted) (T U : Type 0) (bar : Barred) (w : Objects) → barred_in {T = T} (Err bar) ≡ Some (8, E44) → IsRefused b a 8 E44 w
    → IfRefused {T = U} (Err (Refused bar.stage bar.code)) (λ stage code. IsRefused b a stage code w)
refused-last b a T U bar w is h =
    let same : (bar.stage, bar.code) ≡ (8, E44) = same_Some (bar.stage, bar.code) (8, E44) is in
    subst (λ (x : ℕ × Code). IsRefused b a x.0 x.1 w) (sym same) h

-- what a plan names stays
pub plan-live : (v w : Objects) → KeepsNames v w → (fs : List InitialValue) → AllByRecursion (λ (f : InitialValue). IfSome (target_in f) (IsLive v.rows)) fs
    → AllByRecursion (λ (f : InitialValue). IfSome (target_in f) (IsLive w.rows)) fs
plan-live v w keeps [] h = tt
plan-live v w keeps (f ∷ fs) h = (go (target_in f) h.0, plan-live v w keeps fs h.1)
  where
    go : (o : Option Key) → IfSome o (IsLive v.rows) → IfSome o (IsLive w.rows)
    go None p = tt
    go (Some key) p = keeps key p

-- how many devices were added does not show in the heap
counted-shown : (id : Option (List ℕ)) (c : Board) (w : Objects) → Shows c w → Shows (counted id c) w
counted-shown None c w s = record { records = s.records; born = s.born; pins = s.pins; notes = s.notes; events = s.events; now = s.now }
counted-shown (Some id) c w s = s

counted-buses : (id : Option (List ℕ)) (c : Board) (m : ℕ) → buses_of (counted id c) m ≡ buses_of c m
counted-buses None c m = refl
counted-buses (Some id) c m = refl

old-none : (k m : ℕ) → k < m → (rs : List Record) → AllByRecursion (λ x. x ≤ k) (map (λ (r : Record). r.birth) rs)
    → find (λ (r : Record). r.birth == m) rs ≡ None
old-none k m less [] low = refl
old-none k m less (r ∷ rs) low =
    let lower : r.birth ≤ k = low.0 in
    let other : (r.birth == m) ≡ false = grind (arith, nat_tests, less, lower) in
    rw other (old-none k m less rs low.1)

-- a device that stands starts, and is let go
module _ (b : Board) (t : TypeId) (sound : SoundTree b) (device : is_a t (codes "device") ≡ true) (a : Wanted) (bus : ℕ) (at : Chosen) where
  abbrev resources : Resources
  resources = resources_in bus at

  abbrev here : Board
  here = seated b t sound a resources

  abbrev n : ℕ
  n = b.born + 1

  rest : PinsRootAlone b
  rest = rest-from_sound b sound

  -- births 3 and 4 were given when the machine began, and no object has a later birth than the last
  container-apart : (id : Option (List ℕ)) → (parent_for id == n) ≡ false
  container-apart None = let begun : 8 ≤ b.born = rest.used.firm.begun in grind (arith, nat_tests, begun)
  container-apart (Some id) = let begun : 8 ≤ b.born = rest.used.firm.begun in grind (arith, nat_tests, begun)

  none-later : (m : ℕ) → b.born < m → kind_of b m ≡ None
  none-later m up = ap (option_map (λ (r : Record). r.kind)) (old-none b.born m up b.records rest.used.firm.within)

  own-buses : buses_of here n ≡ bus_births n t
  own-buses =
      counted-buses a.id (clocked (source_for b bus) n (stood b n a resources (pinned_draft b t))) n
      ∙ plugged-buses b t a resources none-later device (container-apart a.id)

  abbrev Starts : List ℕ → List ℕ → Objects → Objects → ℕ → Type 0
  Starts holds path w x m = (c : Board) (u : TypeId) → Holds c holds w → buses_of c m ≡ bus_births m u → canonical c m ≡ Some path → Shows (started m u c) x

  abbrev Tells : Asked → Asked → ℕ → Type 0
  Tells h k m = (c : Board) (u : TypeId) → c.notices ≡ h.notices → (started m u c).notices ≡ k.notices

  abbrev LetsGo : Objects → Objects → ℕ → Type 0
  LetsGo x y m = (c : Board) → Shows c x → Shows (unpin c m) y

  module _ (m : ℕ) (is : m ≡ b.born + 1) (path holds : List ℕ) (h k : Asked) (w x y : Objects) (held : b.holds ≡ holds) (pending : b.pending ≡ h.pending)
      (notices : b.notices ≡ h.notices) (place : IsPlace b t a resources) (stood_at : Stood b (pinned_draft b t) m a resources path w)
      (starts : Starts holds path w x m)
      (tells : Tells h k m) (kept : k.pending ≡ h.pending) (goes : LetsGo x y m) where
    started_is : Shows (started n t here) x
    started_is =
        let own : Stood b (pinned_draft b t) n a resources path w = subst (λ (i : ℕ). Stood b (pinned_draft b t) i a resources path w) is stood_at in
        let begins : Starts holds path w x n = subst (Starts holds path w x) is starts in
        let shown : Shows here w = counted-shown a.id (clocked (source_for b bus) n (stood b n a resources (pinned_draft b t))) w own.shown in
        let path_is : canonical here n ≡ Some path =
        counted-path a.id (clocked (source_for b bus) n (stood b n a resources (pinned_draft b t))) n ∙ own.path_is in
        begins here t (shown, seat-holds b t sound a resources ∙ held) own-buses path_is

    pub plugged-in : IsPlugged b t a resources k y
    plugged-in =
        let told : Tells h k n = subst (Tells h k) is tells in
        let ends : LetsGo x y n = subst (LetsGo x y) is goes in
        record {
          shown = subst (λ (c : Board). Shows c y) (let-go b t sound a resources place) (ends (started n t here) started_is);
          pending = plugged-pending b t sound a resources ∙ pending ∙ sym kept;
          notices = plugged-notices b t sound a resources ∙ told here t (seat-notices b t sound a resources ∙ notices);
        }

    -- its clock is the one that it had
    pub fed-in : PeriodsBefore w y → IsHeap y → FedStays (with_plugged b t a resources) m w y
    fed-in before good =
        let own : Stood b (pinned_draft b t) n a resources path w = subst (λ (i : ℕ). Stood b (pinned_draft b t) i a resources path w) is stood_at in
        let shown_here : Shows here w = counted-shown a.id (clocked (source_for b bus) n (stood b n a resources (pinned_draft b t))) w own.shown in
        let slots : (i : ℕ) → slots_at (with_plugged b t a resources) i ≡ slots_at here i = λ i.
        ap (λ (o : Option Record). option_map_or (λ (r : Record). r.slots) o []) (plugged-records b t sound a resources i) ∙ started-slots n t here i in
        record {
          clock = λ c s. clock-alike here (with_plugged b t a resources) w y shown_here plugged-in.shown slots before good m
              ∙ shows-clock here w shown_here m ∙ sym (shows-clock c w s m);
          its = fed-boards here (with_plugged b t a resources) w y shown_here plugged-in.shown slots before good;
        }

    -- the path that is kept stays
    pub path-in : (i : ℕ) → option_and_then (λ (c : Content). c.kept_path) (content_of y i) ≡ option_and_then (λ (c : Content). c.kept_path) (content_of x i)
    path-in i =
        sym (shows-path (with_plugged b t a resources) y plugged-in.shown i)
        ∙ ap (λ (o : Option Record). option_and_then (λ (r : Record). r.kept_path) o) (plugged-records b t sound a resources i)
        ∙ shows-path (started n t here) x started_is i

    -- nobody ends with the pin
    pub kinds-in : (i : ℕ) → option_map (λ (c : Content). c.kind) (content_of y i) ≡ option_map (λ (c : Content). c.kind) (content_of x i)
    kinds-in i =
        sym (shows-kind (with_plugged b t a resources) y plugged-in.shown i) ∙ plugged-kinds b t sound a resources i
        ∙ shows-kind (started n t here) x started_is i

    -- what is kept of holds is right of it and of all below it, and stays of the others
    pub counts-in : CountedBelow m holds x → ((i : ℕ) → is_under x i m ≡ false → counted_in x i ≡ counted_in w i)
        → ((i : ℕ) (k : ℕ × ℕ) → counted_in y i ≡ Some k → counted_in x i ≡ Some k)
        → CountedOn (with_plugged b t a resources) m y × OthersBefore (with_plugged b t a resources) m w y
    counts-in counted others before = (
      λ i e under_at under. pair i e (before i e under_at) (sym (under-is i) ∙ under),
      λ i e at apart. sym (others i (sym (under-is i) ∙ apart)) ∙ before i e at,
    )
      where
        c : Board
        c = started n t here

        held_is : c.holds ≡ holds
        held_is = plugged-holds b t sound a resources ∙ held

        under-is : (i : ℕ) → among (post (with_plugged b t a resources) m) i ≡ is_under x i m
        under-is i =
            ap (λ (l : List ℕ). among l i) (plugged-post b t sound a resources m)
            ∙ ap (λ (f : ℕ → List ℕ). among (f m) i) (shows-post c x started_is)

        count-is : (i : ℕ) → count (with_plugged b t a resources) i ≡ count_on x holds i
        count-is i = plugged-count b t sound a resources i ∙ shows-count c x started_is holds held_is i

        pair : (i : ℕ) (k : ℕ × ℕ) → counted_in x i ≡ Some k → is_under x i m ≡ true → k ≡ (count (with_plugged b t a resources) i, 0)
        pair i k at under = counted-pair x holds i k (λ d there. counted i d there under) at ∙ ap (λ (j : ℕ). (j, 0)) (sym (count-is i))

-- the board of a device that was placed
pub stood-shown : (b : Board) (a : Wanted) (p : AttachedDevice) (v : Objects) (path : DevicePath) → p.plugging ≡ Attached path → IsSettled b a p v
    → (c : Board) × Shows c v
stood-shown b a p v path attached is =
    let (told, at, slot, open_is, stood, kept) = rw attached at is.target.2 in
    (placement.seated b p.device.birth a (resources_in is.target.0.bus.birth at) (pinned_draft b is.target.0.kind), stood.shown)
