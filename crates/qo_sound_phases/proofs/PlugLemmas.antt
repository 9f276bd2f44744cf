-- A device that is added keeps phases sound: it goes through them, and stays held where it is below a hold.
use Rattle.std.proofs.Common.{◌≡◌, refl, ap, ap₂, sym, subst, ◌∙◌, ℕ, ◌+◌, ◌<◌, ◌≤◌, Bool, true, false, ◌==◌, eqb, List, [], ◌∷◌, ◌++◌, filter, map, Option, Some, None, is_some, arith, codes}
use Rattle.qo_model.proofs.Common.{if◌then◌else◌, ⊤, AllByRecursion, IsDistinct, list_any, option_or, ANONYMOUS_BIRTH, MACHINE_BIRTH, PERIPHERAL_BIRTH, ROOT_BIRTH, Code, Act, Realize, Enter, Hold, Exit, TypeId, Board, Record, is_live, record_of, among, bus_of, canonical, is_of, Resources, Wanted, acted_all, barred_early, barred_late, bus_births, bus_for, counted, did, drafted, plug, plug_as, plug_by, plug_late, resources_of, notified_plug, type_barred, with_body_of, with_device, with_new, with_path, with_plugged, edit, edited, below, is_not_in_reset, phased, plugged, post, TypeInfo, is_a, type_named, slots_of}
use Rattle.qo_model.specs.declared.notes.Note.{Note}
use Rattle.std.proofs.lemmas.Bool.{eqb-true}
use Rattle.std.proofs.lemmas.List.Folds.{find-append}
use Rattle.std.proofs.lemmas.Option.{same_Some}
use Rattle.qo_model.proofs.StepLemmas.{found_at, found-edited, is_some-map}
use Rattle.qo_sound.specs.DeviceScope.{AddLeaves}
use Rattle.qo_sound.proofs.DeviceScopeLemmas.{devices_stay_lem}
use Rattle.qo_sound.proofs.AdditionStepsLemmas.{any-rows, KeepsEdits, KeepsNew, new_with, step-drafted, step-stood}
use Rattle.qo_sound.proofs.PlugLemmas.{device-of, place-of, plugged-rest, shut-above}
use Rattle.qo_values.proofs.ListLemmas.{all-imply}
use Rattle.qo_sound.proofs.TestLemmas.{decide, clash, clash-back}
use Rattle.qo_sound.proofs.ViewLemmas.{rest-from_sound}
use Rattle.qo_sound_devices.specs.SoundDevices.{SoundDevices}
use Rattle.qo_sound_devices.specs.SoundPlaces.{child_entries, machines, bridges, IsHome, owns, owns_it, stands}
use Rattle.qo_sound_devices.proofs.AttachmentLemmas.{owns-listed}
use Rattle.qo_sound_devices.proofs.AdditionLemmas.{deepened, done, Joined, new-stands, old-stands, places-joined, by-stand}
use Rattle.qo_sound_devices.proofs.PlacesLemmas.{child-live, kind-alike, of-alike, of-live, stands-live, aside-apart}
use Rattle.qo_sound_devices.proofs.PlugLemmas.{Accepted}
use Rattle.qo_sound_devices.proofs.PlugStageLemmas.{accepted-joined}
use Rattle.qo_sound_phases.specs.Phases.{stage_of}
use Rattle.qo_sound_phases.specs.Phases as stage
use Rattle.qo_sound_phases.specs.SoundPhases.{IsReached, machine, device, bus, LoneMachine, SoundPhases, stage_now}
use Rattle.qo_sound_phases.proofs.AttemptLemmas.{plug_attempt-phases}
use Rattle.qo_sound_phases.proofs.ResetTreeLemmas.{bus-leads, leads-cases, Placed, placed, post-once, post-reach, reach-post, stands-no_bus}
use Rattle.qo_sound_phases.proofs.ForestLemmas.{Reach, itself, further}
use Rattle.qo_sound_phases.proofs.FrameLemmas.{Frame, frame-count}
use Rattle.qo_sound_phases.proofs.ListLemmas.{among-filter, distinct-filter}
use Rattle.qo_sound_phases.proofs.MachineLemmas.{lone-plugged}
use Rattle.qo_sound_phases.proofs.QuietChangeLemmas.{Quiet, quiet-acted_all, quiet-device, quiet-then}
use Rattle.qo_sound_phases.proofs.ReachLemmas.{buses-stay, live-born, machines-listed, reach-below, reached-live, StaysReached, stays-reached}
use Rattle.qo_sound_phases.proofs.ShapeLemmas.{PhasedSo, phased-so, SameShape, shape-count, shape-edit, shape-post, shape-records, shape-then}
use Rattle.qo_sound_phases.proofs.StageLemmas.{noted-in, noted-out}

-- acts, one after another, are phases as far as their notes go
pub same-acts : (act : Act) (ns : List ℕ) (b : Board) → acted_all act ns b ≡ phased act ns b
same-acts act [] b = refl
same-acts act (n ∷ ns) b = same-acts act ns _

-- who is there and was not is younger than all births of before
Younger : Board → Board → Type 0
Younger b c = (b.born ≤ c.born) × ((x : ℕ) → is_live c x ≡ true → is_live b x ≡ false → b.born < x)

younger-edit : (b : Board) (n : ℕ) (change : Record → Record) → ((r : Record) → (change r).birth ≡ r.birth) → (c : Board) → Younger b c
    → Younger b (edit n change c)
unfolding Younger
younger-edit b n change birth c h = (h.0, λ x e apart. h.1 x (sym (same x) ∙ e) apart)
  where
    same : (x : ℕ) → is_live (edit n change c) x ≡ is_live c x
    same x = ap is_some (found-edited n change birth x c.records) ∙ is_some-map (edited n change) (record_of c x)

younger-edits : (b : Board) → KeepsEdits (Younger b)
younger-edits b n change leaves c h = younger-edit b n change (λ r. ap (λ (y : Record). y.birth) (leaves r)) c h

younger-new : (b : Board) → KeepsNew (λ k. ⊤) (Younger b)
unfolding Younger
younger-new b k slots made c h = (omega (arith, h.0), λ x e apart. new x e apart)
  where
    r : Record
    r = new_with c k slots

    older : b.born ≤ c.born
    older = h.0

    new : (x : ℕ) → is_live (with_new (new_with c k slots) c) x ≡ true → is_live b x ≡ false → b.born < x
    new x e apart = go (record_of c x) refl
      where
        found : record_of (with_new (new_with c k slots) c) x ≡ option_or (record_of c x) (found_at x (new_with c k slots ∷ []))
        found = find-append (λ (y : Record). y.birth == x) c.records (new_with c k slots ∷ [])

        go : (o : Option Record) → record_of c x ≡ o → b.born < x
        go (Some y) q = h.1 x (ap is_some q) apart
        go None q = own (c.born + 1 == x) refl
          where
            own : (t : Bool) → (c.born + 1 == x) ≡ t → b.born < x
            own true p = let is : c.born + 1 ≡ x = eqb-true (c.born + 1) x p in omega (arith, is, older)
            own false p =
                let none : found_at x (new_with c k slots ∷ []) ≡ None = rw p refl in
                clash-back (sym (ap is_some (found ∙ ap₂ (λ (u v : Option Record). option_or u v) q none)) ∙ e)

younger-device : (b : Board) (t : TypeId) (a : Wanted) (resources : Resources) → Younger b (with_device b t a resources)
unfolding Younger
younger-device b t a resources =
    count_in a.id _
    (step-stood (Younger b) (younger-edits b) b (b.born + 1) a resources
    (λ c h. younger-edit b (b.born + 1) (with_body_of a.id resources.range) (λ r. refl) c h)
    (drafted b t)
    (step-drafted (Younger b) (younger-edits b) (λ k. ⊤) (younger-new b) t tt (any-rows (slots_of t)) b (omega arith, λ x e apart. clash (sym e ∙ apart))))
  where
    count_in : (id : Option (List ℕ)) (c : Board) → Younger b c → Younger b (counted id c)
    count_in None c h = h
    count_in (Some its) c h = h

-- on boards of one shape the same objects are there
live-shape : (b c : Board) → SameShape b c → (x : ℕ) → is_live c x ≡ is_live b x
live-shape b c h x =
    sym (is_some-map (λ (r : Record). r.kind) (record_of c x)) ∙ ap is_some (h.kind x) ∙ is_some-map (λ (r : Record). r.kind) (record_of b x)

-- what is told, and the phases of a device that is added
pub record StartedSo (f : Board) (n : ℕ) (c : Board) : Type 0 where
  pub shape : SameShape f c
  holds : c.holds ≡ f.holds
  born : c.born ≡ f.born
  notes : c.notes ≡ ((f.notes ++ map (did Enter) (post f n)) ++ map (did Hold) (post f n)) ++ map (did Exit) (filter (is_not_in_reset f) (post f n))

pub told-so : (n : ℕ) (f : Board) → StartedSo f n (notified_plug n (plugged f n))
unfolding plugged
told-so n f =
    let os : List ℕ = post f n in
    let one : PhasedSo Enter os f (phased Enter os f) = phased-so Enter os f in
    let two : PhasedSo Hold os (phased Enter os f) (phased Hold os (phased Enter os f)) = phased-so Hold os (phased Enter os f) in
    let out : List ℕ = filter (is_not_in_reset f) os in
    let held : Board = phased Hold os (phased Enter os f) in
    let three : PhasedSo Exit out held (phased Exit out held) = phased-so Exit out held in
    let end : Board = phased Exit out held in
    record {
      shape =
          shape-then f (phased Enter os f) (notified_plug n end) one.shape
          (shape-then (phased Enter os f) held (notified_plug n end) two.shape
          (shape-then held end (notified_plug n end) three.shape
          (shape-then end (edit n (with_path (canonical end n)) end) (notified_plug n end)
          (shape-edit n (with_path (canonical end n)) (λ r. refl) (λ r. refl) (λ r. refl) end) (shape-records _ _ refl))));
      holds = three.holds ∙ two.holds ∙ one.holds;
      born = three.born ∙ two.born ∙ one.born;
      notes = three.notes ∙ ap (λ (xs : List Note). xs ++ map (did Exit) out) (two.notes ∙ ap (λ (xs : List Note). xs ++ map (did Hold) os) one.notes);
    }

module _ (b : Board) (kb : Placed b) (n on slot : ℕ) (id : Option (List ℕ)) (t : TypeId) (c : Board) (kc : Placed c)
    (j : Joined kb.depth b n on slot id t (done b on slot id) c) where
  shelf-apart : (p : ℕ) → stands b p ≡ true → among (PERIPHERAL_BIRTH ∷ ANONYMOUS_BIRTH ∷ []) p ≡ false
  shelf-apart p s =
      aside-apart b (PERIPHERAL_BIRTH ∷ ANONYMOUS_BIRTH ∷ []) (kb.places.aside.1.1.0, (kb.places.aside.1.1.1.0, tt)) p s

  -- seen from after, what was there stands as before
  pub back : Frame c b
  back =
      record {
        kind = λ x e g. sym (kind-alike b c x (j.body x g));
        stood = old-stands kb.depth b n on slot id t c j kb.firm kb.places;
        bus = λ x s. sym (j.bus_same x (stands-live b kb.firm x s));
        children = λ x s. sym (j.children x (stands-live b kb.firm x s) (shelf-apart x s));
        machine = sym (j.children MACHINE_BIRTH (child-live b kb.firm ROOT_BIRTH MACHINE_BIRTH kb.places.machine) refl);
      }

  pub reached-on : StaysReached b c
  reached-on =
      stays-reached b c (old-stands kb.depth b n on slot id t c j kb.firm kb.places)
      (λ x s. j.children x (stands-live b kb.firm x s) (shelf-apart x s))
      (λ o was its is. of-alike b c o (codes "bus") (j.body o (of-live b (codes "bus") o is)) ∙ is)

  pub new-there : stands c n ≡ true
  new-there = new-stands kb.depth b n on slot id t c j kb.firm kb.places

  old-listed : (p o : ℕ) → stands b p ≡ true → owns c p o ≡ true → owns b p o ≡ true
  old-listed p o s w = sym (ap (list_any (owns_it o)) (j.children p (stands-live b kb.firm p s) (shelf-apart p s))) ∙ w

  -- what is below the device is new
  pub below-new : (o : ℕ) → Reach (below c) n o → is_live b o ≡ false
  below-new o itself = j.absent
  below-new o (further {p} k e) = decide (is_live b o) (λ live. clash (sym live ∙ dead (below-new p k))) (λ dead. dead)
    where
      its : IsReached c p
      its = reach-below c kc n p k (device new-there)

      dead : is_live b p ≡ false → is_live b o ≡ false
      dead gone =
          leads-cases c kc p o e (λ is s at. by-stand kb.depth b n on slot id t c j kb.firm kb.places o s (λ before. old-kid before at)
          (λ new. subst (λ (x : ℕ). is_live b x ≡ false) (sym new) j.absent))
          (λ apart is w. child its apart w)
        where
          old-kid : stands b o ≡ true → bus_of c o ≡ Some p → is_live b o ≡ false
          old-kid before at =
              let home : IsHome b o = kb.places.home o before (λ z. cc) in
              let same : home.bus ≡ p = same_Some home.bus p (sym home.on ∙ sym (j.bus_same o (stands-live b kb.firm o before)) ∙ at) in
              clash (sym (of-live b (codes "bus") p (subst (λ (x : ℕ). is_of b (codes "bus") x ≡ true) same home.is_bus)) ∙ gone)

          child : IsReached c p → is_of c (codes "bus") p ≡ false → owns c p o ≡ true → is_live b o ≡ false
          child (machine at) apart w =
              clash (sym (child-live b kb.firm ROOT_BIRTH MACHINE_BIRTH kb.places.machine) ∙ ap (is_live b) (sym at) ∙ gone)
          child (bus is by) apart w = clash (sym is ∙ apart)
          child (device s) apart w =
              by-stand kb.depth b n on slot id t c j kb.firm kb.places p s (λ before. clash (sym (stands-live b kb.firm p before) ∙ gone))
              (λ new. j.heirs o (owns-listed o (child_entries c n) (subst (λ (x : ℕ). owns c x o ≡ true) new w)))

  -- who is reached and is not below the device was reached
  pub reached-old : (o : ℕ) → IsReached c o → among (post c n) o ≡ false → IsReached b o
  reached-old o (machine at) apart = machine at
  reached-old o (device s) apart = by-stand kb.depth b n on slot id t c j kb.firm kb.places o s device
      (λ new. clash (sym (reach-post c kc n o (subst (Reach (below c) n) (sym new) itself)) ∙ apart))
  reached-old o (bus is (machines u)) apart =
      let live : is_live b o ≡ true = child-live b kb.firm MACHINE_BIRTH o (machines-listed b kb o u) in
      bus (sym (of-alike b c o (codes "bus") (j.body o live)) ∙ is) (machines u)
  reached-old o (bus is (bridges p s w)) apart =
      by-stand kb.depth b n on slot id t c j kb.firm kb.places p s
      (λ before.
      let was : owns b p o ≡ true = old-listed p o before w in
      let live : is_live b o ≡ true = child-live b kb.firm p o (owns-listed o (child_entries b p) was) in
      bus (sym (of-alike b c o (codes "bus") (j.body o live)) ∙ is) (bridges p before was))
      (λ new.
      let own : owns c n o ≡ true = subst (λ (x : ℕ). owns c x o ≡ true) new w in
      clash (sym (reach-post c kc n o (further itself (bus-leads c kc n o (stands-no_bus c kc n new-there) is own))) ∙ apart))

  module _ (h : SoundPhases b) (f : Board) (s : StartedSo f n c) (younger : (x : ℕ) → is_live c x ≡ true → is_live b x ≡ false → b.born < x)
      (older : b.born ≤ c.born)
      (holds : c.holds ≡ b.holds) (quiet : Quiet b f) (lone : LoneMachine c) where
    same_post : post c n ≡ post f n
    same_post = shape-post f c s.shape n

    once : IsDistinct eqb (post f n)
    once = subst (IsDistinct eqb) same_post (post-once c kc n)

    in-post : (o : ℕ) → among (post f n) o ≡ true → among (post c n) o ≡ true
    in-post o e = ap (λ (xs : List ℕ). among xs o) same_post ∙ e

    is-reached : (o : ℕ) → among (post f n) o ≡ true → IsReached c o
    is-reached o e = reach-below c kc n o (post-reach c kc n o (in-post o e)) (device new-there)

    fresh : (o : ℕ) → among (post f n) o ≡ true → b.born < o
    fresh o e = younger o (reached-live c kc o (is-reached o e)) (below-new o (post-reach c kc n o (in-post o e)))

    same-out : (o : ℕ) → is_not_in_reset c o ≡ is_not_in_reset f o
    same-out o = ap (λ (m : ℕ). m == 0) (shape-count f c s.shape s.holds o)

    out-once : IsDistinct eqb (filter (is_not_in_reset f) (post f n))
    out-once = distinct-filter (is_not_in_reset f) (post f n) once

    in-stage : (o : ℕ) → among (post f n) o ≡ true → stage_of o c.notes ≡ Some (stage_now c o)
    in-stage o e = ap (stage_of o) s.notes ∙ decide (is_not_in_reset f o) leaves stays
      where
        at_hold : stage_of o ((f.notes ++ map (did Enter) (post f n)) ++ map (did Hold) (post f n)) ≡ Some stage.held
        at_hold =
            noted-in Hold refl (post f n) once (f.notes ++ map (did Enter) (post f n)) o e stage.entered stage.held
            (noted-in Enter refl (post f n) once f.notes o e stage.out stage.entered (quiet o ∙ h.unborn o (fresh o e)) refl) refl

        leaves : is_not_in_reset f o ≡ true
            → stage_of o (((f.notes ++ map (did Enter) (post f n)) ++ map (did Hold) (post f n)) ++ map (did Exit) (filter (is_not_in_reset f) (post f n)))
            ≡ Some
            (stage_now c o)
        leaves q =
            let both : among (filter (is_not_in_reset f) (post f n)) o ≡ true = among-filter (is_not_in_reset f) o (post f n) ∙ rw (e, q) refl in
            noted-in Exit refl (filter (is_not_in_reset f) (post f n)) out-once _ o both stage.held stage.out at_hold refl
            ∙ ap (λ (u : Bool). Some (if u then stage.out else stage.held)) (sym (same-out o ∙ q))

        stays : is_not_in_reset f o ≡ false
            → stage_of o (((f.notes ++ map (did Enter) (post f n)) ++ map (did Hold) (post f n)) ++ map (did Exit) (filter (is_not_in_reset f) (post f n)))
            ≡ Some
            (stage_now c o)
        stays q =
            let none : among (filter (is_not_in_reset f) (post f n)) o ≡ false = among-filter (is_not_in_reset f) o (post f n) ∙ rw (e, q) refl in
            noted-out Exit refl (filter (is_not_in_reset f) (post f n)) out-once _ o none
            ∙ at_hold
            ∙ ap (λ (u : Bool). Some (if u then stage.out else stage.held)) (sym (same-out o ∙ q))

    out-stage : (o : ℕ) → among (post f n) o ≡ false → stage_of o c.notes ≡ stage_of o b.notes
    out-stage o e =
        let none : among (filter (is_not_in_reset f) (post f n)) o ≡ false = among-filter (is_not_in_reset f) o (post f n) ∙ rw e refl in
        ap (stage_of o) s.notes
        ∙ noted-out Exit refl (filter (is_not_in_reset f) (post f n)) out-once _ o none
        ∙ noted-out Hold refl (post f n) once _ o e
        ∙ noted-out Enter refl (post f n) once f.notes o e
        ∙ quiet o

    device-phases : SoundPhases c
    device-phases =
        record {
          in_turn = λ o. decide (among (post f n) o) (λ e. ap is_some (in-stage o e)) (λ e. ap is_some (out-stage o e) ∙ h.in_turn o);
          unborn = λ o high.
              decide (among (post f n) o) (λ e. absurd (live-born c kc o (reached-live c kc o (is-reached o e)) high))
              (λ e. out-stage o e ∙ h.unborn o (omega (arith, older, high)));
          reached = λ o i. decide (among (post f n) o) (in-stage o) (λ e. old o e (reached-old o i (ap (λ (xs : List ℕ). among xs o) same_post ∙ e)));
          holds = subst (AllByRecursion (IsReached c)) (sym holds) (all-imply (IsReached b) (IsReached c) reached-on b.holds h.holds);
          buses = buses-stay b c reached-on h.buses;
          lone = lone;
        }
      where
        old : (o : ℕ) → among (post f n) o ≡ false → IsReached b o → stage_of o c.notes ≡ Some (stage_now c o)
        old o e i =
            out-stage o e
            ∙ h.reached o i
            ∙ ap (λ (m : ℕ). Some (if m == 0 then stage.out else stage.held)) (frame-count c b kc kb back o i (sym holds))

-- a device that nothing refuses
accepted-phases : (b : Board) (a : Wanted) → SoundDevices b → SoundPhases b → (t : TypeId) (at : ℕ) → Accepted b t at a
    → SoundPhases (with_plugged b t a (resources_of b t at a.props))
unfolding Younger
accepted-phases b a d h t at k =
    device-phases b kb (b.born + 1)
    at resources.slot a.id t c kc j h f so (λ x e gone. younger x e gone) (omega (arith, so.born, acts.born, young.0)) stays.holds
    (quiet-then b made f (quiet-device b t a resources) quiet) (lone-plugged b t a resources k.device h.lone)
  where
    resources : Resources
    resources = resources_of b t at a.props

    kb : Placed b
    kb = record { depth = d.places.0; places = d.places.1; firm = (rest-from_sound b d.tree).used.firm }

    c : Board
    c = with_plugged b t a (resources_of b t at a.props)

    j : Joined kb.depth b (b.born + 1) at resources.slot a.id t (done b at resources.slot a.id) c
    j = accepted-joined d.places.0 b a (rest-from_sound b d.tree) d.places.1 t at k

    kc : Placed c
    kc =
        record {
          depth = deepened kb.depth (b.born + 1) at c;
          places = places-joined kb.depth b (b.born + 1) at resources.slot a.id t c j kb.firm kb.places;
          firm = (plugged-rest b t a resources (rest-from_sound b d.tree) (shut-above b.born kb.firm.begun) k.place).used.firm;
        }

    made : Board
    made = with_device b t a (resources_of b t at a.props)

    ns : List ℕ
    ns = (b.born + 1) ∷ bus_births (b.born + 1) t

    f : Board
    f = acted_all Realize ((b.born + 1) ∷ bus_births (b.born + 1) t) (with_device b t a (resources_of b t at a.props))

    so : StartedSo f (b.born + 1) c
    so = told-so (b.born + 1) f

    acts : PhasedSo Realize ns made f
    acts = subst (PhasedSo Realize ns made) (sym (same-acts Realize ns made)) (phased-so Realize ns made)

    young : Younger b made
    young = younger-device b t a resources

    stays : AddLeaves b c
    stays = devices_stay_lem.added b t a resources

    quiet : Quiet made f
    quiet = quiet-acted_all Realize refl ns made

    younger : (x : ℕ) → is_live c x ≡ true → is_live b x ≡ false → b.born < x
    younger x e gone = young.1 x (sym (live-shape made f acts.shape x) ∙ sym (live-shape f c so.shape x) ∙ e) gone

-- adding a device, taken or refused at any stage
module _ (b : Board) (a : Wanted) (d : SoundDevices b) (h : SoundPhases b) where
  by-late : (t : TypeId) (at : ℕ) → is_a t (codes "device") ≡ true → (o : Option (ℕ × Code)) → barred_late b t at a.props ≡ o
      → (barred_late b t at a.props ≡ None → Accepted b t at a) → SoundPhases (plug_late b t at a o).board
  by-late t at its (Some refusal) e accepted = plug_attempt-phases b t at refusal.0 its (placed b d) h
  by-late t at its None e accepted = accepted-phases b a d h t at (accepted e)

  by-stage : (t : TypeId) → is_a t (codes "device") ≡ true → (o : Option (ℕ × Code)) → barred_early b t a ≡ o → SoundPhases (plug_as b t a o).board
  by-stage t its (Some refusal) e = h
  by-stage t its None e = go (bus_for b t a.bus) refl
    where
      go : (m : Option ℕ) → bus_for b t a.bus ≡ m → SoundPhases (plug_as b t a None).board
      go None p = rw (plug_as, p) h
      go (Some at) p =
          rw (plug_as, p)
          (by-late t at its (barred_late b t at a.props) refl
          (λ late. record { device = its; chosen = p; early = e; late = late; place = place-of b t at a its p e late }))

  by-type : (o : Option Code) → type_barred a.driver ≡ o → SoundPhases (plug_by b a o).board
  by-type (Some code) e = h
  by-type None e = go (type_named a.driver) refl
    where
      go : (row : Option TypeInfo) → type_named a.driver ≡ row → SoundPhases (plug_by b a None).board
      go None p = rw (plug_by, p) h
      go (Some row) p = rw (plug_by, p) (by-stage row.id (device-of row (rw (type_barred, p) at e)) (barred_early b row.id a) refl)

  pub plug-phases : SoundPhases (plug b a).board
  unfolding plug
  plug-phases = by-type (type_barred a.driver) refl
