-- Commands on objects keep phases sound: they leave the devices and the buses that a reset reaches.
use Rattle.std.proofs.Common.{◌≡◌, refl, ap, sym, subst, ◌∙◌, ℕ, ◌+◌, ◌≤◌, Bool, true, false, ◌==◌, List, [], ◌∷◌, length, map, nat_eq, Option, Some, None, is_some, option_map, arith, codes}
use Rattle.qo_model.proofs.Common.{list_any, option_map_or, option_or, fresh_registers, MACHINE_BIRTH, OBJECTS_BIRTH, Code, TypeId, Board, Record, child, record_of, kind_of, is_live, slots_at, with_added, Change, added, changed, deleted, severed, wrote, Given, added_as, given_slots, object_del, sever, severed_from, with_attempt, with_object, attached, is_of, after, edit, edited, finalize, let_go, pin, put_in_order, unpin, without_first, without_pin, refs, is_a}
use Rattle.std.proofs.lemmas.Bool.{eq-eqb, eqb-true}
use Rattle.std.proofs.lemmas.List.Folds.{find-append}
use Rattle.qo_model.proofs.ComesToLemmas.{addition-comes, deletion-comes, sever-comes, severed-comes}
use Rattle.qo_model.proofs.ReleaseScopeLemmas.{release_leaves}
use Rattle.qo_model.proofs.ChangeScopeLemmas.{changed-stays}
use Rattle.qo_model.proofs.StepLemmas.{found_at, found-edited, is_some-map, map-edited}
use Rattle.qo_model.proofs.TreeLemmas.{paths_lem}
use Rattle.qo_sound.proofs.ChangeStepsLemmas.{step-object_del, step-sever, step-write}
use Rattle.qo_sound.proofs.DetachmentStepsLemmas.{KeepsEnds, KeepsPins}
use Rattle.qo_sound.proofs.AdditionStepsLemmas.{KeepsEdits}
use Rattle.qo_sound.proofs.TestLemmas.{decide, clash, clash-back}
use Rattle.qo_sound.proofs.ViewLemmas.{rest-from_sound}
use Rattle.qo_sound_devices.specs.SoundDevices.{SoundDevices}
use Rattle.qo_sound_devices.specs.SoundPlaces.{child_entries, HasOwner, machines, bridges, stands}
use Rattle.qo_sound_devices.proofs.LikenessLemmas.{other-record}
use Rattle.qo_sound_devices.proofs.AttachmentLemmas.{child-attached, owns-listed, stands-attached}
use Rattle.qo_sound_devices.proofs.DevicesLawLemmas.{devices_kept_lem}
use Rattle.qo_sound_devices.proofs.LawLemmas.{changed-keeps}
use Rattle.qo_sound_devices.proofs.PlacesLemmas.{child-live, Keeps, kind-alike, of-live, stands-live}
use Rattle.qo_sound_devices.proofs.StepsLemmas.{steps-after}
use Rattle.qo_sound_phases.specs.SoundPhases.{SoundPhases}
use Rattle.qo_sound_phases.proofs.ResetTreeLemmas.{Placed, placed}
use Rattle.qo_sound_phases.proofs.FixedObjectLemmas.{Fixed, fixed-after, fixed-let_go, fixed-none, fixed-then, fixed-write, same-record, SameAt}
use Rattle.qo_sound_phases.proofs.FrameLemmas.{Frame, SameKinds}
use Rattle.qo_sound_phases.proofs.MachineLemmas.{lone-changed}
use Rattle.qo_sound_phases.proofs.QuietChangeLemmas.{frame-phases, quiet-changed}
use Rattle.qo_sound_phases.proofs.ReachLemmas.{machines-listed, StaysReached, stays-reached}

-- the machine, and the devices in their places
data IsKeeper (b : Board) (x : ℕ) : Type 0 where
  at_machine : x ≡ MACHINE_BIRTH → IsKeeper b x
  in_place : stands b x ≡ true → IsKeeper b x

-- `object-del`
no-objects : (b : Board) → Placed b → IsKeeper b OBJECTS_BIRTH → ⊥
no-objects b k (at_machine e) = clash-back (eq-eqb OBJECTS_BIRTH MACHINE_BIRTH e)
no-objects b k (in_place s) = clash (sym s ∙ k.places.aside.1.1.1.1.1.1.0)

fixed-deleted : (b : Board) → Placed b → (id : List ℕ) → Fixed (IsKeeper b) b (object_del b id).board
fixed-deleted b k id =
    deletion-comes (Fixed (IsKeeper b) b) b id (fixed-none (IsKeeper b) b) (λ i e. fixed-let_go (IsKeeper b) OBJECTS_BIRTH i b (no-objects b k))

-- `x-sever`
fixed-pins : (On : ℕ → Type 0) (b : Board) (ps : List ℕ) → Fixed On b (record b { pins = ps })
fixed-pins On b ps x on e = same-record b (record b { pins = ps }) x refl e

severed-fixed : (On : ℕ → Type 0) (n : ℕ) → (On n → ⊥) → (places i : ℕ) (c : Board) → Fixed On c (severed_from places i n c)
severed-fixed On n apart places i c =
    severed-comes (Fixed On c) n (λ d j t target e k. fixed-then On c d (let_go d n j) k (fixed-let_go On n j d apart)) places i c (fixed-none On c)

fixed-unpin : (On : ℕ → Type 0) (n : ℕ) (c : Board) → Fixed On c (unpin c n)
unfolding unpin
fixed-unpin On n c = go (list_any (nat_eq n) c.pins) refl
  where
    go : (u : Bool) → list_any (nat_eq n) c.pins ≡ u → Fixed On c (unpin c n)
    go true e =
        rw (unpin, e)
        (fixed-then On c (without_pin c n) (after finalize (without_pin c n) (Some n)) (fixed-pins On c (without_first n c.pins))
        (fixed-after On (without_pin c n) (Some n)))
    go false e = rw (unpin, e) (fixed-none On c)

fixed-pin : (On : ℕ → Type 0) (n : ℕ) (c : Board) → Fixed On c (pin c n)
unfolding pin
fixed-pin On n c = fixed-pins On c (put_in_order n c.pins)

fixed-severed : (b : Board) → SoundDevices b → (n : ℕ) → Fixed (IsKeeper b) b (sever b n).board
fixed-severed b d n = sever-comes (Fixed (IsKeeper b) b) b n (fixed-none (IsKeeper b) b) (λ there away.
    let c : Board = severed_from (length (slots_at b n)) 0 n (pin b n) in
    fixed-then (IsKeeper b) b c (unpin c n)
    (fixed-then (IsKeeper b) b (pin b n) c (fixed-pin (IsKeeper b) n b)
    (severed-fixed (IsKeeper b) n (λ i. clash (sym (home i) ∙ away)) (length (slots_at b n)) 0 (pin b n)))
    (fixed-unpin (IsKeeper b) n c))
  where
    k : Placed b
    k = placed b d

    home : IsKeeper b n → attached b n ≡ true
    home (in_place s) = stands-attached b d.tree.0 k.firm k.depth None (λ x. false) k.places n s
    home (at_machine e) =
        subst (λ (x : ℕ). attached b x ≡ true) (sym e)
        (child-attached b d.tree.0 k.firm 1 MACHINE_BIRTH k.places.machine (paths_lem.attached_by_parent b d.tree.0 1))

-- `object-add`
after-add : (b : Board) (t : TypeId) (id : List ℕ) (props : List Given) (x : ℕ) → is_live b x ≡ true
    → record_of (with_object b t id props) x ≡ option_map (edited OBJECTS_BIRTH (with_added id (child (b.born + 1)))) (record_of b x)
after-add b t id props x live = go (record_of b x) refl
  where
    change : Record → Record
    change = with_added id (child (b.born + 1))

    r : Record
    r = record { birth = b.born + 1; kind = t; slots = given_slots b t props; registers = fresh_registers t; device_id = None; kept_path = None }

    found : record_of (with_object b t id props) x ≡ option_or (option_map (edited OBJECTS_BIRTH (with_added id (child (b.born + 1)))) (record_of b x))
        (found_at x (r ∷ []))
    found =
        find-append (λ (y : Record). y.birth == x) (map (edited OBJECTS_BIRTH (with_added id (child (b.born + 1)))) b.records) (r ∷ [])
        ∙ ap (λ (o : Option Record). option_or o (found_at x (r ∷ [])))
        (found-edited OBJECTS_BIRTH (with_added id (child (b.born + 1))) (λ y. refl) x b.records)

    go : (o : Option Record) → record_of b x ≡ o
        → record_of (with_object b t id props) x ≡ option_map (edited OBJECTS_BIRTH (with_added id (child (b.born + 1)))) (record_of b x)
    go None q = clash-back (sym (ap is_some q) ∙ live)
    go (Some y) q =
        found
        ∙ ap (λ (o : Option Record). option_or (option_map (edited OBJECTS_BIRTH change) o) (found_at x (r ∷ []))) q
        ∙ sym (ap (option_map (edited OBJECTS_BIRTH change)) q)

fixed-added : (b : Board) → Placed b → (t : TypeId) (id : List ℕ) (props : List Given) (refusal : Option Code)
    → Fixed (IsKeeper b) b (added_as b t id props refusal).board
fixed-added b k t id props (Some code) x on e = same-record b (with_attempt b t) x refl e
fixed-added b k t id props None x on e = same-record b (with_object b t id props) x same e
  where
    live : IsKeeper b x → is_live b x ≡ true
    live (in_place s) = stands-live b k.firm x s
    live (at_machine is) = subst (λ (y : ℕ). is_live b y ≡ true) (sym is) (child-live b k.firm 1 MACHINE_BIRTH k.places.machine)

    apart : (x == OBJECTS_BIRTH) ≡ false
    apart = decide (x == OBJECTS_BIRTH) (λ q. absurd (no-objects b k (subst (IsKeeper b) (eqb-true x OBJECTS_BIRTH q) on))) (λ q. q)

    same : record_of (with_object b t id props) x ≡ record_of b x
    same = after-add b t id props x (live on) ∙ other-record OBJECTS_BIRTH x (with_added id (child (b.born + 1))) b refl apart (record_of b x) refl

-- what a command leaves
fixed-changed : (b : Board) → SoundDevices b → (change : Change) → Fixed (IsKeeper b) b (changed b change)
fixed-changed b d (deleted id) = fixed-deleted b (placed b d) id
fixed-changed b d (wrote n name v) = fixed-write (IsKeeper b) b (placed b d).firm n name v
fixed-changed b d (severed n) = fixed-severed b d n
fixed-changed b d (added driver id props) =
    addition-comes (Fixed (IsKeeper b) b) b driver id props (fixed-none (IsKeeper b) b) (λ row e o is. fixed-added b (placed b d) row.id id props o)

-- types and births
Kin : Board → Board → Type 0
Kin b c = (b.born ≤ c.born) × ((x : ℕ) → is_live c x ≡ true → (is_live b x ≡ true) × (kind_of c x ≡ kind_of b x))

kin-none : (b : Board) → Kin b b
unfolding Kin
kin-none b = (omega arith, λ x e. (e, refl))

kin-edits : (b : Board) → KeepsEdits (Kin b)
unfolding Kin
kin-edits b n change leaves c h = (h.0, kinds)
  where
    birth : (r : Record) → (change r).birth ≡ r.birth
    birth r = ap (λ (y : Record). y.birth) (leaves r)

    kinds : (x : ℕ) → is_live (edit n change c) x ≡ true → (is_live b x ≡ true) × (kind_of (edit n change c) x ≡ kind_of b x)
    kinds x e =
        let before : (is_live b x ≡ true) × (kind_of c x ≡ kind_of b x) =
        h.1 x (sym (ap is_some (found-edited n change birth x c.records) ∙ is_some-map (edited n change) (record_of c x)) ∙ e) in (
          before.0,
          ap (option_map (λ (r : Record). r.kind)) (found-edited n change birth x c.records)
              ∙ map-edited (λ (r : Record). r.kind) n change (λ r. ap (λ (y : Record). y.kind) (leaves r)) (record_of c x) ∙ before.1,
        )

kin-pins : (b : Board) → KeepsPins (Kin b)
unfolding Kin
kin-pins b ps c h = h

kin-ends : (b : Board) → KeepsEnds (Kin b)
unfolding Kin
kin-ends b o c h = (
  subst (λ (n : ℕ). b.born ≤ n) (sym (born o)) h.0,
  λ x e.
      let was : (is_live b x ≡ true) × (kind_of c x ≡ kind_of b x) = h.1 x ((steps-after c o).live x e) in
      (was.0, kind-alike c (after finalize c o) x ((steps-after c o).body x e) ∙ was.1),
)
  where
    born : (u : Option ℕ) → (after finalize c u).born ≡ c.born
    born None = refl
    born (Some m) = go (refs c m == 0) refl
      where
        go : (t : Bool) → (refs c m == 0) ≡ t → (after finalize c (Some m)).born ≡ c.born
        go true e = rw (after, e) (release_leaves c m).born
        go false e = rw (after, e) refl

-- what is read of types where objects may be added
record KinAt (b c : Board) : Type 0 where
  older : b.born ≤ c.born
  kind : SameKinds b c

kin-at : (b c : Board) → Kin b c → KinAt b c
unfolding Kin
kin-at b c h = record { older = h.0; kind = λ x e g. (h.1 x g).1 }

kin-added : (b : Board) (t : TypeId) (id : List ℕ) (props : List Given) (refusal : Option Code) → KinAt b (added_as b t id props refusal).board
kin-added b t id props (Some code) = record { older = omega arith; kind = λ x e g. refl }
kin-added b t id props None =
    record { older = omega arith; kind = λ x e g. ap (option_map (λ (r : Record). r.kind)) (after-add b t id props x e) ∙ same (record_of b x) }
  where
    kind_in : (r : Record) (u : Bool) → (r.birth == OBJECTS_BIRTH) ≡ u → (edited OBJECTS_BIRTH (with_added id (child (b.born + 1))) r).kind ≡ r.kind
    kind_in r true p = rw (edited, p) refl
    kind_in r false p = rw (edited, p) refl

    same : (o : Option Record)
        → option_map (λ (r : Record). r.kind) (option_map (edited OBJECTS_BIRTH (with_added id (child (b.born + 1)))) o) ≡ option_map (λ (r : Record). r.kind) o
    same None = refl
    same (Some r) = ap Some (kind_in r (r.birth == OBJECTS_BIRTH) refl)

kin-changed : (b : Board) (change : Change) → KinAt b (changed b change)
kin-changed b (deleted id) = kin-at b _ (step-object_del (Kin b) (kin-edits b) (kin-pins b) (kin-ends b) b id (kin-none b))
kin-changed b (wrote n name v) = kin-at b _ (step-write (Kin b) (kin-edits b) (kin-pins b) (kin-ends b) b n name v (kin-none b))
kin-changed b (severed n) = kin-at b _ (step-sever (Kin b) (kin-edits b) (kin-pins b) (kin-ends b) b n (kin-none b))
kin-changed b (added driver id props) =
    addition-comes (KinAt b) b driver id props (kin-at b b (kin-none b)) (λ row e o is. kin-added b row.id id props o)

-- so a reset reaches the same
module _ (b : Board) (change : Change) (d : SoundDevices b) where
  abbrev c : Board
  c = changed b change

  kb : Placed b
  kb = placed b d

  kc : Placed (changed b change)
  kc = placed (changed b change) (devices_kept_lem.change b change d)

  pub keeps : Keeps d.places.0 b (changed b change)
  keeps = changed-keeps d.places.0 b change (rest-from_sound b d.tree) d.places.1

  kin : KinAt b (changed b change)
  kin = kin-changed b change

  at-place : (x : ℕ) → stands (changed b change) x ≡ true → SameAt b (changed b change) x
  at-place x s = fixed-changed b d change x (in_place (sym (keeps.stood x) ∙ s)) (stands-live c kc.firm x s)

  at-top : SameAt b (changed b change) MACHINE_BIRTH
  at-top = fixed-changed b d change MACHINE_BIRTH (at_machine refl) (child-live c kc.firm 1 MACHINE_BIRTH kc.places.machine)

  pub frame : Frame b (changed b change)
  frame =
      record {
        kind = kin.kind;
        stood = λ x s. sym (keeps.stood x) ∙ s;
        bus = λ x s. (at-place x s).bus;
        children = λ x s. (at-place x s).children;
        machine = at-top.children;
      }

  pub reached-on : StaysReached b (changed b change)
  reached-on =
      stays-reached b c (λ x s. keeps.stood x ∙ s) (λ x s. (at-place x (keeps.stood x ∙ s)).children)
      (λ r was its is. same r (there r its) is ∙ is)
    where
      there : (r : ℕ) → HasOwner (changed b change) r → is_live (changed b change) r ≡ true
      there r (machines u) = child-live c kc.firm MACHINE_BIRTH r (machines-listed c kc r u)
      there r (bridges p s w) = child-live c kc.firm p r (owns-listed r (child_entries c p) w)

      same : (r : ℕ) → is_live (changed b change) r ≡ true → is_of b (codes "bus") r ≡ true
          → is_of (changed b change) (codes "bus") r ≡ is_of b (codes "bus") r
      same r live is =
          ap (λ (o : Option TypeId). option_map_or (λ (t : TypeId). is_a t (codes "bus")) o false)
          (kin.kind r (of-live b (codes "bus") r is) live)

  pub change-phases : SoundPhases b → SoundPhases (changed b change)
  change-phases h = frame-phases b c kb kc frame reached-on (changed-stays b change).holds kin.older (quiet-changed b change) (lone-changed b change) h
