-- No step makes another machine.
use Rattle.std.proofs.Common.{◌≡◌, refl, ap, sym, subst, ◌∙◌, ℕ, ◌+◌, Bool, true, false, ◌==◌, List, [], ◌∷◌, map, Option, Some, None, option_map, rules, codes}
use Rattle.qo_model.proofs.Common.{⊤, AllByRecursion, option_or, fresh_registers, OBJECTS_BIRTH, Code, TypeId, Machine, Board, Record, child, kind_of, record_of, with_added, Change, added, changed, deleted, severed, wrote, Given, added_as, given_slots, with_object, Resources, Wanted, drafted, with_plugged, after, edited, finalize, is_a, slots_of, types}
use Rattle.std.proofs.lemmas.List.Folds.{find-append}
use Rattle.std.proofs.lemmas.Option.{same_Some}
use Rattle.qo_values.proofs.EachLemmas.{each}
use Rattle.qo_model.proofs.FinalNotesLemmas.{live-of-kind}
use Rattle.qo_model.proofs.ComesToLemmas.{addition-comes}
use Rattle.qo_model.proofs.StepLemmas.{found_at, found-edited}
use Rattle.qo_sound.proofs.AddLemmas.{creatable}
use Rattle.qo_sound.proofs.ChangeStepsLemmas.{step-object_del, step-sever, step-write}
use Rattle.qo_sound.proofs.DetachmentStepsLemmas.{KeepsEnds, KeepsPins}
use Rattle.qo_sound.proofs.FirmBoardLemmas.{edited-kinds}
use Rattle.qo_sound.proofs.KindsLemmas.{plug-kinds}
use Rattle.qo_sound.proofs.AdditionStepsLemmas.{KeepsEdits, KeepsNew, new_with, RowPasses, step-drafted}
use Rattle.qo_sound.proofs.TestLemmas.{decide, clash-back}
use Rattle.qo_sound_devices.proofs.PlacesLemmas.{kind-alike}
use Rattle.qo_sound_devices.proofs.StepsLemmas.{steps-after}
use Rattle.qo_sound_phases.specs.SoundPhases.{LoneMachine}

-- types but the machine's
abbrev Other : TypeId → Type 0
Other Machine = ⊥
Other t = ⊤

no-machine : (t : TypeId) → Other t → t ≡ Machine → ⊥
no-machine t o e = subst Other e o

edits : KeepsEdits LoneMachine
edits n change leaves c h = λ x e.
    h x
    (ap (λ (kinds : ℕ → Option TypeId). kinds x)
    (sym (edited-kinds n change (λ r. ap (λ (y : Record). y.birth) (leaves r)) (λ r. ap (λ (y : Record). y.kind) (leaves r)) c))
    ∙ e)

pins : KeepsPins LoneMachine
pins ps c h = h

ends : KeepsEnds LoneMachine
ends o c h = λ x e. h x (sym (kind-alike c (after finalize c o) x ((steps-after c o).body x (live-of-kind (after finalize c o) x Machine e))) ∙ e)

-- an object more, of another type
lone-more : (o last : Option Record) → ((r : Record) → last ≡ Some r → Other r.kind) → option_map (λ (r : Record). r.kind) (option_or o last) ≡ Some Machine
    → option_map (λ (r : Record). r.kind) o ≡ Some Machine
lone-more (Some y) last other e = e
lone-more None None other e = e
lone-more None (Some r) other e = absurd (no-machine r.kind (other r refl) (same_Some r.kind Machine e))

last-is : (x : ℕ) (r y : Record) → found_at x (r ∷ []) ≡ Some y → r ≡ y
last-is x r y e = decide (r.birth == x) (λ p. same_Some r y (rw p at e)) (λ p. absurd (let bad : None ≡ Some y = rw p at e in cc))

new : KeepsNew Other LoneMachine
new k slots made c h = λ x e.
    h x
    (lone-more (record_of c x) (found_at x (new_with c k slots ∷ []))
    (λ r q. subst (λ (y : Record). Other y.kind) (last-is x (new_with c k slots) r q) made)
    (ap (option_map (λ (r : Record). r.kind)) (sym (find-append (λ (y : Record). y.birth == x) c.records (new_with c k slots ∷ []))) ∙ e))

-- a device is none, and has none
device-other : (t : TypeId) → is_a t (codes "device") ≡ true → Other t
unfolding types
device-other = each (λ (t : TypeId). is_a t (codes "device") ≡ true → Other t) (search rules)

user-other : (t : TypeId) → is_a t (codes "user-creatable") ≡ true → Other t
unfolding types
user-other = each (λ (t : TypeId). is_a t (codes "user-creatable") ≡ true → Other t) (search rules)

rows-other : (t : TypeId) → AllByRecursion (RowPasses Other) (slots_of t)
unfolding types
rows-other = each (λ (t : TypeId). AllByRecursion (RowPasses Other) (slots_of t)) (search rules)

pub lone-plugged : (b : Board) (t : TypeId) (a : Wanted) (resources : Resources) → is_a t (codes "device") ≡ true → LoneMachine b
    → LoneMachine (with_plugged b t a resources)
lone-plugged b t a resources its h =
    let made : LoneMachine (drafted b t) = step-drafted LoneMachine edits Other new t (device-other t its) (rows-other t) b h in
    λ x e. made x (ap (λ (kinds : ℕ → Option TypeId). kinds x) (sym (plug-kinds b t a resources)) ∙ e)

-- commands on objects
lone-object : (b : Board) (t : TypeId) (id : List ℕ) (props : List Given) → Other t → LoneMachine b → LoneMachine (with_object b t id props)
lone-object b t id props other h = λ x e.
    h x
    (before x
    (lone-more (option_map (edited OBJECTS_BIRTH change) (record_of b x)) (found_at x (r ∷ []))
    (λ y q. subst (λ (z : Record). Other z.kind) (last-is x r y q) other) (ap (option_map (λ (y : Record). y.kind)) (sym (found x)) ∙ e)))
  where
    change : Record → Record
    change = with_added id (child (b.born + 1))

    r : Record
    r = record { birth = b.born + 1; kind = t; slots = given_slots b t props; registers = fresh_registers t; device_id = None; kept_path = None }

    found : (x : ℕ) → record_of (with_object b t id props) x ≡ option_or (option_map (edited OBJECTS_BIRTH change) (record_of b x)) (found_at x (r ∷ []))
    found x =
        find-append (λ (y : Record). y.birth == x) (map (edited OBJECTS_BIRTH change) b.records) (r ∷ [])
        ∙ ap (λ (o : Option Record). option_or o (found_at x (r ∷ []))) (found-edited OBJECTS_BIRTH change (λ y. refl) x b.records)

    kind_in : (y : Record) (u : Bool) → (y.birth == OBJECTS_BIRTH) ≡ u → (edited OBJECTS_BIRTH change y).kind ≡ y.kind
    kind_in y true p = rw (edited, p) refl
    kind_in y false p = rw (edited, p) refl

    before : (x : ℕ) → option_map (λ (y : Record). y.kind) (option_map (edited OBJECTS_BIRTH change) (record_of b x)) ≡ Some Machine
        → kind_of b x ≡ Some Machine
    before x = go (record_of b x)
      where
        go : (o : Option Record) → option_map (λ (y : Record). y.kind) (option_map (edited OBJECTS_BIRTH change) o) ≡ Some Machine
            → option_map (λ (y : Record). y.kind) o ≡ Some Machine
        go None e = e
        go (Some y) e = ap Some (sym (kind_in y (y.birth == OBJECTS_BIRTH) refl)) ∙ e

lone-added : (b : Board) (t : TypeId) (id : List ℕ) (props : List Given) (refusal : Option Code) → Other t → LoneMachine b
    → LoneMachine (added_as b t id props refusal).board
lone-added b t id props None other h = lone-object b t id props other h
lone-added b t id props (Some code) other h = h

pub lone-changed : (b : Board) (change : Change) → LoneMachine b → LoneMachine (changed b change)
lone-changed b (deleted id) h = step-object_del LoneMachine edits pins ends b id h
lone-changed b (wrote n name v) h = step-write LoneMachine edits pins ends b n name v h
lone-changed b (severed n) h = step-sever LoneMachine edits pins ends b n h
lone-changed b (added driver id props) h =
    addition-comes LoneMachine b driver id props h (λ row e o is. lone-added b row.id id props o (user-other row.id (creatable b row id e)) h)
