-- For proofs alone. What adding a device answers and leaves.
use Rattle.std.specs.Prelude.{◌≡◌, ℕ, ◌+◌, List, Some, None, option_map, ◌⊎◌, ⊤}
use Rattle.std.specs.Option.{option_and_then}
use Rattle.qo_values.specs.declared.codes.Code.{Code}
use Rattle.qo_values.specs.declared.kinds.TypeId.{TypeId}
use Rattle.qo_model.specs.Board.{Board, Ring}
use Rattle.qo_model.specs.Plug.{Resources, Wanted, barred_early, barred_late, bus_for, plug, plug_attempt, resources_of, type_barred, with_plugged}
use Rattle.qo_model.specs.Types.{TypeInfo, type_named}
use Rattle.qo_sound.specs.TreeKept.{SoundTree}
use Rattle.qo_object.specs.Content.{Content}
use Rattle.qo_heap.specs.Board.{Shows}
use Rattle.qo_heap.specs.Objects.{Objects, content_of}
use Rattle.qo_hotplug.specs.Hotplug.{Asked}
use Rattle.qo_buses.specs.Recount.{IsRecounted}
use Rattle.qo_plug.specs.declared.adding.Added.{Added}
use Rattle.qo_plug.specs.declared.targets.Target.{Target}
use Rattle.qo_plug.specs.declared.refusals.AddRefusal.{AddRefusal}
use Rattle.qo_plug.specs.declared.refusals.AddRefusal.TheVariants.{Refused, Memory}
use Rattle.qo_plug.specs.declared.refusals.Barred.{Barred}
use Rattle.qo_plug.specs.Admission.{IsAdmitted}
use Rattle.qo_plug.specs.Resources.{IsChosen, claims_given}
use Rattle.qo_plug.specs.declared.resources.Resources.{Resources as Chosen}
use Rattle.qo_plug.specs.Drafts.{CutShort}
use Rattle.qo_properties.specs.KeptClaims.{kept_by}

-- a sound board has the objects of a heap, whose book of claims tells what they have, and beside them so many devices without an id, these holds, these rings,
-- and what is asked for
pub record IsShown (b : Board) (anonymous : ℕ) (holds : List ℕ) (rings : List Ring) (h : Asked) (v : Objects) : Type 0 where
  pub shown : Shows b v
  pub recounted : IsRecounted b v.claims
  pub anonymous_is : b.anonymous ≡ anonymous
  pub holds_are : b.holds ≡ holds
  pub rings_are : b.rings ≡ rings
  pub pending : b.pending ≡ h.pending
  pub notices : b.notices ≡ h.notices
  pub sound : SoundTree b

-- a target is open for a device, with these resources: nothing bars it
pub record IsOpen (b : Board) (a : Wanted) (s : Target) (c : Chosen) : Type 0 where
  pub admitted : IsAdmitted b a s
  pub late : barred_late b s.kind s.bus.birth a.props ≡ None
  pub chosen : IsChosen b s.kind s.bus.birth a.props c

-- the heap, and what is asked for, after a device that was plugged in
pub record IsPlugged (b : Board) (t : TypeId) (a : Wanted) (resources : Resources) (h : Asked) (w : Objects) : Type 0 where
  pub shown : Shows (with_plugged b t a resources) w
  pub pending : (with_plugged b t a resources).pending ≡ h.pending
  pub notices : (with_plugged b t a resources).notices ≡ h.notices

-- the body of a device that was added keeps its claims
abbrev pub KeepsGiven : Board → Wanted → Added → Objects → Type 0
KeepsGiven b a x w =
    (t : TypeId) (bus : ℕ) → option_map (λ (row : TypeInfo). row.id) (type_named a.driver) ≡ Some t → bus_for b t a.bus ≡ Some bus
    → kept_by w x.birth ≡ Some (claims_given b t bus a.props)

-- a device was added: its birth, its slot and the path that is kept of it are told, and its body keeps its claims
pub record IsAdded (b : Board) (a : Wanted) (x : Added) (h : Asked) (w : Objects) : Type 0 where
  pub refusal : (plug b a).refusal ≡ None
  pub shown : Shows (plug b a).board w
  pub pending : (plug b a).board.pending ≡ h.pending
  pub notices : (plug b a).board.notices ≡ h.notices
  pub birth : x.birth ≡ b.born + 1
  pub slot : (t : TypeId) (bus : ℕ) → option_map (λ (row : TypeInfo). row.id) (type_named a.driver) ≡ Some t → bus_for b t a.bus ≡ Some bus
      → x.slot ≡ (resources_of b t bus a.props).slot
  pub path : option_and_then (λ (c : Content). c.kept_path) (content_of w x.birth) ≡ Some x.path
  pub kept : KeepsGiven b a x w

-- it was refused
pub record IsRefused (b : Board) (a : Wanted) (stage : ℕ) (code : Code) (w : Objects) : Type 0 where
  pub refusal : (plug b a).refusal ≡ Some (stage, code)
  pub shown : Shows (plug b a).board w

-- memory ran out: nothing was made, or an attempt that nothing bars was cut
abbrev pub IsCut : Board → Wanted → Objects → Type 0
IsCut b a w =
    Shows b w
    ⊎ ((t : TypeId) × (option_map (λ (row : TypeInfo). row.id) (type_named a.driver) ≡ Some t) × (type_barred a.driver ≡ None) × (barred_early b t a ≡ None)
    × CutShort b t w)

-- an attempt was refused as it is barred
abbrev pub turned_down : Board → TypeId → ℕ → Barred → AddRefusal → Objects → Type 0
turned_down b t bus bar (Refused stage code) w = (stage ≡ bar.stage) × (code ≡ bar.code) × Shows (plug_attempt b t bus bar.stage) w
turned_down b t bus bar Memory w = ⊤
