-- For proofs alone. Adding a device in stages: how it is begun, which is made and stands nowhere, and how it is placed.
use Rattle.std.specs.Prelude.{◌≡◌, ℕ, ◌+◌, ◌<◌, ◌≤◌, ◌==◌, List, true, codes, Option, Some, None, is_some, IfOk, IfSome, Result, Ok, Err, length, option_and_then, option_map, ⊤}
use Rattle.std.specs.Option.{option_or}
use Rattle.std.specs.List.{AllByRecursion, AllZip}
use Rattle.qo_values.specs.declared.codes.Code.TheVariants.{E44}
use Rattle.qo_values.specs.declared.limits.TheConstants.{BUS_SLOTS, NOTICES_MAX}
use Rattle.qo_values.specs.declared.kinds.TypeId.{TypeId}
use Rattle.qo_values.specs.declared.kinds.TypeId.TheVariants.{MemDimm}
use Rattle.qo_model.specs.Board.{Board, Ring}
use Rattle.qo_values.specs.declared.codes.Code.{Code}
use Rattle.qo_model.specs.Objects.{Given, refusal_of}
use Rattle.qo_model.specs.Plug.{Wanted, at_stage, barred_late, place_barred, realize_barred}
use Rattle.qo_model.specs.Types.{is_a}
use Rattle.qo_model.specs.Reset.{count}
use Rattle.qo_sound.specs.TreeKept.{SoundTree}
use Rattle.qo_heap.specs.Rows.{IsLive}
use Rattle.qo_object.specs.Content.{fresh}
use Rattle.qo_heap.specs.Board.{Shows}
use Rattle.qo_heap.specs.Objects.{Objects, content_of, pins_of}
use Rattle.qo_hotplug.specs.Hotplug.{Asked}
use Rattle.qo_properties.specs.Filling.{Fits, IsGiven, target_in}
use Rattle.qo_plug.specs.declared.targets.Target.{Target}
use Rattle.qo_plug.specs.declared.beginning.NewDevice.{NewDevice}
use Rattle.qo_plug.specs.declared.placing.AttachedDevice.{AttachedDevice}
use Rattle.qo_plug.specs.declared.placing.Plugging.{Plugging}
use Rattle.qo_plug.specs.declared.placing.Plugging.TheVariants.{Attached, NoticesFull}
use Rattle.qo_plug.specs.declared.planning.Planned.{Planned}
use Rattle.qo_plug.specs.declared.refusals.Barred.{Barred}
use Rattle.qo_plug.specs.declared.resources.Resources.{Resources}
use Rattle.qo_plug.specs.Admission.{IsAdmitted, barred_in}
use Rattle.qo_plug.specs.Answers.{IsOpen}
use Rattle.qo_plug.specs.Resources.{IsChosen, claims_given}
use Rattle.qo_plug.specs.Drafts.{IsQuiet, bare, given_draft, pinned_draft, own_slots_of}
use Rattle.qo_plug.specs.DevicePlans.{IsJudgedOn}
use Rattle.qo_plug.specs.FreeResources.{AreFreeResources, IsFreeId}
use Rattle.qo_plug.specs.Placement.{Stood, resources_in}
use Rattle.qo_properties.specs.KeptClaims.{kept_by}

-- what bars a device in its place on a bus: its slot, its depth and its memory come before its ring
abbrev pub resources_barred : Board → TypeId → ℕ → List Given → Option (ℕ × Code)
resources_barred b t bus props = option_or (at_stage 5 (place_barred b t bus props)) (at_stage 6 (realize_barred b t props))

-- of a refusal
abbrev pub IfBarred : {T : Type 0} → Result T Barred → (Barred → Type 0) → Type 0
IfBarred (Ok x) P = ⊤
IfBarred (Err bar) P = P bar

-- what was found of the resources of a planned device on its bus is so on each board where it is asked; and no other has them
pub record IsJudged (p : Planned) (rings : List Ring) (found : Result Resources Barred) (v : Objects) : Type 0 where
  pub within : IfOk found (λ c. c.slot < BUS_SLOTS)
  pub dimm : IfOk found (λ c. is_some c.memory ≡ true → p.target.kind ≡ MemDimm)
  pub stages : IfBarred found (λ bar. (5 ≤ bar.stage) × (bar.stage ≤ 6))
  pub refused : (b : Board) (props : List Given) → IsJudgedOn b props p rings v → barred_in found ≡ resources_barred b p.target.kind p.target.bus.birth props
  pub resources : (b : Board) (props : List Given) → IsJudgedOn b props p rings v → IfOk found (λ c. IsChosen b p.target.kind p.target.bus.birth props c)
  pub free : IfOk found (λ c. AreFreeResources p.target.bus.birth c v.claims)

-- a heap has a device that was begun, as it was made and held once, with its container, its older bus, and what its plan names; its id and its resources are free
pub record IsHeld (d : NewDevice) (v : Objects) : Type 0 where
  pub device_is : is_a d.target.kind (codes "device") ≡ true
  pub live : IsLive v.rows d.device
  pub container : IsLive v.rows d.target.place.container
  pub bus : IsLive v.rows d.target.bus
  pub older : d.target.bus.birth < d.device.birth
  pub within : IfOk d.resources (λ c. c.slot < BUS_SLOTS)
  pub dimm : IfOk d.resources (λ c. is_some c.memory ≡ true → d.target.kind ≡ MemDimm)
  pub stages : IfBarred d.resources (λ bar. (5 ≤ bar.stage) × (bar.stage ≤ 6))
  pub free_id : IsFreeId d.target.place.id v.claims
  pub free : IfOk d.resources (λ c. AreFreeResources d.target.bus.birth c v.claims)
  pub pinned : 0 < pins_of v d.device.birth
  pub rest : option_map bare (content_of v d.device.birth) ≡ Some (bare (fresh d.target.kind))
  pub quiet : (n : ℕ) → d.device.birth ≤ n → IsQuiet v n
  pub targets : AllByRecursion (λ f. IfSome (target_in f) (IsLive v.rows)) d.plan.items
  pub fits : AllZip Fits d.plan.items (own_slots_of v d.device.birth)

-- the stages 1 to 4 are done on a board: nothing of them bars the device, and it is made; what is judged of its place is known
pub record IsBegun (b : Board) (a : Wanted) (d : NewDevice) (v : Objects) : Type 0 where
  pub shown : Shows (given_draft b d.target.kind a.props) v
  pub sound : SoundTree b
  pub admitted : IsAdmitted b a d.target
  pub given : refusal_of b d.target.kind a.props ≡ None
  pub birth : d.device.birth ≡ b.born + 1
  pub barred : barred_in d.resources ≡ resources_barred b d.target.kind d.target.bus.birth a.props
  pub resources : IfOk d.resources (λ c. IsChosen b d.target.kind d.target.bus.birth a.props c)
  pub out : d.out ≡ (count b d.target.bus.birth == 0)
  pub plan : AllZip (IsGiven b a.props) d.plan.items (own_slots_of v d.device.birth)

-- these holds, and what is asked for, are a board's
pub record IsBeside (b : Board) (holds : List ℕ) (h : Asked) : Type 0 where
  pub holds_are : b.holds ≡ holds
  pub pending : b.pending ≡ h.pending
  pub notices : b.notices ≡ h.notices

-- a placed device can be finished: it has no path yet, and there is room for the event of its end and for a notice; or it is as quiet as it was made
abbrev pub MayFinish : ℕ → Plugging → Asked → Objects → Type 0
MayFinish n (Attached path) h v = (option_and_then (λ c. c.kept_path) (content_of v n) ≡ None) × (1 ≤ v.events.spare) × (length h.notices < NOTICES_MAX)
MayFinish n (NoticesFull out) h v = (m : ℕ) → n ≤ m → IsQuiet v m

pub record IsReady (p : AttachedDevice) (h : Asked) (v : Objects) : Type 0 where
  pub live : IsLive v.rows p.device
  pub pinned : 0 < pins_of v p.device.birth
  pub plugging : MayFinish p.device.birth p.plugging h v

-- the stages 5 to 7 are done: nothing bars the device, it stands with its resources, and its body keeps its claims; or the notices alone bar it, and it stands nowhere
abbrev pub StandsBy : Board → Wanted → Target → ℕ → ℕ → Plugging → Objects → Type 0
StandsBy b a s n slot (Attached path) v =
    (path.told ≡ path.kept) × (c : Resources) × (c.slot ≡ slot) × IsOpen b a s c × Stood b (pinned_draft b s.kind) n a (resources_in s.bus.birth c) path.kept v
    × (kept_by v n ≡ Some (claims_given b s.kind s.bus.birth a.props))
StandsBy b a s n slot (NoticesFull out) v =
    IsAdmitted b a s × (barred_late b s.kind s.bus.birth a.props ≡ Some (8, E44)) × (out ≡ (count b s.bus.birth == 0)) × Shows (given_draft b s.kind a.props) v

pub record IsSettled (b : Board) (a : Wanted) (p : AttachedDevice) (v : Objects) : Type 0 where
  pub sound : SoundTree b
  pub birth : p.device.birth ≡ b.born + 1
  pub target : (s : Target) × (is_a s.kind (codes "device") ≡ true) × StandsBy b a s p.device.birth p.slot p.plugging v
