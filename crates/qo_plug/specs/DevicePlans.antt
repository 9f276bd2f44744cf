-- For proofs alone. What is planned of a device before it is made.
use Rattle.std.specs.Prelude.{◌≡◌, ℕ, List, true, codes, Option, None, IfSome}
use Rattle.std.specs.List.{AllByRecursion, AllZip}
use Rattle.qo_model.specs.Board.{Board, Ring}
use Rattle.qo_model.specs.Devices.{number_in, text_in}
use Rattle.qo_model.specs.Objects.{Given, refusal_of}
use Rattle.qo_model.specs.Paths.{is_of}
use Rattle.qo_model.specs.Plug.{Wanted, bus_type}
use Rattle.qo_model.specs.Types.{is_a}
use Rattle.qo_heap.specs.Rows.{IsLive}
use Rattle.qo_heap.specs.Board.{Shows}
use Rattle.qo_heap.specs.Objects.{Objects}
use Rattle.qo_buses.specs.Recount.{IsRecounted}
use Rattle.qo_plug.specs.FreeResources.{IsFreeId}
use Rattle.qo_properties.specs.declared.adding.filling.InitialValue.{InitialValue}
use Rattle.qo_properties.specs.declared.adding.filling.InitialValue.TheVariants.{Value}
use Rattle.qo_properties.specs.Filling.{Fits, target_in}
use Rattle.qo_properties.specs.Plans.{IsPlan}
use Rattle.qo_properties.specs.NewSlots.{new_slots}
use Rattle.qo_plug.specs.declared.planning.Planned.{Planned}
use Rattle.qo_plug.specs.Admission.{IsAdmitted}

-- the number and the text that a slot is filled with
abbrev pub number_filled : InitialValue → Option ℕ
number_filled (Value v) = number_in v
number_filled f = None

abbrev pub text_filled : InitialValue → Option (List ℕ)
text_filled (Value v) = text_in v
text_filled f = None

-- a planned device is to have what these properties give
abbrev pub HasGiven : Board → List Given → Planned → Type 0
HasGiven b props p = IsPlan b p.target.kind props p.plan.items

-- what is planned is what is asked for, and nothing bars it before the device is made
pub record IsPlanned (b : Board) (a : Wanted) (p : Planned) : Type 0 where
  pub admitted : IsAdmitted b a p.target
  pub given : refusal_of b p.target.kind a.props ≡ None
  pub has : HasGiven b a.props p

-- a board of a heap with these rings, on which a planned device is judged: what is held is in the book, its bus is of the kind where it goes, and it is to
-- have these properties
pub record IsJudgedOn (b : Board) (props : List Given) (p : Planned) (rings : List Ring) (v : Objects) : Type 0 where
  pub shown : Shows b v
  pub recounted : IsRecounted b v.claims
  pub rings_are : b.rings ≡ rings
  pub bus : is_of b (bus_type p.target.kind) p.target.bus.birth ≡ true
  pub given : HasGiven b props p

-- a heap has what a planned device needs: its container, its bus and what its links are to name; its id is free; and its plan is for the slots of its type
pub record IsFit (p : Planned) (v : Objects) : Type 0 where
  pub device : is_a p.target.kind (codes "device") ≡ true
  pub container : IsLive v.rows p.target.place.container
  pub bus : IsLive v.rows p.target.bus
  pub free_id : IsFreeId p.target.place.id v.claims
  pub targets : AllByRecursion (λ f. IfSome (target_in f) (IsLive v.rows)) p.plan.items
  pub fits : AllZip Fits p.plan.items (new_slots p.target.kind)
