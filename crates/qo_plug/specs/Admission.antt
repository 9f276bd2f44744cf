-- What the calls that add a device know of it: what is asked for, and that its options were checked.
use Rattle.std.specs.Prelude.{◌≡◌, ℕ, List, Option, Some, None, Result, Ok, Err, option_map, ⊤}
use Rattle.qo_values.specs.declared.codes.Code.{Code}
use Rattle.qo_model.specs.Board.{Board}
use Rattle.qo_model.specs.Objects.{Given}
use Rattle.qo_model.specs.Plug.{Wanted, barred_early, bus_for, name_for, parent_for, type_barred}
use Rattle.qo_model.specs.Types.{TypeInfo, type_named}
use Rattle.qo_plug.specs.declared.targets.ContainerSlot.{ContainerSlot}
use Rattle.qo_plug.specs.declared.targets.Target.{Target}
use Rattle.qo_plug.specs.declared.options.DeviceOptions.{DeviceOptions}
use Rattle.qo_plug.specs.declared.refusals.AddRefusal.{AddRefusal}
use Rattle.qo_plug.specs.declared.refusals.AddRefusal.TheVariants.{Refused, Memory}
use Rattle.qo_plug.specs.declared.refusals.Barred.{Barred}

-- what is asked for, in its parts
abbrev pub wanted : List ℕ → Option (List ℕ) → Option (List ℕ) → List Given → Wanted
wanted driver id bus props = record { driver = driver; id = id; bus = bus; props = props }

-- the options of a device as they are given to a call
abbrev pub as_wanted : DeviceOptions → Wanted
as_wanted o = wanted o.driver.now (option_map (λ t. t.now) o.id) (option_map (λ t. t.now) o.bus) o.props.now

-- a call was refused at a stage by a code; want of memory is no refusal
abbrev pub IfRefused : {T : Type 0} → Result T AddRefusal → (ℕ → Code → Type 0) → Type 0
IfRefused (Ok x) P = ⊤
IfRefused (Err (Refused stage code)) P = P stage code
IfRefused (Err Memory) P = ⊤

-- the place of a device in its container: it is what the id asks for
pub record IsPlaced (b : Board) (asked : Option (List ℕ)) (p : ContainerSlot) : Type 0 where
  pub container : p.container.birth ≡ parent_for asked
  pub name : p.name ≡ name_for b asked
  pub id : p.id ≡ asked

-- a device was admitted: nothing bars it before an attempt, and it goes where it was asked to
pub record IsAdmitted (b : Board) (a : Wanted) (s : Target) : Type 0 where
  pub kind : option_map (λ (row : TypeInfo). row.id) (type_named a.driver) ≡ Some s.kind
  pub driver : type_barred a.driver ≡ None
  pub early : barred_early b s.kind a ≡ None
  pub bus : bus_for b s.kind a.bus ≡ Some s.bus.birth
  pub place : IsPlaced b a.id s.place

-- the stage and the code of a refusal after an attempt
abbrev pub barred_in : {T : Type 0} → Result T Barred → Option (ℕ × Code)
barred_in (Ok x) = None
barred_in (Err bar) = Some (bar.stage, bar.code)
