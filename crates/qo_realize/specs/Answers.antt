-- For proofs alone. What the calls that change a board answer and leave.
use Rattle.std.specs.Prelude.{◌≡◌, ℕ, ◌+◌, Bool, List, ◌⊎◌, Some, None, option_map, Result, Ok, Err, ⊤}
use Rattle.std.specs.Option.{option_and_then}
use Rattle.qo_values.specs.declared.codes.Code.{Code}
use Rattle.qo_values.specs.declared.kinds.TypeId.{TypeId}
use Rattle.qo_heap.specs.Objects.{Objects}
use Rattle.qo_model.specs.Board.{Board, Record, record_of}
use Rattle.qo_model.specs.Objects.{Changed, Given, attempted_as, object_add}
use Rattle.qo_model.specs.Plug.{Wanted, bus_for, plug, resources_of}
use Rattle.qo_model.specs.Types.{TypeInfo, type_named}
use Rattle.qo_plug.specs.Answers.{KeepsGiven}
use Rattle.qo_plug.specs.Cuts.{cut_as}
use Rattle.qo_plug.specs.declared.adding.Added.{Added}
use Rattle.qo_plug.specs.declared.refusals.AddRefusal.{AddRefusal}
use Rattle.qo_plug.specs.declared.refusals.AddRefusal.TheVariants.{Refused as Barred, Memory as NoMemory}
use Rattle.qo_properties.specs.Changes.{refusal_in}
use Rattle.qo_properties.specs.declared.refusals.Refusal.{Refusal}
use Rattle.qo_properties.specs.declared.refusals.Refusal.TheVariants.{Refused, Memory}
use Rattle.qo_realize.specs.Parts.{Parts}
use Rattle.qo_realize.specs.Representation.{Stands}

-- a write that a definition gives: the board that is given, or refused as it is given, or there was not enough memory
abbrev pub Writes : Parts → Result (Unit {0}) Refusal → Result Board Code → Type 0
Writes p (Ok done) given = (b : Board) × (given ≡ Ok b) × Stands b p
Writes p (Err (Refused code)) given = given ≡ Err code
Writes p (Err Memory) given = ⊤

-- a change: it is refused by the same code, or neither is refused, and the change's board stands
pub record IsAnswered (change : Changed) (result : Result (Unit {0}) Code) (p : Parts) : Type 0 where
  pub refusal : change.refusal ≡ refusal_in result
  pub board : Stands change.board p

-- `object-add`: the definition's refusal and board; for want of memory the board as it was, or, where nothing bars it, that of an attempt that was given up
abbrev pub Adds : Board → List ℕ → List ℕ → List Given → Result (Unit {0}) Refusal → Parts → Type 0
Adds b driver id props (Ok done) p = ((object_add b driver id props).refusal ≡ None) × Stands (object_add b driver id props).board p
Adds b driver id props (Err (Refused code)) p = ((object_add b driver id props).refusal ≡ Some code) × Stands (object_add b driver id props).board p
Adds b driver id props (Err Memory) p = Stands b p ⊎ Stands (attempted_as b driver id) p

-- a change that may want memory: it is refused by its code and the board stays, or its board stands; for want of memory the board stays
abbrev pub Changes : Changed → Board → Result (Unit {0}) Refusal → Parts → Type 0
Changes change b (Ok done) p = (change.refusal ≡ None) × Stands change.board p
Changes change b (Err (Refused code)) p = (change ≡ record { refusal = Some code; board = b }) × Stands b p
Changes change b (Err Memory) p = Stands b p

-- what is told of a device that was added: it has the next birth, its slot of its bus, and the path that is kept of it; and its body keeps its claims
pub record IsTold (b : Board) (a : Wanted) (device : Added) (v : Objects) : Type 0 where
  pub birth : device.birth ≡ b.born + 1
  pub slot : (t : TypeId) (bus : ℕ) → option_map (λ (row : TypeInfo). row.id) (type_named a.driver) ≡ Some t → bus_for b t a.bus ≡ Some bus
      → device.slot ≡ (resources_of b t bus a.props).slot
  pub path : option_and_then (λ (r : Record). r.kept_path) (record_of (plug b a).board device.birth) ≡ Some device.path
  pub kept : KeepsGiven b a device v

-- `device_add`: the definition's refusal and board, and what is told of the device; for want of memory the board as it was, or that of a cut attempt
abbrev pub Plugs : Board → Wanted → Result Added AddRefusal → Parts → Type 0
Plugs b a (Ok device) p = ((plug b a).refusal ≡ None) × Stands (plug b a).board p × IsTold b a device p.objects
Plugs b a (Err (Barred stage code)) p = ((plug b a).refusal ≡ Some (stage, code)) × Stands (plug b a).board p
Plugs b a (Err NoMemory) p = Stands b p ⊎ ((i : ℕ) × (joined : Bool) × Stands (cut_as b a i joined) p)
