-- For a law alone. What adding a device comes to: nothing, an attempt that was given up, or a device more.
use Rattle.std.specs.Prelude.{◌≡◌, ◌≢◌, ℕ, ◌≤◌, None, Some}
use Rattle.qo_values.specs.declared.codes.Code.{Code}
use Rattle.qo_values.specs.declared.codes.Code.TheVariants.{E43}
use Rattle.qo_model.specs.Board.{Board}
use Rattle.qo_model.specs.Plug.{Wanted, barred_early, barred_late, bus_for, plug, plug_attempt, resources_of, type_barred, with_plugged}
use Rattle.qo_model.specs.Types.{TypeInfo, type_named}

-- an attempt is made: at a device of a type, on a bus, since nothing bars it early
pub record IsAttempted (b : Board) (a : Wanted) (row : TypeInfo) (bus : ℕ) : Type 0 where
  pub fits : type_barred a.driver ≡ None
  pub named : type_named a.driver ≡ Some row
  pub early : barred_early b row.id a ≡ None
  pub chosen : bus_for b row.id a.bus ≡ Some bus

-- it was given up: this refuses it, and this is the board after it
pub record GivenUp (b : Board) (a : Wanted) (refusal : ℕ × Code) (c : Board) : Type 0 where
  pub row : TypeInfo
  pub bus : ℕ
  pub attempted : IsAttempted b a row bus
  pub late : barred_late b row.id bus a.props ≡ Some refusal
  pub board : c ≡ plug_attempt b row.id bus refusal.0

-- the device was added, and this is the board with it
pub record Added (b : Board) (a : Wanted) (c : Board) : Type 0 where
  pub row : TypeInfo
  pub bus : ℕ
  pub attempted : IsAttempted b a row bus
  pub late : barred_late b row.id bus a.props ≡ None
  pub board : c ≡ with_plugged b row.id a (resources_of b row.id bus a.props)

-- on every board
pub record PlugComesToLaw : Type 0 where
  -- refused for its type, its id, its bus or the number of objects it leaves the board as it is
  pub early : (b : Board) (a : Wanted) (stage : ℕ) (code : Code) → (plug b a).refusal ≡ Some (stage, code) → stage ≤ 3 → (plug b a).board ≡ b
  pub full : (b : Board) (a : Wanted) → (plug b a).refusal ≡ Some (4, E43) → (plug b a).board ≡ b
  -- refused for a property, or at a later stage, an attempt was given up
  pub property : (b : Board) (a : Wanted) (code : Code) → (plug b a).refusal ≡ Some (4, code) → code ≢ E43 → GivenUp b a (4, code) (plug b a).board
  pub late : (b : Board) (a : Wanted) (stage : ℕ) (code : Code) → (plug b a).refusal ≡ Some (stage, code) → 5 ≤ stage
      → GivenUp b a (stage, code) (plug b a).board
  -- where nothing refuses it the device is added
  pub added : (b : Board) (a : Wanted) → (plug b a).refusal ≡ None → Added b a (plug b a).board
