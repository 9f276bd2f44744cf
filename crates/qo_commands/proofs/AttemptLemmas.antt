-- What the boards after attempts that were cut are.
use Rattle.std.proofs.Common.{◌≡◌, ◌==◌, refl, ℕ, Bool, true, false, List, Option, None, Some, ◌&&◌, nat_le, if◌then◌else◌}
use Rattle.std.specs.Option.{option_map_or}
use Rattle.qo_values.specs.declared.codes.Code.{Code}
use Rattle.qo_values.specs.declared.kinds.TypeId.{TypeId}
use Rattle.qo_model.specs.Board.{Board}
use Rattle.qo_model.specs.Objects.{Given, attempted_as, barred_by, with_attempt}
use Rattle.qo_model.specs.Plug.{Wanted, barred_early, cut_attempt, objects_in, type_barred}
use Rattle.qo_model.specs.Types.{TypeInfo, type_named}
use Rattle.qo_plug.specs.Admission.{wanted}
use Rattle.qo_plug.specs.Cuts.{cut_as, cut_of, cut_open}
use Rattle.qo_requests.specs.declared.calls.Addition.TheVariants.{ObjectAdd, DeviceAdd}
use Rattle.qo_requests.specs.declared.calls.Call.{Call}
use Rattle.qo_requests.specs.declared.calls.Call.TheVariants as call
use Rattle.qo_requests.specs.declared.calls.Change.{Change}
use Rattle.qo_requests.specs.declared.calls.Change.TheVariants.{Add, Alter}
use Rattle.qo_text.specs.Lines.{line_of}
use Rattle.qo_text.specs.declared.lines.Line.{Line}
use Rattle.qo_text.specs.declared.lines.Line.TheVariants.{Bus, Do, Tree}
use Rattle.qo_commands.specs.Changes.{attempted, cut_short, line_cut}

-- only additions make attempts
cut-short : (P : Board → Type 0) (b : Board) (change : Change) (i : ℕ) (joined : Bool) → P b
    → ((driver id : List ℕ) (props : List Given) → P (cut_short b (Add (ObjectAdd driver id props)) i joined))
    → ((driver : List ℕ) (id bus : Option (List ℕ)) (props : List Given) → P (cut_short b (Add (DeviceAdd driver id bus props)) i joined))
    → P (cut_short b change i joined)
cut-short P b (Alter alteration) i joined none object plug = none
cut-short P b (Add (ObjectAdd driver id props)) i joined none object plug = object driver id props
cut-short P b (Add (DeviceAdd driver id bus props)) i joined none object plug = plug driver id bus props

pub attempted-by : (P : Board → Type 0) (b : Board) (command : Call) (i : ℕ) (joined : Bool) → P b
    → ((driver id : List ℕ) (props : List Given) → P (attempted b (call.Change (Add (ObjectAdd driver id props))) i joined))
    → ((driver : List ℕ) (id bus : Option (List ℕ)) (props : List Given) → P (attempted b (call.Change (Add (DeviceAdd driver id bus props))) i joined))
    → P (attempted b command i joined)
attempted-by P b (call.Query query) i joined none object plug = none
attempted-by P b (call.Change change) i joined none object plug = cut-short P b change i joined none object plug
attempted-by P b (call.Monitor text) i joined none object plug = go (line_of text)
  where
    go : (line : Option Line) → P (line_cut b line i joined)
    go None = none
    go (Some Tree) = none
    go (Some Bus) = none
    go (Some (Do change)) = cut-short P b change i joined none object plug

-- a device's attempt that was cut
cut-by : (P : Board → Type 0) (b : Board) (a : Wanted) (i : ℕ) (joined : Bool) → P b → ((t : TypeId) → P (cut_of b t i joined)) → P (cut_as b a i joined)
unfolding cut_as
cut-by P b a i joined none cut = by (type_barred a.driver) (type_named a.driver)
  where
    free : (row : TypeInfo) (bar : Option (ℕ × Code)) → P (elim bar as (λ o. Board) [ None ↦ cut_of b row.id i joined | Some found ↦ b ])
    free row None = cut row.id
    free row (Some found) = none

    by : (bar : Option Code) (row : Option TypeInfo)
        → P (elim bar as (λ o. Board) [ Some code ↦ b | None ↦ option_map_or (λ (row : TypeInfo). cut_open b a row i joined) row b ])
    by (Some code) row = none
    by None None = none
    by None (Some row) = free row (barred_early b row.id a)

-- a user's object's
object-by : (P : Board → Type 0) (b : Board) (driver id : List ℕ) → P b → ((t : TypeId) → P (with_attempt b t)) → P (attempted_as b driver id)
object-by P b driver id none made = by (barred_by b driver id) (type_named driver)
  where
    by : (bar : Option Code) (row : Option TypeInfo)
        → P (elim bar as (λ o. Board) [ Some code ↦ b | None ↦ option_map_or (λ (row : TypeInfo). with_attempt b row.id) row b ])
    by (Some code) row = none
    by None None = none
    by None (Some row) = made row.id

-- what holds of a board, and after each attempt, holds after a command that was cut
pub attempted-all : (P : Board → Type 0) (b : Board) (r : Call) (i : ℕ) (joined : Bool) → P b → ((t : TypeId) → P (with_attempt b t))
    → ((t : TypeId) → P (cut_attempt b t i joined)) → P (attempted b r i joined)
attempted-all P b r i joined none made cut =
    attempted-by P b r i joined none (λ driver id props. one driver id (i == 1))
    (λ driver id bus props. cut-by P b (wanted driver id bus props) i joined none some)
  where
    one : (driver id : List ℕ) (t : Bool) → P (if t then attempted_as b driver id else b)
    one driver id true = object-by P b driver id none made
    one driver id false = none

    some : (t : TypeId) → P (cut_of b t i joined)
    some t = choose (nat_le 1 i && nat_le i (objects_in t))
      where
        choose : (u : Bool) → P (if u then cut_attempt b t i joined else b)
        choose true = cut t
        choose false = none

-- an attempt without objects leaves the board
pub attempted-none : (b : Board) (r : Call) → attempted b r 0 false ≡ b
attempted-none b r =
    attempted-by (λ (c : Board). c ≡ b) b r 0 false refl (λ driver id props. refl)
    (λ driver id bus props. cut-by (λ (c : Board). c ≡ b) b (wanted driver id bus props) 0 false refl (λ t. refl))
