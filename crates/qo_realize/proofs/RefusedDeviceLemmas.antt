-- The law: a device that is refused, given up or cut leaves the board as it was.
use Rattle.std.proofs.Common.{◌≡◌, refl, sym, arith, ◌∙◌, ℕ, suc, ◌+◌, ◌==◌, Bool, true, false, List, [], ◌++◌, append_assoc, Option, None, Some, Err, ◌⊎◌, inl, inr, if◌then◌else◌}
use Rattle.std.proofs.lemmas.List.{append-nil}
use Rattle.std.specs.Option.{option_map_or}
use Rattle.qo_values.specs.declared.codes.Code.{Code}
use Rattle.qo_values.specs.declared.codes.Code.TheVariants.{E20}
use Rattle.qo_values.specs.declared.kinds.TypeId.{TypeId}
use Rattle.qo_model.specs.Board.{Board}
use Rattle.qo_model.specs.Objects.{Changed, Given, added_as, added_by, attempted_as, barred, barred_by, object_add, refusal_of, with_attempt}
use Rattle.qo_model.specs.Plug.{Plugged, Wanted, barred_early, barred_late, born_from, bus_for, cut_attempt, device_last, passed_notes, plug, plug_as, plug_attempt, plug_by, plug_late, plug_on, type_barred, types_in, with_ended}
use Rattle.qo_model.specs.Types.{TypeInfo, type_named}
use Rattle.qo_model.specs.declared.notes.Note.{Note}
use Rattle.qo_plug.specs.Cuts.{cut_as, cut_of, cut_open}
use Rattle.qo_plug.specs.declared.refusals.AddRefusal.{AddRefusal}
use Rattle.qo_plug.specs.declared.refusals.AddRefusal.TheVariants.{Refused, Memory}
use Rattle.qo_realize.specs.Answers.{Plugs}
use Rattle.qo_realize.specs.Parts.{Parts}
use Rattle.qo_realize.specs.Refusals.{AsItWas, RefusedDevicesLaw, StandAsItWas}
use Rattle.qo_realize.specs.Representation.{Stands}

-- a board is as it was, and so is one that has more births and notes
pub nothing-left : (b : Board) → AsItWas b b
nothing-left b = record { same = refl; births = omega arith; notes = ([], sym (append-nil b.notes)) }

left-behind : (b : Board) (births : ℕ) (more : List Note) → AsItWas b (record b { born = b.born + births; notes = b.notes ++ more })
left-behind b births more = record { same = refl; births = omega arith; notes = (more, refl) }

ended-left : (b : Board) (made : List (ℕ × TypeId)) (passed : List Note) (ended : List (ℕ × TypeId)) → AsItWas b (with_ended b made passed ended)
ended-left b made passed ended =
    record {
      same = refl;
      births = omega arith;
      notes = (_, append_assoc (b.notes ++ _) passed _ ∙ append_assoc b.notes _ _);
    }

attempt-left : (b : Board) (t : TypeId) → AsItWas b (with_attempt b t)
attempt-left b t = record { same = refl; births = omega arith; notes = (_, append_assoc b.notes _ _) }

-- an attempt at a device that is given up
plugged-left : (b : Board) (t : TypeId) (bus stage : ℕ) → AsItWas b (plug_attempt b t bus stage)
plugged-left b t bus stage =
    let os : List (ℕ × TypeId) = born_from (suc b.born) (types_in t) in
    ended-left b os (if stage == 8 then passed_notes b bus (suc b.born) t else []) (device_last os)

-- a device that is added, or refused

device-left : (b : Board) (a : Wanted) (refusal : ℕ × Code) → (plug b a).refusal ≡ Some refusal → AsItWas b (plug b a).board
unfolding plug
device-left b a refusal is = by-type (type_barred a.driver) is
  where
    late : (t : TypeId) (bus : ℕ) (o : Option (ℕ × Code)) → (plug_late b t bus a o).refusal ≡ Some refusal → AsItWas b (plug_late b t bus a o).board
    late t bus (Some found) e = plugged-left b t bus found.0
    late t bus None e = absurd (let clash : None ≡ Some refusal = e in cc)

    on : (t : TypeId) (o : Option ℕ) (end : Board)
        → (elim o as (λ o. Plugged) [ None ↦ record { refusal = None; board = b } | Some bus ↦ plug_on b t bus a ]).refusal ≡ Some refusal
        → AsItWas b (elim o as (λ o. Plugged) [ None ↦ record { refusal = None; board = b } | Some bus ↦ plug_on b t bus a ]).board
    on t None end e = nothing-left b
    on t (Some bus) end e = late t bus (barred_late b t bus a.props) e

    by-early : (t : TypeId) (o : Option (ℕ × Code)) → (plug_as b t a o).refusal ≡ Some refusal → AsItWas b (plug_as b t a o).board
    by-early t (Some found) e = nothing-left b
    by-early t None e = on t (bus_for b t a.bus) b e

    by-row : (o : Option TypeInfo)
        → (elim o as (λ o. Plugged) [ None ↦ record { refusal = None; board = b } | Some row ↦ plug_as b row.id a (barred_early b row.id a) ]).refusal
        ≡ Some refusal
        → AsItWas b (elim o as (λ o. Plugged) [ None ↦ record { refusal = None; board = b } | Some row ↦ plug_as b row.id a (barred_early b row.id a) ]).board
    by-row None e = nothing-left b
    by-row (Some row) e = by-early row.id (barred_early b row.id a) e

    by-type : (o : Option Code) → (plug_by b a o).refusal ≡ Some refusal → AsItWas b (plug_by b a o).board
    by-type (Some code) e = nothing-left b
    by-type None e = by-row (type_named a.driver) e

-- an attempt that is cut

cut-left : (b : Board) (a : Wanted) (i : ℕ) (joined : Bool) → AsItWas b (cut_as b a i joined)
unfolding cut_as
cut-left b a i joined = by (type_barred a.driver) (type_named a.driver)
  where
    some : (t : TypeId) (u : Bool) → AsItWas b (if u then cut_attempt b t i joined else b)
    some t true = ended-left b _ _ _
    some t false = nothing-left b

    free : (row : TypeInfo) (bar : Option (ℕ × Code)) → AsItWas b (elim bar as (λ o. Board) [ None ↦ cut_of b row.id i joined | Some found ↦ b ])
    free row None = some row.id _
    free row (Some found) = nothing-left b

    by : (bar : Option Code) (row : Option TypeInfo)
        → AsItWas b (elim bar as (λ o. Board) [ Some code ↦ b | None ↦ option_map_or (λ (row : TypeInfo). cut_open b a row i joined) row b ])
    by (Some code) row = nothing-left b
    by None None = nothing-left b
    by None (Some row) = free row (barred_early b row.id a)

-- a user's object that is refused, and an attempt at one

object-left : (b : Board) (driver id : List ℕ) (props : List Given) (code : Code) → (object_add b driver id props).refusal ≡ Some code
    → AsItWas b (object_add b driver id props).board
object-left b driver id props code is = by (type_named driver) is
  where
    made : (t : TypeId) (o : Option Code) → (added_as b t id props o).refusal ≡ Some code → AsItWas b (added_as b t id props o).board
    made t (Some found) e = attempt-left b t
    made t None e = absurd (let clash : None ≡ Some code = e in cc)

    barring : (row : TypeInfo) (o : Option Code) → (added_by b row id props o).refusal ≡ Some code → AsItWas b (added_by b row id props o).board
    barring row (Some found) e = nothing-left b
    barring row None e = made row.id (refusal_of b row.id props) e

    by : (o : Option TypeInfo)
        → (elim o as (λ o. Changed) [ None ↦ record { refusal = Some E20; board = b } | Some row ↦ added_by b row id props (barred b row id) ]).refusal ≡ Some code
        → AsItWas b (elim o as (λ o. Changed) [ None ↦ record { refusal = Some E20; board = b } | Some row ↦ added_by b row id props (barred b row id) ]).board
    by None e = nothing-left b
    by (Some row) e = barring row (barred b row id) e

object_attempt-left : (b : Board) (driver id : List ℕ) → AsItWas b (attempted_as b driver id)
object_attempt-left b driver id = by (barred_by b driver id) (type_named driver)
  where
    by : (bar : Option Code) (row : Option TypeInfo)
        → AsItWas b (elim bar as (λ o. Board) [ Some code ↦ b | None ↦ option_map_or (λ (row : TypeInfo). with_attempt b row.id) row b ])
    by (Some code) row = nothing-left b
    by None None = nothing-left b
    by None (Some row) = attempt-left b row.id

-- what stands after a device that was not added

not_added-left : (b : Board) (a : Wanted) (e : AddRefusal) (p : Parts) → Plugs b a (Err e) p → StandAsItWas b p
not_added-left b a (Refused stage code) p h = ((plug b a).board, device-left b a (stage, code) h.0, h.1)
not_added-left b a Memory p h = by h
  where
    by : Stands b p ⊎ ((i : ℕ) × (joined : Bool) × Stands (cut_as b a i joined) p) → StandAsItWas b p
    by (inl stands) = (b, nothing-left b, stands)
    by (inr (i, joined, stands)) = (cut_as b a i joined, cut-left b a i joined, stands)

pub refused_devices_lem : RefusedDevicesLaw
refused_devices_lem =
    record {
      device = device-left;
      cut = cut-left;
      object = object-left;
      attempt = object_attempt-left;
      begun = λ b a e h. not_added-left b a e.refusal e.board h.1;
      placed = λ b a e h. not_added-left b a e.refusal e.board h.1;
      finished = λ b a e h. not_added-left b a e.refusal e.board h.1;
      abandoned = λ b d. plugged-left b d.begun.target.kind d.begun.target.bus.birth 4;
    }
