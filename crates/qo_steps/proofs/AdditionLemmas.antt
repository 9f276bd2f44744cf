-- What adding an object or a device comes to, with what is known there: that there is room for all that is made, and of which types it is.
use Rattle.std.proofs.Common.{◌≡◌, refl, ℕ, ◌+◌, ◌≤◌, Bool, true, false, not, leb, nat_le, if◌then◌else◌, List, [], ◌∷◌, length, codes, Option, Some, None, arith}
use Rattle.qo_model.proofs.Common.{option_or, is_id, OBJECTS_BIRTH, Code, E15, E21, E22, E23, E24, E43, E44, TypeId, LIVE_OBJECTS_MAX, NOTICES_MAX, Board, is_live, Given, added_as, added_by, barred, has_slot, object_add, refusal_of, Wanted, at_stage, barred_early, barred_late, bus_barred, bus_for, id_barred, notice_barred, objects_in, place_barred, realize_barred, plug, plug_as, plug_attempt, plug_by, plug_late, room_barred, resources_of, type_barred, with_plugged, TypeInfo, is_a, type_named}
use Rattle.std.proofs.lemmas.Bool.Decides.{nat_tests}
use Rattle.qo_model.specs.Plug.{first_of}
use Rattle.qo_sound.specs.PlugOutcomes.{IsAttempted}
use Rattle.qo_sound.proofs.AddLemmas.{unbarred}
use Rattle.qo_sound.proofs.PlugLemmas.{or-none, stage-none}
use Rattle.qo_steps.specs.Steps.{HasNoticeRoom, HasRoom}

-- `object-add`
object-room : (b : Board) (row : TypeInfo) (id : List ℕ) → barred b row id ≡ None → HasRoom b
object-room b row id e =
    let after_place : Option Code = if leb LIVE_OBJECTS_MAX (length b.records) then Some E43 else None in
    let after_name : Option Code = if has_slot b OBJECTS_BIRTH id then Some E24 else after_place in
    let after_there : Option Code = if not (is_live b OBJECTS_BIRTH) then Some E15 else after_name in
    let after_id : Option Code = if not (is_id id) then Some E23 else after_there in
    let after_type : Option Code = if not (is_a row.id (codes "user-creatable")) then Some E22 else after_id in
    let one = unbarred row.is_abstract E21 after_type e in
    let two = unbarred (not (is_a row.id (codes "user-creatable"))) E22 after_id one.1 in
    let three = unbarred (not (is_id id)) E23 after_there two.1 in
    let four = unbarred (not (is_live b OBJECTS_BIRTH)) E15 after_name three.1 in
    let five = unbarred (has_slot b OBJECTS_BIRTH id) E24 after_place four.1 in
    let few : leb LIVE_OBJECTS_MAX (length b.records) ≡ false = (unbarred (leb LIVE_OBJECTS_MAX (length b.records)) E43 None five.1).0 in
    grind (arith, nat_tests, few)

pub object-comes : (P : Board → Type 0) (b : Board) (driver id : List ℕ) (props : List Given) → P b
    → ((row : TypeInfo) → type_named driver ≡ Some row → HasRoom b → (o : Option Code) → refusal_of b row.id props ≡ o → P (added_as b row.id id props o).board)
    → P (object_add b driver id props).board
object-comes P b driver id props none comes = go (type_named driver) refl
  where
    by : (row : TypeInfo) → type_named driver ≡ Some row → (o : Option Code) → barred b row id ≡ o → P (added_by b row id props o).board
    by row named (Some code) e = none
    by row named None e = comes row named (object-room b row id e) (refusal_of b row.id props) refl

    go : (row : Option TypeInfo) → type_named driver ≡ row → P (object_add b driver id props).board
    go None p = rw (object_add, p) none
    go (Some row) p = rw (object_add, p) (by row p (barred b row id) refl)

-- a device: nothing bars it early, so that there is room for its objects
device-room : (b : Board) (t : TypeId) (a : Wanted) → barred_early b t a ≡ None → length b.records + objects_in t ≤ LIVE_OBJECTS_MAX
device-room b t a e =
    let room : Option (ℕ × Code) = first_of (at_stage 4 (room_barred b t) ∷ []) in
    let bus : Option (ℕ × Code) = at_stage 3 (bus_barred b t (bus_for b t a.bus)) in
    let one = or-none (at_stage 2 (id_barred b a.id)) (option_or bus room) e in
    let two = or-none bus room one.1 in
    let three = or-none (at_stage 4 (room_barred b t)) (first_of []) two.1 in
    fits (nat_le (length b.records + objects_in t) LIVE_OBJECTS_MAX) refl (stage-none 4 (room_barred b t) three.0)
  where
    fits : (u : Bool) → nat_le (length b.records + objects_in t) LIVE_OBJECTS_MAX ≡ u → room_barred b t ≡ None
        → length b.records + objects_in t ≤ LIVE_OBJECTS_MAX
    fits true p none = grind (arith, nat_tests, p)
    fits false p none = absurd (let clash : Some E43 ≡ None = rw (room_barred, p) at none in cc)

-- nothing bars the notice of it
pub notice-room : (b : Board) → notice_barred b ≡ None → HasNoticeRoom b
notice-room b e = fits (nat_le NOTICES_MAX (length b.notices)) refl
  where
    fits : (u : Bool) → nat_le NOTICES_MAX (length b.notices) ≡ u → HasNoticeRoom b
    fits true p = absurd (let clash : Some E44 ≡ None = rw (notice_barred, p) at e in cc)
    fits false p = grind (arith, nat_tests, p)

device-notice : (b : Board) (t : TypeId) (bus : ℕ) (props : List Given) → barred_late b t bus props ≡ None → HasNoticeRoom b
device-notice b t bus props e =
    let last : Option (ℕ × Code) = first_of (at_stage 8 (notice_barred b) ∷ []) in
    let third : Option (ℕ × Code) = at_stage 6 (realize_barred b t props) in
    let second : Option (ℕ × Code) = at_stage 5 (place_barred b t bus props) in
    let one = or-none (at_stage 4 (refusal_of b t props)) (option_or second (option_or third last)) e in
    let two = or-none second (option_or third last) one.1 in
    let three = or-none third last two.1 in
    let four = or-none (at_stage 8 (notice_barred b)) (first_of []) three.1 in
    notice-room b (stage-none 8 (notice_barred b) four.0)

-- nothing; an attempt that something bars late; or a device more
pub record PlugComes (P : Board → Type 0) (b : Board) (a : Wanted) : Type 0 where
  pub same : P b
  pub given_up : (row : TypeInfo) (bus : ℕ) (refusal : ℕ × Code) → IsAttempted b a row bus → barred_late b row.id bus a.props ≡ Some refusal
      → P (plug_attempt b row.id bus refusal.0)
  pub added : (row : TypeInfo) (bus : ℕ) → IsAttempted b a row bus → barred_late b row.id bus a.props ≡ None
      → length b.records + objects_in row.id ≤ LIVE_OBJECTS_MAX → HasNoticeRoom b → P (with_plugged b row.id a (resources_of b row.id bus a.props))

module _ (P : Board → Type 0) (b : Board) (a : Wanted) (k : PlugComes P b a) where
  by-late : (row : TypeInfo) (bus : ℕ) → IsAttempted b a row bus → (o : Option (ℕ × Code)) → barred_late b row.id bus a.props ≡ o
      → P (plug_late b row.id bus a o).board
  by-late row bus tried (Some refusal) e = k.given_up row bus refusal tried e
  by-late row bus tried None e = k.added row bus tried e (device-room b row.id a tried.early) (device-notice b row.id bus a.props e)

  by-early : (row : TypeInfo) → type_barred a.driver ≡ None → type_named a.driver ≡ Some row → (o : Option (ℕ × Code)) → barred_early b row.id a ≡ o
      → P (plug_as b row.id a o).board
  by-early row fits named (Some refusal) e = k.same
  by-early row fits named None e = go (bus_for b row.id a.bus) refl
    where
      go : (m : Option ℕ) → bus_for b row.id a.bus ≡ m → P (plug_as b row.id a None).board
      go None p = rw (plug_as, p) k.same
      go (Some bus) p =
          rw (plug_as, p)
          (by-late row bus (record { fits = fits; named = named; early = e; chosen = p }) (barred_late b row.id bus a.props) refl)

  by-type : (o : Option Code) → type_barred a.driver ≡ o → P (plug_by b a o).board
  by-type (Some code) e = k.same
  by-type None e = go (type_named a.driver) refl
    where
      go : (row : Option TypeInfo) → type_named a.driver ≡ row → P (plug_by b a None).board
      go None p = rw (plug_by, p) k.same
      go (Some row) p = rw (plug_by, p) (by-early row e p (barred_early b row.id a) refl)

  pub plug-comes : P (plug b a).board
  unfolding plug
  plug-comes = by-type (type_barred a.driver) refl
