-- What bars a device before an attempt, stage by stage.
use Rattle.std.proofs.Common.{◌≡◌, refl, ap, ap₂, sym, ◌∙◌, ℕ, ◌≤◌, Bool, true, false, not, List, [], ◌∷◌, Option, Some, None, option_map, Err, arith}
use Rattle.std.specs.Prelude.{if◌then◌else◌}
use Rattle.std.specs.Option.{option_or}
use Rattle.std.proofs.lemmas.Option.{same_Some}
use Rattle.qo_values.specs.Ids.{is_id}
use Rattle.qo_values.specs.declared.codes.Code.{Code}
use Rattle.qo_values.specs.declared.codes.Code.TheVariants.{E23, E24}
use Rattle.qo_values.specs.declared.kinds.TypeId.{TypeId}
use Rattle.qo_model.specs.Board.{Board}
use Rattle.qo_model.specs.Devices.{device_named}
use Rattle.qo_model.specs.Plug.{Plugged, Wanted, at_stage, barred_early, barred_late, bus_barred, bus_for, bus_type, container_barred, first_of, id_barred, id_refused, name_for, parent_for, plug, plug_as, plug_by, plug_late, type_barred, plug_on, room_barred, type_barred}
use Rattle.qo_model.specs.Types.{TypeInfo, type_named}
use Rattle.qo_plug.specs.declared.refusals.AddRefusal.{AddRefusal}
use Rattle.qo_plug.specs.declared.refusals.AddRefusal.TheVariants.{Refused, Memory}
use Rattle.qo_model.specs.Paths.{is_of}
use Rattle.qo_plug.specs.declared.targets.Target.{Target}
use Rattle.qo_plug.specs.Admission.{IfRefused, IsAdmitted}
use Rattle.qo_plug.proofs.BarLemmas.{bus-of}

-- the first of two
or-first : {X : Type 0} (o p : Option X) (x : X) → o ≡ Some x → option_or o p ≡ Some x
or-first o p x e = ap (λ q. option_or q p) e

or-second : {X : Type 0} (o p q : Option X) → o ≡ None → p ≡ q → option_or o p ≡ q
or-second o p q e f = ap₂ option_or e f

-- stage 2
module _ (b : Board) (id : List ℕ) where
  abbrev refused_as : Bool → Bool → Option Code
  refused_as is taken = if not is then Some E23 else if taken then Some E24 else None

  pub id-malformed : is_id id ≡ false → id_refused b (Some id) ≡ Some E23
  id-malformed fails = ap (λ (is : Bool). refused_as is (device_named b id)) fails

  pub id-taken : is_id id ≡ true → device_named b id ≡ true → id_refused b (Some id) ≡ Some E24
  id-taken holds taken = ap₂ refused_as holds taken

  pub id-free : is_id id ≡ true → device_named b id ≡ false → id_refused b (Some id) ≡ None
  id-free holds free = ap₂ refused_as holds free

module _ (b : Board) (id : Option (List ℕ)) where
  pub place-id : (code : Code) → id_refused b id ≡ Some code → id_barred b id ≡ Some code
  place-id code e = or-first (id_refused b id) (container_barred b (parent_for id) (name_for b id)) code e

  pub place-container : (o : Option Code) → id_refused b id ≡ None → o ≡ container_barred b (parent_for id) (name_for b id) → id_barred b id ≡ o
  place-container o free e = or-second (id_refused b id) (container_barred b (parent_for id) (name_for b id)) o free (sym e)

-- all that bars before an attempt
module _ (b : Board) (t : TypeId) (a : Wanted) where
  abbrev early_as : Option Code → Option Code → Option Code → Option (ℕ × Code)
  early_as id bus room = first_of (at_stage 2 id ∷ at_stage 3 bus ∷ at_stage 4 room ∷ [])

  abbrev bus_code : Option Code
  bus_code = bus_barred b t (bus_for b t a.bus)

  pub early-id : (code : Code) → id_barred b a.id ≡ Some code → barred_early b t a ≡ Some (2, code)
  early-id code e = ap (λ (o : Option Code). early_as o bus_code (room_barred b t)) e

  pub early-bus : (code : Code) → id_barred b a.id ≡ None → Some code ≡ bus_code → barred_early b t a ≡ Some (3, code)
  early-bus code id e = ap₂ (λ (o p : Option Code). early_as o p (room_barred b t)) id (sym e)

  pub early-room : (o : Option Code) → id_barred b a.id ≡ None → None ≡ bus_code → o ≡ room_barred b t → barred_early b t a ≡ at_stage 4 o
  early-room o id bus e = ap₂ (λ (p q : Option Code). early_as p q (room_barred b t)) id (sym bus) ∙ ap (λ (p : Option Code). early_as None None p) (sym e)
      ∙ last o
    where
      last : (p : Option Code) → early_as None None p ≡ at_stage 4 p
      last None = refl
      last (Some code) = refl

-- the bus of an admitted device is of the kind where it goes
no-bus-bars : (id bus room : Option Code) → first_of (at_stage 2 id ∷ at_stage 3 bus ∷ at_stage 4 room ∷ []) ≡ None → bus ≡ None
no-bus-bars None None room none = refl
no-bus-bars None (Some code) room none = absurd (let clash : Some (3, code) ≡ None = none in cc)
no-bus-bars (Some code) bus room none = absurd (let clash : Some (2, code) ≡ None = none in cc)

pub admitted-bus : (b : Board) (a : Wanted) (s : Target) → IsAdmitted b a s → is_of b (bus_type s.kind) s.bus.birth ≡ true
admitted-bus b a s is =
    let none : bus_barred b s.kind (bus_for b s.kind a.bus) ≡ None =
    no-bus-bars (id_barred b a.id) (bus_barred b s.kind (bus_for b s.kind a.bus)) (room_barred b s.kind) is.early in
    bus-of b s.kind s.bus.birth (ap (bus_barred b s.kind) (sym is.bus) ∙ none)

-- what adding comes to
module _ (b : Board) (a : Wanted) where
  pub added-first : (code : Code) → Some code ≡ type_barred a.driver → plug b a ≡ record { refusal = Some (1, code); board = b }
  unfolding plug
  added-first code e = ap (plug_by b a) (sym e)

  module _ (t : TypeId) (is : option_map (λ (row : TypeInfo). row.id) (type_named a.driver) ≡ Some t) (open_is : type_barred a.driver ≡ None) where
    abbrev by_row : Option TypeInfo → Plugged
    by_row o = elim o [ None ↦ record { refusal = None; board = b } | Some row ↦ plug_as b row.id a (barred_early b row.id a) ]

    plug-is : plug b a ≡ plug_as b t a (barred_early b t a)
    unfolding plug
    plug-is =
        ap (plug_by b a) open_is ∙ go (type_named a.driver) refl
      where
        go : (o : Option TypeInfo) → type_named a.driver ≡ o → by_row (type_named a.driver) ≡ plug_as b t a (barred_early b t a)
        go None e = absurd (let clash : None ≡ Some t = sym (ap (option_map (λ (row : TypeInfo). row.id)) e) ∙ is in cc)
        go (Some row) e =
            let same : row.id ≡ t = same_Some row.id t (sym (ap (option_map (λ (r : TypeInfo). r.id)) e) ∙ is) in
            ap by_row e ∙ ap (λ (k : TypeId). plug_as b k a (barred_early b k a)) same

    pub added-early : (refusal : ℕ × Code) → barred_early b t a ≡ Some refusal → plug b a ≡ record { refusal = Some refusal; board = b }
    added-early refusal e = plug-is ∙ ap (plug_as b t a) e

    pub added-late : (bus : ℕ) → barred_early b t a ≡ None → bus_for b t a.bus ≡ Some bus → plug b a ≡ plug_late b t bus a (barred_late b t bus a.props)
    added-late bus e goes =
        plug-is ∙ ap (plug_as b t a) e
        ∙ ap (λ (o : Option ℕ). elim o as (λ _. Plugged) [ None ↦ record { refusal = None; board = b } | Some m ↦ plug_on b t m a ]) goes

    -- what a refusal of its place tells
    pub place-refused : (S T : Type 0) (r : AddRefusal) → IfRefused {T = S} (Err r) (λ stage code. (stage ≡ 2) × (id_barred b a.id ≡ Some code))
        → IfRefused {T = T} (Err r) (λ stage code. (1 ≤ stage) × (stage ≤ 4) × (plug b a ≡ record { refusal = Some (stage, code); board = b }))
    place-refused S T (Refused stage code) h =
        (omega (arith, h.0), omega (arith, h.0), added-early (stage, code) (early-id b t a code h.1 ∙ ap (λ (k : ℕ). Some (k, code)) (sym h.0)))
    place-refused S T Memory h = tt
