-- What bars a device from its properties on, stage by stage.
use Rattle.std.proofs.Common.{◌≡◌, refl, ap, ap₂, sym, subst, ◌∙◌, ℕ, zero, suc, ◌+◌, ◌<◌, ◌==◌, arith, Bool, true, false, not, List, [], ◌∷◌, codes, nat_le, length, Option, Some, None, option_map, Result, Ok, Err}
use Rattle.std.specs.Prelude.{if◌then◌else◌}
use Rattle.std.specs.List.{list_any}
use Rattle.std.specs.Option.{option_or}
use Rattle.std.proofs.lemmas.Bool.{not-true}
use Rattle.std.proofs.lemmas.Option.{same_Some}
use Rattle.qo_values.proofs.PlacingLemmas.{least-passes}
use Rattle.qo_values.specs.Placing.{least}
use Rattle.qo_values.specs.declared.codes.Code.{Code}
use Rattle.qo_values.specs.declared.codes.Code.TheVariants.{E30, E36, E37, E44}
use Rattle.qo_values.specs.declared.kinds.TypeId.{TypeId}
use Rattle.qo_values.specs.declared.limits.TheConstants.{BUS_SLOTS, NOTICES_MAX}
use Rattle.qo_values.specs.declared.ranges.Range.{Range}
use Rattle.qo_claims.specs.Book.{ClaimsTaken, is_taken}
use Rattle.qo_claims.specs.Lists.{bus_slot, has_bus_slot, least_free}
use Rattle.qo_claims.specs.declared.claims.Claimed.TheVariants as on
use Rattle.qo_model.specs.Board.{Board}
use Rattle.qo_model.specs.Objects.{Given, refusal_of}
use Rattle.qo_model.specs.Paths.{is_of}
use Rattle.qo_model.specs.Plug.{at_stage, barred_late, bus_type, claims_ring, code_in, first_of, has_ring, is_free, kind_barred, notice_barred, number_for, ok_or_zero, place_barred, range_of}
use Rattle.qo_model.specs.Plug.{realize_barred, ring_barred, bus_slot_for, resources_of}
use Rattle.qo_buses.specs.Recount.{IsRecounted}
use Rattle.qo_buses.proofs.PlacingLemmas.{least-same}
use Rattle.qo_plug.specs.declared.refusals.AddRefusal.{AddRefusal}
use Rattle.qo_plug.specs.declared.refusals.AddRefusal.TheVariants.{Refused, Memory as NoMemory}
use Rattle.qo_plug.specs.declared.resources.Memory.{Memory}
use Rattle.qo_plug.specs.Admission.{IfRefused}
use Rattle.qo_plug.specs.Stages.{resources_barred}
use Rattle.qo_plug.specs.Placement.{resources_in}

-- what a refusal tells, another call's refusal tells too
pub refused-map : (T U : Type 0) (P Q : ℕ → Code → Type 0) (r : AddRefusal) → ((stage : ℕ) (code : Code) → P stage code → Q stage code)
    → IfRefused {T = T} (Err r) P → IfRefused {T = U} (Err r) Q
refused-map T U P Q (Refused stage code) f h = f stage code h
refused-map T U P Q NoMemory f h = tt

pub refused-told : (T : Type 0) (P : ℕ → Code → Type 0) (r : AddRefusal) (stage : ℕ) (code : Code) → r ≡ Refused stage code → IfRefused {T = T} (Err r) P
    → P stage code
refused-told T P r stage code is h = subst (λ (x : AddRefusal). IfRefused {T = T} (Err x) P) is h

-- of a ring that is named it is asked whether it is there, and whether a UART has it
abbrev pub ring_as : Bool → Bool → Option Code
ring_as has claimed = if not has then Some E36 else if claimed then Some E37 else None

pub ring-named : (b : Board) (name : List ℕ) → (length name == 0) ≡ false
    → ring_barred b name ≡ ring_as (has_ring b name) (list_any (claims_ring b name) b.records)
ring-named b [] filled = absurd (let clash : true ≡ false = filled in cc)
ring-named b (c ∷ cs) filled = refl

-- what bars it where the notices are full, or not
abbrev pub notice_as : Bool → Option Code
notice_as full = if full then Some E44 else None

-- the least slot of a bus that is free in the book is one of it, and is free
least-below : (test : ℕ → Bool) (first more at : ℕ) → least test first more ≡ Some at → at < first + more
unfolding least
least-below test first zero at found = cc
least-below test first (suc more) at found = go (test first) refl (least-below test (first + 1) more at)
  where
    go : (u : Bool) → test first ≡ u → (least test (first + 1) more ≡ Some at → at < first + 1 + more) → at < first + suc more
    go true is later = let same : first ≡ at = same_Some first at (rw is at found) in omega (arith, same)
    go false is later = let up : at < first + 1 + more = later (rw is at found) in omega (arith, up)

pub least-within : (bus slot : ℕ) (h : ClaimsTaken) → Some slot ≡ least_free bus h.slots → slot < BUS_SLOTS
least-within bus slot h e = least-below (λ at. not (has_bus_slot (bus_slot bus at) h.slots)) 0 BUS_SLOTS slot (sym e)

pub least-free : (bus slot : ℕ) (h : ClaimsTaken) → Some slot ≡ least_free bus h.slots → is_taken (on.Slot (bus_slot bus slot)) h ≡ false
least-free bus slot h e =
    not-true (has_bus_slot (bus_slot bus slot) h.slots) (least-passes (λ at. not (has_bus_slot (bus_slot bus at) h.slots)) 0 BUS_SLOTS slot (sym e))

module _ (b : Board) (bus : ℕ) where
  -- what the book tells of the slots of a bus
  module _ (h : ClaimsTaken) (t : TypeId) (recounted : IsRecounted b h) (is : is_of b (bus_type t) bus ≡ true) where
    slot-told : (slot : ℕ) → slot < BUS_SLOTS → not (is_taken (on.Slot (bus_slot bus slot)) h) ≡ is_free b bus slot
    slot-told slot within = twice (is_free b bus slot) (is_taken (on.Slot (bus_slot bus slot)) h) (recounted.slots t bus slot is within)
      where
        twice : (x y : Bool) → y ≡ not x → not y ≡ x
        twice true y e = ap not e
        twice false y e = ap not e

    pub slot-least : (o : Option ℕ) → o ≡ least_free bus h.slots
        → bus_slot_for b bus None ≡ (elim o as (λ _. Result ℕ Code) [ None ↦ Err E30 | Some slot ↦ Ok slot ])
    slot-least o e =
        ap (λ (p : Option ℕ). elim p as (λ _. Result ℕ Code) [ None ↦ Err E30 | Some slot ↦ Ok slot ])
        (sym (e ∙ least-same (λ slot. not (has_bus_slot (bus_slot bus slot) h.slots)) (is_free b bus) 0 BUS_SLOTS
        (λ slot above within. slot-told slot (omega (arith, within)))))

  -- the resources of a device of a type
  module _ (t : TypeId) (props : List Given) where
    abbrev asked : Option ℕ
    asked = number_for props (codes "slot")

    abbrev resources_as : Option Code → Option Code → Option Code → Option (ℕ × Code)
    resources_as slot kind ring = option_or (at_stage 5 (option_or slot kind)) (at_stage 6 ring)

    slot-code : (r : Result ℕ Code) → bus_slot_for b bus asked ≡ r → code_in (bus_slot_for b bus asked) ≡ code_in r
    slot-code r e = ap (λ (q : Result ℕ Code). code_in q) e

    pub resources-kind : (slot : ℕ) (code : Code) → bus_slot_for b bus asked ≡ Ok slot → kind_barred b t bus props ≡ Some code
        → resources_barred b t bus props ≡ Some (5, code)
    resources-kind slot code e barred = ap₂ (λ (o p : Option Code). resources_as o p (realize_barred b t props)) (slot-code (Ok slot) e) barred

    pub resources-are : (slot : ℕ) (ring : Option (List ℕ)) (memory : Option Memory) → bus_slot_for b bus asked ≡ Ok slot
        → option_map (λ (m : Memory). m.range) memory ≡ range_of b t props
        → resources_of b t bus props ≡ resources_in bus (record { slot = slot; ring = ring; memory = memory })
    resources-are slot ring memory e range =
        ap₂ (λ (r : Result ℕ Code) (o : Option Range). record { bus = bus; slot = ok_or_zero r; range = o }) e (sym range)

  -- what a call on the kind or on the ring of a device tells of its resources
  module _ (t : TypeId) (props : List Given) (slot : ℕ) (has : bus_slot_for b bus (number_for props (codes "slot")) ≡ Ok slot) where
    pub kind-refused : (T U : Type 0) (r : AddRefusal) → IfRefused {T = T} (Err r) (λ stage code. (stage ≡ 5) × (kind_barred b t bus props ≡ Some code))
        → IfRefused {T = U} (Err r) (λ stage code. resources_barred b t bus props ≡ Some (stage, code))
    kind-refused T U (Refused stage code) h = resources-kind t props slot code has h.1 ∙ ap (λ (k : ℕ). Some (k, code)) (sym h.0)
    kind-refused T U NoMemory h = tt

  -- what bars a device from its properties on, in order
  module _ (t : TypeId) (props : List Given) where
    abbrev late_by : Option Code → Option Code → Option Code → Option Code → Option (ℕ × Code)
    late_by given place ring notices = first_of (at_stage 4 given ∷ at_stage 5 place ∷ at_stage 6 ring ∷ at_stage 8 notices ∷ [])

    pub late-given : (code : Code) → Some code ≡ refusal_of b t props → Some (4, code) ≡ barred_late b t bus props
    late-given code e = ap (λ (o : Option Code). late_by o (place_barred b t bus props) (realize_barred b t props) (notice_barred b)) e

    abbrev then_notices : Option (ℕ × Code) → Option (ℕ × Code)
    then_notices resources = option_or resources (option_or (at_stage 8 (notice_barred b)) None)

    after-given : (place ring : Option Code) → late_by None place ring (notice_barred b) ≡ then_notices (option_or (at_stage 5 place) (at_stage 6 ring))
    after-given (Some code) ring = refl
    after-given None (Some code) = refl
    after-given None None = refl

    late-after : None ≡ refusal_of b t props → barred_late b t bus props ≡ then_notices (resources_barred b t bus props)
    late-after given =
        ap (λ (o : Option Code). late_by o (place_barred b t bus props) (realize_barred b t props) (notice_barred b)) (sym given)
        ∙ after-given (place_barred b t bus props) (realize_barred b t props)

    pub late-resources : (r : ℕ × Code) → None ≡ refusal_of b t props → Some r ≡ resources_barred b t bus props → Some r ≡ barred_late b t bus props
    late-resources r given e = sym (late-after given ∙ ap then_notices (sym e))

    -- nothing but the notices is left
    pub late-notices : (full : Bool) → None ≡ refusal_of b t props → None ≡ resources_barred b t bus props
        → nat_le NOTICES_MAX (length b.notices) ≡ full → barred_late b t bus props ≡ at_stage 8 (notice_as full)
    late-notices full given resources e =
        late-after given ∙ ap then_notices (sym resources) ∙ ap (λ (u : Bool). option_or (at_stage 8 (notice_as u)) None) e ∙ alone (notice_as full)
      where
        alone : (o : Option Code) → option_or (at_stage 8 o) None ≡ at_stage 8 o
        alone None = refl
        alone (Some code) = refl
