-- What bodies keep is what is due to them by the board, after each step of it.
use Rattle.std.proofs.Common.{◌≡◌, refl, ap, ap₂, sym, subst, ◌∙◌, ℕ, ◌+◌, ◌==◌, Bool, true, false, List, [], ◌∷◌, codes, Option, Some, None, option_map, option_and_then, inl, inr, rules}
use Rattle.std.specs.Prelude.{◌⊎◌, if◌then◌else◌, slice_get}
use Rattle.std.specs.Option.{option_map_or}
use Rattle.std.specs.List.{AllByRecursion}
use Rattle.std.proofs.lemmas.Bool.{eqb-true}
use Rattle.std.proofs.lemmas.Option.{same_Some}
use Rattle.qo_values.specs.declared.codes.Code.{Code}
use Rattle.qo_values.specs.declared.codes.Code.TheVariants.{E20, E25}
use Rattle.qo_values.specs.declared.kinds.TypeId.{TypeId}
use Rattle.qo_values.specs.declared.kinds.TypeId.TheVariants.{SlotUart, MemDimm, MemoryBackend}
use Rattle.qo_values.specs.declared.ranges.Range.{Range}
use Rattle.qo_values.proofs.EachLemmas.{each}
use Rattle.qo_claims.specs.Lists.{bus_slot}
use Rattle.qo_claims.specs.declared.claims.Claimed.{Claimed}
use Rattle.qo_claims.specs.declared.claims.Claimed.TheVariants as on
use Rattle.qo_kinds.specs.Bodies.{kept_of, none_kept}
use Rattle.qo_kinds.specs.declared.kept_set.KeptSet.{KeptSet}
use Rattle.qo_model.specs.Board.{Board, Record, kind_of, record_of}
use Rattle.qo_model.specs.Devices.{is_realized, is_true, plain_in, text_at}
use Rattle.qo_model.specs.Objects.{Given}
use Rattle.qo_model.specs.Opening.{opening_board}
use Rattle.qo_model.specs.Paths.{is_of}
use Rattle.qo_model.specs.Plug.{Wanted, at_stage, backend_of, barred_early, bus_barred, bus_for, first_of, id_barred, plug, plug_as, plug_by, range_in, range_of, resources_of, room_barred, target_for}
use Rattle.qo_model.specs.Plug.{text_for, type_barred}
use Rattle.qo_model.proofs.FirstSlotLemmas.{named_in, slots_in}
use Rattle.qo_sound.proofs.SearchLemmas.{all-found}
use Rattle.qo_model.specs.Types.{TypeInfo, is_a, type_named, types}
use Rattle.qo_object.specs.BoardObject.{shown}
use Rattle.qo_object.specs.Content.{Content}
use Rattle.qo_heap.specs.Board.{Shows}
use Rattle.qo_heap.specs.Objects.{Objects, content_of}
use Rattle.qo_heap.proofs.BoardReads.{shows-record}
use Rattle.qo_buses.specs.Rings.{named_ring}
use Rattle.qo_properties.proofs.KeptLemmas.{none-claims}
use Rattle.qo_properties.specs.KeptClaims.{ClaimsBefore, ClaimsOrNew, NoneKept, kept_by}
use Rattle.qo_plug.specs.Answers.{KeepsGiven}
use Rattle.qo_plug.specs.KeptClaims.{ClaimsOrNewBut}
use Rattle.qo_plug.specs.declared.adding.Added.{Added}
use Rattle.qo_plug.specs.Resources.{backend_given, claims_given, ring_given}
use Rattle.qo_sound_claims.specs.ClaimsStay.{ClaimsAdded, ClaimsAlike, ClaimsGiven, ClaimsKeep, ClaimsStay, ranges_at}
use Rattle.qo_unplug.specs.RealizedClaims.{KeepsDue, due_if}
use Rattle.qo_realize.specs.BoardClaims.{backend_due, claims_due, own_range, range_due, ring_due, slot_due}

-- what is due to an object by what the board reads of it

abbrev slot_on : Option ℕ → Option ℕ → Option Claimed
slot_on bus slot = option_and_then (λ n. option_map (λ k. on.Slot (bus_slot n k)) slot) bus

abbrev ring_on : Option TypeId → Option (List ℕ) → Option Claimed
ring_on kind text = if option_map_or (λ (t : TypeId). is_a t (codes "slot-uart")) kind false then option_map on.Ring (option_and_then named_ring text) else None

abbrev backend_on : Option TypeId → Option ℕ → Option Claimed
backend_on kind backend = if option_map_or (λ (t : TypeId). is_a t (codes "mem-dimm")) kind false then option_map on.Backend backend else None

abbrev range_on : Option TypeId → Option (List Range) → Option Claimed
range_on kind ranges =
    if option_map_or (λ (t : TypeId). is_a t (codes "mem-dimm")) kind false then option_map on.Range (option_and_then (λ (rs : List Range). slice_get rs 0) ranges)
    else None

own-ranges : (b : Board) (n : ℕ) → own_range b n ≡ option_and_then (λ (rs : List Range). slice_get rs 0) (ranges_at b n)
own-ranges b n = go (record_of b n)
  where
    go : (o : Option Record) → option_and_then (λ (r : Record). slice_get (range_in r.registers) 0) o
        ≡ option_and_then (λ (rs : List Range). slice_get rs 0) (option_map (λ (r : Record). range_in r.registers) o)
    go None = refl
    go (Some r) = refl

range-on : (b : Board) (n : ℕ) → range_due b n ≡ range_on (kind_of b n) (ranges_at b n)
range-on b n = ap (λ (o : Option Range). if is_of b (codes "mem-dimm") n then option_map on.Range o else None) (own-ranges b n)

-- who claims the same by what the board reads is due the same
pub alike-due : (b c : Board) (n : ℕ) → ClaimsAlike b c n → claims_due c n ≡ claims_due b n
alike-due b c n h =
    let slot : slot_due c n ≡ slot_due b n = ap₂ slot_on h.bus h.slot in
    let ring : ring_due c n ≡ ring_due b n = ap₂ ring_on h.kind h.ring in
    let backend : backend_due c n ≡ backend_due b n = by (is_of b (codes "mem-dimm") n) refl in
    let range : range_due c n ≡ range_due b n = range-on c n ∙ ap₂ range_on h.kind h.range ∙ sym (range-on b n) in
    λ j. record { slot = slot j; ring = ring j; backend = backend j; range = range j }
  where
    kind : is_of c (codes "mem-dimm") n ≡ is_of b (codes "mem-dimm") n
    kind = ap (λ (k : Option TypeId). option_map_or (λ (t : TypeId). is_a t (codes "mem-dimm")) k false) h.kind

    by : (t : Bool) → is_of b (codes "mem-dimm") n ≡ t → backend_due c n ≡ backend_due b n
    by true p = ap₂ (λ (u : Bool) (o : Option ℕ). if u then option_map on.Backend o else None) kind (h.backend p)
    by false p =
        ap (λ (u : Bool). if u then option_map on.Backend (backend_of c n) else None) (kind ∙ p)
        ∙ sym (ap (λ (u : Bool). if u then option_map on.Backend (backend_of b n) else None) p)

-- what is due to a device that was given its claims

abbrev RingGiven : List Given → Option (List ℕ) → TypeId → Type 0
RingGiven props text t = (t ≡ SlotUart → text ≡ Some (text_for props (codes "chardev"))) → ring_on (Some t) text ≡ option_map on.Ring (ring_given t props)

uart-given : (props : List Given) (text : Option (List ℕ)) → RingGiven props text SlotUart
unfolding types
uart-given props text has = ap (λ (o : Option (List ℕ)). option_map on.Ring (option_and_then named_ring o)) (has refl)

ring-given : (t : TypeId) (props : List Given) (text : Option (List ℕ)) → (t ≡ SlotUart → text ≡ Some (text_for props (codes "chardev")))
    → ring_on (Some t) text ≡ option_map on.Ring (ring_given t props)
unfolding types
ring-given t props text has = each (RingGiven props text) (search (rules, uart-given)) t has

abbrev MemoryGiven : Board → List Given → Option ℕ → Option (List Range) → TypeId → Type 0
MemoryGiven b props backend ranges t =
    (t ≡ MemDimm → backend ≡ target_for b MemoryBackend props (codes "memdev"))
    → (t ≡ MemDimm → ranges ≡ option_map (λ (g : Range). g ∷ []) (range_of b t props))
    → (backend_on (Some t) backend ≡ option_map on.Backend (backend_given b t props)) × (range_on (Some t) ranges ≡ option_map on.Range (range_of b t props))

dimm-given : (b : Board) (props : List Given) (backend : Option ℕ) (ranges : Option (List Range)) → MemoryGiven b props backend ranges MemDimm
unfolding types
dimm-given b props backend ranges has at = (
  ap (option_map on.Backend) (has refl),
  ap (λ (o : Option (List Range)). option_map on.Range (option_and_then (λ (rs : List Range). slice_get rs 0) o)) (at refl) ∙ first (range_of b MemDimm props),
)
  where
    first : (o : Option Range)
        → option_map on.Range (option_and_then (λ (rs : List Range). slice_get rs 0) (option_map (λ (g : Range). g ∷ []) o)) ≡ option_map on.Range o
    first None = refl
    first (Some g) = refl

memory-given : (b : Board) (t : TypeId) (props : List Given) (backend : Option ℕ) (ranges : Option (List Range)) → MemoryGiven b props backend ranges t
unfolding types
memory-given b t props backend ranges = each (MemoryGiven b props backend ranges) (search (rules, dimm-given)) t

pub given-due : (b : Board) (t : TypeId) (bus : ℕ) (props : List Given) (c : Board) (n : ℕ) → ClaimsGiven b t bus props c n
    → claims_due c n ≡ claims_given b t bus props
given-due b t bus props c n h =
    let memory = memory-given b t props (backend_of c n) (ranges_at c n) h.backend h.range in
    let slot : slot_due c n ≡ Some (on.Slot (bus_slot bus (resources_of b t bus props).slot)) = ap₂ slot_on h.on h.slot in
    let ring : ring_due c n ≡ option_map on.Ring (ring_given t props) =
    ap (λ (k : Option TypeId). ring_on k (text_at c n (codes "chardev"))) h.kind ∙ ring-given t props (text_at c n (codes "chardev")) h.ring in
    let backend : backend_due c n ≡ option_map on.Backend (backend_given b t props) =
    ap (λ (k : Option TypeId). backend_on k (backend_of c n)) h.kind ∙ memory.0 in
    let range : range_due c n ≡ option_map on.Range (range_of b t props) =
    range-on c n ∙ ap (λ (k : Option TypeId). range_on k (ranges_at c n)) h.kind ∙ memory.1 in
    λ j. record { slot = slot j; ring = ring j; backend = backend j; range = range j }

-- what is due after a step of the board

-- the same heap, or one whose bodies were judged by what was due before
pub stay-due : (b c : Board) (w : Objects) → ClaimsStay b c → KeepsDue (claims_due b) c w → KeepsDue (claims_due c) c w
stay-due b c w stay h n k now = go (is_realized c n) refl (h n k now)
  where
    go : (t : Bool) → is_realized c n ≡ t → k ≡ due_if (claims_due b) (is_realized c n) n → k ≡ due_if (claims_due c) (is_realized c n) n
    go true p is =
        is ∙ ap (λ (u : Bool). due_if (claims_due b) u n) p ∙ sym (alike-due b c n (stay n p)) ∙ sym (ap (λ (u : Bool). due_if (claims_due c) u n) p)
    go false p is = is ∙ ap (λ (u : Bool). due_if (claims_due b) u n) p ∙ sym (ap (λ (u : Bool). due_if (claims_due c) u n) p)

-- a device that is taken has a type and goes on a bus

pub record IsTaken (b : Board) (a : Wanted) : Type 0 where
  pub kind : TypeId
  pub bus : ℕ
  pub named : option_map (λ (row : TypeInfo). row.id) (type_named a.driver) ≡ Some kind
  pub goes : bus_for b kind a.bus ≡ Some bus

abbrev barred_at : ℕ → Code → Option (ℕ × Code)
barred_at stage code = Some (stage, code)

pub is-taken : (b : Board) (a : Wanted) → (plug b a).refusal ≡ None → IsTaken b a
unfolding plug
is-taken b a none = by-type (type_barred a.driver) refl none
  where
    by-stage : (row : TypeInfo) → type_named a.driver ≡ Some row → (o : Option (ℕ × Code)) → barred_early b row.id a ≡ o
        → (plug_as b row.id a o).refusal ≡ None → IsTaken b a
    by-stage row named (Some refusal) e free = absurd (let clash : Some refusal ≡ None = free in cc)
    by-stage row named None e free = go (bus_for b row.id a.bus) refl
      where
        go : (o : Option ℕ) → bus_for b row.id a.bus ≡ o → IsTaken b a
        go None p = absurd (early (id_barred b a.id) (ap (λ (m : Option ℕ). first_of (at_stage 2 (id_barred b a.id) ∷ at_stage 3 (bus_barred b row.id m)
            ∷ at_stage 4 (room_barred b row.id) ∷ [])) (sym p) ∙ e))
          where
            early : (o : Option Code) → first_of (at_stage 2 o ∷ Some (3, E25) ∷ at_stage 4 (room_barred b row.id) ∷ []) ≡ None → ⊥
            early None q = let clash : barred_at 3 E25 ≡ None = q in cc
            early (Some code) q = let clash : barred_at 2 code ≡ None = q in cc
        go (Some bus) p = record { kind = row.id; bus = bus; named = ap (option_map (λ (r : TypeInfo). r.id)) named; goes = p }

    by-type : (o : Option Code) → type_barred a.driver ≡ o → (plug_by b a o).refusal ≡ None → IsTaken b a
    by-type (Some code) e free = absurd (let clash : barred_at 1 code ≡ None = free in cc)
    by-type None e free = go (type_named a.driver) refl
      where
        go : (o : Option TypeInfo) → type_named a.driver ≡ o → IsTaken b a
        go None p = absurd (let clash : Some E20 ≡ None = rw (type_barred, p) at e in cc)
        go (Some row) p = by-stage row p (barred_early b row.id a) refl (rw (plug_by, p) at free)

-- whether a record is of an object that is realized
abbrev lit : Option Record → Bool
lit o = option_map_or is_true (option_and_then plain_in (named_in (codes "realized") (slots_in o))) false

module _ (b c : Board) (v : Objects) (s : Shows b v) (h : KeepsDue (claims_due b) b v) where
  unborn-dark : (n : ℕ) → kept_by v n ≡ None → is_realized b n ≡ false
  unborn-dark n none = ap lit (shows-record b v s n ∙ go (content_of v n) none)
    where
      go : (o : Option Content) → option_map (λ (d : Content). kept_of d.body) o ≡ None → option_map (shown n) o ≡ None
      go None e = refl
      go (Some d) e = absurd (let clash : Some (kept_of d.body) ≡ None = e in cc)

  -- an object that kept the same before, or is new and keeps none
  pub one-due : (n : ℕ) (k : KeptSet) → is_realized c n ≡ is_realized b n → (is_realized c n ≡ true → ClaimsAlike b c n)
      → (kept_by v n ≡ Some k) ⊎ ((kept_by v n ≡ None) × (k ≡ none_kept)) → k ≡ due_if (claims_due c) (is_realized c n) n
  one-due n k same stay (inr new) = new.1 ∙ sym (ap (λ (t : Bool). due_if (claims_due c) t n) (same ∙ unborn-dark n new.0))
  one-due n k same stay (inl was) = go (is_realized c n) refl
    where
      before : k ≡ due_if (claims_due b) (is_realized c n) n
      before = h n k was ∙ ap (λ (t : Bool). due_if (claims_due b) t n) (sym same)

      go : (t : Bool) → is_realized c n ≡ t → k ≡ due_if (claims_due c) (is_realized c n) n
      go true p =
          before ∙ ap (λ (u : Bool). due_if (claims_due b) u n) p ∙ sym (alike-due b c n (stay p)) ∙ sym (ap (λ (u : Bool). due_if (claims_due c) u n) p)
      go false p = before ∙ ap (λ (u : Bool). due_if (claims_due b) u n) p ∙ sym (ap (λ (u : Bool). due_if (claims_due c) u n) p)

  pub new-due : (w : Objects) → ClaimsKeep b c → ClaimsOrNew v w → KeepsDue (claims_due c) c w
  new-due w keep kept n k now = one-due n k (keep.same n) (keep.stay n) (kept n k now)

  pub before-due : (w : Objects) → ClaimsKeep b c → ClaimsBefore v w → KeepsDue (claims_due c) c w
  before-due w keep kept n k now = one-due n k (keep.same n) (keep.stay n) (inl (kept n k now))

  -- a device was added, whose body keeps what it was given
  pub added-due : (a : Wanted) (x : Added) (w : Objects) → ClaimsAdded b a c → x.birth ≡ b.born + 1 → IsTaken b a → KeepsGiven b a x w
      → ClaimsOrNewBut x.birth v w → KeepsDue (claims_due c) c w
  added-due a x w added birth taken given kept n k now = go (n == x.birth) refl
    where
      go : (u : Bool) → (n == x.birth) ≡ u → k ≡ due_if (claims_due c) (is_realized c n) n
      go false p =
          let other : (n == (b.born + 1)) ≡ false = subst (λ (m : ℕ). (n == m) ≡ false) birth p in
          one-due n k (added.same n other) (added.stay n other) (kept n k p now)
      go true p =
          let own : n ≡ x.birth = eqb-true n x.birth p in
          let its : ClaimsGiven b taken.kind taken.bus a.props c n =
          subst (λ (m : ℕ). ClaimsGiven b taken.kind taken.bus a.props c m) (sym (own ∙ birth)) (added.given taken.kind taken.bus taken.named taken.goes) in
          let keeps : kept_by w n ≡ Some (claims_given b taken.kind taken.bus a.props) = ap (kept_by w) own ∙ given taken.kind taken.bus taken.named taken.goes in
          let is : k ≡ claims_given b taken.kind taken.bus a.props = same_Some k (claims_given b taken.kind taken.bus a.props) (sym now ∙ keeps) in
          is ∙ sym (given-due b taken.kind taken.bus a.props c n its) ∙ sym (ap (λ (u : Bool). due_if (claims_due c) u n) its.realized)

-- the beginning: no object is realized

opening-dark : AllByRecursion (λ (r : Record). lit (Some r) ≡ false) opening_board.records
unfolding opening_board types
opening-dark = (refl, (refl, (refl, (refl, (refl, (refl, (refl, (refl, tt))))))))

pub opening-due : (w : Objects) → NoneKept w → KeepsDue (claims_due opening_board) opening_board w
opening-due w none n k now = none-claims w none n k now ∙ sym (ap (λ (t : Bool). due_if (claims_due opening_board) t n) (go (record_of opening_board n) refl))
  where
    go : (o : Option Record) → record_of opening_board n ≡ o → is_realized opening_board n ≡ false
    go None p = ap lit p
    go (Some r) p = ap lit p ∙ all-found (λ (x : Record). lit (Some x) ≡ false) n opening_board.records opening-dark r p
