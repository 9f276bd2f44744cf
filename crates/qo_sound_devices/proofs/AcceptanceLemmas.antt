-- A device that nothing refuses goes where places allow it.
use Rattle.std.proofs.Common.{rules, ◌≡◌, refl, ap, sym, ◌∙◌, ℕ, suc, ◌+◌, ◌<◌, ◌≤◌, Bool, true, false, not, ◌||◌, List, [], ◌∷◌, Option, Some, None, codes, arith}
use Rattle.qo_model.proofs.Common.{if◌then◌else◌, nat_le, option_or, is_id, Code, E23, E24, E26, E27, E42, TypeId, SlotBridge, BUS_DEPTH_MAX, Board, depth_of, device_named, is_going, Given, refusal_of, attached, is_of, Wanted, at_stage, bus_barred, bus_for, bus_type, code_in, container_barred, drafted, id_barred, id_refused, kind_barred, name_for, notice_barred, number_for, parent_for, place_barred, realize_barred, room_barred, bus_slot_for, resources_of}
use Rattle.std.proofs.lemmas.Bool.{not-false}
use Rattle.std.proofs.lemmas.Option.{same_Some}
use Rattle.qo_values.proofs.EachLemmas.{each}
use Rattle.qo_model.specs.Plug.{first_of}
use Rattle.qo_sound.proofs.AddLemmas.{unbarred}
use Rattle.qo_sound.proofs.PlugLemmas.{or-none, shut-above, stage-none}
use Rattle.qo_sound.proofs.ViewLemmas.{PinsRootAlone, sound-from_rest}
use Rattle.qo_sound_devices.specs.SoundPlaces.{HasOwner, id_of, owns, PlacesBut}
use Rattle.qo_sound_devices.proofs.AdditionLemmas.{Goal}
use Rattle.qo_sound_devices.proofs.DraftLemmas.{drafted-bridge, is_bridge}
use Rattle.qo_sound_devices.proofs.GoalLemmas.{fits-bus, slot-low}
use Rattle.qo_sound_devices.proofs.PlugLemmas.{Accepted, depth-is, id-new}
use Rattle.qo_sound_devices.proofs.LocationLemmas.{attached-owner, machine-no_device}

neither : (t u : Bool) → t || u ≡ false → t ≡ false
neither false u e = refl
neither true u e = absurd (let clash : true ≡ false = e in cc)

-- what each stage shows
pub record Passes (b : Board) (t : TypeId) (bus : ℕ) (a : Wanted) : Type 0 where
  pub id : id_refused b a.id ≡ None
  pub at_bus : bus_barred b t (Some bus) ≡ None
  pub properties : refusal_of b t a.props ≡ None
  pub slot : code_in (bus_slot_for b bus (number_for a.props (codes "slot"))) ≡ None
  pub kind : kind_barred b t bus a.props ≡ None
  pub notice : notice_barred b ≡ None

pub passes : (b : Board) (t : TypeId) (bus : ℕ) (a : Wanted) → Accepted b t bus a → Passes b t bus a
passes b t bus a k =
    let bus_stage : Option (ℕ × Code) = at_stage 3 (bus_barred b t (bus_for b t a.bus)) in
    let room_stages : Option (ℕ × Code) = first_of (at_stage 4 (room_barred b t) ∷ []) in
    let first : (at_stage 2 (id_barred b a.id) ≡ None) × (option_or bus_stage room_stages ≡ None) =
    or-none (at_stage 2 (id_barred b a.id)) (option_or bus_stage room_stages) k.early in
    let second : (bus_stage ≡ None) × (room_stages ≡ None) = or-none bus_stage room_stages first.1 in
    let place_stage : Option (ℕ × Code) = at_stage 5 (place_barred b t bus a.props) in
    let later : Option (ℕ × Code) = first_of (at_stage 6 (realize_barred b t a.props) ∷ at_stage 8 (notice_barred b) ∷ []) in
    let third : (at_stage 4 (refusal_of b t a.props) ≡ None) × (option_or place_stage later ≡ None) =
    or-none (at_stage 4 (refusal_of b t a.props)) (option_or place_stage later) k.late in
    let fourth : (place_stage ≡ None) × (later ≡ None) = or-none place_stage later third.1 in
    let last : (at_stage 6 (realize_barred b t a.props) ≡ None) × (first_of (at_stage 8 (notice_barred b) ∷ []) ≡ None) =
    or-none (at_stage 6 (realize_barred b t a.props)) (first_of (at_stage 8 (notice_barred b) ∷ [])) fourth.1 in
    let eighth : (at_stage 8 (notice_barred b) ≡ None) × (first_of [] ≡ None) = or-none (at_stage 8 (notice_barred b)) (first_of []) last.1 in
    let ids : (id_refused b a.id ≡ None) × (container_barred b (parent_for a.id) (name_for b a.id) ≡ None) =
    or-none (id_refused b a.id) (container_barred b (parent_for a.id) (name_for b a.id)) (stage-none 2 (id_barred b a.id) first.0) in
    let places : (code_in (bus_slot_for b bus (number_for a.props (codes "slot"))) ≡ None) × (kind_barred b t bus a.props ≡ None) =
    or-none (code_in (bus_slot_for b bus (number_for a.props (codes "slot")))) (kind_barred b t bus a.props)
    (stage-none 5 (place_barred b t bus a.props) fourth.0) in
    record {
      id = ids.0;
      at_bus = sym (ap (bus_barred b t) k.chosen) ∙ stage-none 3 (bus_barred b t (bus_for b t a.bus)) second.0;
      properties = stage-none 4 (refusal_of b t a.props) third.0;
      slot = places.0;
      kind = places.1;
      notice = stage-none 8 (notice_barred b) eighth.0;
    }

-- the bus is attached
bus-attached : (b : Board) (t : TypeId) (m : ℕ) → bus_barred b t (Some m) ≡ None → (is_of b (bus_type t) m ≡ true) × (attached b m ≡ true)
bus-attached b t m e =
    let after_it : Option Code = if not (attached b m) || is_going b m then Some E27 else None in
    let first : (not (is_of b (bus_type t) m) ≡ false) × (after_it ≡ None) = unbarred (not (is_of b (bus_type t) m)) E26 after_it e in
    let second : (not (attached b m) || is_going b m ≡ false) × (None ≡ None) = unbarred (not (attached b m) || is_going b m) E27 None first.1 in
    (not-false (is_of b (bus_type t) m) first.0, not-false (attached b m) (neither (not (attached b m)) (is_going b m) second.0))

-- an id is no device's
id-free : (b : Board) (i : List ℕ) → id_refused b (Some i) ≡ None → device_named b i ≡ false
id-free b i e =
    let after_it : Option Code = if device_named b i then Some E24 else None in
    let first : (not (is_id i) ≡ false) × (after_it ≡ None) = unbarred (not (is_id i)) E23 after_it e in
    (unbarred (device_named b i) E24 None first.1).0

-- a bridge goes on a bus that is not too deep
bridge-shallow : (b : Board) (bus : ℕ) (props : List Given) → kind_barred b SlotBridge bus props ≡ None → nat_le BUS_DEPTH_MAX (depth_of b bus) ≡ false
bridge-shallow b bus props e = (unbarred (nat_le BUS_DEPTH_MAX (depth_of b bus)) E42 None e).0

bridge-room : (b : Board) (t : TypeId) (bus : ℕ) (props : List Given) → is_bridge t ≡ true → kind_barred b t bus props ≡ None
    → nat_le BUS_DEPTH_MAX (depth_of b bus) ≡ false
bridge-room b t bus props =
    each (λ (t : TypeId). is_bridge t ≡ true → kind_barred b t bus props ≡ None → nat_le BUS_DEPTH_MAX (depth_of b bus) ≡ false) (search (rules, bridge-shallow)) t

pub goal-of : (depth : ℕ → ℕ) (b : Board) (t : TypeId) (bus : ℕ) (a : Wanted) → PinsRootAlone b → PlacesBut depth None (λ x. false) b → Accepted b t bus a
    → Goal depth b (b.born + 1) bus (resources_of b t bus a.props).slot a.id t (drafted b t)
goal-of depth b t bus a rest h k =
    record {
      device = k.device;
      is_bus = fits-bus b t bus on.0;
      fits = on.0;
      owner = owner;
      low = slot-low b bus (number_for a.props (codes "slot")) p.slot;
      shallow = shallow;
      new_id = new_id a.id p.id;
    }
  where
    p : Passes b t bus a
    p = passes b t bus a k

    on : (is_of b (bus_type t) bus ≡ true) × (attached b bus ≡ true)
    on = bus-attached b t bus p.at_bus

    owner : HasOwner b bus
    owner = attached-owner b (sound-from_rest b rest).0 rest.used.firm depth None (λ x. false) h bus (fits-bus b t bus on.0) on.1

    shallow : (q : ℕ) → owns (drafted b t) (b.born + 1) q ≡ true → suc (depth bus) ≤ 8
    shallow q e =
        let bridge : is_bridge t ≡ true = drafted-bridge b t (shut-above b.born rest.used.firm.begun) rest.used q e in
        let few : nat_le BUS_DEPTH_MAX (depth_of b bus) ≡ false = bridge-room b t bus a.props bridge p.kind in
        let is : depth bus ≡ depth_of b bus =
        depth-is depth (λ x. false) b rest.used.firm h (machine-no_device depth None (λ x. false) b h) bus owner in
        let low : depth_of b bus < 8 = grind (arith, few) in
        omega (arith, is, low)

    new_id : (o : Option (List ℕ)) → id_refused b o ≡ None → (x : ℕ) (i : List ℕ) → o ≡ Some i → id_of b x ≡ Some i → ⊥
    new_id None e x i q own = absurd (let clash : None ≡ Some i = q in cc)
    new_id (Some j) e x i q own = let is : j ≡ i = same_Some j i q in id-new b j (id-free b j e) x (own ∙ ap Some (sym is))
