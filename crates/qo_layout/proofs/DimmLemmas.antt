-- DIMMs stand on ranges of the memory that are not empty.
use Rattle.std.proofs.Common.{rules, ◌≡◌, refl, ap, sym, subst, ◌∙◌, ℕ, ◌+◌, ◌≤◌, true, false, ◌&&◌, leb, option_map, option_and_then, Option, Some, None, codes, inl, inr, ◌⊎◌, arith}
use Rattle.std.specs.Prelude.{unwrap_or}
use Rattle.std.specs.Option.{option_map_or}
use Rattle.std.proofs.lemmas.Bool.{and_parts, leb-true}
use Rattle.std.proofs.lemmas.Option.{same_Some}
use Rattle.qo_values.specs.Placing.{window_end, window_start}
use Rattle.qo_values.specs.Properties.{is_multiple}
use Rattle.qo_values.specs.Registers.{Registers, bare, dimm, fresh_registers}
use Rattle.qo_values.specs.declared.births.TheConstants.{MEMORY_BUS_BIRTH}
use Rattle.qo_values.specs.declared.kinds.TypeId.{TypeId}
use Rattle.qo_values.specs.declared.kinds.TypeId.TheVariants.{Device, MemBus}
use Rattle.qo_values.specs.declared.limits.TheConstants.{BACKEND_SIZE_AT_FIRST, BACKEND_SIZE_MAX, DIMM_ALIGN}
use Rattle.qo_values.specs.declared.properties.PropType.TheVariants as ty
use Rattle.qo_values.specs.declared.properties.Val.TheVariants as val
use Rattle.qo_values.proofs.EachLemmas.{each, each_body}
use Rattle.qo_model.specs.Board.{Board, Record, Slot, plain, kind_of, record_of}
use Rattle.qo_model.specs.Devices.{bus_of, is_realized, number_in, plain_in}
use Rattle.qo_model.specs.Paths.{is_of}
use Rattle.qo_model.specs.Plug.{bus_type, size_of}
use Rattle.qo_model.specs.Properties.{property_named}
use Rattle.qo_model.specs.Types.{is_a, property, types}
use Rattle.qo_model.specs.declared.properties.Access.TheVariants.{Add}
use Rattle.qo_model.specs.declared.properties.PropertyName.TheVariants as prop
use Rattle.qo_model.specs.declared.properties.First.TheVariants as first
use Rattle.qo_model.specs.declared.properties.Property.{Property}
use Rattle.qo_model.specs.declared.properties.PropertyRole.TheVariants as row
use Rattle.qo_sound.proofs.TestLemmas.{clash-back, decide}
use Rattle.qo_sound_devices.specs.DeviceFacts.{IsOnBus}
use Rattle.qo_sound_devices.specs.SoundDevices.{SoundDevices}
use Rattle.qo_sound_devices.specs.SoundPlaces.{stands, suits}
use Rattle.qo_sound_devices.proofs.FactLemmas.{devices_say_lem}
use Rattle.qo_sound_devices.proofs.PlugLemmas.{stands-device}
use Rattle.qo_sound_phases.proofs.ResetTreeLemmas.{Placed, placed}
use Rattle.qo_sound_claims.specs.SoundClaims.{HasRange, SoundClaims}
use Rattle.qo_sound_shapes.specs.ShapeFacts.{HoldsNumber}
use Rattle.qo_sound_shapes.specs.SoundShape.{HasRole, SoundShape, is_like}
use Rattle.qo_sound_shapes.proofs.FactLemmas.{shapes_say_lem}
use Rattle.qo_layout.specs.Layout.{dimm_in, range_of}
use Rattle.qo_layout.proofs.MapLemmas.{memory-kind}

-- Types.

dimm-type : (t : TypeId) → is_a t (codes "device") ≡ true → is_a MemBus (bus_type t) ≡ true → (is_a t (codes "mem-dimm") ≡ true) ⊎ (t ≡ Device)
unfolding types
dimm-type = each (λ (t : TypeId). is_a t (codes "device") ≡ true → is_a MemBus (bus_type t) ≡ true → (is_a t (codes "mem-dimm") ≡ true) ⊎ (t ≡ Device)) (search rules)

-- an object without registers has no range
no-range : (registers : Registers) → is_like registers bare ≡ true → (dimm_in registers).address ≡ 0
no-range = each_body (λ (r : Registers). is_like r bare ≡ true → (dimm_in r).address ≡ 0) (search rules)

-- The size of a memory backend.

record SizeRow (t : TypeId) : Type 0 where
  its : Property
  row_is : property_named t (codes "size") ≡ Some its
  role_is : its.role ≡ row.Plain (ty.Uint DIMM_ALIGN BACKEND_SIZE_MAX DIMM_ALIGN) (first.Uint BACKEND_SIZE_AT_FIRST)

abbrev size : Property
size = property prop.Size (row.Plain (ty.Uint DIMM_ALIGN BACKEND_SIZE_MAX DIMM_ALIGN) (first.Uint BACKEND_SIZE_AT_FIRST)) Add

abbrev SaysSize : TypeId → Type 0
SaysSize t = is_a t (codes "memory-backend") ≡ true → property_named t (codes "size") ≡ Some size

size-row : (t : TypeId) → is_a t (codes "memory-backend") ≡ true → SizeRow t
unfolding types
size-row t e = record { its = size; row_is = each SaysSize (search rules) t e; role_is = refl }

size-most : (v : ℕ) → HasRole (row.Plain (ty.Uint DIMM_ALIGN BACKEND_SIZE_MAX DIMM_ALIGN) (first.Uint BACKEND_SIZE_AT_FIRST)) (plain (val.Uint v)) → 1 ≤ v
size-most v (inl none) = absurd (let bad : first.Uint BACKEND_SIZE_AT_FIRST ≡ first.Nothing = none.0 in cc)
size-most v (inr fits) =
    let both = and_parts (leb 4096 v && leb v BACKEND_SIZE_MAX) (is_multiple DIMM_ALIGN v) fits in
    let least = and_parts (leb 4096 v) (leb v BACKEND_SIZE_MAX) both.0 in
    let low : 4096 ≤ v = leb-true 4096 v least.0 in
    omega (arith, low)

module _ (b : Board) (h : SoundDevices b) (shape : SoundShape b) (claims : SoundClaims b) where
  abbrev pub k : Placed b
  k = placed b h

  backend-some : (m : ℕ) → is_of b (codes "memory-backend") m ≡ true → 1 ≤ size_of b m
  backend-some m is = go (kind_of b m) refl
    where
      holds : HoldsNumber b m (codes "size")
      holds = shapes_say_lem.memory b shape m is

      number : size_of b m ≡ holds.0
      number = ap (λ (o : Option Slot). unwrap_or (option_and_then number_in (option_and_then plain_in o)) 0) holds.1

      go : (o : Option TypeId) → kind_of b m ≡ o → 1 ≤ size_of b m
      go None e = clash-back (rw e at is)
      go (Some t) e =
          let size : SizeRow t = size-row t (rw e at is) in
          let role : HasRole size.its.role (plain (val.Uint holds.0)) =
          shapes_say_lem.named b shape m (codes "size") size.its (plain (val.Uint holds.0)) (record { kind = t; its = e; row = size.row_is }) holds.1 in
          let some : 1 ≤ holds.0 = size-most holds.0 (rw size.role_is at role) in
          omega (arith, some, number)

  -- any other device on the memory bus has no range
  other-range : (d : ℕ) → stands b d ≡ true → bus_of b d ≡ Some MEMORY_BUS_BIRTH → is_of b (codes "mem-dimm") d ≡ false → (range_of b d).address ≡ 0
  other-range d stood on other = go (record_of b d) refl
    where
      its : IsOnBus b d
      its = devices_say_lem.on_bus b h d (k.places.each d stood refl)

      device : is_of b (codes "device") d ≡ true
      device = stands-device k.depth None (λ x. false) b k.places d stood

      fits : suits b MEMORY_BUS_BIRTH d ≡ true
      fits = subst (λ (q : ℕ). suits b q d ≡ true) (same_Some its.bus MEMORY_BUS_BIRTH (sym its.on ∙ on)) its.fits

      by : (r : Record) → record_of b d ≡ Some r → is_like r.registers (fresh_registers r.kind) ≡ true
          → (is_a r.kind (codes "mem-dimm") ≡ true) ⊎ (r.kind ≡ Device) → (range_of b d).address ≡ 0
      by r e like (inl is) = clash-back (sym (rw e at other) ∙ is)
      by r e like (inr is) =
          ap (λ (o : Option Record). (option_map_or (λ (y : Record). dimm_in y.registers) o (record { address = 0; size = 0 })).address) e
          ∙ no-range r.registers (subst (λ (t : TypeId). is_like r.registers (fresh_registers t) ≡ true) is like)

      go : (o : Option Record) → record_of b d ≡ o → (range_of b d).address ≡ 0
      go None e = clash-back (rw e at device)
      go (Some r) e =
          let kind : kind_of b d ≡ Some r.kind = ap (option_map (λ (x : Record). x.kind)) e in
          let mine : is_a r.kind (codes "device") ≡ true = rw e at device in
          let bus : is_of b (bus_type r.kind) MEMORY_BUS_BIRTH ≡ true = rw kind at fits in
          let type : is_a MemBus (bus_type r.kind) ≡ true =
          sym (ap (λ (o : Option TypeId). option_map_or (λ (t : TypeId). is_a t (bus_type r.kind)) o false) (memory-kind b shape)) ∙ bus in
          by r e (shape.shaped d r e).registers (dimm-type r.kind mine type)

  -- and its range is the one that it stands on
  range-is : (d : ℕ) (r : HasRange b d) → range_of b d ≡ record { address = r.range.at; size = r.range.size }
  range-is d r = go (record_of b d) refl
    where
      go : (o : Option Record) → record_of b d ≡ o → range_of b d ≡ record { address = r.range.at; size = r.range.size }
      go None e = absurd (let bad : None ≡ Some (dimm (record { address = r.range.at; size = r.range.size })) = rw e at r.stands in cc)
      go (Some x) e =
          let has : Some x.registers ≡ Some (dimm (record { address = r.range.at; size = r.range.size })) = rw e at r.stands in
          let registers : x.registers ≡ dimm (record { address = r.range.at; size = r.range.size }) =
          same_Some x.registers (dimm (record { address = r.range.at; size = r.range.size })) has in
          ap (λ (o : Option Record). option_map_or (λ (y : Record). dimm_in y.registers) o (record { address = 0; size = 0 })) e ∙ ap dimm_in registers

  pub dimm-fits : (d : ℕ) → stands b d ≡ true → is_of b (codes "mem-dimm") d ≡ true
      → (1 ≤ (range_of b d).size) × ((range_of b d).address + (range_of b d).size ≤ window_end)
  dimm-fits d stood is =
      let lit : is_realized b d ≡ true = k.places.each d stood refl in
      let its : HasRange b d = claims.ranges d (rw (is, lit) refl) in
      let range : range_of b d ≡ record { address = its.range.at; size = its.range.size } = range-is d its in
      let window = and_parts (leb window_start its.range.at) (leb (its.range.at + its.range.size) window_end) its.window in
      let high : its.range.at + its.range.size ≤ window_end = leb-true (its.range.at + its.range.size) window_end window.1 in
      let some : 1 ≤ its.range.size = (let least = backend-some its.backend its.memory in let same = its.size in omega (arith, least, same)) in
      rw range (some, high)

  pub address-fits : (d : ℕ) → stands b d ≡ true → bus_of b d ≡ Some MEMORY_BUS_BIRTH → (range_of b d).address ≤ window_end
  address-fits d stood on =
      decide (is_of b (codes "mem-dimm") d) (λ is. (let range = dimm-fits d stood is in omega (arith, range.1)))
      (λ other. (let none = other-range d stood on other in omega (arith, none)))
