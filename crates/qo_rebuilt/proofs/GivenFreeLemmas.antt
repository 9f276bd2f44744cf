-- What is given to a good device is taken, and is free.
use Rattle.std.proofs.Common.{◌≡◌, refl, ap, sym, subst, ◌∙◌, ℕ, ◌+◌, ◌-◌, ◌%◌, ◌<◌, ◌≤◌, ◌^◌, Bool, true, false, ◌==◌, nat_le, List, [], ◌∷◌, Option, Some, None, Ok, Err, codes, arith}
use Rattle.std.specs.Prelude.{Result}
use Rattle.std.proofs.lemmas.Bool.{and_parts, eq-eqb, le-leb, leb-true}
use Rattle.qo_model.proofs.Common.{AllByRecursion, if◌then◌else◌, list_any, type_name, BUS_DEPTH_MAX, BUS_SLOTS, DIMM_ALIGN, TypeId, MemDimm, MemoryBackend, MemoryBackendRam, SlotBridge, SlotTimer, SlotUart, Range, is_in_window, overlaps_any, window_end, window_start, admits, Code, E15, E16, E31, E39, E42, Board, Given, Resolution, code_in, depth_of, dimms, found, has_backend, kind_barred, link_target, missing, multiple_of, number_for, property_named, range_barred, range_for, ranges_of, realize_barred, refusal_by, refusal_of, resolve, ring_barred, several, size_of, target_for, up_to, is_a, types}
use Rattle.qo_values.specs.declared.properties.PropType.TheVariants as ty
use Rattle.qo_values.specs.declared.properties.Val.TheVariants as val
use Rattle.qo_model.specs.Objects.{code_of}
use Rattle.qo_model.specs.Types.{property}
use Rattle.qo_model.specs.declared.properties.Access.TheVariants.{Add}
use Rattle.qo_model.specs.declared.properties.First.TheVariants as first
use Rattle.qo_model.specs.declared.properties.Property.{Property}
use Rattle.qo_model.specs.declared.properties.PropertyName.TheVariants as prop
use Rattle.qo_model.specs.declared.properties.PropertyRole.TheVariants as row
use Rattle.qo_save.specs.Described.{description, is_describable}
use Rattle.qo_save.specs.Description.{DeviceItem}
use Rattle.qo_save.specs.Rebuilding.{with_slot}
use Rattle.qo_good.specs.Good.{HasRange, Layout, NamesRing, no_ring, object_path, ring}
use Rattle.qo_good.specs.GoodBoards.{IsWhole}
use Rattle.qo_good.proofs.PlaceLemmas.{leads}
use Rattle.qo_rebuilt.proofs.BusFoundLemmas.{kind-is, resolves-to}
use Rattle.qo_rebuilt.proofs.ClaimFreeLemmas.{Away, Backend, backend-found, backend-free, ranges-free, ring-free}
use Rattle.qo_rebuilt.proofs.NumberLemmas.{takes}
use Rattle.qo_rebuilt.proofs.ObjectLemmas.{next-refused}

-- ---- rows

abbrev slot_row : Property
slot_row = property prop.Slot (row.Plain (up_to 255) first.Nothing) Add

slot-rows : (property_named SlotUart (codes "slot") ≡ Some slot_row)
    × ((property_named MemDimm (codes "slot") ≡ Some slot_row)
    × ((property_named SlotTimer (codes "slot") ≡ Some slot_row) × (property_named SlotBridge (codes "slot") ≡ Some slot_row)))
unfolding types
slot-rows = (refl, (refl, (refl, refl)))

abbrev chardev_row : Property
chardev_row = property prop.Chardev (row.Plain ty.Text first.NoText) Add

chardev-row : property_named SlotUart (codes "chardev") ≡ Some chardev_row
unfolding types
chardev-row = refl

abbrev addr_row : Property
addr_row = property prop.Addr (row.Plain (multiple_of DIMM_ALIGN) first.Nothing) Add

addr-row : property_named MemDimm (codes "addr") ≡ Some addr_row
unfolding types
addr-row = refl

abbrev memdev_row : Property
memdev_row = property prop.Memdev (row.Link MemoryBackend true) Add

memdev-row : property_named MemDimm (codes "memdev") ≡ Some memdev_row
unfolding types
memdev-row = refl

memory-is : is_a MemoryBackendRam (type_name MemoryBackend) ≡ true
unfolding types
memory-is = refl

-- ---- what is given, by kind

-- a device of a type is taken on a bus, by its slot and what else is given
pub record Passes (b : Board) (t : TypeId) (bus slot : ℕ) (props : List Given) : Type 0 where
  pub unrefused : refusal_of b t (with_slot slot props) ≡ None
  pub numbered : number_for (with_slot slot props) (codes "slot") ≡ Some slot
  pub placed : kind_barred b t bus (with_slot slot props) ≡ None
  pub realizes : realize_barred b t (with_slot slot props) ≡ None

slot-takes : (slot : ℕ) → slot < BUS_SLOTS → admits (up_to 255) (val.Uint slot) ≡ true
slot-takes slot low = takes 255 slot (omega (arith, low))

slot-last : (b : Board) (t : TypeId) (slot : ℕ) → property_named t (codes "slot") ≡ Some slot_row → slot < BUS_SLOTS
    → refusal_of b t ((codes "slot", val.Uint slot) ∷ []) ≡ None
slot-last b t slot its low = next-refused b t (codes "slot") (val.Uint slot) [] slot_row its refl (slot-takes slot low)

pub timer-passes : (b : Board) (bus slot : ℕ) → slot < BUS_SLOTS → Passes b SlotTimer bus slot []
timer-passes b bus slot low = record { unrefused = slot-last b SlotTimer slot slot-rows.1.1.0 low; numbered = refl; placed = refl; realizes = refl }

pub bridge-passes : (b : Board) (bus slot : ℕ) → slot < BUS_SLOTS → nat_le BUS_DEPTH_MAX (depth_of b bus) ≡ false → Passes b SlotBridge bus slot []
bridge-passes b bus slot low shallow =
    record {
      unrefused = slot-last b SlotBridge slot slot-rows.1.1.1 low;
      numbered = refl;
      placed = ap (λ (u : Bool). if u then Some E42 else None) shallow;
      realizes = refl;
    }

bare-passes : (b : Board) (bus slot : ℕ) → slot < BUS_SLOTS → Passes b SlotUart bus slot []
bare-passes b bus slot low = record { unrefused = slot-last b SlotUart slot slot-rows.0 low; numbered = refl; placed = refl; realizes = refl }

ring-passes : (b : Board) (bus slot : ℕ) (id : List ℕ) → slot < BUS_SLOTS → ring_barred b id ≡ None
    → Passes b SlotUart bus slot ((codes "chardev", val.Text id) ∷ [])
ring-passes b bus slot id low free =
    record {
      unrefused = next-refused b SlotUart (codes "chardev") (val.Text id) ((codes "slot", val.Uint slot) ∷ []) chardev_row chardev-row refl refl
          ∙ slot-last b SlotUart slot slot-rows.0 low;
      numbered = refl;
      placed = refl;
      realizes = free;
    }

-- a DIMM
abbrev target_in : Result (Option ℕ) Code → Option ℕ
target_in (Ok target) = target
target_in (Err code) = None

address-takes : (r : Range) → r.at % DIMM_ALIGN ≡ 0 → is_in_window r ≡ true → admits (multiple_of DIMM_ALIGN) (val.Uint r.at) ≡ true
address-takes r aligned window =
    let two = and_parts (nat_le window_start r.at) (nat_le (r.at + r.size) window_end) window in
    let high : r.at + r.size ≤ window_end = leb-true (r.at + r.size) window_end two.1 in
    let first : nat_le 0 r.at ≡ true = le-leb 0 r.at (omega arith) in
    let last : nat_le r.at (2 ^ 64 - 1) ≡ true = le-leb r.at (2 ^ 64 - 1) (omega (arith, high)) in
    let whole : (r.at % DIMM_ALIGN == 0) ≡ true = eq-eqb (r.at % DIMM_ALIGN) 0 aligned in
    rw (first, last, whole) refl

module _ (b : Board) (h : IsWhole b) (says : is_describable b ≡ true) where
  module _ (id : List ℕ) (long : ℕ) (m : Backend b id long) where
    target-found : link_target b MemoryBackend (object_path id) ≡ Ok (Some m.m)
    target-found =
        let at : resolve b (object_path id) (type_name MemoryBackend) ≡ found m.m =
        resolves-to b m.m (object_path id) (type_name MemoryBackend) refl (leads b h.order m.m (object_path id) m.way)
        (kind-is b m.m MemoryBackendRam (type_name MemoryBackend) m.kind memory-is) in
        ap
        (λ (r : Resolution). elim r as (λ _. Result (Option ℕ) Code) [
          | found n ↦ Ok (Some n)
          | several ↦ Err E16
          | missing ↦ elim (resolve b (object_path id) (codes "object")) [ missing ↦ Err E15 | _ ↦ Err E31 ]
        ])
        at

    backend-passed : (props : List Given) → refusal_of b MemDimm ((codes "memdev", val.Text (object_path id)) ∷ props) ≡ refusal_of b MemDimm props
    backend-passed props =
        ap (λ (o : Option Code). elim o [ Some code ↦ Some code | None ↦ refusal_of b MemDimm props ])
        (ap (λ (o : Option Property). refusal_by b o (val.Text (object_path id))) memdev-row ∙ ap code_of target-found)

  pub dimm-passes : (l : Layout) (x : DeviceItem) (bus : ℕ) → x.slot < BUS_SLOTS → AllByRecursion (Away b h says l (l.range x.id)) (description b).devices
      → HasRange (description b) l (description b).devices x → Passes b MemDimm bus x.slot x.props
  dimm-passes l x bus low away k =
      subst (Passes b MemDimm bus x.slot) (sym k.props)
      (record { unrefused = unrefused; numbered = refl; placed = placed; realizes = refl })
    where
      m : Backend b k.backend (l.range x.id).size
      m = backend-found b h says k.backend (l.range x.id).size k.memory

      unrefused : refusal_of b MemDimm
          ((codes "addr", val.Uint (l.range x.id).at) ∷ (codes "memdev", val.Text (object_path k.backend)) ∷ (codes "slot", val.Uint x.slot) ∷ [])
          ≡ None
      unrefused =
          next-refused b MemDimm (codes "addr") (val.Uint (l.range x.id).at)
          ((codes "memdev", val.Text (object_path k.backend)) ∷ (codes "slot", val.Uint x.slot) ∷ []) addr_row addr-row refl
          (address-takes (l.range x.id) k.aligned k.window)
          ∙ backend-passed k.backend (l.range x.id).size m ((codes "slot", val.Uint x.slot) ∷ [])
          ∙ slot-last b MemDimm x.slot slot-rows.1.0 low

      in_place : (size : ℕ) → size ≡ (l.range x.id).size → code_in (range_for b (Some (l.range x.id).at) size) ≡ None
      in_place size is =
          let clear : overlaps_any (l.range x.id) (ranges_of b) ≡ false = ranges-free b h says l (l.range x.id) away in
          let taken : range_for b (Some (l.range x.id).at) (l.range x.id).size ≡ Ok (l.range x.id) = rw (k.window, clear) refl in
          ap (λ (n : ℕ). code_in (range_for b (Some (l.range x.id).at) n)) is ∙ ap code_in taken

      placed : kind_barred b MemDimm bus
          ((codes "addr", val.Uint (l.range x.id).at) ∷ (codes "memdev", val.Text (object_path k.backend)) ∷ (codes "slot", val.Uint x.slot) ∷ [])
          ≡ None
      placed =
          let props : List Given =
          (codes "addr", val.Uint (l.range x.id).at) ∷ (codes "memdev", val.Text (object_path k.backend)) ∷ (codes "slot", val.Uint x.slot) ∷ [] in
          let target : target_for b MemoryBackend props (codes "memdev") ≡ Some m.m = ap target_in (target-found k.backend (l.range x.id).size m) in
          let free : list_any (has_backend b m.m) (dimms b) ≡ false = backend-free b h says k.backend m.m m.told k.alone in
          ap (range_barred b props) target
          ∙ ap (λ (u : Bool). if u then Some E39 else code_in (range_for b (Some (l.range x.id).at) (size_of b m.m))) free
          ∙ in_place (size_of b m.m) m.size

  pub uart-passes : (x : DeviceItem) (bus : ℕ) → x.slot < BUS_SLOTS → NamesRing (description b) (description b).devices x → Passes b SlotUart bus x.slot x.props
  uart-passes x bus low (no_ring none) = subst (Passes b SlotUart bus x.slot) (sym none) (bare-passes b bus x.slot low)
  uart-passes x bus low (ring id props one alone) =
      subst (Passes b SlotUart bus x.slot) (sym props) (ring-passes b bus x.slot id low (ring-free b h says id one alone))
