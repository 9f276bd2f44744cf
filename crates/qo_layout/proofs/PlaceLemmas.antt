-- What stands in slots, slot after slot, and the range of a DIMM.
use Rattle.std.proofs.Common.{rules, ◌≡◌, refl, ap, sym, ◌∙◌, append_assoc, append-nil, ℕ, zero, suc, ◌+◌, List, ◌++◌, option_map, Option, Some, None, arith}
use Rattle.std.specs.List.{flat_map, range_with_len}
use Rattle.std.specs.Option.{option_map_or}
use Rattle.std.proofs.lemmas.Option.{same_Some}
use Rattle.qo_values.specs.Registers.{DimmRegisters, Registers, dimm}
use Rattle.qo_values.proofs.EachLemmas.{each_body}
use Rattle.qo_kinds.specs.Bodies.{device_in, registers_in, registers_of, same_device}
use Rattle.qo_kinds.specs.declared.bodies.Body.{Body}
use Rattle.qo_kinds.specs.declared.bodies.Device.{Device}
use Rattle.qo_kinds.specs.declared.bodies.Device.TheVariants as of
use Rattle.qo_memmap.specs.declared.region.Place.{Place}
use Rattle.qo_model.specs.Board.{Board, Record}
use Rattle.qo_object.specs.Content.{Content}
use Rattle.qo_object.specs.BoardObject.{shown}
use Rattle.qo_heap.specs.Board.{Shows}
use Rattle.qo_heap.specs.Objects.{Objects, content_of}
use Rattle.qo_heap.proofs.BoardReads.{shows-record}
use Rattle.qo_layout.specs.Layout.{dimm_in, range_of}

-- one slot more
range-next : (places : ℕ → List Place) (first n : ℕ)
    → flat_map places (range_with_len first (n + 1)) ≡ flat_map places (range_with_len first n) ++ places (first + n)
range-next places first zero =
    let same : first + 0 ≡ first = omega arith in append-nil (places first) ∙ sym (ap places same)
range-next places first (suc n) =
    let more : suc n + 1 ≡ suc (n + 1) = omega arith in
    let same : first + 1 + n ≡ first + suc n = omega arith in
    ap (λ (m : ℕ). flat_map places (range_with_len first m)) more ∙ ap (λ (ps : List Place). places first ++ ps) (range-next places (first + 1) n)
    ∙ sym (append_assoc (places first) (flat_map places (range_with_len (first + 1) n)) (places (first + 1 + n)))
    ∙ ap (λ (m : ℕ). places first ++ flat_map places (range_with_len (first + 1) n) ++ places m) same

pub slots_next : (places : ℕ → List Place) (slot : ℕ) (old new : List Place) → old ≡ flat_map places (range_with_len 0 slot) → new ≡ old ++ places slot
    → new ≡ flat_map places (range_with_len 0 (slot + 1))
slots_next places slot old new before more =
    let same : 0 + slot ≡ slot = omega arith in
    more ∙ ap (λ (ps : List Place). ps ++ places slot) before
    ∙ ap (λ (m : ℕ). flat_map places (range_with_len 0 slot) ++ places m) (sym same) ∙ sym (range-next places 0 slot)

-- the range of a device, by its body
pub range-shown : (b : Board) (v : Objects) → Shows b v → (n : ℕ) (body : Body) → option_map (λ (c : Content). c.body) (content_of v n) ≡ Some body
    → range_of b n ≡ dimm_in (registers_of body)
range-shown b v s n body e =
    ap (λ (o : Option Record). option_map_or (λ (r : Record). dimm_in r.registers) o (record { address = 0; size = 0 })) (shows-record b v s n)
    ∙ go (content_of v n) e
  where
    go : (o : Option Content) → option_map (λ (c : Content). c.body) o ≡ Some body
        → option_map_or (λ (r : Record). dimm_in r.registers) (option_map (shown n) o) (record { address = 0; size = 0 }) ≡ dimm_in (registers_of body)
    go None f = absurd (let none : None ≡ Some body = f in cc)
    go (Some c) f = ap (λ (x : Body). dimm_in (registers_of x)) (same_Some c.body body f)

dimm-none : (r : Registers) → ((d : DimmRegisters) → r ≡ dimm d → ⊥) → record { address = 0; size = 0 } ≡ dimm_in r
dimm-none = each_body (λ (r : Registers). ((d : DimmRegisters) → r ≡ dimm d → ⊥) → record { address = 0; size = 0 } ≡ dimm_in r) (search (rules, is-none))
  where
    is-none : (e : DimmRegisters) → ((d : DimmRegisters) → dimm e ≡ dimm d → ⊥) → record { address = 0; size = 0 } ≡ e
    is-none e other = absurd (other e refl)

pub range-none : (device : Device) → ((d : DimmRegisters) → device ≡ of.Dimm d → ⊥) → record { address = 0; size = 0 } ≡ dimm_in (registers_in device)
range-none device other = dimm-none (registers_in device) (λ d is. other d (sym (same_device device) ∙ ap device_in is))
