-- Where no register shows.
use Rattle.std.proofs.Common.{◌≡◌, refl, ap, ◌∙◌, ℕ, ◌≤◌, Bool, true, false, cond, Option, None, Some, arith}
use Rattle.std.specs.Option.{option_map_or}
use Rattle.std.specs.Prelude.{is_some, option_map}
use Rattle.std.proofs.lemmas.Bool.Decides.{nat_tests}
use Rattle.qo_values.specs.Registers.{Effect, Registers, bare, body_read, body_write, bridge, dimm, timer, uart}
use Rattle.qo_guest.specs.declared.answers.GuestAnswer.TheVariants.{NoRegister}
use Rattle.qo_model.specs.Board.{Board, Record, record_of}
use Rattle.qo_model.specs.Clocks.{device_period}
use Rattle.qo_buses.specs.Rings.{claimed_ring}
use Rattle.qo_heap.specs.Board.{Shows}
use Rattle.qo_heap.specs.Objects.{Objects, content_of}
use Rattle.qo_heap.proofs.BoardReads.{shows-record}
use Rattle.qo_object.specs.BoardObject.{shown}
use Rattle.qo_layout.specs.declared.views.RegisterPlace.{RegisterPlace}
use Rattle.qo_realize.specs.Registers.{after_effect, guest_read, guest_written, registers_at, registers_written}
use Rattle.qo_sound_clocks.specs.RegisterWrites.{registers_set}
use Rattle.qo_commands.specs.Hearing.{Outcome, answered, has_registers, if_written, peeked, poked, read_by, value_answer, written_by}
use Rattle.qo_commands.specs.Memory.{HasNoRegister}

-- with registers or not
either : (b : Board) (has : Bool) (d : Outcome) → d ≡ answered b NoRegister → cond has d (answered b NoRegister) ≡ answered b NoRegister
either b true d is = is
either b false d is = refl

absent : (b : Board) (place : RegisterPlace) → guest_read b place.device place.register ≡ None
    → ((value : ℕ) → registers_written b place.device place.register value ≡ None) → HasNoRegister b place
absent b place read written = record {
  read = either b (has_registers b place.device) (read_by b place.register (Some place.device)) (ap (λ (o : Option ℕ). answered b (value_answer o)) read);
  written =
      λ value.
      either b (has_registers b place.device) (written_by b place.register value (Some place.device))
      (ap
      (λ (o : Option (Registers × Effect)).
      if_written b (option_map (λ (w : Registers × Effect). after_effect place.device w.1 (registers_set b place.device w.0)) o)) (written value));
}

-- no object is there
pub no-device : (b : Board) (v : Objects) (place : RegisterPlace) → Shows b v → content_of v place.device ≡ None → HasNoRegister b place
no-device b v place shows none =
    let gone : record_of b place.device ≡ None = shows-record b v shows place.device ∙ ap (option_map (shown place.device)) none in
    let ring : Bool = is_some (claimed_ring b place.device) in
    let period : ℕ = device_period b place.device in
    absent b place
    (ap (λ (o : Option Record). body_read (option_map_or (λ (r : Record). r.registers) o bare) place.register ring b.now period) gone)
    (λ value. ap (λ (o : Option Record). body_write (option_map_or (λ (r : Record). r.registers) o bare) place.register value ring b.now period) gone)

-- no device has so many registers
read-past : (r : Registers) (reg : ℕ) (ring : Bool) (now period : ℕ) → 256 ≤ reg → body_read r reg ring now period ≡ None
read-past (uart u) reg ring now period far = grind (arith, nat_tests)
read-past (timer t) reg ring now period far = grind (arith, nat_tests)
read-past (dimm d) reg ring now period far = grind (arith, nat_tests)
read-past (bridge b) reg ring now period far = grind (arith, nat_tests)
read-past bare reg ring now period far = refl

write-past : (r : Registers) (reg value : ℕ) (ring : Bool) (now period : ℕ) → 256 ≤ reg → body_write r reg value ring now period ≡ None
write-past (uart u) reg value ring now period far = grind (arith, nat_tests)
write-past (timer t) reg value ring now period far = grind (arith, nat_tests)
write-past (dimm d) reg value ring now period far = grind (arith, nat_tests)
write-past (bridge b) reg value ring now period far = grind (arith, nat_tests)
write-past bare reg value ring now period far = refl

pub no-number : (b : Board) (place : RegisterPlace) → 256 ≤ place.register → HasNoRegister b place
no-number b place far =
    let ring : Bool = is_some (claimed_ring b place.device) in
    let period : ℕ = device_period b place.device in
    let registers : Registers = registers_at b place.device in
    absent b place (read-past registers place.register ring b.now period far)
    (λ value. write-past registers place.register value ring b.now period far)
