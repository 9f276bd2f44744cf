-- What a heap tells of the registers of a board's objects.
use Rattle.std.proofs.Common.{◌≡◌, refl, ap, sym, subst, ◌∙◌, ℕ, ◌+◌, Bool, true, false, cond, not, Option, Some, None, option_map, is_some}
use Rattle.std.specs.Prelude.{◌/◌, ◌%◌, ◌==◌, ◌&&◌, IfSome, unwrap_or}
use Rattle.std.specs.Option.{option_map_or}
use Rattle.qo_values.specs.Registers.{BridgeRegisters, Registers, TimerRegisters, UartRegisters, bare, body_read, bridge, timer, uart}
use Rattle.qo_values.specs.Timer.{timer_count}
use Rattle.qo_values.specs.Uart.{uart_status}
use Rattle.qo_kinds.specs.Bodies.{IsTimely, registers_in, registers_of}
use Rattle.qo_kinds.specs.declared.bodies.Body.{Body}
use Rattle.qo_kinds.specs.declared.bodies.Device.{Device}
use Rattle.qo_buses.specs.Rings.{claimed_ring}
use Rattle.qo_model.specs.Board.{Board, Record}
use Rattle.qo_model.specs.Clocks.{device_period}
use Rattle.qo_object.specs.Content.{Content}
use Rattle.qo_object.specs.BoardObject.{shown}
use Rattle.qo_heap.specs.Board.{Shows}
use Rattle.qo_heap.specs.Objects.{Objects, content_of}
use Rattle.qo_heap.proofs.BoardReads.{shows-record}
use Rattle.qo_layout.specs.Registers.{AreTimely, is_hidden, registers_at, timer_asks, uart_asks}
use Rattle.qo_layout.specs.Rows.{input_by, input_of}

-- the object of a body
body-of : (o : Option Content) (body : Body) → option_map (λ (c : Content). c.body) o ≡ Some body → (c : Content) × (o ≡ Some c) × (c.body ≡ body)
body-of None body e = absurd (let no : None ≡ Some body = e in cc)
body-of (Some c) body e = let same : c.body ≡ body = cc in (c, refl, same)

pub timely-body : (v : Objects) → AreTimely v → (n : ℕ) (body : Body) → option_map (λ (c : Content). c.body) (content_of v n) ≡ Some body → IsTimely v.time body
timely-body v h n body is =
    let (c, there, same) = body-of (content_of v n) body is in
    let at : IsTimely v.time c.body = subst (λ (x : Option Content). IfSome x (λ c. IsTimely v.time c.body)) there (h n) in
    subst (IsTimely v.time) same at

-- the registers of the body are the board's
pub registers-shown : (b : Board) (v : Objects) → Shows b v → (n : ℕ) (body : Body) → option_map (λ (c : Content). c.body) (content_of v n) ≡ Some body
    → registers_at b n ≡ registers_of body
registers-shown b v s n body is =
    let (c, there, same) = body-of (content_of v n) body is in
    ap (λ (x : Option Record). option_map_or (λ (r : Record). r.registers) x bare) (shows-record b v s n ∙ ap (option_map (shown n)) there)
    ∙ ap registers_of same

-- what is not there has none
pub registers-none : (b : Board) (v : Objects) → Shows b v → (n : ℕ) → content_of v n ≡ None → registers_at b n ≡ bare
registers-none b v s n gone =
    ap (λ (x : Option Record). option_map_or (λ (r : Record). r.registers) x bare) (shows-record b v s n ∙ ap (option_map (shown n)) gone)

-- whether a UART is ready hangs neither on its ring nor on its clock
ready-alone : (u : UartRegisters) (ring : Bool) (period : ℕ) → uart_status u false 0 / 4 % 2 ≡ uart_status u ring period / 4 % 2
ready-alone u ring period = go u.ready ring (period == 0)
  where
    go : (ready ring still : Bool) → (0 + 0 + cond ready 4 0) / 4 % 2 ≡ (cond ring 1 0 + cond still 0 2 + cond ready 4 0) / 4 % 2
    go true true true = refl
    go true true false = refl
    go true false true = refl
    go true false false = refl
    go false true true = refl
    go false true false = refl
    go false false true = refl
    go false false false = refl

-- what the devices say is what the board says
pub uart-shown : (b : Board) (n : ℕ) (u : UartRegisters) → registers_at b n ≡ uart u
    → ((uart_status u false 0 / 4 % 2 == 1) && not (u.scratch == 0)) ≡ uart_asks b n
uart-shown b n u is =
    ap (λ (x : ℕ). (x == 1) && not (u.scratch == 0)) (ready-alone u (is_some (claimed_ring b n)) (device_period b n))
    ∙ ap
    (λ (r : Registers).
    (unwrap_or (body_read r 2 (is_some (claimed_ring b n)) b.now (device_period b n)) 0 / 4 % 2 == 1)
    && not (unwrap_or (body_read r 3 (is_some (claimed_ring b n)) b.now (device_period b n)) 0 == 0))
    (sym is)

pub timer-shown : (b : Board) (v : Objects) → Shows b v → (n : ℕ) (t : TimerRegisters) → registers_at b n ≡ timer t
    → ((cond t.enabled 1 0 == 1) && (timer_count t v.time (device_period b n) == 0)) ≡ timer_asks b n
timer-shown b v s n t is =
    ap (λ (time : ℕ). (cond t.enabled 1 0 == 1) && (timer_count t time (device_period b n) == 0)) (sym s.now)
    ∙ ap
    (λ (r : Registers).
    (unwrap_or (body_read r 0 (is_some (claimed_ring b n)) b.now (device_period b n)) 0 == 1)
    && (unwrap_or (body_read r 2 (is_some (claimed_ring b n)) b.now (device_period b n)) 0 == 0))
    (sym is)

pub bridge-shown : (b : Board) (n : ℕ) (x : BridgeRegisters) → registers_at b n ≡ bridge x → not (cond x.raised 1 0 == 0) ≡ is_hidden b n
bridge-shown b n x is =
    ap (λ (r : Registers). not (unwrap_or (body_read r 0 (is_some (claimed_ring b n)) b.now (device_period b n)) 0 == 0)) (sym is)

-- what the input is set to, by the device
pub input-shown : (b : Board) (v : Objects) → Shows b v → (n : ℕ) (body : Body) → option_map (λ (c : Content). c.body) (content_of v n) ≡ Some body
    → (device : Device) → body.device ≡ device → input_of b n ≡ input_by b n (registers_in device)
input-shown b v s n body is device e = ap (input_by b n) (registers-shown b v s n body is ∙ ap registers_in e)

pub input-none : (b : Board) (v : Objects) → Shows b v → (n : ℕ) → content_of v n ≡ None → input_of b n ≡ false
input-none b v s n gone = ap (input_by b n) (registers-none b v s n gone)
