-- What acts and a guest's writes do to the segments of a timer that is not ahead of the time.
use Rattle.std.proofs.Common.{◌≡◌, ◌≢◌, refl, ap, sym, subst, ◌∙◌, ℕ, ◌+◌, ◌-◌, ◌*◌, ◌≤◌, ◌%◌, ◌||◌, Bool, true, false, cond, eqb, Option, Some, None, is_some, arith, rules}
use Rattle.qo_model.proofs.Common.{⊤, Effect, body_act, body_write, Registers, TimerRegisters, fresh_registers, timer, after_begin, after_end, control_write, reload_write, span_ticks, timer_enter, timer_halt, timer_hold, timer_update, timer_write, Act, Pre, Update, TypeId}
use Rattle.std.proofs.Math.Nat.{div-le_self}
use Rattle.std.proofs.lemmas.Option.{same_Some}
use Rattle.qo_values.proofs.EachLemmas.{AllBodies, each, each_act, each_body, each_write}
use Rattle.qo_values.specs.Registers.{fresh_timer}
use Rattle.qo_values.specs.Timer.{timer_wake}
use Rattle.qo_sound_clocks.specs.SoundTimes.{IsTimely}
use Rattle.qo_sound_bounds.specs.SoundSegments.{IsSegmented, SegmentsFit}

-- registers whose last moment is no later than one, and whose segments are sound
abbrev pub Timed : ℕ → Registers → Type 0
Timed now r = IsTimely now r × IsSegmented r

abbrev Fits : ℕ → TimerRegisters → Type 0
Fits now t = (t.last ≤ now) × SegmentsFit t

either-fits : (u : Bool) (t s : TimerRegisters) (now : ℕ) → (u ≡ true → Fits now t) → (u ≡ false → Fits now s) → Fits now (cond u t s)
either-fits true t s now h k = h refl
either-fits false t s now h k = k refl

-- segments that begin and end now

span-few : (span period : ℕ) → span_ticks span period ≤ span * 4294967296
span-few span period = go (eqb period 0) refl
  where
    go : (u : Bool) → eqb period 0 ≡ u → span_ticks span period ≤ span * 4294967296
    go true e = rw (span_ticks, e) (omega arith)
    go false e = rw (span_ticks, e) (div-le_self (span * 4294967296) period)

-- what ends now counts no more than the time has
ended-few : (t : TimerRegisters) (from now period : ℕ) → from ≡ t.last → t.last ≤ now → t.done ≤ 4294967296 * t.last
    → t.done + span_ticks (now - from) period ≤ 4294967296 * now
ended-few t from now period is le few =
    let span = span-few (now - from) period in
    omega (arith, is, le, few, span)

-- a timer with no segment that is open, whether enabled or not, whose last moment is no later than one
pub record Rests (now : ℕ) (t : TimerRegisters) : Type 0 where
  closed : t.began ≡ None
  low : t.last ≤ now
  ticks : t.done ≤ 4294967296 * t.last

ended : (t : TimerRegisters) (now period : ℕ) → Fits now t → Rests now (after_end t now period)
ended t now period h = go t.began refl
  where
    go : (o : Option ℕ) → t.began ≡ o → Rests now (after_end t now period)
    go None e =
        let none : is_some t.began ≡ false = ap is_some e in
        rw (after_end, none) (record { closed = e; low = h.0; ticks = h.1.ticks })
    go (Some from) e =
        let some : is_some t.began ≡ true = ap is_some e in
        let few : t.done + span_ticks (now - from) period ≤ 4294967296 * now = ended-few t from now period (h.1.began from e) h.0 h.1.ticks in
        rw (after_end, some) (record { closed = refl; low = omega arith; ticks = rw e few })

-- where it is disabled, its segments are sound
disabled : (t : TimerRegisters) (now : ℕ) → t.enabled ≡ false → Rests now t → Fits now t
disabled t now off h =
    let none : is_some t.began ≡ false = ap is_some h.closed in
    (h.low, record { running = none ∙ sym off; began = λ f q. absurd (let clash : None ≡ Some f = sym h.closed ∙ q in cc); ticks = h.ticks })

halted : (t : TimerRegisters) (now period : ℕ) → Fits now t → Fits now (timer_halt t now period)
halted t now period h =
    let k : Rests now (after_end t now period) = ended t now period h in
    disabled (timer_halt t now period) now refl (record { closed = k.closed; low = k.low; ticks = k.ticks })

-- a segment that begins in an enabled timer
begun : (t : TimerRegisters) (now : ℕ) → t.enabled ≡ true → t.last ≤ now → t.done ≤ 4294967296 * t.last → Fits now (after_begin t now)
begun t now on le few =
    let same : (from : ℕ) → ◌≡◌ {A = Option ℕ} (Some now) (Some from) → from ≡ now = λ from q. sym (same_Some now from q) in
    (omega arith, record { running = sym on; began = same; ticks = omega (arith, le, few) })

-- Update after Pre
followed : (t : TimerRegisters) (now : ℕ) → Rests now t → Fits now (timer_update t now)
followed t now h =
    either-fits t.enabled (after_begin t now) t now (λ on. begun t now on h.low h.ticks) (λ off. disabled t now off h)

updated : (t : TimerRegisters) (now : ℕ) → Fits now t → Fits now (timer_update t now)
updated t now h = either-fits t.enabled (after_begin t now) t now (λ on. begun t now on h.0 h.1.ticks) (λ off. h)

-- Enter empties the segments, and leaves the last moment
entered : (t : TimerRegisters) (now : ℕ) → Fits now t → Fits now (timer_enter t)
entered t now h = (h.0, record { running = refl; began = λ f q. cc; ticks = omega arith })

-- so does Wake
woken : (t : TimerRegisters) (now : ℕ) → Fits now t → Fits now (timer_wake t)
woken t now h = (h.0, record { running = refl; began = λ f q. cc; ticks = omega arith })

held_once : (t : TimerRegisters) (now : ℕ) → Fits now t → Fits now (timer_hold t)
held_once t now h = (h.0, record { running = h.1.running; began = h.1.began; ticks = h.1.ticks })

-- an act that is not Pre
abbrev StaysTimed : Act → Registers → Type 0
StaysTimed act r = (now period : ℕ) → act ≢ Pre → Timed now r → Timed now (body_act act now period r)

abbrev StayTimed : Act → Type 0
StayTimed act = AllBodies (StaysTimed act)

pub act-timed : (act : Act) (now period : ℕ) (r : Registers) → act ≢ Pre → Timed now r → Timed now (body_act act now period r)
act-timed act now period r = each_body (StaysTimed act) (each_act StayTimed (search (rules, halted, entered, woken, held_once, updated)) act) r now period

-- registers between Pre and Update
abbrev pub Paused : ℕ → Registers → Type 0
Paused now (timer t) = Rests now t
Paused now r = ⊤

pub pre-paused : (now period : ℕ) (r : Registers) → Timed now r → Paused now (body_act Pre now period r)
pre-paused now period = each_body (λ (r : Registers). Timed now r → Paused now (body_act Pre now period r)) (search (rules, ended))

pub paused-timed : (now period : ℕ) (r : Registers) → Paused now r → Timed now (body_act Update now period r)
paused-timed now period = each_body (λ (r : Registers). Paused now r → Timed now (body_act Update now period r)) (search (rules, followed))

-- a guest's write

control-fits : (t : TimerRegisters) (value now period : ℕ) → Fits now t → Fits now (control_write t value now period)
control-fits t value now period h =
    either-fits (eqb (value % 2) 1) _ _ now
    (λ rises. either-fits t.enabled t _ now (λ on. h) (λ off. begun (record t { enabled = true; done = 0 }) now refl h.0 (omega arith)))
    (λ falls. either-fits t.enabled (timer_halt t now period) t now (λ on. halted t now period h) (λ off. h))

reload-fits : (t : TimerRegisters) (value now : ℕ) → Fits now t → Fits now (reload_write t value now)
reload-fits t value now h =
    either-fits t.enabled (after_begin emptied now) emptied now (λ on. begun emptied now on h.0 (omega arith))
    (λ off. (h.0, record { running = h.1.running; began = h.1.began; ticks = omega arith }))
  where
    emptied : TimerRegisters
    emptied = record t { reload = value; done = 0 }

timer-fits : (t s : TimerRegisters) (reg value now period : ℕ) → timer_write t reg value now period ≡ Some s → Fits now t → Fits now s
timer-fits t s reg value now period e h = go (eqb reg 0) refl (eqb reg 1) refl (eqb reg 2 || eqb reg 3) refl
  where
    is : (x : TimerRegisters) → timer_write t reg value now period ≡ Some x → Fits now x → Fits now s
    is x q k = subst (Fits now) (same_Some x s (sym q ∙ e)) k

    go : (u : Bool) → eqb reg 0 ≡ u → (v : Bool) → eqb reg 1 ≡ v → (w : Bool) → (eqb reg 2 || eqb reg 3) ≡ w → Fits now s
    go true p v q w k = is (control_write t value now period) (rw (timer_write, p) refl) (control-fits t value now period h)
    go false p true q w k = is (reload_write t value now) (rw (timer_write, p, q) refl) (reload-fits t value now h)
    go false p false q true k = is t (rw (timer_write, p, q, k) refl) h
    go false p false q false k = absurd (let clash : None ≡ Some s = rw (timer_write, p, q, k) at e in cc)

timer-segmented : (t s : TimerRegisters) (reg value now period : ℕ) → timer_write t reg value now period ≡ Some s → t.last ≤ now → SegmentsFit t → SegmentsFit s
timer-segmented t s reg value now period e low h = (timer-fits t s reg value now period e (low, h)).1

-- no other body becomes a timer
pub write-segments : (r s : Registers) (effect : Effect) (reg value : ℕ) (ring : Bool) (now period : ℕ)
    → body_write r reg value ring now period ≡ Some (s, effect) → IsTimely now r → IsSegmented r → IsSegmented s
write-segments r s effect reg value ring now period =
    each_write (λ (x y : Registers). IsTimely now x → IsSegmented x → IsSegmented y) reg value ring now period (search (rules, timer-segmented)) r s effect

-- what is made

fresh-fits : (now : ℕ) → Fits now fresh_timer
fresh-fits now = (omega arith, record { running = refl; began = λ f q. cc; ticks = omega arith })

pub fresh-timed : (now : ℕ) (t : TypeId) → Timed now (fresh_registers t)
fresh-timed now = each (λ (t : TypeId). Timed now (fresh_registers t)) (search (rules, fresh-fits))
