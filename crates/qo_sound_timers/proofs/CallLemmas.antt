-- A timer's calls, and the registers that they leave.
use Rattle.std.proofs.Common.{◌≡◌, ◌≢◌, refl, ap, sym, subst, ◌∙◌, ℕ, ◌≤◌, Bool, true, false, not, ◌||◌, List, [], ◌∷◌, ◌++◌, Option, Some, None, filter_map, unwrap_or, append-nil, arith, rules}
use Rattle.std.specs.Bool.{⊤}
use Rattle.std.specs.List.{cons_option}
use Rattle.std.proofs.lemmas.Bool.{and_from, and_parts}
use Rattle.std.proofs.lemmas.List.Elements.{filter_map-append}
use Rattle.qo_values.specs.Registers.{Effect, body_act, body_write, Registers, TimerRegisters, fresh_registers, fresh_timer, timer}
use Rattle.qo_values.specs.declared.kinds.Act.{Act}
use Rattle.qo_values.specs.declared.kinds.Act.TheVariants.{Pre, Update}
use Rattle.qo_values.specs.declared.kinds.TypeId.{TypeId}
use Rattle.qo_values.proofs.EachLemmas.{AllBodies, each, each_act, each_body, each_write}
use Rattle.qo_values.specs.Timer.{timer_enter, timer_halt, timer_hold, timer_pre, timer_update, timer_wake, timer_write}
use Rattle.qo_timer.specs.Calls.{TimerCall, enter, hold, pre, update, halt, write, after_call, after_calls, is_pre, is_update, updates_follow}
use Rattle.qo_sound_timers.specs.TimerRuns.{IsLeftBy, RiseTo, moment_of}
use Rattle.qo_steps.proofs.RegisterStepsLemmas.{KeepsRegisters}

-- a call more

after-more : (t : TimerRegisters) (calls : List TimerCall) (call : TimerCall) → after_calls t (calls ++ call ∷ []) ≡ after_call (after_calls t calls) call
after-more t [] call = refl
after-more t (c ∷ calls) call = after-more (after_call t c) calls call

follow-more : (p : Bool) (calls more : List TimerCall) → ((q : Bool) → updates_follow q more ≡ true) → updates_follow p calls ≡ true
    → updates_follow p (calls ++ more) ≡ true
follow-more p [] more any h = any p
follow-more p (c ∷ calls) more any h =
    let parts = and_parts (not (is_update c) || p) (updates_follow (is_pre c) calls) h in
    and_from (not (is_update c) || p) (updates_follow (is_pre c) (calls ++ more)) parts.0 (follow-more (is_pre c) calls more any parts.1)

rise-later : (now later : ℕ) (ms : List ℕ) → now ≤ later → RiseTo now ms → RiseTo later ms
rise-later now later [] le h = tt
rise-later now later (m ∷ []) le h = (omega (arith, le, h.0), tt)
rise-later now later (m ∷ k ∷ ms) le h = (h.0, rise-later now later (k ∷ ms) le h.1)

rise-more : (now : ℕ) (ms : List ℕ) → RiseTo now ms → RiseTo now (ms ++ now ∷ [])
rise-more now [] h = (omega arith, tt)
rise-more now (m ∷ []) h = (h.0, (omega arith, tt))
rise-more now (m ∷ k ∷ ms) h = (h.0, rise-more now (k ∷ ms) h.1)

-- calls that are given no moment, or this one, go after others
abbrev IsNow : ℕ → Option ℕ → Type 0
IsNow now None = ⊤
IsNow now (Some m) = m ≡ now

rise-call : (now : ℕ) (calls : List TimerCall) (call : TimerCall) → IsNow now (moment_of call) → RiseTo now (filter_map moment_of calls)
    → RiseTo now (filter_map moment_of (calls ++ call ∷ []))
rise-call now calls call at h = rw (filter_map-append moment_of calls (call ∷ [])) (by (moment_of call) at)
  where
    by : (o : Option ℕ) → IsNow now o → RiseTo now (filter_map moment_of calls ++ cons_option o [])
    by None is = rw (append-nil (filter_map moment_of calls)) h
    by (Some m) is = rw is (rise-more now (filter_map moment_of calls) h)

-- registers as calls leave them
abbrev pub IsLeft : ℕ → Registers → Type 0
IsLeft now (timer t) = (calls : List TimerCall) × IsLeftBy now t calls
IsLeft now r = ⊤

abbrev IsPlain : TimerCall → Type 0
IsPlain call = is_update call ≡ false

left-more : (now : ℕ) (t : TimerRegisters) (call : TimerCall) → IsPlain call → IsNow now (moment_of call) → IsLeft now (timer t)
    → IsLeft now (timer (after_call t call))
left-more now t call plain at h = (
  h.0 ++ call ∷ [],
  record {
    left = ap (λ (s : TimerRegisters). after_call s call) h.1.left ∙ sym (after-more fresh_timer h.0 call);
    follow = follow-more false h.0 (call ∷ []) (λ q. rw plain refl) h.1.follow;
    rise = rise-call now h.0 call at h.1.rise;
  },
)

-- Pre and the Update that follows it
pub left-called : (now old : ℕ) (t : TimerRegisters) → IsLeft now (timer t) → IsLeft now (timer (after_call (after_call t (pre now old)) (update now)))
left-called now old t h = (
  (h.0 ++ pre now old ∷ []) ++ update now ∷ [],
  record {
    left =
        ap (λ (s : TimerRegisters). after_call (after_call s (pre now old)) (update now)) h.1.left
        ∙ ap (λ (s : TimerRegisters). after_call s (update now)) (sym (after-more fresh_timer h.0 (pre now old)))
        ∙ sym (after-more fresh_timer (h.0 ++ pre now old ∷ []) (update now));
    follow =
        subst (λ (calls : List TimerCall). updates_follow false calls ≡ true) (two h.0)
        (follow-more false h.0 (pre now old ∷ update now ∷ []) (λ q. refl) h.1.follow);
    rise = rise-call now (h.0 ++ pre now old ∷ []) (update now) refl (rise-call now h.0 (pre now old) refl h.1.rise);
  },
)
  where
    two : (calls : List TimerCall) → calls ++ pre now old ∷ update now ∷ [] ≡ (calls ++ pre now old ∷ []) ++ update now ∷ []
    two [] = refl
    two (c ∷ calls) = ap (λ (l : List TimerCall). c ∷ l) (two calls)

-- a later moment
timer-later : (now later : ℕ) (t : TimerRegisters) → now ≤ later → IsLeft now (timer t) → IsLeft later (timer t)
timer-later now later t le h =
    (h.0, record { left = h.1.left; follow = h.1.follow; rise = rise-later now later (filter_map moment_of h.0) le h.1.rise })

pub left-later : (now later : ℕ) (r : Registers) → now ≤ later → IsLeft now r → IsLeft later r
left-later now later = each_body (λ (r : Registers). now ≤ later → IsLeft now r → IsLeft later r) (search (rules, timer-later))

-- an act that is neither Pre nor Update

left-halt : (now period : ℕ) (t : TimerRegisters) → IsLeft now (timer t) → IsLeft now (timer (timer_halt t now period))
left-halt now period t h = left-more now t (halt now period) refl refl h

left-enter : (now : ℕ) (t : TimerRegisters) → IsLeft now (timer t) → IsLeft now (timer (timer_enter t))
left-enter now t h = left-more now t enter refl tt h

-- Wake is Enter, and then RELOAD is written as it was
left-wake : (now : ℕ) (t : TimerRegisters) → IsLeft now (timer t) → IsLeft now (timer (timer_wake t))
left-wake now t h = left-more now (timer_enter t) (write 1 t.reload now 0) refl refl (left-enter now t h)

left-hold : (now : ℕ) (t : TimerRegisters) → IsLeft now (timer t) → IsLeft now (timer (timer_hold t))
left-hold now t h = left-more now t hold refl tt h

abbrev StaysLeft : Act → Registers → Type 0
StaysLeft act r = (now period : ℕ) → act ≢ Pre → act ≢ Update → IsLeft now r → IsLeft now (body_act act now period r)

abbrev StayLeft : Act → Type 0
StayLeft act = AllBodies (StaysLeft act)

pub left-act : (act : Act) (now period : ℕ) (r : Registers) → act ≢ Pre → act ≢ Update → IsLeft now r → IsLeft now (body_act act now period r)
left-act act now period r = each_body (StaysLeft act) (each_act StayLeft (search (rules, left-halt, left-enter, left-wake, left-hold)) act) r now period

-- a guest's write; no other body becomes a timer

written-left : (t v : TimerRegisters) (reg value now period : ℕ) → timer_write t reg value now period ≡ Some v → IsLeft now (timer t) → IsLeft now (timer v)
written-left t v reg value now period q k =
    subst (λ (w : TimerRegisters). IsLeft now (timer w)) (ap (λ (o : Option TimerRegisters). unwrap_or o t) q)
    (left-more now t (write reg value now period) refl refl k)

pub left-write : (r s : Registers) (effect : Effect) (reg value : ℕ) (ring : Bool) (now period : ℕ)
    → body_write r reg value ring now period ≡ Some (s, effect) → IsLeft now r → IsLeft now s
left-write r s effect reg value ring now period =
    each_write (λ (x y : Registers). IsLeft now x → IsLeft now y) reg value ring now period (search (rules, written-left)) r s effect

-- what is made
fresh-left : (now : ℕ) → IsLeft now (timer fresh_timer)
fresh-left now = ([], record { left = refl; follow = refl; rise = tt })

pub left-fresh : (now : ℕ) (t : TypeId) → IsLeft now (fresh_registers t)
left-fresh now = each (λ (t : TypeId). IsLeft now (fresh_registers t)) (search (rules, fresh-left))

-- registers between Pre and Update
abbrev pub Paused : ℕ → Registers → Type 0
Paused now (timer t) = (old : ℕ) × (s : TimerRegisters) × IsLeft now (timer s) × (t ≡ after_call s (pre now old))
Paused now r = ⊤

timer-paused : (now old : ℕ) (t : TimerRegisters) → IsLeft now (timer t) → Paused now (timer (timer_pre t now old))
timer-paused now old t h = (old, t, h, refl)

left-paused : (now old : ℕ) (r : Registers) → IsLeft now r → Paused now (body_act Pre now old r)
left-paused now old = each_body (λ (r : Registers). IsLeft now r → Paused now (body_act Pre now old r)) (search (rules, timer-paused))

timer-left : (now : ℕ) (t : TimerRegisters) → Paused now (timer t) → IsLeft now (timer (timer_update t now))
timer-left now t h = subst (λ (u : TimerRegisters). IsLeft now (timer (after_call u (update now)))) (sym h.3) (left-called now h.0 h.1 h.2)

paused-left : (now new : ℕ) (r : Registers) → Paused now r → IsLeft now (body_act Update now new r)
paused-left now new = each_body (λ (r : Registers). Paused now r → IsLeft now (body_act Update now new r)) (search (rules, timer-left))

pub calls_keep : KeepsRegisters IsLeft Paused
calls_keep = record { fresh = left-fresh; act = left-act; pre = left-paused; update = paused-left; memory = λ now d. tt }
