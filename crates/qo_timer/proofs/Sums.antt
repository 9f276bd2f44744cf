-- That a timer's registers count the segments that its calls mark out.
use Rattle.std.proofs.Common.{◌≡◌, ℕ, ◌+◌, ◌-◌, ◌%◌, Bool, true, false, not, ◌&&◌, ◌||◌, cond, Option, Some, None, is_some, unwrap_or, List, [], ◌∷◌, ◌++◌, refl, ap, sym, ◌∙◌, arith, append_assoc}
use Rattle.std.specs.Prelude.{◌==◌, sum_by}
use Rattle.std.specs.List.{list_any}
use Rattle.std.specs.Option.{option_map_or}
use Rattle.std.proofs.lemmas.List.{append-nil}
use Rattle.std.proofs.lemmas.List.Sums.{sum_by_push}
use Rattle.std.proofs.lemmas.List.Folds.{list_any-append}
use Rattle.qo_values.specs.Registers.{TimerRegisters, fresh_timer}
use Rattle.qo_values.specs.Timer.{span_ticks, timer_ticks, is_open, after_end, after_begin, timer_pre, timer_update, timer_halt, control_write, reload_write}
use Rattle.qo_timer.specs.Calls.{TimerCall, enter, hold, exit, pre, update, halt, read, write, after_call, after_calls, is_pre, is_update, updates_follow}
use Rattle.qo_timer.specs.Segments.{Mark, empties, begins, ends, Segment, marks, call_marks, control_marks, reload_marks, enabled_after, segments, segment_from, is_emptying}
use Rattle.qo_timer.specs.Sum.{segment_ticks, total_ticks, LawSum}

-- an end after all marks ends the segment that is open
segment_from-ends : (from : ℕ) (ms : List Mark) (at old now period : ℕ) →
    segment_from from (ms ++ ends at old ∷ []) now period ≡ segment_from from ms at old
segment_from-ends from [] at old now period = refl
segment_from-ends from (ends a b ∷ ms) at old now period = refl
segment_from-ends from (begins a ∷ ms) at old now period = segment_from-ends from ms at old now period
segment_from-ends from (empties ∷ ms) at old now period = segment_from-ends from ms at old now period

-- a begin after all marks ends no segment
segment_from-begins : (from : ℕ) (ms : List Mark) (at now period : ℕ) →
    segment_from from (ms ++ begins at ∷ []) now period ≡ segment_from from ms now period
segment_from-begins from [] at now period = refl
segment_from-begins from (ends a b ∷ ms) at now period = refl
segment_from-begins from (begins a ∷ ms) at now period = segment_from-begins from ms at now period
segment_from-begins from (empties ∷ ms) at now period = segment_from-begins from ms at now period

-- no mark but an emptying is one
list_any-push : (ms : List Mark) (m : Mark) → is_emptying m ≡ false →
    list_any is_emptying (ms ++ m ∷ []) ≡ list_any is_emptying ms
list_any-push [] m h = grind (arith, h)
list_any-push (x ∷ ms) m h = grind (arith, list_any-push ms m h)

-- an append after a choice
cond-append : (b : Bool) (xs ys zs : List Segment) → cond b (xs ++ zs) (ys ++ zs) ≡ cond b xs ys ++ zs
cond-append true xs ys zs = refl
cond-append false xs ys zs = refl

-- a choice that is made
cond-or-true : (b : Bool) (ys : List Segment) → cond (b || true) [] ys ≡ []
cond-or-true true ys = refl
cond-or-true false ys = refl

-- an end after all marks adds no segment, and ends the open one
segments-ends : (ms : List Mark) (at old now period : ℕ) →
    segments (ms ++ ends at old ∷ []) now period ≡ segments ms at old
segments-ends [] at old now period = refl
segments-ends (ends a b ∷ ms) at old now period = segments-ends ms at old now period
segments-ends (begins a ∷ ms) at old now period =
    rw (list_any-push ms (ends at old) refl, segments-ends ms at old now period, segment_from-ends a ms at old now period)
segments-ends (empties ∷ ms) at old now period = segments-ends ms at old now period

-- a begin after all marks adds a segment that is open
segments-begins : (ms : List Mark) (at now period : ℕ) →
    segments (ms ++ begins at ∷ []) now period ≡ segments ms now period ++ segment_from at [] now period ∷ []
segments-begins [] at now period = refl
segments-begins (ends a b ∷ ms) at now period = segments-begins ms at now period
segments-begins (begins a ∷ ms) at now period =
    rw (list_any-push ms (begins at) refl, segments-begins ms at now period, segment_from-begins a ms at now period)
    (cond-append (list_any is_emptying ms) _ _ _)
segments-begins (empties ∷ ms) at now period = segments-begins ms at now period

-- an emptying after all marks leaves no segment
segments-empties : (ms : List Mark) (now period : ℕ) → segments (ms ++ empties ∷ []) now period ≡ []
segments-empties [] now period = refl
segments-empties (ends a b ∷ ms) now period = segments-empties ms now period
segments-empties (begins a ∷ ms) now period =
    rw (list_any-append is_emptying ms (empties ∷ []), segments-empties ms now period)
    (cond-or-true (list_any is_emptying ms) _)
segments-empties (empties ∷ ms) now period = segments-empties ms now period

-- what is read where nothing is
none-given : (f : ℕ → ℕ) (o : Option ℕ) (d : ℕ) → is_some o ≡ false → option_map_or f o d ≡ d
none-given f None d h = refl
none-given f (Some x) d h = absurd (cc)

-- where no segment is open, the ticks are those of the ended ones
closed-ticks : (t : TimerRegisters) (now period : ℕ) → is_open t ≡ false → timer_ticks t now period ≡ t.done
closed-ticks t now period h = none-given (λ from. t.done + span_ticks (now - from) period) t.began t.done h

-- no segment is open after an end
closed-after-end : (t : TimerRegisters) (now period : ℕ) (b : Bool) → is_open t ≡ b →
    is_open (after_end t now period) ≡ false
closed-after-end t now period true h = rw h refl
closed-after-end t now period false h = rw h h

-- an end keeps the ticks so far
done-after-end : (t : TimerRegisters) (now period : ℕ) (b : Bool) → is_open t ≡ b →
    (after_end t now period).done ≡ timer_ticks t now period
done-after-end t now period true h = rw h refl
done-after-end t now period false h = rw h (sym (closed-ticks t now period h))

-- the registers count the segments that marks leave
abbrev Agree : TimerRegisters → List Mark → Type 0
Agree t ms = (now period : ℕ) → timer_ticks t now period ≡ total_ticks ms now period

-- a choice of registers that is made
agree-first : (b : Bool) (t u : TimerRegisters) (ms : List Mark) → b ≡ true → Agree t ms → Agree (cond b t u) ms
agree-first true t u ms e h = h
agree-first false t u ms e h = absurd (cc)

agree-second : (b : Bool) (t u : TimerRegisters) (ms : List Mark) → b ≡ false → Agree u ms → Agree (cond b t u) ms
agree-second true t u ms e h = absurd (cc)
agree-second false t u ms e h = h

-- the open segment ends
agree-ends : (t : TimerRegisters) (ms : List Mark) (at old : ℕ) →
    Agree t ms → Agree (after_end t at old) (ms ++ ends at old ∷ [])
agree-ends t ms at old h now period =
    let made : total_ticks (ms ++ ends at old ∷ []) now period ≡ total_ticks ms at old =
    ap (sum_by segment_ticks) (segments-ends ms at old now period) in
    closed-ticks (after_end t at old) now period (closed-after-end t at old (is_open t) refl)
    ∙ done-after-end t at old (is_open t) refl ∙ h at old ∙ sym made

-- a segment begins where none is open
agree-begins : (t : TimerRegisters) (ms : List Mark) (at : ℕ) →
    is_open t ≡ false → Agree t ms → Agree (after_begin t at) (ms ++ begins at ∷ [])
agree-begins t ms at closed h now period =
    let made : total_ticks (ms ++ begins at ∷ []) now period ≡ total_ticks ms now period + span_ticks (now - at) period =
    ap (sum_by segment_ticks) (segments-begins ms at now period)
    ∙ sum_by_push segment_ticks (segments ms now period) (segment_from at [] now period) in
    let before : t.done ≡ total_ticks ms now period = sym (closed-ticks t now period closed) ∙ h now period in
    rw (made, before) refl

-- the segments are emptied, and no segment is open
agree-empties : (t : TimerRegisters) (ms : List Mark) →
    t.done ≡ 0 → is_open t ≡ false → Agree t (ms ++ empties ∷ [])
agree-empties t ms none closed now period =
    closed-ticks t now period closed ∙ none ∙ sym (ap (sum_by segment_ticks) (segments-empties ms now period))

-- the segments are emptied, and one begins
agree-restarts : (t : TimerRegisters) (ms : List Mark) (at : ℕ) →
    t.done ≡ 0 → Agree (after_begin t at) (ms ++ empties ∷ begins at ∷ [])
agree-restarts t ms at none now period =
    let made : segments (ms ++ empties ∷ begins at ∷ []) now period ≡ segment_from at [] now period ∷ [] =
    rw (← append_assoc ms (empties ∷ []) (begins at ∷ []), segments-begins (ms ++ empties ∷ []) at now period, segments-empties ms now period) refl in
    rw none (sym (ap (sum_by segment_ticks) made))

-- the open segment ends, and the timer is disabled
agree-halts : (t : TimerRegisters) (ms : List Mark) (at old : ℕ) →
    Agree t ms → Agree (timer_halt t at old) (ms ++ ends at old ∷ [])
agree-halts t ms at old h = agree-ends t ms at old h

-- nothing happens to the segments
agree-stays : (t : TimerRegisters) (ms : List Mark) → Agree t ms → Agree t (ms ++ [])
agree-stays t ms h = rw (append-nil ms) h

-- no segment of a disabled timer is open
abbrev Tidy : TimerRegisters → Type 0
Tidy t = t.enabled ≡ false → is_open t ≡ false

pre-agrees : (t : TimerRegisters) (ms : List Mark) (at old : ℕ) (enabled : Bool) → t.enabled ≡ enabled → Tidy t →
    Agree t ms → Agree (timer_pre t at old) (ms ++ call_marks enabled (pre at old))
pre-agrees t ms at old true on tidy h = agree-ends t ms at old h
pre-agrees t ms at old false off tidy h =
    agree-second (is_open t) _ t (ms ++ []) (tidy off) (agree-stays t ms h)

update-agrees : (t : TimerRegisters) (ms : List Mark) (at : ℕ) (enabled : Bool) → t.enabled ≡ enabled →
    is_open t ≡ false → Agree t ms → Agree (timer_update t at) (ms ++ call_marks enabled (update at))
update-agrees t ms at true on closed h =
    agree-first t.enabled (after_begin t at) t (ms ++ begins at ∷ []) on (agree-begins t ms at closed h)
update-agrees t ms at false off closed h =
    agree-second t.enabled (after_begin t at) t (ms ++ []) off (agree-stays t ms h)

halt-agrees : (t : TimerRegisters) (ms : List Mark) (at period : ℕ) (enabled : Bool) → t.enabled ≡ enabled → Tidy t →
    Agree t ms → Agree (timer_halt t at period) (ms ++ call_marks enabled (halt at period))
halt-agrees t ms at period true on tidy h = agree-halts t ms at period h
halt-agrees t ms at period false off tidy h = λ now later.
    let closed : is_open t ≡ false = tidy off in
    closed-ticks (after_end t at period) now later (closed-after-end t at period false closed) ∙ done-after-end t at period false closed ∙ closed-ticks t
    at period closed ∙ sym (closed-ticks t now later closed)
    ∙ agree-stays t ms h now later

control-agrees : (t : TimerRegisters) (ms : List Mark) (at period : ℕ) (enabled bit : Bool) → t.enabled ≡ enabled →
    Agree t ms →
    Agree
    (cond bit (cond t.enabled t (after_begin (record t { enabled = true; done = 0 }) at)) (cond t.enabled (timer_halt t at period) t))
    (ms ++ control_marks enabled bit at period)
control-agrees t ms at period true true on h = agree-first t.enabled t _ (ms ++ []) on (agree-stays t ms h)
control-agrees t ms at period true false on h =
    agree-first t.enabled (timer_halt t at period) t (ms ++ ends at period ∷ []) on (agree-halts t ms at period h)
control-agrees t ms at period false true off h =
    agree-second t.enabled t (after_begin (record t { enabled = true; done = 0 }) at) (ms ++ empties ∷ begins at ∷ []) off
    (agree-restarts (record t { enabled = true; done = 0 }) ms at refl)
control-agrees t ms at period false false off h = agree-second t.enabled _ t (ms ++ []) off (agree-stays t ms h)

reload-agrees : (t : TimerRegisters) (ms : List Mark) (value at : ℕ) (enabled : Bool) → t.enabled ≡ enabled → Tidy t →
    Agree (reload_write t value at) (ms ++ reload_marks enabled at)
reload-agrees t ms value at true on tidy =
    let emptied : TimerRegisters = record t { reload = value; done = 0 } in
    agree-first t.enabled (after_begin emptied at) emptied (ms ++ empties ∷ begins at ∷ []) on
    (agree-restarts emptied ms at refl)
reload-agrees t ms value at false off tidy =
    let emptied : TimerRegisters = record t { reload = value; done = 0 } in
    agree-second t.enabled (after_begin emptied at) emptied (ms ++ empties ∷ []) off
    (agree-empties emptied ms refl (tidy off))

-- a write, by the register
write-agrees : (t u v : TimerRegisters) (ms : List Mark) (us vs : List Mark) (control reload other : Bool) →
    Agree t ms → Agree u (ms ++ us) → Agree v (ms ++ vs) →
    Agree
    (unwrap_or (cond control (Some u) (cond reload (Some v) (cond other (Some t) None))) t)
    (ms ++ cond control us (cond reload vs []))
write-agrees t u v ms us vs true reload other h hu hv = hu
write-agrees t u v ms us vs false true other h hu hv = hv
write-agrees t u v ms us vs false false true h hu hv = agree-stays t ms h
write-agrees t u v ms us vs false false false h hu hv = agree-stays t ms h

-- each call does to the ticks what its marks do to the segments
call-agrees : (t : TimerRegisters) (ms : List Mark) (call : TimerCall) →
    (is_update call ≡ true → is_open t ≡ false) → Tidy t →
    Agree t ms → Agree (after_call t call) (ms ++ call_marks t.enabled call)
call-agrees t ms enter closed tidy h = agree-empties (after_call t enter) ms refl refl
call-agrees t ms hold closed tidy h = agree-stays (after_call t hold) ms h
call-agrees t ms exit closed tidy h = agree-stays t ms h
call-agrees t ms (pre at old) closed tidy h = pre-agrees t ms at old t.enabled refl tidy h
call-agrees t ms (update at) closed tidy h = update-agrees t ms at t.enabled refl (closed refl) h
call-agrees t ms (halt at period) closed tidy h = halt-agrees t ms at period t.enabled refl tidy h
call-agrees t ms (read reg at period) closed tidy h = agree-stays t ms h
call-agrees t ms (write reg value at period) closed tidy h =
    write-agrees t (control_write t value at period) (reload_write t value at) ms
    (control_marks t.enabled (value % 2 == 1) at period) (reload_marks t.enabled at)
    (reg == 0) (reg == 1) (reg == 2 || reg == 3) h
    (control-agrees t ms at period t.enabled (value % 2 == 1) refl h)
    (reload-agrees t ms value at t.enabled refl tidy)

-- a choice of registers that is made
tidy-first : (b : Bool) (t u : TimerRegisters) → b ≡ true → Tidy t → Tidy (cond b t u)
tidy-first true t u e h = h
tidy-first false t u e h = absurd (cc)

tidy-second : (b : Bool) (t u : TimerRegisters) → b ≡ false → Tidy u → Tidy (cond b t u)
tidy-second true t u e h = absurd (cc)
tidy-second false t u e h = h

-- after a halt no segment is open
halt-tidies : (t : TimerRegisters) (at period : ℕ) → Tidy (timer_halt t at period)
halt-tidies t at period off = closed-after-end t at period (is_open t) refl

update-tidies : (t : TimerRegisters) (at : ℕ) (enabled : Bool) → t.enabled ≡ enabled → Tidy t → Tidy (timer_update t at)
update-tidies t at true on tidy = tidy-first t.enabled (after_begin t at) t on (λ off. absurd (cc))
update-tidies t at false off tidy = tidy-second t.enabled (after_begin t at) t off tidy

control-tidies : (t : TimerRegisters) (at period : ℕ) (enabled bit : Bool) → t.enabled ≡ enabled → Tidy t →
    Tidy (cond bit (cond t.enabled t (after_begin (record t { enabled = true; done = 0 }) at)) (cond t.enabled (timer_halt t at period) t))
control-tidies t at period true true on tidy = tidy-first t.enabled t _ on tidy
control-tidies t at period true false on tidy = tidy-first t.enabled (timer_halt t at period) t on (halt-tidies t at period)
control-tidies t at period false true off tidy = tidy-second t.enabled t _ off (λ raised. absurd (cc))
control-tidies t at period false false off tidy = tidy-second t.enabled _ t off tidy

reload-tidies : (t : TimerRegisters) (value at : ℕ) (enabled : Bool) → t.enabled ≡ enabled → Tidy t → Tidy (reload_write t value at)
reload-tidies t value at true on tidy =
    let emptied : TimerRegisters = record t { reload = value; done = 0 } in
    tidy-first t.enabled (after_begin emptied at) emptied on (λ off. absurd (cc))
reload-tidies t value at false off tidy =
    let emptied : TimerRegisters = record t { reload = value; done = 0 } in
    tidy-second t.enabled (after_begin emptied at) emptied off tidy

write-tidies : (t u v : TimerRegisters) (control reload other : Bool) → Tidy t → Tidy u → Tidy v →
    Tidy (unwrap_or (cond control (Some u) (cond reload (Some v) (cond other (Some t) None))) t)
write-tidies t u v true reload other ht hu hv = hu
write-tidies t u v false true other ht hu hv = hv
write-tidies t u v false false true ht hu hv = ht
write-tidies t u v false false false ht hu hv = ht

-- each call keeps it so
call-tidies : (t : TimerRegisters) (call : TimerCall) → Tidy t → Tidy (after_call t call)
call-tidies t enter tidy = λ off. refl
call-tidies t hold tidy = tidy
call-tidies t exit tidy = tidy
call-tidies t (pre at old) tidy = λ off. closed-after-end t at old (is_open t) refl
call-tidies t (update at) tidy = update-tidies t at t.enabled refl tidy
call-tidies t (halt at period) tidy = halt-tidies t at period
call-tidies t (read reg at period) tidy = tidy
call-tidies t (write reg value at period) tidy =
    write-tidies t (control_write t value at period) (reload_write t value at) (reg == 0) (reg == 1) (reg == 2 || reg == 3) tidy
    (control-tidies t at period t.enabled (value % 2 == 1) refl tidy) (reload-tidies t value at t.enabled refl tidy)

-- whether a timer is enabled after a write, by the register
write-enables : (t u v : TimerRegisters) (bit control reload other : Bool) →
    u.enabled ≡ bit → v.enabled ≡ t.enabled →
    (unwrap_or (cond control (Some u) (cond reload (Some v) (cond other (Some t) None))) t).enabled ≡ cond control bit t.enabled
write-enables t u v bit true reload other hu hv = hu
write-enables t u v bit false true other hu hv = hv
write-enables t u v bit false false true hu hv = refl
write-enables t u v bit false false false hu hv = refl

control-enables : (t : TimerRegisters) (at period : ℕ) (enabled bit : Bool) → t.enabled ≡ enabled →
    (cond bit (cond t.enabled t (after_begin (record t { enabled = true; done = 0 }) at)) (cond t.enabled (timer_halt t at period) t)).enabled ≡ bit
control-enables t at period true true e = rw e refl
control-enables t at period true false e = rw e refl
control-enables t at period false true e = rw e refl
control-enables t at period false false e = rw e refl

reload-enables : (t : TimerRegisters) (value at : ℕ) (enabled : Bool) → t.enabled ≡ enabled →
    (reload_write t value at).enabled ≡ t.enabled
reload-enables t value at true e = rw e refl
reload-enables t value at false e = rw e refl

pre-enables : (t : TimerRegisters) (at old : ℕ) (opened : Bool) → is_open t ≡ opened →
    (timer_pre t at old).enabled ≡ t.enabled
pre-enables t at old true e = rw e refl
pre-enables t at old false e = rw e refl

update-enables : (t : TimerRegisters) (at : ℕ) (enabled : Bool) → t.enabled ≡ enabled →
    (timer_update t at).enabled ≡ t.enabled
update-enables t at true e = rw e refl
update-enables t at false e = rw e refl

-- a call leaves the timer enabled or not as the marks have it
call-enables : (t : TimerRegisters) (call : TimerCall) → (after_call t call).enabled ≡ enabled_after t.enabled call
call-enables t enter = refl
call-enables t hold = refl
call-enables t exit = refl
call-enables t (pre at old) = pre-enables t at old (is_open t) refl
call-enables t (update at) = update-enables t at t.enabled refl
call-enables t (halt at period) = refl
call-enables t (read reg at period) = refl
call-enables t (write reg value at period) =
    write-enables t (control_write t value at period) (reload_write t value at) (value % 2 == 1)
    (reg == 0) (reg == 1) (reg == 2 || reg == 3)
    (control-enables t at period t.enabled (value % 2 == 1) refl) (reload-enables t value at t.enabled refl)

-- no segment is open after a Pre
call-closes : (t : TimerRegisters) (call : TimerCall) → is_pre call ≡ true → is_open (after_call t call) ≡ false
call-closes t (pre at old) h = closed-after-end t at old (is_open t) refl
call-closes t enter h = refl
call-closes t hold h = absurd (cc)
call-closes t exit h = absurd (cc)
call-closes t (update at) h = absurd (cc)
call-closes t (halt at period) h = absurd (cc)
call-closes t (read reg at period) h = absurd (cc)
call-closes t (write reg value at period) h = absurd (cc)

-- what the test of the order says of the first call and of the others
first-follows : (updating following rest : Bool) → (not updating || following) && rest ≡ true → updating ≡ true → following ≡ true
first-follows true true rest e u = refl
first-follows true false rest e u = e
first-follows false following rest e u = absurd (cc)

others-follow : (first rest : Bool) → first && rest ≡ true → rest ≡ true
others-follow true rest e = e
others-follow false rest e = absurd (cc)

-- all calls together
calls-agree : (t : TimerRegisters) (ms : List Mark) (following : Bool) (calls : List TimerCall) →
    (following ≡ true → is_open t ≡ false) → updates_follow following calls ≡ true → Tidy t →
    Agree t ms → Agree (after_calls t calls) (ms ++ marks t.enabled calls)
calls-agree t ms following [] closed follows tidy h = agree-stays t ms h
calls-agree t ms following (call ∷ calls) closed follows tidy h =
    let after : Agree (after_calls (after_call t call) calls) ((ms ++ call_marks t.enabled call) ++ marks (after_call t call).enabled calls) =
    calls-agree (after_call t call) (ms ++ call_marks t.enabled call) (is_pre call) calls
    (call-closes t call) (others-follow (not (is_update call) || following) (updates_follow (is_pre call) calls) follows) (call-tidies t call tidy)
    (call-agrees t ms call (λ u. closed (first-follows (is_update call) following (updates_follow (is_pre call) calls) follows u)) tidy h) in
    rw (← append_assoc ms (call_marks t.enabled call) (marks (enabled_after t.enabled call) calls), ← call-enables t call) after

pub sum-after : LawSum
sum-after calls now period h = calls-agree fresh_timer [] false calls (λ e. absurd (cc)) h (λ off. refl) (λ _ _. refl) now period
