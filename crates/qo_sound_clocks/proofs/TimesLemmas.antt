-- The law: no timer gets ahead of the virtual time.
use Rattle.std.proofs.Common.{rules, ◌≡◌, refl, sym, subst, ◌∙◌, ℕ, ◌≤◌, ◌%◌, ◌||◌, Bool, true, false, cond, eqb, Some, None, arith}
use Rattle.qo_model.proofs.Common.{AllByRecursion, Effect, body_act, body_write, Registers, TimerRegisters, fresh_registers, control_write, reload_write, timer_halt, timer_update, timer_write, Act, Pre, Update, TypeId, Board, Record, acted, opening_board, drop_slot, edit, with_dropped, types}
use Rattle.std.proofs.lemmas.Option.{same_Some}
use Rattle.qo_values.proofs.TimerLemmas.{end-timely}
use Rattle.qo_values.proofs.EachLemmas.{AllBodies, each, each_act, each_body, each_write}
use Rattle.qo_sound.proofs.SearchLemmas.{all-found}
use Rattle.qo_values.proofs.ListLemmas.{all-imply}
use Rattle.qo_sound.proofs.AdditionStepsLemmas.{KeepsEdits}
use Rattle.qo_sound.proofs.DetachmentStepsLemmas.{KeepsEnds, KeepsPins}
use Rattle.qo_steps.specs.Changes.{Changes}
use Rattle.qo_steps.proofs.RegisterStepsLemmas.{KeepsRegisters, acted-kept, edit-kept, finish-kept, registers-kept, slots-kept}
use Rattle.qo_steps.proofs.ReleasesLemmas.{after-by, release-each}
use Rattle.qo_sound_clocks.specs.SoundTimes.{IsTimely, SoundTimes}
use Rattle.qo_sound_clocks.specs.TimesKept.{TimesKeptLaw}

-- an object that is timely at a moment
abbrev Timely : ℕ → Record → Type 0
Timely now r = IsTimely now r.registers

-- segments that begin and end now

update-timely : (t : TimerRegisters) (now : ℕ) → t.last ≤ now → (timer_update t now).last ≤ now
update-timely t now le = go t.enabled refl
  where
    go : (u : Bool) → t.enabled ≡ u → (timer_update t now).last ≤ now
    go true e = rw (timer_update, e) (omega arith)
    go false e = rw (timer_update, e) le

-- an act
abbrev StaysTimely : Act → Registers → Type 0
StaysTimely act r = (now period : ℕ) → IsTimely now r → IsTimely now (body_act act now period r)

abbrev StayTimely : Act → Type 0
StayTimely act = AllBodies (StaysTimely act)

act-timely : (act : Act) (now period : ℕ) (r : Registers) → IsTimely now r → IsTimely now (body_act act now period r)
act-timely act now period r = each_body (StaysTimely act) (each_act StayTimely (search (rules, end-timely, update-timely)) act) r now period

-- a guest's write

either-timely : (u : Bool) (t s : TimerRegisters) (now : ℕ) → t.last ≤ now → s.last ≤ now → (cond u t s).last ≤ now
either-timely true t s now le also = le
either-timely false t s now le also = also

control-timely : (t : TimerRegisters) (value now period : ℕ) → t.last ≤ now → (control_write t value now period).last ≤ now
control-timely t value now period le =
    either-timely (eqb (value % 2) 1) _ _ now (either-timely t.enabled t _ now le (omega arith))
    (either-timely t.enabled (timer_halt t now period) t now (end-timely t now period le) le)

reload-timely : (t : TimerRegisters) (value now : ℕ) → t.last ≤ now → (reload_write t value now).last ≤ now
reload-timely t value now le = go t.enabled refl
  where
    go : (u : Bool) → t.enabled ≡ u → (reload_write t value now).last ≤ now
    go true e = rw (reload_write, e) (omega arith)
    go false e = rw (reload_write, e) le

timer-timely : (t s : TimerRegisters) (reg value now period : ℕ) → timer_write t reg value now period ≡ Some s → t.last ≤ now → s.last ≤ now
timer-timely t s reg value now period e le = go (eqb reg 0) refl (eqb reg 1) refl (eqb reg 2 || eqb reg 3) refl
  where
    is : (x : TimerRegisters) → timer_write t reg value now period ≡ Some x → x.last ≤ now → s.last ≤ now
    is x q low = subst (λ (y : TimerRegisters). y.last ≤ now) (same_Some x s (sym q ∙ e)) low

    go : (u : Bool) → eqb reg 0 ≡ u → (v : Bool) → eqb reg 1 ≡ v → (w : Bool) → (eqb reg 2 || eqb reg 3) ≡ w → s.last ≤ now
    go true p v q w k = is (control_write t value now period) (rw (timer_write, p) refl) (control-timely t value now period le)
    go false p true q w k = is (reload_write t value now) (rw (timer_write, p, q) refl) (reload-timely t value now le)
    go false p false q true k = is t (rw (timer_write, p, q, k) refl) le
    go false p false q false k = absurd (let clash : None ≡ Some s = rw (timer_write, p, q, k) at e in cc)

-- no other body becomes a timer
write-timely : (r s : Registers) (effect : Effect) (reg value : ℕ) (ring : Bool) (now period : ℕ)
    → body_write r reg value ring now period ≡ Some (s, effect) → IsTimely now r → IsTimely now s
write-timely r s effect reg value ring now period =
    each_write (λ (x y : Registers). IsTimely now x → IsTimely now y) reg value ring now period (search (rules, timer-timely)) r s effect

-- what is made is timely

fresh-timely : (now : ℕ) (t : TypeId) → IsTimely now (fresh_registers t)
fresh-timely now = each (λ (t : TypeId). IsTimely now (fresh_registers t)) (search rules)

-- every change of a board keeps it

timely_keep : KeepsRegisters IsTimely IsTimely
timely_keep =
    record {
      fresh = fresh-timely;
      act = λ act now period r other apart h. act-timely act now period r h;
      pre = λ now old r h. act-timely Pre now old r h;
      update = λ now new r h. act-timely Update now new r h;
      memory = λ now d. tt;
    }

pub edit-times : (n : ℕ) (change : Record → Record) (c : Board) → ((r : Record) → Timely c.now r → Timely c.now (change r)) → SoundTimes c
    → SoundTimes (edit n change c)
edit-times n change c keeps h = edit-kept IsTimely n change c keeps h

pub times-edits : KeepsEdits SoundTimes
times-edits = slots-kept IsTimely

pub times-pins : KeepsPins SoundTimes
times-pins pins c h = h

pub drop-times : (c : Board) (n i : ℕ) → SoundTimes c → SoundTimes (drop_slot c n i)
unfolding drop_slot
drop-times c n i h = times-edits n (with_dropped i) (λ r. refl) c h

pub times-ends : KeepsEnds SoundTimes
times-ends = after-by SoundTimes (release-each SoundTimes (λ n i c at h. drop-times c n i h) (λ n c free h. finish-kept IsTimely n c h))

acted-times : (act : Act) (n period : ℕ) (c : Board) → SoundTimes c → SoundTimes (acted act n period c)
acted-times act n period c h = acted-kept IsTimely act n period c (λ r k. act-timely act c.now period r k) h

opening-times : SoundTimes opening_board
unfolding opening_board types
opening-times = search rules

-- time that goes on

last-later : (now later : ℕ) (t : TimerRegisters) → now ≤ later → t.last ≤ now → t.last ≤ later
last-later now later t le h = omega (arith, le, h)

later-timely : (now later : ℕ) → now ≤ later → (r : Registers) → IsTimely now r → IsTimely later r
later-timely now later le r = each_body (λ (s : Registers). now ≤ later → IsTimely now s → IsTimely later s) (search (rules, last-later)) r le

beside-times : (b c : Board) → c.records ≡ b.records → b.now ≤ c.now → SoundTimes b → SoundTimes c
beside-times b c e le h =
    subst (AllByRecursion (Timely c.now)) (sym e) (all-imply (Timely b.now) (Timely c.now) (λ r k. later-timely b.now c.now le r.registers k) b.records h)

pub times_kept_lem : TimesKeptLaw
times_kept_lem =
    let kept : Changes (λ types b c. SoundTimes b → SoundTimes c) = registers-kept IsTimely IsTimely timely_keep in
    record {
      opening = opening-times;
      there = λ b n r e h. all-found (Timely b.now) n b.records h r e;
      beside = beside-times;
      attempt = kept.attempt;
      given_up = kept.given_up;
      cut = kept.cut;
      asked_for = kept.asked_for;
      refused_by = kept.refused_by;
      wrote = write-timely;
      acts = acted-times;
      held_so = λ b n kind. kept.held_so b n kind tt tt;
      released_so = λ b n. kept.released_so b n tt tt;
      pulsed = λ b n kind. kept.pulsed b n kind tt tt;
      set = kept.set;
      scaled = kept.scaled;
      change = kept.change;
      plugged = λ b a. kept.plugged b a tt;
      detached = λ b d. kept.detached b d tt tt;
      reset = λ b. kept.reset b tt;
    }
