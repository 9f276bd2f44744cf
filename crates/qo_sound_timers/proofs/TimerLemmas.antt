-- Over every run each timer is as its calls leave it.
use Rattle.std.proofs.Common.{◌≡◌, refl, sym, subst, rules, ℕ, ◌≤◌, false, List, Option, Some, None, is_some}
use Rattle.std.specs.Option.{option_map_or}
use Rattle.qo_values.specs.declared.births.TheConstants.{MACHINE_BIRTH}
use Rattle.qo_values.specs.declared.kinds.ResetKind.TheVariants.{Cold, Wakeup}
use Rattle.qo_values.proofs.ListLemmas.{all-imply}
use Rattle.qo_values.specs.Registers.{Effect, Registers, TimerRegisters, bare, timer}
use Rattle.qo_values.specs.Timer.{timer_ticks}
use Rattle.qo_model.specs.Board.{Board, Record, record_of}
use Rattle.qo_model.specs.Clocks.{device_period, div_of, mul_of}
use Rattle.qo_model.specs.Opening.{opening_board}
use Rattle.qo_model.specs.Types.{types}
use Rattle.qo_timer.proofs.Sums.{sum-after}
use Rattle.qo_timer.specs.Calls.{TimerCall}
use Rattle.qo_timer.specs.Segments.{marks}
use Rattle.qo_timer.specs.Sum.{total_ticks}
use Rattle.qo_sound.proofs.SearchLemmas.{all-found}
use Rattle.qo_sound_clocks.specs.RegisterWrites.{registers_set, with_registers}
use Rattle.qo_buses.specs.Rings.{claimed_ring}
use Rattle.qo_realize.proofs.RegisterWriteLemmas.{written-all}
use Rattle.qo_realize.specs.Registers.{registers_at, registers_written}
use Rattle.qo_realize.specs.Time.{at_time}
use Rattle.qo_machine.proofs.PreservationLemmas.{KeepsBoard, any-rings, keeps_commands, run_keeps}
use Rattle.qo_machine.specs.Machine.{opening}
use Rattle.qo_machine.specs.Runs.{Turn, state_after}
use Rattle.qo_sound_timers.proofs.CallLemmas.{IsLeft, Paused, calls_keep, left-later, left-write}
use Rattle.qo_steps.specs.Changes.{Changes}
use Rattle.qo_steps.proofs.RegisterStepsLemmas.{Each, edit-kept, registers-kept}
use Rattle.qo_sound_timers.specs.TimerRuns.{CountsBy, IsLeftBy, TimersInRuns}

-- each timer of a board is as its calls leave it
abbrev Left : Board → Type 0
Left = Each IsLeft

abbrev OnLeft : ℕ → Record → Type 0
OnLeft now r = IsLeft now r.registers

opening-left : Left opening_board
unfolding opening_board types
opening-left = search rules

found-left : (b : Board) (n : ℕ) → Left b → IsLeft b.now (registers_at b n)
found-left b n h = go (record_of b n) refl
  where
    go : (o : Option Record) → record_of b n ≡ o → IsLeft b.now (option_map_or (λ (r : Record). r.registers) o bare)
    go None e = tt
    go (Some r) e = all-found (OnLeft b.now) n b.records h r e

-- a guest's write to a register
written-left : (b : Board) (d reg value : ℕ) (registers : Registers) (e : Effect) → registers_written b d reg value ≡ Some (registers, e) → Left b
    → Left (registers_set b d registers)
written-left b d reg value registers e is h =
    edit-kept IsLeft d (with_registers registers) b
    (λ r k. left-write (registers_at b d) registers e reg value (is_some (claimed_ring b d)) b.now (device_period b d) is (found-left b d h)) h

timed-left : (b : Board) (now : ℕ) → b.now ≤ now → Left b → Left (at_time now b)
timed-left b now on h = all-imply (OnLeft b.now) (OnLeft now) (λ r k. left-later b.now now r.registers on k) b.records h

kept : Changes (λ types b c. Left b → Left c)
kept = registers-kept IsLeft Paused calls_keep

timers_kept : KeepsBoard Left
timers_kept =
    record {
      change = kept.change;
      set = λ b d c period fits is. kept.set b d c period is;
      multiplied = λ b d c mul fits is. kept.scaled b d c mul (div_of b c) is;
      divided = λ b d c div fits is. kept.scaled b d c (mul_of b c) div is;
      attempt = kept.attempt;
      plugged = λ b a. kept.plugged b a tt;
      cut = kept.cut;
      asked = kept.asked_for;
      completed = λ b at d is pending. kept.detached b d tt tt;
      refused = kept.refused_by;
      polled = λ b h. h;
      written = λ b d reg value c there is h.
          written-all Left b d reg value (λ registers e so. written-left b d reg value registers e so h) (λ x n id q. q)
          (λ x m on q. kept.pulsed x m Cold tt tt q) c is;
      rings = any-rings Left (λ b rings h. h);
      timed = λ b now on low h. timed-left b now on h;
      switched = λ b on h. h;
      held_so = λ b n kind is home deep. kept.held_so b n kind tt tt;
      released_so = λ b n is held. kept.released_so b n tt tt;
      reset = λ b. kept.reset b tt;
      wakes = λ b. kept.pulsed b MACHINE_BIRTH Wakeup tt tt;
    }

left-run : (turns : List Turn) → Left (state_after opening turns).board
left-run turns = run_keeps Left (keeps_commands Left timers_kept (λ b h. h)) opening turns opening-left

-- what such a timer counts
counted : (now : ℕ) (t : TimerRegisters) (calls : List TimerCall) → IsLeftBy now t calls → CountsBy t calls
counted now t calls h at period =
    subst (λ (s : TimerRegisters). timer_ticks s at period ≡ total_ticks (marks false calls) at period) (sym h.left) (sum-after calls at period h.follow)

pub timers_in_runs : TimersInRuns
timers_in_runs turns n t is =
    let b : Board = (state_after opening turns).board in
    let h : IsLeft b.now (timer t) = subst (IsLeft b.now) is (found-left b n (left-run turns)) in
    (h.0, h.1, counted b.now t h.0 h.1)
