-- The law: runs with writes of clocks and time that goes on stay sound.
use Rattle.std.proofs.Common.{◌≡◌, refl, ℕ, ◌+◌, Bool, true, false, List, [], ◌∷◌, Result, Ok, Err, arith, ◌<◌, ◌^◌}
use Rattle.qo_model.proofs.Common.{nat_lt, Code, Board, Notice, clock_scaled, clock_set, after_write, refused, opening_board, cut_attempt}
use Rattle.std.proofs.lemmas.Bool.Decides.{nat_tests}
use Rattle.qo_model.specs.Board.{is_pending}
use Rattle.qo_sound_devices.specs.DeviceRuns.{DeviceStep, commands, adds, cuts, asks, refuses, lets_go, reads, acts, holds, releases, resets, sends, notice_read, stepped}
use Rattle.qo_sound_devices.specs.SoundDevices.{SoundDevices}
use Rattle.qo_sound_devices.proofs.DevicesLawLemmas.{devices_kept_lem, stepped-below}
use Rattle.qo_sound_clocks.specs.ClockRuns.{ClockRunsLaw, ClockStep, goes, passes, scales, sets, after_clock_steps, clock_stepped, SoundRun}
use Rattle.qo_sound_clocks.specs.SoundClocks.{SoundClocks}
use Rattle.qo_sound_clocks.specs.SoundNumbers.{SoundNumbers}
use Rattle.qo_sound_clocks.specs.SoundTimes.{SoundTimes}
use Rattle.qo_sound_clocks.proofs.WriteLawLemmas.{writes_keep_lem}
use Rattle.qo_sound_clocks.proofs.LawLemmas.{clocks_kept_lem}
use Rattle.qo_sound_clocks.proofs.NumbersLemmas.{numbers_kept_lem}
use Rattle.qo_sound_clocks.proofs.TimesLemmas.{times_kept_lem}

clocks-step : (b : Board) (step : DeviceStep) → SoundDevices b → SoundClocks b → SoundClocks (stepped b step)
clocks-step b (commands change) d h = clocks_kept_lem.change b change d.tree h
clocks-step b (adds a) d h = clocks_kept_lem.plugged b a d.tree h
clocks-step b (cuts t i joined) d h = clocks_kept_lem.cut b t i joined h
clocks-step b (asks id) d h = clocks_kept_lem.asked_for b id h
clocks-step b (refuses n) d h = clocks_kept_lem.refused_by b n h
clocks-step b (lets_go n) d h = go (is_pending b n) refl
  where
    go : (t : Bool) → is_pending b n ≡ t → SoundClocks (stepped b (lets_go n))
    go true e = rw (stepped, e) (clocks_kept_lem.detached b n d.tree h)
    go false e = rw (stepped, e) h
clocks-step b reads d h = go b.notices refl
  where
    go : (xs : List Notice) → b.notices ≡ xs → SoundClocks (notice_read b)
    go [] e = rw (notice_read, e) h
    go (notice ∷ others) e = rw (notice_read, e) (clocks_kept_lem.beside b _ refl h)
clocks-step b (acts act n period) d h = clocks_kept_lem.acts act n period b h
clocks-step b (holds n kind) d h = clocks_kept_lem.held_so b n kind h
clocks-step b (releases n) d h = clocks_kept_lem.released_so b n h
clocks-step b resets d h = clocks_kept_lem.reset b d.tree h
clocks-step b sends d h = clocks_kept_lem.beside b _ refl h

numbers-step : (b : Board) (step : DeviceStep) → SoundDevices b → SoundNumbers b → SoundNumbers (stepped b step)
numbers-step b (commands change) d h = numbers_kept_lem.change b change d.tree h
numbers-step b (adds a) d h = numbers_kept_lem.plugged b a d.tree h
numbers-step b (cuts t i joined) d h = numbers_kept_lem.beside b (cut_attempt b t i joined) refl h
numbers-step b (asks id) d h = numbers_kept_lem.asked_for b id h
numbers-step b (refuses n) d h = numbers_kept_lem.beside b (refused b n) refl h
numbers-step b (lets_go n) d h = go (is_pending b n) refl
  where
    go : (t : Bool) → is_pending b n ≡ t → SoundNumbers (stepped b (lets_go n))
    go true e = rw (stepped, e) (numbers_kept_lem.detached b n d.tree h)
    go false e = rw (stepped, e) h
numbers-step b reads d h = go b.notices refl
  where
    go : (xs : List Notice) → b.notices ≡ xs → SoundNumbers (notice_read b)
    go [] e = rw (notice_read, e) h
    go (notice ∷ others) e = rw (notice_read, e) (numbers_kept_lem.beside b _ refl h)
numbers-step b (acts act n period) d h = numbers_kept_lem.acts act n period b h
numbers-step b (holds n kind) d h = numbers_kept_lem.held_so b n kind h
numbers-step b (releases n) d h = numbers_kept_lem.released_so b n h
numbers-step b resets d h = numbers_kept_lem.reset b d.tree h
numbers-step b sends d h = numbers_kept_lem.beside b (record b { events = [] }) refl h

times-step : (b : Board) (step : DeviceStep) → SoundTimes b → SoundTimes (stepped b step)
times-step b (commands change) h = times_kept_lem.change b change h
times-step b (adds a) h = times_kept_lem.plugged b a h
times-step b (cuts t i joined) h = times_kept_lem.cut b t i joined h
times-step b (asks id) h = times_kept_lem.asked_for b id h
times-step b (refuses n) h = times_kept_lem.refused_by b n h
times-step b (lets_go n) h = go (is_pending b n) refl
  where
    go : (t : Bool) → is_pending b n ≡ t → SoundTimes (stepped b (lets_go n))
    go true e = rw (stepped, e) (times_kept_lem.detached b n h)
    go false e = rw (stepped, e) h
times-step b reads h = go b.notices refl
  where
    go : (xs : List Notice) → b.notices ≡ xs → SoundTimes (notice_read b)
    go [] e = rw (notice_read, e) h
    go (notice ∷ others) e = rw (notice_read, e) h
times-step b (acts act n period) h = times_kept_lem.acts act n period b h
times-step b (holds n kind) h = times_kept_lem.held_so b n kind h
times-step b (releases n) h = times_kept_lem.released_so b n h
times-step b resets h = times_kept_lem.reset b h
times-step b sends h = h

below : (m n : ℕ) → nat_lt m n ≡ true → m < n
below m n e = grind (arith, nat_tests, e)

set-run : (b : Board) (c period : ℕ) → period < 2 ^ 64 → (r : Result Board Code) → clock_set b c period ≡ r → SoundRun b → SoundRun (after_write b r)
set-run b c period wide (Err code) e h = h
set-run b c period wide (Ok d) e h =
    record {
      devices = writes_keep_lem.set_devices b d c period e h.devices;
      clocks = clocks_kept_lem.set b d c period e h.clocks;
      numbers = numbers_kept_lem.set b d c period wide e h.numbers;
      times = times_kept_lem.set b d c period e h.times;
    }

scaled-run : (b : Board) (c mul div : ℕ) → mul < 2 ^ 32 → div < 2 ^ 32 → (r : Result Board Code) → clock_scaled b c mul div ≡ r → SoundRun b
    → SoundRun (after_write b r)
scaled-run b c mul div wide also (Err code) e h = h
scaled-run b c mul div wide also (Ok d) e h =
    record {
      devices = writes_keep_lem.scaled_devices b d c mul div e h.devices;
      clocks = clocks_kept_lem.scaled b d c mul div e h.clocks;
      numbers = numbers_kept_lem.scaled b d c mul div wide also e h.numbers;
      times = times_kept_lem.scaled b d c mul div e h.times;
    }

step-run : (b : Board) (step : ClockStep) → SoundRun b → SoundRun (clock_stepped b step)
step-run b (goes step) h =
    record {
      devices = stepped-below b step h.devices;
      clocks = clocks-step b step h.devices h.clocks;
      numbers = numbers-step b step h.devices h.numbers;
      times = times-step b step h.times;
    }
step-run b (sets c period) h = go (nat_lt period (2 ^ 64)) refl
  where
    go : (t : Bool) → nat_lt period (2 ^ 64) ≡ t → SoundRun (clock_stepped b (sets c period))
    go true e = rw (clock_stepped, e) (set-run b c period (below period (2 ^ 64) e) (clock_set b c period) refl h)
    go false e = rw (clock_stepped, e) h
step-run b (scales c mul div) h = go (nat_lt mul (2 ^ 32)) refl (nat_lt div (2 ^ 32)) refl
  where
    go : (t : Bool) → nat_lt mul (2 ^ 32) ≡ t → (u : Bool) → nat_lt div (2 ^ 32) ≡ u → SoundRun (clock_stepped b (scales c mul div))
    go true e true f =
        rw (clock_stepped, e, f)
        (scaled-run b c mul div (below mul (2 ^ 32) e) (below div (2 ^ 32) f) (clock_scaled b c mul div) refl h)
    go true e false f = rw (clock_stepped, e, f) h
    go false e u f = rw (clock_stepped, e) h
step-run b (passes span) h =
    let later : Board = record b { now = b.now + span } in
    record {
      devices = devices_kept_lem.beside b later refl refl refl refl refl refl (omega arith) h.devices;
      clocks = clocks_kept_lem.beside b later refl h.clocks;
      numbers = numbers_kept_lem.beside b later refl h.numbers;
      times = times_kept_lem.beside b later refl (omega arith) h.times;
    }

steps-run : (b : Board) (steps : List ClockStep) → SoundRun b → SoundRun (after_clock_steps b steps)
steps-run b [] h = h
steps-run b (step ∷ steps) h = steps-run (clock_stepped b step) steps (step-run b step h)

pub clock_runs_lem : ClockRunsLaw
clock_runs_lem =
    record {
      step = step-run;
      run = λ steps.
          steps-run opening_board steps
          (record {
            devices = devices_kept_lem.opening;
            clocks = clocks_kept_lem.opening;
            numbers = numbers_kept_lem.opening;
            times = times_kept_lem.opening;
          });
    }
