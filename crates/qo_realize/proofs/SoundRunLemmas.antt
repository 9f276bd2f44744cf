-- Each change of a board keeps devices in their places with the lists that name them, clocks with their numbers, and no timer ahead of the time.
use Rattle.std.proofs.Common.{◌≡◌, ◌≤◌, ◌<◌, ◌^◌, arith, refl, ap, sym, subst, ◌∙◌, ℕ, Bool, true, List, [], ◌∷◌, drop, Option, None, Some, Ok, is_some}
use Rattle.std.specs.Option.{option_map_or}
use Rattle.qo_values.specs.Registers.{Effect, Registers, bare}
use Rattle.qo_values.specs.declared.kinds.ResetKind.{ResetKind}
use Rattle.qo_values.specs.declared.kinds.TypeId.{TypeId}
use Rattle.qo_buses.specs.Rings.{claimed_ring}
use Rattle.qo_model.specs.Board.{Board, Notice, Record, Ring, is_pending, record_of}
use Rattle.qo_model.specs.ClockChanges.{clock_scaled, clock_set}
use Rattle.qo_model.specs.Clocks.{device_period}
use Rattle.qo_model.specs.FinalNotesRuns.{Change, changed}
use Rattle.qo_model.specs.Hotplug.{asked, completed, refused, reset_whole}
use Rattle.qo_model.specs.Objects.{with_attempt}
use Rattle.qo_model.specs.Opening.{opening_board}
use Rattle.qo_model.specs.Plug.{Wanted, cut_attempt, plug}
use Rattle.qo_model.specs.Reset.{after_hold, pulse, released}
use Rattle.qo_sound_devices.specs.SoundDevices.{SoundDevices}
use Rattle.qo_sound_devices.specs.SoundLists.{IsOn}
use Rattle.qo_sound_devices.proofs.DevicesLawLemmas.{devices_kept_lem, removal-all}
use Rattle.qo_sound_clocks.specs.ClockRuns.{SoundRun}
use Rattle.qo_sound_clocks.specs.RegisterWrites.{registers_set}
use Rattle.qo_sound_clocks.specs.SoundTimes.{IsTimely, SoundTimes}
use Rattle.qo_sound_clocks.proofs.LawLemmas.{clocks_kept_lem}
use Rattle.qo_sound_clocks.proofs.NumbersLemmas.{numbers_kept_lem}
use Rattle.qo_sound_clocks.proofs.RegisterLemmas.{registers_kept_lem}
use Rattle.qo_sound_clocks.proofs.TimesLemmas.{times_kept_lem}
use Rattle.qo_sound_clocks.proofs.WriteLawLemmas.{writes_keep_lem}
use Rattle.qo_realize.specs.Chardevs.{with_rings}
use Rattle.qo_realize.specs.Guest.{polled}
use Rattle.qo_realize.specs.Registers.{registers_at, registers_written}
use Rattle.qo_realize.specs.Time.{at_time, with_running}

-- each change by command on objects
pub changed-run : (b : Board) (change : Change) → SoundRun b → SoundRun (changed b change)
changed-run b change h =
    record {
      devices = devices_kept_lem.change b change h.devices;
      clocks = clocks_kept_lem.change b change h.devices.tree h.clocks;
      numbers = numbers_kept_lem.change b change h.devices.tree h.numbers;
      times = times_kept_lem.change b change h.times;
    }

-- an attempt to make a user's object
pub attempt-run : (b : Board) (t : TypeId) → SoundRun b → SoundRun (with_attempt b t)
attempt-run b t h =
    record {
      devices = devices_kept_lem.attempt b t h.devices;
      clocks = clocks_kept_lem.attempt b t h.clocks;
      numbers = numbers_kept_lem.beside b (with_attempt b t) refl h.numbers;
      times = times_kept_lem.attempt b t h.times;
    }

-- boards with the same objects, births, accepted adds, pins, pending removals and notices are alike in this, where time does not go back
pub alike-run : (b c : Board) → c.records ≡ b.records → c.born ≡ b.born → c.anonymous ≡ b.anonymous → c.pins ≡ b.pins → c.pending ≡ b.pending
    → c.notices ≡ b.notices → b.now ≤ c.now → SoundRun b → SoundRun c
alike-run b c records born anonymous pins pending notices on h =
    record {
      devices = devices_kept_lem.beside b c records born anonymous pins pending notices on h.devices;
      clocks = clocks_kept_lem.beside b c records h.clocks;
      numbers = numbers_kept_lem.beside b c records h.numbers;
      times = times_kept_lem.beside b c records on h.times;
    }

-- the events are no matter to it
pub cleared-run : (b : Board) → SoundRun b → SoundRun (record b { events = [] })
cleared-run b = alike-run b (record b { events = [] }) refl refl refl refl refl refl (omega arith)

-- a removal that is asked for, or refused, and a notice that is taken
pub asked-run : (b : Board) (id : List ℕ) → SoundRun b → SoundRun (asked b id).board
asked-run b id h =
    record {
      devices = devices_kept_lem.asked_for b id h.devices;
      clocks = clocks_kept_lem.asked_for b id h.clocks;
      numbers = numbers_kept_lem.asked_for b id h.numbers;
      times = times_kept_lem.asked_for b id h.times;
    }

-- time that goes on, and a machine that runs or stands still
pub timed-run : (b : Board) (now : ℕ) → b.now ≤ now → SoundRun b → SoundRun (at_time now b)
timed-run b now = alike-run b (at_time now b) refl refl refl refl refl refl

pub switched-run : (b : Board) (on : Bool) → SoundRun b → SoundRun (with_running on b)
switched-run b on = alike-run b (with_running on b) refl refl refl refl refl refl (omega arith)

-- other rings
pub ringed-run : (b : Board) (rings : List Ring) → SoundRun b → SoundRun (with_rings rings b)
ringed-run b rings = alike-run b (with_rings rings b) refl refl refl refl refl refl (omega arith)

pub refused-run : (b : Board) (n : ℕ) → SoundRun b → SoundRun (refused b n)
refused-run b n h =
    record {
      devices = devices_kept_lem.refused_by b n h.devices;
      clocks = clocks_kept_lem.refused_by b n h.clocks;
      numbers = numbers_kept_lem.beside b (refused b n) refl h.numbers;
      times = times_kept_lem.refused_by b n h.times;
    }

pub polled-devices : (b : Board) → SoundDevices b → SoundDevices (polled b)
polled-devices b h = go b.notices refl
  where
    go : (notices : List Notice) → b.notices ≡ notices → SoundDevices (polled b)
    go [] is = devices_kept_lem.beside b (polled b) refl refl refl refl refl (ap (drop 1) is ∙ sym is) (omega arith) h
    go (notice ∷ others) is =
        subst (λ (notices : List Notice). SoundDevices (record b { notices = notices })) (sym (ap (drop 1) is)) (devices_kept_lem.read b notice others is h)

pub polled-run : (b : Board) → SoundRun b → SoundRun (polled b)
polled-run b h =
    record {
      devices = polled-devices b h.devices;
      clocks = clocks_kept_lem.beside b (polled b) refl h.clocks;
      numbers = numbers_kept_lem.beside b (polled b) refl h.numbers;
      times = times_kept_lem.beside b (polled b) refl (omega arith) h.times;
    }

-- the beginning
pub opening-run : SoundRun opening_board
opening-run =
    record {
      devices = devices_kept_lem.opening;
      clocks = clocks_kept_lem.opening;
      numbers = numbers_kept_lem.opening;
      times = times_kept_lem.opening;
    }

-- a device is added, or not
pub added-run : (b : Board) (a : Wanted) → SoundRun b → SoundRun (plug b a).board
added-run b a h =
    record {
      devices = devices_kept_lem.plugged b a h.devices;
      clocks = clocks_kept_lem.plugged b a h.devices.tree h.clocks;
      numbers = numbers_kept_lem.plugged b a h.devices.tree h.numbers;
      times = times_kept_lem.plugged b a h.times;
    }

-- an attempt at one is cut
pub cut-run : (b : Board) (t : TypeId) (i : ℕ) (joined : Bool) → SoundRun b → SoundRun (cut_attempt b t i joined)
cut-run b t i joined h =
    record {
      devices = devices_kept_lem.cut b t i joined h.devices;
      clocks = clocks_kept_lem.cut b t i joined h.clocks;
      numbers = numbers_kept_lem.beside b (cut_attempt b t i joined) refl h.numbers;
      times = times_kept_lem.cut b t i joined h.times;
    }

-- whose removal is pending stands in its place, so it may be detached
pub completed-devices : (b : Board) (d : ℕ) → is_pending b d ≡ true → SoundDevices b → SoundDevices (completed b d)
completed-devices b d pending h = devices_kept_lem.detached b d h (removal-all (IsOn b) b.pending h.lists.pending d pending).0

pub completed-run : (b : Board) (d : ℕ) → is_pending b d ≡ true → SoundRun b → SoundRun (completed b d)
completed-run b d pending h =
    record {
      devices = completed-devices b d pending h.devices;
      clocks = clocks_kept_lem.detached b d h.devices.tree h.clocks;
      numbers = numbers_kept_lem.detached b d h.devices.tree h.numbers;
      times = times_kept_lem.detached b d h.times;
    }

-- a hold of a reset, a hold less, both, and the reset of the whole board
pub held-run : (b : Board) (n : ℕ) (kind : ResetKind) → SoundRun b → SoundRun (after_hold b n kind)
held-run b n kind h =
    record {
      devices = devices_kept_lem.held_so b n kind h.devices;
      clocks = clocks_kept_lem.held_so b n kind h.clocks;
      numbers = numbers_kept_lem.held_so b n kind h.numbers;
      times = times_kept_lem.held_so b n kind h.times;
    }

pub released-run : (b : Board) (n : ℕ) → SoundRun b → SoundRun (released b n)
released-run b n h =
    record {
      devices = devices_kept_lem.released_so b n h.devices;
      clocks = clocks_kept_lem.released_so b n h.clocks;
      numbers = numbers_kept_lem.released_so b n h.numbers;
      times = times_kept_lem.released_so b n h.times;
    }

pub pulsed-run : (b : Board) (n : ℕ) (kind : ResetKind) → SoundRun b → SoundRun (pulse b n kind)
pulsed-run b n kind h =
    record {
      devices = devices_kept_lem.pulsed b n kind h.devices;
      clocks = clocks_kept_lem.pulsed b n kind h.clocks;
      numbers = numbers_kept_lem.pulsed b n kind h.numbers;
      times = times_kept_lem.pulsed b n kind h.times;
    }

pub reset-run : (b : Board) → SoundRun b → SoundRun (reset_whole b)
reset-run b h =
    record {
      devices = devices_kept_lem.reset b h.devices;
      clocks = clocks_kept_lem.reset b h.devices.tree h.clocks;
      numbers = numbers_kept_lem.reset b h.devices.tree h.numbers;
      times = times_kept_lem.reset b h.times;
    }

-- a clock is written, by numbers as wide as its properties, and is not refused
pub set-run : (b d : Board) (c period : ℕ) → period < 2 ^ 64 → clock_set b c period ≡ Ok d → SoundRun b → SoundRun d
set-run b d c period fits is h =
    record {
      devices = writes_keep_lem.set_devices b d c period is h.devices;
      clocks = clocks_kept_lem.set b d c period is h.clocks;
      numbers = numbers_kept_lem.set b d c period fits is h.numbers;
      times = times_kept_lem.set b d c period is h.times;
    }

pub scaled-run : (b d : Board) (c mul div : ℕ) → mul < 2 ^ 32 → div < 2 ^ 32 → clock_scaled b c mul div ≡ Ok d → SoundRun b → SoundRun d
scaled-run b d c mul div narrow thin is h =
    record {
      devices = writes_keep_lem.scaled_devices b d c mul div is h.devices;
      clocks = clocks_kept_lem.scaled b d c mul div is h.clocks;
      numbers = numbers_kept_lem.scaled b d c mul div narrow thin is h.numbers;
      times = times_kept_lem.scaled b d c mul div is h.times;
    }

-- the guest writes to a register: the registers are other ones
pub registers-timely : (b : Board) (n : ℕ) → SoundTimes b → IsTimely b.now (registers_at b n)
registers-timely b n h = go (record_of b n) refl
  where
    go : (o : Option Record) → record_of b n ≡ o → IsTimely b.now (option_map_or (λ (r : Record). r.registers) o bare)
    go None e = tt
    go (Some r) e = times_kept_lem.there b n r e h

pub registers-run : (b : Board) (d reg value : ℕ) (registers : Registers) (e : Effect) → registers_written b d reg value ≡ Some (registers, e) → SoundRun b
    → SoundRun (registers_set b d registers)
registers-run b d reg value registers e is h =
    record {
      devices = registers_kept_lem.devices b d registers h.devices;
      clocks = registers_kept_lem.clocks b d registers h.clocks;
      numbers = registers_kept_lem.numbers b d registers h.numbers;
      times = registers_kept_lem.times b d registers timely h.times;
    }
  where
    timely : IsTimely b.now registers
    timely =
        times_kept_lem.wrote (registers_at b d) registers e reg value (is_some (claimed_ring b d)) b.now (device_period b d) is
        (registers-timely b d h.times)
