-- Steps keep devices in their places, and the lists that name devices.
use Rattle.std.proofs.Common.{List, refl, arith}
use Rattle.qo_values.specs.declared.births.TheConstants.{MACHINE_BIRTH}
use Rattle.qo_values.specs.declared.kinds.ResetKind.TheVariants.{Cold, Wakeup}
use Rattle.qo_commands.specs.Commands.{without_events}
use Rattle.qo_model.specs.Board.{Board, Ring}
use Rattle.qo_model.specs.Clocks.{div_of, mul_of}
use Rattle.qo_realize.specs.Chardevs.{with_rings}
use Rattle.qo_realize.specs.Registers.{pushed}
use Rattle.qo_realize.specs.Time.{at_time, with_running}
use Rattle.qo_realize.proofs.SoundRunLemmas.{completed-devices, polled-devices}
use Rattle.qo_realize.proofs.RegisterWriteLemmas.{written-all}
use Rattle.qo_sound_devices.specs.SoundDevices.{SoundDevices}
use Rattle.qo_sound_devices.proofs.DevicesLawLemmas.{devices_kept_lem}
use Rattle.qo_sound_clocks.proofs.WriteLawLemmas.{writes_keep_lem}
use Rattle.qo_sound_clocks.proofs.RegisterLemmas.{registers_kept_lem}
use Rattle.qo_machine.proofs.PreservationLemmas.{any-rings, KeepsBoard, KeepsCommands, keeps_commands}

-- rings are no matter to them
pub ringed-devices : (b : Board) (rings : List Ring) → SoundDevices b → SoundDevices (with_rings rings b)
ringed-devices b rings h = devices_kept_lem.beside b (with_rings rings b) refl refl refl refl refl refl (omega arith) h

-- changes and attempts keep them
pub devices_kept : KeepsBoard SoundDevices
devices_kept =
    record {
      change = λ b change h. devices_kept_lem.change b change h;
      set = λ b d c period fits is h. writes_keep_lem.set_devices b d c period is h;
      multiplied = λ b d c mul fits is h. writes_keep_lem.scaled_devices b d c mul (div_of b c) is h;
      divided = λ b d c div fits is h. writes_keep_lem.scaled_devices b d c (mul_of b c) div is h;
      attempt = λ b t h. devices_kept_lem.attempt b t h;
      plugged = λ b a h. devices_kept_lem.plugged b a h;
      cut = λ b t i joined h. devices_kept_lem.cut b t i joined h;
      asked = λ b id h. devices_kept_lem.asked_for b id h;
      completed = λ b at d is pending h. completed-devices b d pending h;
      refused = λ b d h. devices_kept_lem.refused_by b d h;
      polled = λ b h. polled-devices b h;
      written = λ b d reg value c there is h.
          written-all SoundDevices b d reg value (λ registers e so. registers_kept_lem.devices b d registers h)
          (λ x n id q. ringed-devices x (pushed n x id).rings q) (λ x m on q. devices_kept_lem.pulsed x m Cold q) c is;
      rings = any-rings SoundDevices (λ b rings h. ringed-devices b rings h);
      timed = λ b now on low h. devices_kept_lem.beside b (at_time now b) refl refl refl refl refl refl on h;
      switched = λ b on h. devices_kept_lem.beside b (with_running on b) refl refl refl refl refl refl (omega arith) h;
      held_so = λ b n kind is home deep h. devices_kept_lem.held_so b n kind h;
      released_so = λ b n is held h. devices_kept_lem.released_so b n h;
      reset = λ b h. devices_kept_lem.reset b h;
      wakes = λ b h. devices_kept_lem.pulsed b MACHINE_BIRTH Wakeup h;
    }

-- the events are no matter to them
pub devices_free : (b : Board) → SoundDevices b → SoundDevices (without_events b)
devices_free b h = devices_kept_lem.beside b (without_events b) refl refl refl refl refl refl (omega arith) h

pub devices_commands : KeepsCommands SoundDevices
devices_commands = keeps_commands SoundDevices devices_kept devices_free
