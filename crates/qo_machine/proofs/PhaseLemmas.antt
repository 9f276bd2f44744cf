-- Steps keep the phases of resets in turn, and what may be held in reset held where a hold is on it or above it.
use Rattle.std.proofs.Common.{◌≡◌, ◌==◌, refl, ap, ◌∙◌, subst, ℕ, true, List, [], ◌∷◌, codes, Option, None, Some}
use Rattle.std.specs.Option.{option_map_or}
use Rattle.std.proofs.lemmas.Option.{same_Some}
use Rattle.qo_values.specs.Registers.{Effect, byte, nothing, Registers}
use Rattle.qo_values.specs.Registers as effect
use Rattle.qo_values.specs.declared.births.TheConstants.{MEMORY_BUS_BIRTH, ROOT_BUS_BIRTH}
use Rattle.qo_values.specs.declared.kinds.ResetKind.TheVariants.{Cold}
use Rattle.qo_guest.specs.declared.addresses.Addr.TheVariants.{Slots, Mem}
use Rattle.qo_buses.specs.Rings.{claimed_ring}
use Rattle.qo_layout.proofs.ShownLemmas.{shown-stands}
use Rattle.qo_layout.specs.declared.addresses.TheConstants.{BOOT_LEAF}
use Rattle.qo_commands.specs.Commands.{without_events}
use Rattle.qo_model.specs.Board.{Board, Ring}
use Rattle.qo_model.specs.Clocks.{div_of, mul_of}
use Rattle.qo_model.specs.Devices.{first_bus}
use Rattle.qo_model.specs.Paths.{attached, is_of}
use Rattle.qo_model.specs.Reset.{pulse}
use Rattle.qo_realize.specs.Chardevs.{with_rings}
use Rattle.qo_realize.specs.Guest.{polled}
use Rattle.qo_realize.specs.Registers.{after_effect, guest_written, pushed, registers_written}
use Rattle.qo_realize.specs.Time.{at_time, with_running}
use Rattle.qo_sound_devices.specs.SoundLists.{IsOn}
use Rattle.qo_sound_devices.specs.SoundPlaces.{stands}
use Rattle.qo_sound_devices.proofs.DevicesLawLemmas.{devices_kept_lem, removal-all}
use Rattle.qo_sound_clocks.specs.RegisterWrites.{registers_set}
use Rattle.qo_sound_clocks.proofs.RegisterLemmas.{registers_kept_lem}
use Rattle.qo_sound_phases.specs.PhaseRuns.{SoundResets}
use Rattle.qo_sound_phases.specs.PhasesKept.{may_reset}
use Rattle.qo_sound_phases.proofs.LawLemmas.{phases_kept_lem, phases_say_lem}
use Rattle.qo_sound_phases.proofs.ReachLemmas.{machines-is}
use Rattle.qo_sound_phases.proofs.ResetTreeLemmas.{Placed, placed}
use Rattle.qo_machine.proofs.DevicesLemmas.{devices_free, devices_kept, ringed-devices}
use Rattle.qo_machine.proofs.PreservationLemmas.{any-rings, GuestFinds, by_address, by_slots, KeepsBoard, KeepsCommands, keeps_commands}
use Rattle.qo_machine.specs.Machine.{opening}

-- the device that the guest finds stands in its place
standing : (b : Board) (d : ℕ) → GuestFinds b d → SoundResets b → stands b d ≡ true
standing b d (by_slots (Slots slots) is) h = phases_say_lem.addressed b h.devices h.phases ROOT_BUS_BIRTH slots d refl is
standing b d (by_slots (Mem slot) is) h = phases_say_lem.addressed b h.devices h.phases MEMORY_BUS_BIRTH (slot ∷ []) d refl is
standing b d (by_address at place is same apart) h =
    let k : Placed b = placed b h.devices in
    subst (λ (x : ℕ). stands b x ≡ true) same
    (shown-stands b h.devices (machines-is b k ROOT_BUS_BIRTH refl h.phases.buses.0) (machines-is b k MEMORY_BUS_BIRTH refl h.phases.buses.1.0) at place is
    (ap (λ (x : ℕ). x == BOOT_LEAF) same ∙ apart))

-- rings are no matter to them
ringed-so : (b : Board) (rings : List Ring) → SoundResets b → SoundResets (with_rings rings b)
ringed-so b rings h =
    record { devices = ringed-devices b rings h.devices; phases = phases_kept_lem.beside b (with_rings rings b) refl refl refl refl h.phases }

-- the guest writes to a register of a device that stands in its place
module _ (b : Board) (d : ℕ) (there : stands b d ≡ true) (h : SoundResets b) where
  registers-so : (registers : Registers) → SoundResets (registers_set b d registers)
  registers-so registers =
      record { devices = registers_kept_lem.devices b d registers h.devices; phases = phases_kept_lem.registers b d registers h.phases }

  effect-so : (registers : Registers) (e : Effect) → SoundResets (after_effect d e (registers_set b d registers))
  effect-so registers nothing = registers-so registers
  effect-so registers (byte n) = by (claimed_ring set d)
    where
      set : Board
      set = registers_set b d registers

      s : SoundResets set
      s = registers-so registers

      by : (claimed : Option (List ℕ)) → SoundResets (option_map_or (pushed n set) claimed set)
      by None = s
      by (Some id) = ringed-so set (pushed n set id).rings s
  effect-so registers effect.pulse = by (first_bus set d) refl
    where
      set : Board
      set = registers_set b d registers

      s : SoundResets set
      s = registers-so registers

      by : (bus : Option ℕ) → first_bus set d ≡ bus → SoundResets (option_map_or (λ m. pulse set m Cold) bus set)
      by None e = s
      by (Some m) e =
          let may : may_reset set m ≡ true = phases_say_lem.first_bus set s.devices d m (phases_kept_lem.stand_with_registers b d registers d there) e in
          record { devices = devices_kept_lem.pulsed set m Cold s.devices; phases = phases_kept_lem.pulsed set m Cold may s.devices s.phases }

  written-so : (reg value : ℕ) (c : Board) → guest_written b d reg value ≡ Some c → SoundResets c
  written-so reg value c is = go (registers_written b d reg value) refl
    where
      go : (o : Option (Registers × Effect)) → registers_written b d reg value ≡ o → SoundResets c
      go None e = absurd (let clash : None ≡ Some c = rw (guest_written, e) at is in cc)
      go (Some w) e =
          let its : Some (after_effect d w.1 (registers_set b d w.0)) ≡ Some c = rw (guest_written, e) at is in
          subst SoundResets (same_Some (after_effect d w.1 (registers_set b d w.0)) c its) (effect-so w.0 w.1)

-- who is attached and may be held in reset
pub may-so : (b : Board) (n : ℕ) → is_of b (codes "resettable") n ≡ true → attached b n ≡ true → may_reset b n ≡ true
may-so b n is home = rw (home, is) refl

-- changes and attempts keep them
pub phases_kept : KeepsBoard SoundResets
phases_kept =
    record {
      change = λ b change h.
          record { devices = devices_kept.change b change h.devices; phases = phases_kept_lem.change b change h.devices h.phases };
      set = λ b d c period fits is h.
          record { devices = devices_kept.set b d c period fits is h.devices; phases = phases_kept_lem.set b d c period is h.devices h.phases };
      multiplied = λ b d c mul fits is h.
          record {
            devices = devices_kept.multiplied b d c mul fits is h.devices;
            phases = phases_kept_lem.scaled b d c mul (div_of b c) is h.devices h.phases;
          };
      divided = λ b d c div fits is h.
          record {
            devices = devices_kept.divided b d c div fits is h.devices;
            phases = phases_kept_lem.scaled b d c (mul_of b c) div is h.devices h.phases;
          };
      attempt = λ b t h.
          record { devices = devices_kept.attempt b t h.devices; phases = phases_kept_lem.attempt b t h.devices h.phases };
      plugged = λ b a h.
          record { devices = devices_kept.plugged b a h.devices; phases = phases_kept_lem.plugged b a h.devices h.phases };
      cut = λ b t i joined h.
          record { devices = devices_kept.cut b t i joined h.devices; phases = phases_kept_lem.cut b t i joined h.devices h.phases };
      asked = λ b id h. record { devices = devices_kept.asked b id h.devices; phases = phases_kept_lem.asked_for b id h.phases };
      completed = λ b at d is pending h.
          record {
            devices = devices_kept.completed b at d is pending h.devices;
            phases = phases_kept_lem.detached b d h.devices (removal-all (IsOn b) b.pending h.devices.lists.pending d pending).0 h.phases;
          };
      refused = λ b d h. record { devices = devices_kept.refused b d h.devices; phases = phases_kept_lem.refused_by b d h.phases };
      polled = λ b h.
          record { devices = devices_kept.polled b h.devices; phases = phases_kept_lem.beside b (polled b) refl refl refl refl h.phases };
      written = λ b d reg value c there is h. written-so b d (standing b d there h) h reg value c is;
      rings = any-rings SoundResets (λ b rings h. ringed-so b rings h);
      timed = λ b now on low h.
          record {
            devices = devices_kept.timed b now on low h.devices;
            phases = phases_kept_lem.beside b (at_time now b) refl refl refl refl h.phases;
          };
      switched = λ b on h.
          record {
            devices = devices_kept.switched b on h.devices;
            phases = phases_kept_lem.beside b (with_running on b) refl refl refl refl h.phases;
          };
      held_so = λ b n kind is home deep h.
          record {
            devices = devices_kept.held_so b n kind is home deep h.devices;
            phases = phases_kept_lem.held_so b n kind (may-so b n is home) h.devices h.phases;
          };
      released_so = λ b n is on h.
          record {
            devices = devices_kept.released_so b n is on h.devices;
            phases = phases_kept_lem.released_so b n on h.devices h.phases;
          };
      reset = λ b h. record { devices = devices_kept.reset b h.devices; phases = phases_kept_lem.reset b h.devices h.phases };
      wakes = λ b h. record { devices = devices_kept.wakes b h.devices; phases = phases_kept_lem.wakes b h.devices h.phases };
    }

-- events are no matter to them
pub phases_free : (b : Board) → SoundResets b → SoundResets (without_events b)
phases_free b h = record { devices = devices_free b h.devices; phases = phases_kept_lem.beside b (without_events b) refl refl refl refl h.phases }

pub phases_commands : KeepsCommands SoundResets
phases_commands = keeps_commands SoundResets phases_kept phases_free

pub opening_resets : SoundResets opening.board
opening_resets = record { devices = devices_kept_lem.opening; phases = phases_kept_lem.opening }
