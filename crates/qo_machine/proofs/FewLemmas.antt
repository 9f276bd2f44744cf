-- Each item and each line notes little: no more than is kept.
use Rattle.std.proofs.Common.{◌≡◌, refl, ap, subst, ◌∙◌, ℕ, ◌+◌, ◌≤◌, List, length, length-append, Option, Some, None, arith}
use Rattle.std.specs.Option.{option_map_or}
use Rattle.std.proofs.lemmas.Option.{same_Some}
use Rattle.qo_causes.specs.declared.inputs.Moment.{Moment}
use Rattle.qo_framing.specs.declared.items.Item.{Item}
use Rattle.qo_values.specs.Registers.{Effect, byte, nothing, Registers}
use Rattle.qo_values.specs.Registers as effect
use Rattle.qo_values.specs.declared.births.TheConstants.{MACHINE_BIRTH}
use Rattle.qo_values.specs.declared.kinds.ResetKind.TheVariants.{Cold, Wakeup}
use Rattle.qo_values.specs.declared.limits.TheConstants.{NOTES_KEPT}
use Rattle.qo_buses.specs.Rings.{claimed_ring}
use Rattle.qo_model.specs.Board.{Board}
use Rattle.qo_model.specs.Clocks.{div_of, mul_of}
use Rattle.qo_model.specs.Devices.{first_bus}
use Rattle.qo_model.specs.Reset.{pulse}
use Rattle.qo_model.specs.declared.notes.Note.{Note}
use Rattle.qo_sound_clocks.specs.RegisterWrites.{registers_set}
use Rattle.qo_sound_clocks.specs.SoundClocks.{SoundClocks}
use Rattle.qo_sound_clocks.proofs.RegisterLemmas.{registers_kept_lem}
use Rattle.qo_sound_devices.specs.SoundDevices.{SoundDevices}
use Rattle.qo_told.specs.FewNotes.{NotesFew}
use Rattle.qo_told.proofs.FewNotesLemmas.{few_notes_lem}
use Rattle.qo_realize.specs.Chardevs.{with_rings}
use Rattle.qo_realize.specs.Guest.{polled}
use Rattle.qo_realize.specs.Registers.{after_effect, guest_written, pushed, registers_written}
use Rattle.qo_realize.specs.SoundBoard.{SoundBoard}
use Rattle.qo_realize.specs.Time.{at_time, with_running}
use Rattle.qo_commands.specs.Commands.{without_events}
use Rattle.qo_machine.specs.Later.{IsLater}
use Rattle.qo_machine.specs.Listening.{Follows}
use Rattle.qo_machine.specs.Machine.{Choice, State, item_step, line_step}
use Rattle.qo_machine.proofs.HistoryLemmas.{item_later, line_later}
use Rattle.qo_machine.proofs.PreservationLemmas.{ChangesBoard, ChangesCommands, changes_commands, item_changes, line_changes, rings-changed}

-- from a board that is sound as far as devices and clocks go
abbrev Few : Board → Board → Type 0
Few b c = SoundDevices b → SoundClocks b → NotesFew b c

few-same : (b : Board) → Few b b
few-same b good clocks = few_notes_lem.beside b b refl

-- the guest writes a register; a byte may go to a ring, and a bus may be pulsed
written-few : (b : Board) (d reg value : ℕ) (c : Board) → guest_written b d reg value ≡ Some c → Few b c
written-few b d reg value c is good clocks = go (registers_written b d reg value) refl
  where
    after : (r : Registers) (e : Effect) → NotesFew b (after_effect d e (registers_set b d r))
    after r nothing = few_notes_lem.beside b (registers_set b d r) refl
    after r (byte n) = by (claimed_ring (registers_set b d r) d)
      where
        by : (ring : Option (List ℕ)) → NotesFew b (option_map_or (pushed n (registers_set b d r)) ring (registers_set b d r))
        by None = few_notes_lem.beside b (registers_set b d r) refl
        by (Some id) = few_notes_lem.beside b (pushed n (registers_set b d r) id) refl
    after r effect.pulse = by (first_bus (registers_set b d r) d)
      where
        by : (bus : Option ℕ) → NotesFew b (option_map_or (λ m. pulse (registers_set b d r) m Cold) bus (registers_set b d r))
        by None = few_notes_lem.beside b (registers_set b d r) refl
        by (Some m) =
            few_notes_lem.registers b d r (pulse (registers_set b d r) m Cold)
            (few_notes_lem.changes.pulsed (registers_set b d r) m Cold tt tt (registers_kept_lem.devices b d r good) (registers_kept_lem.clocks b d r clocks))

    go : (o : Option (Registers × Effect)) → registers_written b d reg value ≡ o → NotesFew b c
    go None e = absurd (let clash : None ≡ Some c = rw (guest_written, e) at is in cc)
    go (Some w) e =
        let its : Some (after_effect d w.1 (registers_set b d w.0)) ≡ Some c = rw (guest_written, e) at is in
        subst (NotesFew b) (same_Some (after_effect d w.1 (registers_set b d w.0)) c its) (after w.0 w.1)

few_board : ChangesBoard Few
few_board =
    record {
      change = λ b change. few_notes_lem.changes.change b change;
      set = λ b d c period fits is. few_notes_lem.changes.set b d c period is;
      multiplied = λ b d c mul fits is. few_notes_lem.changes.scaled b d c mul (div_of b c) is;
      divided = λ b d c div fits is. few_notes_lem.changes.scaled b d c (mul_of b c) div is;
      attempt = λ b t. few_notes_lem.changes.attempt b t;
      plugged = λ b a. few_notes_lem.changes.plugged b a tt;
      cut = λ b t i joined. few_notes_lem.changes.cut b t i joined;
      asked = λ b id. few_notes_lem.changes.asked_for b id;
      completed = λ b at d is pending. few_notes_lem.changes.detached b d tt tt;
      refused = λ b d. few_notes_lem.changes.refused_by b d;
      polled = λ b good clocks. few_notes_lem.beside b (polled b) refl;
      written = λ b d reg value c there is. written-few b d reg value c is;
      rings = rings-changed Few (λ b rings good clocks. few_notes_lem.beside b (with_rings rings b) refl);
      timed = λ b now later low good clocks. few_notes_lem.beside b (at_time now b) refl;
      switched = λ b on good clocks. few_notes_lem.beside b (with_running on b) refl;
      held_so = λ b n kind is home deep. few_notes_lem.changes.held_so b n kind tt tt;
      released_so = λ b n is held. few_notes_lem.changes.released_so b n tt tt;
      reset = λ b. few_notes_lem.changes.reset b tt;
      wakes = λ b. few_notes_lem.changes.pulsed b MACHINE_BIRTH Wakeup tt tt;
    }

few_commands : ChangesCommands Few
few_commands =
    changes_commands Few few-same few_board (λ b c few good clocks. few_notes_lem.after b c (without_events c) (few good clocks) refl)

-- on a sound board what is noted is no more than is kept
follows : (b c : Board) → SoundBoard b → IsLater b c → Few b c → Follows b c
follows b c good later few =
    let most : length c.notes ≤ length b.notes + NOTES_KEPT = few_notes_lem.kept b c good.bounds.room (few good.run.devices good.run.clocks) in
    let long : length c.notes ≡ length b.notes + length later.notes.0 =
    ap (λ (l : List Note). length l) later.notes.1 ∙ length-append b.notes later.notes.0 in
    (later.notes.0, later.notes.1, omega (arith, most, long))

pub item_follows : (choice : Choice) (at : Moment) (n : ℕ) (s : State) (item : Item) → SoundBoard s.board
    → Follows s.board (item_step choice at n s item).state.board
item_follows choice at n s item good =
    let t = (item_step choice at n s item).state in
    follows s.board t.board good (item_later choice at n s item) (item_changes Few few-same few_commands choice at n s item)

pub line_follows : (choice : Choice) (at : Moment) (s : State) (line : List ℕ) → SoundBoard s.board
    → Follows s.board (line_step choice at s line).state.board
line_follows choice at s line good =
    let t = (line_step choice at s line).state in
    follows s.board t.board good (line_later choice at s line) (line_changes Few few-same few_commands choice at s line)
