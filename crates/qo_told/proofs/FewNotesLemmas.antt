-- The law: each change of a board notes little.
use Rattle.std.proofs.Common.{◌≡◌, refl, ap, ℕ, ◌+◌, ◌≤◌, Bool, true, false, List, length, Option, Some, None, Ok, is_some, arith}
use Rattle.std.proofs.lemmas.List.{length-append, length-map}
use Rattle.qo_model.proofs.Common.{Code, TypeId, Board, Record, clock_scaled, clock_set, births, edited, Change, added, changed, deleted, severed, wrote, Given, added_as, init_notes, asked, asked_of, attached, device_at, notice_barred, Wanted, plug, refused, released, pulse, resources_of, finalize, let_go, unpin, post}
use Rattle.qo_model.specs.Hotplug.{is_early}
use Rattle.qo_values.specs.declared.kinds.ResetKind.{ResetKind}
use Rattle.qo_model.specs.Reset.{after_hold}
use Rattle.qo_model.specs.declared.notes.Note.{Note}
use Rattle.qo_model.proofs.ComesToLemmas.{addition-comes}
use Rattle.qo_sound.proofs.ChangeStepsLemmas.{step-object_del, step-sever, step-write}
use Rattle.qo_sound_clocks.specs.RegisterWrites.{with_registers}
use Rattle.qo_sound_clocks.specs.SoundClocks.{SoundClocks}
use Rattle.qo_sound_devices.specs.SoundDevices.{SoundDevices}
use Rattle.qo_sound_devices.proofs.DepthLemmas.{room}
use Rattle.qo_sound_devices.proofs.DevicesLawLemmas.{devices_kept_lem}
use Rattle.qo_sound_phases.proofs.ResetTreeLemmas.{placed}
use Rattle.qo_steps.specs.Changes.{Changes}
use Rattle.qo_steps.proofs.AdditionLemmas.{plug-comes}
use Rattle.qo_told.specs.FewNotes.{FewNotesLaw, NotesFew}
use Rattle.qo_told.proofs.BelowFewLemmas.{held-notes, post-few, pulse-notes, released-notes}
use Rattle.qo_told.proofs.ClocksFewLemmas.{clocks-few, scaled-few, set-few}
use Rattle.qo_told.proofs.DetachmentFewLemmas.{lone-few, reset-few}
use Rattle.qo_told.proofs.EndsFewLemmas.{edits-few, ends-few, finalize-few, let_go-few, pins-few, unpin-few, weight}
use Rattle.qo_told.proofs.PlugFewLemmas.{attempt-few, cut-few, few-begins, given_up-few, plugged-few}

-- what does not add to the weight notes little, and so does what notes nothing
by-weight : (b c : Board) → weight c ≤ weight b → NotesFew b c
by-weight b c few = omega (arith, few)

by-notes : (b c : Board) → c.notes ≡ b.notes → NotesFew b c
by-notes b c e = let same : length c.notes ≡ length b.notes = ap (λ (xs : List Note). length xs) e in omega (arith, same)

-- commands on objects
made-few : (b : Board) (t : TypeId) (id : List ℕ) (props : List Given) (o : Option Code) → NotesFew b (added_as b t id props o).board
made-few b t id props None = omega (arith, length-append b.notes (init_notes (b.born + 1) t), few-begins (b.born + 1) t)
made-few b t id props (Some code) = omega (arith, attempt-few b t)

change-few : (b : Board) (change : Change) → NotesFew b (changed b change)
change-few b (added driver id props) =
    addition-comes (NotesFew b) b driver id props (by-notes b b refl) (λ row e o is. made-few b row.id id props o)
change-few b (deleted id) =
    by-weight b (changed b (deleted id))
    (step-object_del (λ (c : Board). weight c ≤ weight b) (edits-few (weight b)) (pins-few (weight b)) (ends-few (weight b)) b id (omega arith))
change-few b (wrote n name v) =
    by-weight b (changed b (wrote n name v))
    (step-write (λ (c : Board). weight c ≤ weight b) (edits-few (weight b)) (pins-few (weight b)) (ends-few (weight b)) b n name v (omega arith))
change-few b (severed n) =
    by-weight b (changed b (severed n))
    (step-sever (λ (c : Board). weight c ≤ weight b) (edits-few (weight b)) (pins-few (weight b)) (ends-few (weight b)) b n (omega arith))

-- a removal that is asked for
asked_of-notes : (b : Board) (d : ℕ) → (asked_of b d).board.notes ≡ b.notes
asked_of-notes b d = go (attached b d) refl (is_early b d) refl (is_some (notice_barred b)) refl
  where
    go : (home : Bool) → attached b d ≡ home → (early : Bool) → is_early b d ≡ early → (full : Bool) → is_some (notice_barred b) ≡ full
        → (asked_of b d).board.notes ≡ b.notes
    go false p early q full r = rw (asked_of, p) refl
    go true p true q full r = rw (asked_of, p, q) refl
    go true p false q true r = rw (asked_of, p, q, r) refl
    go true p false q false r = rw (asked_of, p, q, r) refl

asked-notes : (b : Board) (id : List ℕ) → (asked b id).board.notes ≡ b.notes
asked-notes b id = go (device_at b id) refl
  where
    go : (o : Option ℕ) → device_at b id ≡ o → (asked b id).board.notes ≡ b.notes
    go None e = rw (asked, e) refl
    go (Some d) e = rw (asked, e) (asked_of-notes b d)

-- adding a device
plug-few : (b : Board) (a : Wanted) → SoundDevices b → NotesFew b (plug b a).board
plug-few b a good =
    plug-comes (λ (c : Board). SoundDevices c → NotesFew b c) b a
    (record {
      same = λ sound. by-notes b b refl;
      given_up = λ row bus refusal tried bars sound. given_up-few b row.id bus refusal.0;
      added = λ row bus tried late fits free sound. plugged-few b row.id a (resources_of b row.id bus a.props) some sound;
    })
    (devices_kept_lem.plugged b a good)
  where
    some : 1 ≤ length b.records
    some =
        let there : 8 ≤ length (births b) = room good.places.0 None (λ d. false) b (placed b good).firm good.places.1 in
        omega (arith, there, length-map b.records (λ (r : Record). r.birth))

-- holds
module _ (b : Board) (good : SoundDevices b) (n : ℕ) where
  few : length (post b n) ≤ length b.records + 1
  few = post-few b (placed b good) n

  hold-few : (kind : ResetKind) → NotesFew b (after_hold b n kind)
  hold-few kind = omega (arith, few, held-notes b n kind)

  release-few : NotesFew b (released b n)
  release-few = omega (arith, few, released-notes b n)

  pulse-few : (kind : ResetKind) → NotesFew b (pulse b n kind)
  pulse-few kind = omega (arith, few, pulse-notes b n kind)

-- clocks
module _ (b d : Board) (c : ℕ) (good : SoundDevices b) (clocks : SoundClocks b) where
  clock-set_few : (period : ℕ) → clock_set b c period ≡ Ok d → NotesFew b d
  clock-set_few period e = omega (arith, set-few b d c period e, clocks-few b clocks (placed b good).firm.rising c)

  clock-scaled_few : (mul div : ℕ) → clock_scaled b c mul div ≡ Ok d → NotesFew b d
  clock-scaled_few mul div e = omega (arith, scaled-few b d c mul div e, clocks-few b clocks (placed b good).firm.rising c)

changes : Changes (λ types b c. SoundDevices b → SoundClocks b → NotesFew b c)
changes =
    record {
      finalized = λ b n free good clocks. by-weight b (finalize b n) (finalize-few b n);
      slot_let_go = λ b owner i good clocks. by-weight b (let_go b owner i) (let_go-few b owner i);
      unpinned = λ b n good clocks. by-weight b (unpin b n) (unpin-few b n);
      attempt = λ b t good clocks. omega (arith, attempt-few b t);
      given_up = λ b t bus stage good clocks. given_up-few b t bus stage;
      cut = λ b t i joined good clocks. omega (arith, cut-few b t i joined);
      asked_for = λ b id good clocks. by-notes b (asked b id).board (asked-notes b id);
      refused_by = λ b d good clocks. by-notes b (refused b d) refl;
      held_so = λ b n kind any on good clocks. hold-few b good n kind;
      released_so = λ b n any on good clocks. release-few b good n;
      pulsed = λ b n kind any on good clocks. pulse-few b good n kind;
      set = λ b d c period e good clocks. clock-set_few b d c good clocks period e;
      scaled = λ b d c mul div e good clocks. clock-scaled_few b d c good clocks mul div e;
      change = λ b change good clocks. change-few b change;
      plugged = λ b a any good clocks. plug-few b a good;
      detached = λ b d any on good clocks. omega (arith, lone-few b d good);
      reset = λ b any good clocks. omega (arith, reset-few b good);
    }

pub few_notes_lem : FewNotesLaw
few_notes_lem =
    record {
      changes = changes;
      beside = by-notes;
      after = λ b c d few e. let same : length d.notes ≡ length c.notes = ap (λ (xs : List Note). length xs) e in omega (arith, few, same);
      registers = λ b n registers c few. omega (arith, few, length-map b.records (edited n (with_registers registers)));
      kept = λ b c most few.
          let objects : length b.records ≤ 65536 = most in
          let goal : length c.notes ≤ length b.notes + 1048576 = omega (arith, few, objects) in
          goal;
    }
