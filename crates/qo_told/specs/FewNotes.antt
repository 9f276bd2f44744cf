-- For a law alone. How many things a change of a board notes (docs/devel/qom.rst, "The QEMU Object Model": `instance_init` and `instance_finalize`;
-- docs/devel/reset.rst, "Multi-phase mechanism"; docs/devel/clocks.rst, "Clock callbacks"; that they are noted, and how many notes are kept, is the profile's).
use Rattle.std.specs.Prelude.{◌≡◌, ℕ, ◌+◌, ◌*◌, ◌≤◌, length}
use Rattle.qo_values.specs.Registers.{Registers}
use Rattle.qo_values.specs.declared.limits.TheConstants.{LIVE_OBJECTS_MAX, NOTES_KEPT}
use Rattle.qo_model.specs.Board.{Board}
use Rattle.qo_sound_clocks.specs.RegisterWrites.{registers_set}
use Rattle.qo_sound_clocks.specs.SoundClocks.{SoundClocks}
use Rattle.qo_sound_devices.specs.SoundDevices.{SoundDevices}
use Rattle.qo_steps.specs.Changes.{Changes}

-- from one board to another little is noted: at most four things for each object that was there, and 22 more
abbrev pub NotesFew : Board → Board → Type 0
NotesFew b c = length c.notes ≤ length b.notes + (4 * length b.records + 22)

pub record FewNotesLaw : Type 0 where
  -- each change of a board notes little, where the board is sound as far as devices and clocks go
  pub changes : Changes (λ types b c. SoundDevices b → SoundClocks b → NotesFew b c)
  -- so does what notes nothing: as a notice that the guest reads, rings, time that goes on, and events that are sent; and a change with that after it
  pub beside : (b c : Board) → c.notes ≡ b.notes → NotesFew b c
  pub after : (b c d : Board) → NotesFew b c → d.notes ≡ c.notes → NotesFew b d
  -- and one before which an object has other registers, as a bridge that the guest writes to, whose bus is then reset
  pub registers : (b : Board) (n : ℕ) (registers : Registers) (c : Board) → NotesFew (registers_set b n registers) c → NotesFew b c
  -- where there are not too many objects, that is no more than the number of notes that are kept
  pub kept : (b c : Board) → length b.records ≤ LIVE_OBJECTS_MAX → NotesFew b c → length c.notes ≤ length b.notes + NOTES_KEPT
