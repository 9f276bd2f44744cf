-- For a law alone. What a mirror of a board's notes says of the board (docs/devel/qom.rst, "The QEMU Object Model": `instance_init` and `instance_finalize`).
use Rattle.std.specs.Prelude.{◌≡◌, ℕ, ◌<◌}
use Rattle.qo_values.specs.declared.births.TheConstants.{OPENING_OBJECTS}
use Rattle.qo_model.specs.Board.{Board, is_live}
use Rattle.qo_model.specs.Depth.{among}
use Rattle.qo_model.specs.FinalNotes.{NotesInOrder}
use Rattle.qo_listen.specs.Texts.{living}
use Rattle.qo_sound_shapes.specs.SoundOwners.{SoundOwners}
use Rattle.qo_sound_order.specs.SoundOrder.{AllConcrete}

-- of the births after those that every machine begins with, a mirror of the notes tells those of the objects that are there
abbrev pub MirrorLaw : Type 0
MirrorLaw = (b : Board) → NotesInOrder b → SoundOwners b → AllConcrete b → (n : ℕ) → OPENING_OBJECTS < n → among (living b.notes) n ≡ is_live b n
