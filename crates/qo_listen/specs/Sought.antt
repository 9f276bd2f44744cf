-- For proofs alone. Which notes a mirror looks for.
use Rattle.std.specs.Prelude.{Bool}
use Rattle.qo_model.specs.FinalNotes.{is_final}
use Rattle.qo_model.specs.declared.notes.Note.{Note as NoteView}
use Rattle.qo_listen.specs.Texts.{is_init}
use Rattle.qo_listen.specs.declared.mirror.Sought.{Sought}
use Rattle.qo_listen.specs.declared.mirror.Sought.TheVariants.{Init, Final}

abbrev pub is_sought : Sought → NoteView → Bool
is_sought Init note = is_init note
is_sought Final note = is_final note
