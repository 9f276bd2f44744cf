-- The notes that are told are those of the board.
use Rattle.std.proofs.Common.{◌≡◌, ap, ◌∙◌, ℕ, List}
use Rattle.qo_model.specs.NoteReplies.{first_from, given_from}
use Rattle.qo_model.specs.Notes.{total_of}
use Rattle.qo_model.specs.declared.notes.Note.{Note}
use Rattle.qo_commands.specs.Commands.{notes_data, notes_reply}

pub told-is : (notes : List Note) (start first total : ℕ) (given : List Note) → first ≡ first_from start notes → given ≡ given_from start notes
    → total ≡ total_of notes → notes_reply first given total ≡ notes_data start notes
told-is notes start first total given f g t =
    ap (λ (n : ℕ). notes_reply n given total) f
    ∙ ap (λ (l : List Note). notes_reply (first_from start notes) l total) g
    ∙ ap (λ (n : ℕ). notes_reply (first_from start notes) (given_from start notes) n) t
