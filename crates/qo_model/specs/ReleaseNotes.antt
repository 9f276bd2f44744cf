-- Final notes: what a release notes of the objects (docs/devel/qom.rst, "The QEMU Object Model": `instance_finalize`, derived first).
use Rattle.std.specs.Prelude.{◌≡◌, ℕ, ◌==◌, true, false, List, [], ◌++◌, filter}
use Rattle.std.specs.Option.{option_map_or}
use Rattle.qo_model.specs.declared.notes.Note.{Note}
use Rattle.qo_model.specs.Board.{Board, record_of, is_live}
use Rattle.qo_model.specs.Release.{final_notes}

-- what was noted of n, in order
abbrev pub notes_on : ℕ → List Note → List Note
notes_on n notes = filter (λ (x : Note). x.birth == n) notes

-- the final notes that n will have at its end, derived first; none where there is no such object
abbrev pub finals_of : Board → ℕ → List Note
finals_of b n = option_map_or final_notes (record_of b n) []

-- from b to c nothing was noted but ends: who is still there has no new note, and will have the same final notes; who is not has its final notes after what
-- was noted of it before, and nothing else
pub record NotesEnds (b c : Board) : Type 0 where
  pub living : (n : ℕ) → is_live c n ≡ true → notes_on n c.notes ≡ notes_on n b.notes
  pub to_come : (n : ℕ) → is_live c n ≡ true → finals_of c n ≡ finals_of b n
  pub ended : (n : ℕ) → is_live c n ≡ false → notes_on n c.notes ≡ notes_on n b.notes ++ finals_of b n
