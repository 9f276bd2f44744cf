-- The texts of listeners that tell their form.
use Rattle.std.specs.Prelude.{◌≡◌, ℕ, Bool, true, false, not, List, [], ◌∷◌, ◌++◌, filter, codes, decimal, Option, Some, None, if◌then◌else◌, ⊤}
use Rattle.std.specs.List.{flat_map}
use Rattle.std.specs.BTreeSet.{insert_key}
use Rattle.std.specs.Ordering.{nat_cmp}
use Rattle.qo_values.specs.declared.kinds.Act.TheVariants.{Init}
use Rattle.qo_model.specs.Depth.{among}
use Rattle.qo_model.specs.FinalNotes.{is_final}
use Rattle.qo_model.specs.Notes.{note_text}
use Rattle.qo_model.specs.declared.notes.Note.{Note}
use Rattle.qo_model.specs.declared.notes.Deed.{Deed}
use Rattle.qo_model.specs.declared.notes.Deed.TheVariants.{Did}

-- how a listener tells what it heard: all of it, or who is still there
pub data Form : Type 0 where
  tape : Form
  mirror : Form

-- the notes, a line each
abbrev pub note_line : Note → List ℕ
note_line note = note_text note ++ 10 ∷ []

abbrev pub tape_text : List Note → List ℕ
tape_text notes = flat_map note_line notes

-- whether a note says that an object was made
abbrev pub deed_is_init : Deed → Bool
deed_is_init (Did (Init t)) = true
deed_is_init deed = false

abbrev pub is_init : Note → Bool
is_init note = deed_is_init note.deed

-- the births of the notes that pass a test, rising, each once
abbrev pub births_of : (Note → Bool) → List Note → List ℕ
births_of test [] = []
births_of test (note ∷ notes) = if test note then insert_key nat_cmp (births_of test notes) note.birth else births_of test notes

-- the births of those who were made and did not end, rising, on one line
abbrev pub living : List Note → List ℕ
living notes = filter (λ (n : ℕ). not (among (births_of is_final notes) n)) (births_of is_init notes)

abbrev pub birth_text : ℕ → List ℕ
birth_text n = 32 ∷ decimal n

abbrev pub mirror_text : List Note → List ℕ
mirror_text notes = codes "live" ++ flat_map birth_text (living notes) ++ 10 ∷ []

abbrev pub form_text : Form → List Note → List ℕ
form_text tape notes = tape_text notes
form_text mirror notes = mirror_text notes

-- where a listener tells its form, its text is that of the form
abbrev pub TellsText : Option Form → List ℕ → List Note → Type 0
TellsText None text notes = ⊤
TellsText (Some form) text notes = text ≡ form_text form notes
