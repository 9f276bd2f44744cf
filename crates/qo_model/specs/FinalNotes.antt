-- What the notes of a board say of each birth (docs/devel/qom.rst, "The QEMU Object Model": `instance_init`, base first, and `instance_finalize`, derived
-- first).
use Rattle.std.specs.Prelude.{◌≡◌, ℕ, ◌≤◌, ◌<◌, leb, Bool, true, false, if◌then◌else◌, List, [], ◌++◌, map, Option, Some, is_some}
use Rattle.std.specs.Option.{option_map_or}
use Rattle.std.specs.List.{list_any}
use Rattle.qo_values.specs.declared.births.TheConstants.{OPENING_OBJECTS}
use Rattle.qo_values.specs.declared.kinds.TypeId.{TypeId}
use Rattle.qo_model.specs.declared.notes.Deed.{Deed}
use Rattle.qo_model.specs.declared.notes.Deed.TheVariants.{Did, Final}
use Rattle.qo_model.specs.declared.notes.Note.{Note}
use Rattle.qo_model.specs.Board.{Board, is_live, kind_of}
use Rattle.qo_model.specs.Notes.{deed_type}
use Rattle.qo_model.specs.Objects.{init_notes}
use Rattle.qo_model.specs.ReleaseNotes.{notes_on}
use Rattle.qo_model.specs.Types.{finals}

-- whether a note is a final note; and whether it is an init note or a final note
abbrev pub deed_is_final : Deed → Bool
deed_is_final (Did act) = false
deed_is_final (Final t) = true

abbrev pub is_final : Note → Bool
is_final x = deed_is_final x.deed

abbrev pub is_bound : Note → Bool
is_bound x = is_some (deed_type x.deed)

-- the final notes of n, an object of a type: one for each finalizer, derived first
abbrev pub ending : ℕ → TypeId → List Note
ending n t = map (λ (k : TypeId). record { birth = n; deed = Final k }) (finals t)

-- n has its final notes at most once, derived first, and no note after them: what was noted of it is other notes, and then nothing or the final notes of one
-- type
pub record FinalOnce (n : ℕ) (notes : List Note) : Type 0 where
  pub before : List Note
  pub none_final : list_any is_final before ≡ false
  pub last : Option TypeId
  pub in_order : notes_on n notes ≡ before ++ option_map_or (ending n) last []

-- the init notes of n, an object of a type; the objects of the opening board have none
abbrev pub beginning : ℕ → TypeId → List Note
beginning n t = if leb n OPENING_OBJECTS then [] else init_notes n t

-- what was noted of n, an object of a type that is over or not: its init notes, base first; notes that are neither init nor final; and, once it is over, its
-- final notes, derived first
pub record Story (n : ℕ) (t : TypeId) (over : Bool) (notes : List Note) : Type 0 where
  pub between : List Note
  pub neither : list_any is_bound between ≡ false
  pub in_order : notes_on n notes ≡ beginning n t ++ between ++ (if over then ending n t else [])

-- n is a birth so far
abbrev pub IsBorn : Board → ℕ → Type 0
IsBorn b n = (0 < n) × (n ≤ b.born)

-- the notes of a board tell the story of each birth
pub record NotesInOrder (b : Board) : Type 0 where
  -- the objects of the opening board were made, and who is there was born
  pub opened : OPENING_OBJECTS ≤ b.born
  pub counted : (n : ℕ) → is_live b n ≡ true → IsBorn b n
  -- who is not born has no note
  pub unborn : (n : ℕ) → ¬ (IsBorn b n) → notes_on n b.notes ≡ []
  -- who is there has the story of its type, which is not over
  pub living : (n : ℕ) (t : TypeId) → kind_of b n ≡ Some t → Story n t false b.notes
  -- who is gone has the story of one type, which is over
  pub gone : (n : ℕ) → IsBorn b n → is_live b n ≡ false → (t : TypeId) × Story n t true b.notes
