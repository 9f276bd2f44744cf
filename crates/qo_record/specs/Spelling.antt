-- The entries of a recorded stream: how each is spelled, and which may stand after others.
--     record = ("qrec 1" | "qrec 2") LF entry*
--     entry  = "open " moment " " s LF                              s is not open by the entries before
--            | "bytes " moment " " s " " len LF (len bytes) LF      s is open by the entries before
--            | "shut " moment " " s LF                              the same
--            | "guest " moment " " len LF (len bytes) LF
--            | "step " moment " " ns LF
--     moment = seconds "." six digits of microseconds
-- Numbers are decimal without leading zeros: seconds 0 to 2^63 - 1, len 1 to 65,536, ns 1 to 2^63 - 1.
-- s is in version 1 the number of a session, 0 to 15. In version 2 it is a name, and the session that opens takes the least number that is free.
use Rattle.std.specs.Prelude.{ℕ, zero, suc, ◌≡◌, ◌≤◌, ◌<◌, ◌/◌, ◌%◌, ◌+◌, ◌^◌, true, false, List, [], ◌∷◌, ◌++◌, length, codes, decimal, Some, None, slice_set}
use Rattle.std.specs.List.{flat_map}
use Rattle.qo_causes.specs.Names.{Given, Names}
use Rattle.qo_causes.specs.declared.inputs.Input.{Input}
use Rattle.qo_causes.specs.declared.inputs.Moment.{Moment}
use Rattle.qo_causes.specs.declared.inputs.What.{What}
use Rattle.qo_causes.specs.declared.inputs.What.TheVariants.{Open, Bytes, Shut, Guest, Step, End}
use Rattle.qo_record.specs.Names.{is_name, is_open, least_free, number_named}
use Rattle.qo_record.specs.declared.versions.Version.{Version}
use Rattle.qo_record.specs.declared.versions.Version.TheVariants.{One, Two}

-- an entry: the input that it records, and its session as it is spelled there; no bytes where it has none
pub record Recorded : Type 0 where
  pub input : Input
  pub session : List ℕ

-- the last digits of a number, so many of them
abbrev pub last_digits : ℕ → ℕ → List ℕ
last_digits zero n = []
last_digits (suc more) n = (48 + n / 10 ^ more % 10) ∷ last_digits more n

-- a moment
abbrev pub moment_text : Moment → List ℕ
moment_text m = decimal m.seconds ++ 46 ∷ last_digits 6 m.micros

-- some bytes after their number, and the LF after them
abbrev pub piece_text : List ℕ → List ℕ
piece_text bytes = decimal (length bytes) ++ 10 ∷ (bytes ++ 10 ∷ [])

-- the word of an entry, with its space
abbrev pub word_text : What → List ℕ
word_text (Open s) = codes "open "
word_text (Bytes s bytes) = codes "bytes "
word_text (Shut s) = codes "shut "
word_text (Guest bytes) = codes "guest "
word_text (Step ns) = codes "step "
word_text End = []

-- what stands after its moment and the space, where its session is spelled so
abbrev pub rest_text : List ℕ → What → List ℕ
rest_text session (Open s) = session ++ 10 ∷ []
rest_text session (Bytes s bytes) = session ++ 32 ∷ piece_text bytes
rest_text session (Shut s) = session ++ 10 ∷ []
rest_text session (Guest bytes) = piece_text bytes
rest_text session (Step ns) = decimal ns ++ 10 ∷ []
rest_text session End = []

-- an entry
abbrev pub entry_text : Recorded → List ℕ
entry_text e = word_text e.input.what ++ (moment_text e.input.at ++ 32 ∷ rest_text e.session e.input.what)

-- some entries, one after the other
abbrev pub entries_text : List Recorded → List ℕ
entries_text entries = flat_map entry_text entries

-- the names of the open sessions after an entry, and after some
abbrev pub named_by : Names → List ℕ → What → Names
named_by names session (Open s) = slice_set names s (Some session)
named_by names session (Bytes s bytes) = names
named_by names session (Shut s) = slice_set names s None
named_by names session (Guest bytes) = names
named_by names session (Step ns) = names
named_by names session End = names

abbrev pub names_after : Names → Recorded → Names
names_after names e = named_by names e.session e.input.what

abbrev pub names_after_all : Names → List Recorded → Names
names_after_all names [] = names
names_after_all names (e ∷ entries) = names_after_all (names_after names e) entries

-- the inputs of some entries, each with the names of the sessions that are open once it was taken
abbrev pub given_from : Names → List Recorded → List Given
given_from names [] = []
given_from names (e ∷ entries) = record { input = e.input; names = names_after names e } ∷ given_from (names_after names e) entries

-- a moment that can be spelled
abbrev pub FitsMoment : Moment → Type 0
FitsMoment m = (m.seconds < 2 ^ 63) × (m.micros < 1000000)

-- bytes that may come in one piece
abbrev pub FitsPiece : List ℕ → Type 0
FitsPiece bytes = (1 ≤ length bytes) × (length bytes ≤ 65536)

-- session s may open, spelled so: in version 1 it is not open; in version 2 no open session has the name, and s is the least number that is free
abbrev pub MayOpen : Version → Names → ℕ → List ℕ → Type 0
MayOpen One names s session = (s ≤ 15) × (session ≡ decimal s) × (is_open names s ≡ false)
MayOpen Two names s session = (is_name session ≡ true) × (number_named names session ≡ None) × (least_free names ≡ Some s)

-- session s is open and is spelled so
abbrev pub IsOpenAs : Version → Names → ℕ → List ℕ → Type 0
IsOpenAs One names s session = (s ≤ 15) × (session ≡ decimal s) × (is_open names s ≡ true)
IsOpenAs Two names s session = (is_name session ≡ true) × (number_named names session ≡ Some s)

-- what an entry may say while sessions of these names are open; the end is no entry
abbrev pub FitsWhat : Version → Names → List ℕ → What → Type 0
FitsWhat v names session (Open s) = MayOpen v names s session
FitsWhat v names session (Bytes s bytes) = IsOpenAs v names s session × FitsPiece bytes
FitsWhat v names session (Shut s) = IsOpenAs v names s session
FitsWhat v names session (Guest bytes) = (session ≡ []) × FitsPiece bytes
FitsWhat v names session (Step ns) = (session ≡ []) × (1 ≤ ns) × (ns < 2 ^ 63)
FitsWhat v names session End = ⊥

-- an entry that may stand while sessions of these names are open, and entries that may, one after the other
abbrev pub Fits : Version → Names → Recorded → Type 0
Fits v names e = FitsMoment e.input.at × FitsWhat v names e.session e.input.what

abbrev pub FitAll : Version → Names → List Recorded → Type 0
FitAll v names [] = Unit {0}
FitAll v names (e ∷ entries) = Fits v names e × FitAll v (names_after names e) entries
