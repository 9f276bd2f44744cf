-- For proofs alone. What the code's readings of a recorded stream are.
use Rattle.std.specs.Prelude.{ℕ, ◌≤◌, List, [], length}
use Rattle.std.specs.Borrow.{Bor}
use Rattle.qo_causes.specs.declared.inputs.What.{What}
use Rattle.qo_causes.specs.declared.inputs.What.TheVariants.{Open, Bytes, Shut, Guest, Step, End}
use Rattle.qo_record.specs.Record.{Saying, Spelled}
use Rattle.qo_record.specs.Spelling.{FitsPiece, Recorded}
use Rattle.qo_record.specs.declared.entries.Entry.{Entry}
use Rattle.qo_record.specs.declared.entries.Said.{Said}
use Rattle.qo_record.specs.declared.entries.Said.TheVariants.{Opens, Sends, Shuts, Writes, Steps}
use Rattle.qo_record.specs.declared.names.Session.{Session}

-- a session as an entry names it, with the bytes after it
abbrev pub spelled : Session → Spelled
spelled s = record { number = s.number; text = s.name.now }

abbrev pub spelled_with : Session × Bor (List ℕ) → Spelled × List ℕ
spelled_with x = (spelled x.0, x.1.now)

-- what an entry that borrows its bytes says
abbrev pub said_by : Said → What
said_by (Opens s) = Open s.number
said_by (Sends s piece) = Bytes s.number piece.now
said_by (Shuts s) = Shut s.number
said_by (Writes piece) = Guest piece.now
said_by (Steps ns) = Step ns

-- its session as it is spelled
abbrev pub session_of : Said → List ℕ
session_of (Opens s) = s.name.now
session_of (Sends s piece) = s.name.now
session_of (Shuts s) = s.name.now
session_of (Writes piece) = []
session_of (Steps ns) = []

-- with the bytes after it
abbrev pub saying : Said × Bor (List ℕ) → Saying × List ℕ
saying x = (record { what = said_by x.0; session = session_of x.0 }, x.1.now)

-- an entry that borrows its bytes, with the bytes after it
abbrev pub entry_said : Entry → Recorded × List ℕ
entry_said e = (record { input = record { at = e.at; what = said_by e.said }; session = session_of e.said }, e.rest.now)

-- a session is one of the sixteen, and its name is not too long
abbrev pub IsWithin : Session → Type 0
IsWithin s = (s.number ≤ 15) × (length s.name.now ≤ 32)

-- the session of an entry is such, and its bytes may come in one piece
abbrev pub FitsSaid : Said → Type 0
FitsSaid (Opens s) = IsWithin s
FitsSaid (Sends s piece) = IsWithin s × FitsPiece piece.now
FitsSaid (Shuts s) = IsWithin s
FitsSaid (Writes piece) = FitsPiece piece.now
FitsSaid (Steps ns) = Unit {0}

-- a session that opens or is shut is one of the sixteen
abbrev pub IsOfSixteen : What → Type 0
IsOfSixteen (Open s) = s ≤ 15
IsOfSixteen (Bytes s bytes) = Unit {0}
IsOfSixteen (Shut s) = s ≤ 15
IsOfSixteen (Guest bytes) = Unit {0}
IsOfSixteen (Step ns) = Unit {0}
IsOfSixteen End = Unit {0}
