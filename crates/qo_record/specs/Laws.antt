-- For a law alone. What the reading of a recorded stream is, in the words of how entries are spelled and which may stand.
use Rattle.std.specs.Prelude.{ℕ, ◌≡◌, ◌≢◌, ◌<◌, ◌≤◌, ◌^◌, ◌↔◌, false, List, [], ◌++◌, length, Some, None}
use Rattle.std.specs.List.{AllByRecursion}
use Rattle.qo_causes.specs.Hub.{is_end}
use Rattle.qo_causes.specs.Names.{Given, Names, no_names}
use Rattle.qo_record.specs.Demo.{demo_bytes, demo_given, demo_inputs, drawn, next_number, numbered_all}
use Rattle.qo_record.specs.Names.{header_of}
use Rattle.qo_record.specs.Record.{bad_place, entry_at, offset_before, stream_entries, stream_given}
use Rattle.qo_record.specs.Spelling.{FitAll, Fits, Recorded, entries_text, entry_text}
use Rattle.qo_record.specs.declared.versions.Version.{Version}

-- an entry is read exactly where it is spelled and may stand, whatever follows
abbrev pub EntriesAreSpelled : Type 0
EntriesAreSpelled =
    (v : Version) (names : Names) (bytes : List ℕ) (e : Recorded) (rest : List ℕ)
    → (entry_at v names bytes ≡ Some (e, rest)) ↔ ((bytes ≡ entry_text e ++ rest) × Fits v names e)

-- the bytes are the header, entries that may stand, and what is left; any other such entries are the first of these
pub record IsLongest (v : Version) (bytes : List ℕ) (entries : List Recorded) (left : List ℕ) : Type 0 where
  pub parts : bytes ≡ header_of v ++ (entries_text entries ++ left)
  pub fit : FitAll v no_names entries
  pub longest : (others : List Recorded) (rest : List ℕ) → FitAll v no_names others → bytes ≡ header_of v ++ (entries_text others ++ rest)
      → (more : List Recorded) × (entries ≡ others ++ more)

-- after a header the entries are the longest list of whole ones, and the bad place is that of what is left
pub record ReadsLongest (v : Version) (bytes : List ℕ) : Type 0 where
  pub left : List ℕ
  pub entries : IsLongest v bytes (stream_entries bytes) left
  pub bad : bad_place bytes ≡ offset_before (length bytes) left

abbrev pub StreamsAreLongest : Type 0
StreamsAreLongest = (v : Version) (bytes after : List ℕ) → bytes ≡ header_of v ++ after → ReadsLongest v bytes

-- without a header there are no entries, and the bad place is 0
abbrev pub HeaderIsNeeded : Type 0
HeaderIsNeeded =
    (bytes : List ℕ) → ((v : Version) (after : List ℕ) → bytes ≢ header_of v ++ after) → (stream_entries bytes ≡ []) × (bad_place bytes ≡ Some 0)

-- entries that may stand are read from the stream that spells them, with nothing left
abbrev pub SpelledStreamsAreRead : Type 0
SpelledStreamsAreRead =
    (v : Version) (entries : List Recorded) → FitAll v no_names entries
    → (stream_entries (header_of v ++ entries_text entries) ≡ entries) × (bad_place (header_of v ++ entries_text entries) ≡ None)

-- the end is no input of a stream, and there are no more inputs than bytes
abbrev pub InputsAreFew : Type 0
InputsAreFew =
    (bytes : List ℕ) → AllByRecursion (λ (g : Given). is_end g.input.what ≡ false) (stream_given bytes) × (length (stream_given bytes) ≤ length bytes)

-- a demo record is read as the inputs of the demo, with nothing left
pub record DemoIsRead (seed steps : ℕ) : Type 0 where
  pub entries : stream_entries (demo_bytes seed steps) ≡ numbered_all (demo_inputs seed steps)
  pub given : stream_given (demo_bytes seed steps) ≡ demo_given seed steps
  pub none : bad_place (demo_bytes seed steps) ≡ None

abbrev pub DemosAreRead : Type 0
DemosAreRead = (seed steps : ℕ) → steps < 2 ^ 32 → DemoIsRead seed steps

-- the first draw of the seed 1
abbrev pub FirstDraw : Type 0
FirstDraw = drawn (next_number 1) ≡ 908834774
