-- How a recorded stream is read: the entry at the front of some bytes, the entries of a whole stream, and its bad place.
use Rattle.std.specs.Prelude.{ℕ, zero, suc, ◌-◌, ◌^◌, ◌||◌, ◌==◌, nat_lt, if◌then◌else◌, List, [], ◌∷◌, length, take, drop, Option, Some, None, is_some, codes, decimal}
use Rattle.qo_causes.specs.Names.{Given, Names, no_names}
use Rattle.qo_causes.specs.declared.inputs.Moment.{Moment}
use Rattle.qo_causes.specs.declared.inputs.What.{What}
use Rattle.qo_causes.specs.declared.inputs.What.TheVariants.{Open, Bytes, Shut, Guest, Step}
use Rattle.qo_record.specs.Names.{header_of, is_name, is_open, least_free, number_named}
use Rattle.qo_record.specs.Reading.{◌>>=◌, or_else, after_front, digits_of, number_until, word_until}
use Rattle.qo_record.specs.Spelling.{Recorded, given_from, names_after}
use Rattle.qo_record.specs.declared.versions.Version.{Version}
use Rattle.qo_record.specs.declared.versions.Version.TheVariants.{One, Two}

-- a moment, and the space after it
abbrev pub moment_at : List ℕ → Option (Moment × List ℕ)
moment_at bytes =
    number_until 46 (2 ^ 63 - 1) bytes
    >>= λ seconds.
    (digits_of 6 0 seconds.1 >>= λ micros. (after_front (32 ∷ []) micros.1 >>= λ rest. Some (record { seconds = seconds.0; micros = micros.0 }, rest)))

-- so many bytes, and the LF after them
abbrev pub piece_of : ℕ → List ℕ → Option (List ℕ × List ℕ)
piece_of len bytes =
    if (len == 0) || nat_lt (length bytes) len then None
    else (after_front (10 ∷ []) (drop len bytes) >>= λ rest. Some (take len bytes, rest))

-- a number of bytes, and the bytes
abbrev pub piece_at : List ℕ → Option (List ℕ × List ℕ)
piece_at bytes = number_until 10 65536 bytes >>= λ len. piece_of len.0 len.1

-- a name, and the bytes after the byte that ends it
abbrev pub name_until : ℕ → List ℕ → Option (List ℕ × List ℕ)
name_until stop bytes = word_until stop bytes >>= λ name. (if is_name name.0 then Some name else None)

-- a session: its number, and how it is spelled
pub record Spelled : Type 0 where
  pub number : ℕ
  pub text : List ℕ

-- a session by its number, and the bytes after the byte that ends it
abbrev pub number_at : ℕ → List ℕ → Option (Spelled × List ℕ)
number_at stop bytes = number_until stop 15 bytes >>= λ s. Some (record { number = s.0; text = decimal s.0 }, s.1)

-- the session that opens, and the bytes after its line
abbrev pub opening_at : Version → Names → List ℕ → Option (Spelled × List ℕ)
opening_at One names bytes = number_at 10 bytes >>= λ s. (if is_open names s.0.number then None else Some s)
opening_at Two names bytes =
    name_until 10 bytes
    >>= λ name. (if is_some (number_named names name.0) then None else (least_free names >>= λ s. Some (record { number = s; text = name.0 }, name.1)))

-- a session that is open, and the bytes after the byte that ends it
abbrev pub session_at : Version → Names → ℕ → List ℕ → Option (Spelled × List ℕ)
session_at One names stop bytes = number_at stop bytes >>= λ s. (if is_open names s.0.number then Some s else None)
session_at Two names stop bytes =
    name_until stop bytes >>= λ name. (number_named names name.0 >>= λ s. Some (record { number = s; text = name.0 }, name.1))

-- what an entry says after its moment: with its session as it is spelled
pub record Saying : Type 0 where
  pub what : What
  pub session : List ℕ

-- what stands after the moment, for each word
abbrev pub open_at : Version → Names → List ℕ → Option (Saying × List ℕ)
open_at v names bytes = opening_at v names bytes >>= λ s. Some (record { what = Open s.0.number; session = s.0.text }, s.1)

abbrev pub bytes_at : Version → Names → List ℕ → Option (Saying × List ℕ)
bytes_at v names bytes =
    session_at v names 32 bytes
    >>= λ s. (piece_at s.1 >>= λ piece. Some (record { what = Bytes s.0.number piece.0; session = s.0.text }, piece.1))

abbrev pub shut_at : Version → Names → List ℕ → Option (Saying × List ℕ)
shut_at v names bytes = session_at v names 10 bytes >>= λ s. Some (record { what = Shut s.0.number; session = s.0.text }, s.1)

abbrev pub guest_at : List ℕ → Option (Saying × List ℕ)
guest_at bytes = piece_at bytes >>= λ piece. Some (record { what = Guest piece.0; session = [] }, piece.1)

abbrev pub step_at : List ℕ → Option (Saying × List ℕ)
step_at bytes = number_until 10 (2 ^ 63 - 1) bytes >>= λ ns. (if ns.0 == 0 then None else Some (record { what = Step ns.0; session = [] }, ns.1))

-- a word, and the moment after it
abbrev pub moment_after : List ℕ → List ℕ → Option (Moment × List ℕ)
moment_after word bytes = after_front word bytes >>= λ rest. moment_at rest

-- an entry of one word
abbrev pub entry_of : List ℕ → (List ℕ → Option (Saying × List ℕ)) → List ℕ → Option (Recorded × List ℕ)
entry_of word said_at bytes =
    moment_after word bytes
    >>= λ at. (said_at at.1 >>= λ said. Some (record { input = record { at = at.0; what = said.0.what }; session = said.0.session }, said.1))

-- the entry at the front of the bytes, while sessions of these names are open, and the bytes after it
unfoldable pub entry_at : Version → Names → List ℕ → Option (Recorded × List ℕ)
entry_at v names bytes =
    or_else (entry_of (codes "open ") (open_at v names) bytes)
    (or_else (entry_of (codes "bytes ") (bytes_at v names) bytes)
    (or_else (entry_of (codes "shut ") (shut_at v names) bytes)
    (or_else (entry_of (codes "guest ") guest_at bytes) (entry_of (codes "step ") step_at bytes))))

-- the entries of a stream, and the bytes that are left after them
pub record Read : Type 0 where
  pub entries : List Recorded
  pub left : List ℕ

abbrev pub stopped : List ℕ → Read
stopped bytes = record { entries = []; left = bytes }

abbrev pub with_first : Recorded → Read → Read
with_first e r = record { entries = e ∷ r.entries; left = r.left }

abbrev pub on_entry : Option (Recorded × List ℕ) → Read → (Recorded × List ℕ → Read) → Read
on_entry None none some = none
on_entry (Some e) none some = some e

-- as many whole entries as stand there, and at most so many
abbrev pub entries_within : ℕ → Version → Names → List ℕ → Read
entries_within zero v names bytes = stopped bytes
entries_within (suc more) v names bytes =
    on_entry (entry_at v names bytes) (stopped bytes) (λ e. with_first e.0 (entries_within more v (names_after names e.0) e.1))

-- as many whole entries as stand there; each has at least one byte
unfoldable pub entries_from : Version → Names → List ℕ → Read
entries_from v names bytes = entries_within (length bytes) v names bytes

-- the version of a stream, and the bytes after its header
abbrev pub headed : List ℕ → Option (Version × List ℕ)
headed bytes = or_else (after_front (header_of One) bytes >>= λ rest. Some (One, rest)) (after_front (header_of Two) bytes >>= λ rest. Some (Two, rest))

-- the entries of a stream by its header, where sessions of these names are open at first
abbrev pub read_after : Names → List ℕ → Option (Version × List ℕ) → Read
read_after names bytes None = stopped bytes
read_after names bytes (Some h) = entries_from h.0 names h.1

-- the entries of a whole stream, and its inputs, each with the names that stand with it
abbrev pub stream_entries : List ℕ → List Recorded
stream_entries bytes = (read_after no_names bytes (headed bytes)).entries

abbrev pub stream_given : List ℕ → List Given
stream_given bytes = given_from no_names (stream_entries bytes)

-- the place of the first byte that is left, if there is one
abbrev pub offset_before : ℕ → List ℕ → Option ℕ
offset_before size [] = None
offset_before size (b ∷ bytes) = Some (size - length (b ∷ bytes))

-- the bad place of a whole stream: the number of bytes before what is left, and 0 where the header is not there
abbrev pub bad_after : Names → ℕ → Option (Version × List ℕ) → Option ℕ
bad_after names size None = Some 0
bad_after names size (Some h) = offset_before size ((entries_from h.0 names h.1).left)

abbrev pub bad_place : List ℕ → Option ℕ
bad_place bytes = bad_after no_names (length bytes) (headed bytes)
