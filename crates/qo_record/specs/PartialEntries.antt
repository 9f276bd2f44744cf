-- For proofs alone. Which bytes may still become an entry when more come.
use Rattle.std.specs.Prelude.{ℕ, Bool, false, ◌&&◌, ◌||◌, ◌==◌, nat_le, nat_lt, not, List, length, Option, None, Some, codes}
use Rattle.std.specs.List.{list_any}
use Rattle.qo_record.specs.Reading.{◌>>=◌, number_until}
use Rattle.qo_causes.specs.Names.{Names}
use Rattle.qo_record.specs.Record.{moment_after, session_at}
use Rattle.qo_record.specs.declared.versions.Version.{Version}
use Rattle.qo_record.specs.declared.versions.Version.TheVariants.{One, Two}

-- how many bytes the first line of an entry of a session, or of the guest, promises, and the bytes after that line
abbrev pub promised_by_session : Version → Names → List ℕ → Option (ℕ × List ℕ)
promised_by_session v names bytes =
    moment_after (codes "bytes ") bytes >>= λ at. (session_at v names 32 at.1 >>= λ s. number_until 10 65536 s.1)

abbrev pub promised_by_guest : List ℕ → Option (ℕ × List ℕ)
promised_by_guest bytes = moment_after (codes "guest ") bytes >>= λ at. number_until 10 65536 at.1

-- some of these bytes, or the line's end after them, are still to come
abbrev pub are_to_come : Option (ℕ × List ℕ) → Bool
are_to_come None = false
are_to_come (Some p) = nat_lt 0 p.0 && nat_le (length p.1) p.0

-- a line ends among these bytes
abbrev pub has_line : List ℕ → Bool
has_line bytes = list_any (λ b. b == 10) bytes

-- the most bytes that the first line of an entry has, with its end
abbrev pub line_most : Version → ℕ
line_most One = 52
line_most Two = 72

-- bytes at whose front no entry stands, and none will: their first line has ended, or is longer than that of any entry,
-- and it promises no bytes that are still to come
unfoldable pub is_wrong : Version → Names → List ℕ → Bool
is_wrong v names bytes =
    (nat_le (line_most v) (length bytes) || has_line bytes)
    && not (are_to_come (promised_by_session v names bytes) || are_to_come (promised_by_guest bytes))
