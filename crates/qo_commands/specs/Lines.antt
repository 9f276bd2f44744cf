-- How the bytes of the guest are cut into lines (docs/PROFILE.md, guest lines).
use Rattle.std.specs.Prelude.{◌≡◌, ℕ, ◌+◌, ◌==◌, nat_lt, List, [], ◌∷◌, ◌++◌, length, if◌then◌else◌}
use Rattle.std.specs.Io.BufRead.{strip_last}
use Rattle.qo_values.specs.declared.limits.TheConstants.{GUEST_LINE_MAX}

-- the lines that end in some bytes, each without its line feed, and the front of an unfinished line after them
pub record Lines : Type 0 where
  pub lines : List (List ℕ)
  pub rest : List ℕ

-- a front with a byte more; of a line that is too long, no more than tells that it is
abbrev pub kept_with : List ℕ → ℕ → List ℕ
kept_with kept byte = if nat_lt (length kept) (GUEST_LINE_MAX + 2) then kept ++ byte ∷ [] else kept

abbrev pub after_line : List ℕ → Lines → Lines
after_line line l = record { lines = line ∷ l.lines; rest = l.rest }

-- of a kept front and bytes after it; a line ends at a line feed
abbrev pub lines_of : List ℕ → List ℕ → Lines
lines_of kept [] = record { lines = []; rest = kept }
lines_of kept (byte ∷ bytes) =
    if byte == 10 then after_line kept (lines_of [] bytes) else lines_of (kept_with kept byte) bytes

-- some lines, and then those of further bytes
abbrev pub lines_on : Lines → List ℕ → Lines
lines_on l bytes = record { lines = l.lines ++ (lines_of l.rest bytes).lines; rest = (lines_of l.rest bytes).rest }

-- a line without the one carriage return at its end, if it has one
abbrev pub without_return : List ℕ → List ℕ
without_return line = strip_last 13 line

-- bytes may be cut anywhere
abbrev pub LinesCutAnywhere : Type 0
LinesCutAnywhere = (kept a b : List ℕ) → lines_of kept (a ++ b) ≡ lines_on (lines_of kept a) b
