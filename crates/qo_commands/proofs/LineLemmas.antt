-- Lines, byte by byte.
use Rattle.std.proofs.Common.{◌≡◌, ◌<◌, ◌+◌, refl, ap, sym, ◌∙◌, ℕ, ◌==◌, Bool, true, false, List, [], ◌∷◌, ◌++◌, length, take, if◌then◌else◌, slice_index_or}
use Rattle.std.proofs.lemmas.List.{take_more}
use Rattle.qo_commands.specs.Lines.{Lines, LinesCutAnywhere, after_line, kept_with, lines_of, lines_on}

-- the lines of a byte and more, by whether it is a line feed
abbrev next : Bool → List ℕ → ℕ → List ℕ → Lines
next t kept byte bytes = if t then after_line kept (lines_of [] bytes) else lines_of (kept_with kept byte) bytes

pub lines-cut : LinesCutAnywhere
lines-cut kept [] b = refl
lines-cut kept (byte ∷ a) b = by (lines-cut [] a b) (lines-cut (kept_with kept byte) a b) (byte == 10)
  where
    by : lines_of [] (a ++ b) ≡ lines_on (lines_of [] a) b → lines_of (kept_with kept byte) (a ++ b) ≡ lines_on (lines_of (kept_with kept byte) a) b
        → (t : Bool) → next t kept byte (a ++ b) ≡ lines_on (next t kept byte a) b
    by ends goes true = ap (after_line kept) ends
    by ends goes false = goes

abbrev pub lines_now : List (List ℕ) → List ℕ → Lines
lines_now lines rest = record { lines = lines; rest = rest }

-- one byte more
pub lines-more : (kept bytes rest rest' : List ℕ) (lines lines' : List (List ℕ)) (i byte : ℕ) → i < length bytes → byte ≡ slice_index_or bytes i 0
    → lines_of kept (take i bytes) ≡ lines_now lines rest → lines_now lines' rest' ≡ lines_on (lines_now lines rest) (byte ∷ [])
    → lines_of kept (take (i + 1) bytes) ≡ lines_now lines' rest'
lines-more kept bytes rest rest' lines lines' i byte below is was more =
    ap (lines_of kept) (take_more bytes i 0 below ∙ ap (λ (y : ℕ). take i bytes ++ y ∷ []) (sym is))
    ∙ lines-cut kept (take i bytes) (byte ∷ []) ∙ ap (λ (l : Lines). lines_on l (byte ∷ [])) was ∙ sym more
