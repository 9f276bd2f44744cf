-- The characters of a text, escaped one by one.
use Rattle.std.proofs.Common.{◌≡◌, ℕ, List, [], ◌∷◌, ◌++◌, refl, IsUtf8, length, arith, suc}
use Rattle.std.specs.Char.{encode_utf8}
use Rattle.std.specs.List.{flat_map}
use Rattle.std.specs.Str.{IsAscii}
use Rattle.std.proofs.lemmas.Bool.{lt-ltb}
use Rattle.std.proofs.lemmas.Str.{chars-IsAscii, chars_past_char, chars-nil}
use Rattle.qo_replies.specs.Json.{ascii, character_text}

-- characters that are all ASCII stand for themselves
plain : (bs : List ℕ) → IsAscii bs → flat_map character_text bs ≡ bs
plain [] h = refl
plain (b ∷ bs) h = rw (lt-ltb b 128 (h 0), plain bs (λ i. h (suc i))) refl

pub ascii-plain : (bs : List ℕ) → IsAscii bs → ascii bs ≡ bs
unfolding ascii
ascii-plain bs h = rw (chars-IsAscii bs h) (plain bs h)

-- nothing
pub ascii-nil : (bs : List ℕ) → length bs ≡ 0 → ascii bs ≡ []
unfolding ascii
ascii-nil [] h = rw chars-nil refl
ascii-nil (b ∷ bs) h = absurd (omega (arith, h))

-- a character and what follows it
pub ascii-step : (bs rest : List ℕ) (c : ℕ) → IsUtf8 bs → bs ≡ encode_utf8 c ++ rest → ascii bs ≡ character_text c ++ ascii rest
unfolding ascii
ascii-step bs rest c utf8 is = rw (chars_past_char bs rest c utf8 is) refl
