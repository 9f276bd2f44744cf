-- Texts in quotes, and texts of several pieces.
use Rattle.std.proofs.Common.{◌≡◌, ◌≤◌, ℕ, Bool, true, false, List, [], ◌∷◌, ◌++◌, refl, ◌∙◌, append_assoc, IsUtf8, arith, suc, zero}
use Rattle.std.specs.Prelude.{◌&&◌, not, ◌==◌, nat_le}
use Rattle.std.specs.List.{list_all}
use Rattle.std.specs.Str.{IsAscii, chars}
use Rattle.std.proofs.lemmas.Grind.{flat_map-append}
use Rattle.std.proofs.lemmas.Bool.{and_parts, le-ltb, leb-true, ne_eqb, not-true}
use Rattle.std.proofs.lemmas.Str.{chars-append, IsUtf8-from_ascii, IsAscii-append}
use Rattle.json.specs.Print.{escape, escape_byte, quoted}
use Rattle.qo_replies.specs.Json.{ascii, character_text}
use Rattle.qo_replies.specs.PlainBytes.{is_plain_byte}
use Rattle.qo_replies.proofs.AsciiLemmas.{ascii-plain}

-- a text and another after it
pub ascii-append : (a b : List ℕ) → IsUtf8 a → ascii (a ++ b) ≡ ascii a ++ ascii b
unfolding ascii
ascii-append a b h = rw (chars-append a b h) (flat_map-append character_text (chars a) (chars b))

pub ascii-before : (a b : List ℕ) → IsAscii a → ascii (a ++ b) ≡ a ++ ascii b
ascii-before a b h = ascii-append a b (IsUtf8-from_ascii a h) ∙ rw (ascii-plain a h) refl

-- a byte from 32 on has no short escape but as a quote or a backslash
no-escape : (b : ℕ) → 32 ≤ b → (b == 34) ≡ false → (b == 92) ≡ false → escape_byte b ≡ b ∷ []
unfolding escape_byte
no-escape b above quote slash =
    rw (
      quote,
      slash,
      ne_eqb b 8 (λ e. omega (arith, above, e)),
      ne_eqb b 12 (λ e. omega (arith, above, e)),
      ne_eqb b 10 (λ e. omega (arith, above, e)),
      ne_eqb b 13 (λ e. omega (arith, above, e)),
      ne_eqb b 9 (λ e. omega (arith, above, e)),
      le-ltb b 32 above,
    ) refl

-- what a plain byte is
record IsPlain (b : ℕ) : Type 0 where
  above : 32 ≤ b
  below : b ≤ 126
  quote : (b == 34) ≡ false
  slash : (b == 92) ≡ false

is-plain : (b : ℕ) → is_plain_byte b ≡ true → IsPlain b
is-plain b h =
    let all = and_parts (nat_le 32 b && nat_le b 126 && not (b == 34)) (not (b == 92)) h in
    let three = and_parts (nat_le 32 b && nat_le b 126) (not (b == 34)) all.0 in
    let two = and_parts (nat_le 32 b) (nat_le b 126) three.0 in
    record { above = leb-true 32 b two.0; below = leb-true b 126 two.1; quote = not-true _ three.1; slash = not-true _ all.1 }

plain-byte : (b : ℕ) → IsPlain b → escape_byte b ≡ b ∷ []
plain-byte b p = no-escape b p.above p.quote p.slash

parts : (b : ℕ) (bs : List ℕ) → list_all is_plain_byte (b ∷ bs) ≡ true → (is_plain_byte b ≡ true) × (list_all is_plain_byte bs ≡ true)
parts b bs h = and_parts (is_plain_byte b) (list_all is_plain_byte bs) h

pub escape-plain : (bs : List ℕ) → list_all is_plain_byte bs ≡ true → escape bs ≡ bs
escape-plain [] h = refl
escape-plain (b ∷ bs) h = let p = parts b bs h in rw (plain-byte b (is-plain b p.0), escape-plain bs p.1) refl

pub plain-ascii : (bs : List ℕ) → list_all is_plain_byte bs ≡ true → IsAscii bs
plain-ascii [] h i = omega arith
plain-ascii (b ∷ bs) h zero = omega (arith, (is-plain b (parts b bs h).0).below)
plain-ascii (b ∷ bs) h (suc i) = plain-ascii bs (parts b bs h).1 i

abbrev quote : List ℕ
quote = 34 ∷ []

quote-ascii : IsAscii quote
quote-ascii zero = omega arith
quote-ascii (suc i) = omega arith

quoted-ascii : (bs : List ℕ) → list_all is_plain_byte bs ≡ true → IsAscii (quote ++ (bs ++ quote))
quoted-ascii bs h = IsAscii-append quote (bs ++ quote) quote-ascii (IsAscii-append bs quote (plain-ascii bs h) quote-ascii)

-- a plain text in quotes
pub quoted-plain : (bs : List ℕ) → list_all is_plain_byte bs ≡ true → ascii (quoted bs) ≡ quote ++ (bs ++ quote)
quoted-plain bs h = rw (escape-plain bs h) (ascii-plain (quote ++ (bs ++ quote)) (quoted-ascii bs h))

pub quoted-spelled : (bs : List ℕ) → list_all is_plain_byte bs ≡ true → IsUtf8 (quoted bs)
quoted-spelled bs h = rw (escape-plain bs h) (IsUtf8-from_ascii (quote ++ (bs ++ quote)) (quoted-ascii bs h))

-- texts whose bytes are all at most 126
abbrev pub small : List ℕ → Bool
small bs = list_all (λ b. nat_le b 126) bs

pub small-ascii : (bs : List ℕ) → small bs ≡ true → IsAscii bs
small-ascii [] h i = omega arith
small-ascii (b ∷ bs) h zero = let p = and_parts (nat_le b 126) (small bs) h in omega (arith, leb-true b 126 p.0)
small-ascii (b ∷ bs) h (suc i) = small-ascii bs (and_parts (nat_le b 126) (small bs) h).1 i

-- pieces, one after another
pub three_more : (a b c d : List ℕ) → ((a ++ b) ++ c) ++ d ≡ a ++ (b ++ (c ++ d))
three_more a b c d = append_assoc (a ++ b) c d ∙ append_assoc a b (c ++ d)

pub five_more : (a b c d e f : List ℕ) → ((((a ++ b) ++ c) ++ d) ++ e) ++ f ≡ a ++ (b ++ (c ++ (d ++ (e ++ f))))
five_more a b c d e f = three_more ((a ++ b) ++ c) d e f ∙ three_more a b c (d ++ (e ++ f))
