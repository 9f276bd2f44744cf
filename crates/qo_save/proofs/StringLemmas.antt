-- A text that is sent in ASCII is read back: its escapes, character by character.
use Rattle.std.proofs.Common.{◌≡◌, ◌≢◌, ◌≤◌, ◌<◌, ◌+◌, ◌-◌, ◌*◌, ◌/◌, ◌%◌, ◌&&◌, ℕ, zero, suc, Bool, true, false, cond, nat_lt, List, [], ◌∷◌, ◌++◌, length, get_or, Some, inl, inr, ◌⊎◌, refl, sym, ap, ap₂, ◌∙◌, subst, arith, append_assoc, append-nil, IsUtf8}
use Rattle.std.specs.Char.{digit_char, digit_value}
use Rattle.std.specs.List.{list_all}
use Rattle.std.specs.Str.{IsAscii, chars}
use lib.Utf8.{scalar, scalars, encode, encodes, scalar_cases}
use Rattle.std.proofs.lemmas.Bool.{and_parts, cases_eq, cases_lt, le-leb, le-ltb, lt-leb, lt-ltb, ltb-true, ne_eqb}
use Rattle.std.proofs.lemmas.Str.{IsUtf8-append, IsUtf8-encode, IsUtf8-from_ascii, IsUtf8-nil, digit_value-digit_char, encode_ascii, encodes-chars, inside_one, scalars-chars}
use Rattle.json.specs.Lex.{Lexeme, Mode, in_string, lex, lex_byte, operator, other, space}
use Rattle.json.specs.Print.{escape, escape_byte}
use Rattle.json.specs.Text.{code_unit, content, is_high_surrogate, is_low_surrogate, plain, prepend, short_escape, surrogate_pair}
use Rattle.json.specs.Word.{is_operator, is_space}
use Rattle.json.proofs.Printed.Strings.{escape_byte_plain}
use Rattle.qo_replies.specs.Json.{ascii, pair_text, unit_text, units_text}
use Rattle.qo_replies.proofs.AsciiLemmas.{ascii-nil, ascii-plain, ascii-step}
use Rattle.qo_replies.proofs.QuoteLemmas.{ascii-append}
use Rattle.qo_save.specs.Texts.{IsReadBack, TextsReadBack}

-- what both readers make of some bytes, whatever follows: these stand for others, and are passed over
record Reads (bytes stood : List ℕ) : Type 0 where
  said : (r : List ℕ) → content plain (bytes ++ r) ≡ prepend stood (content plain r)
  passed : (r : List ℕ) → lex in_string (bytes ++ r) ≡ lex in_string r

-- ---- four digits of a unit

summed : (u : ℕ) → u / 4096 * 4096 + u / 256 % 16 * 256 + u / 16 % 16 * 16 + u % 16 ≡ u
summed u =
    let high : u / 256 ≡ u / 16 / 16 = omega arith in
    let highest : u / 4096 ≡ u / 16 / 16 / 16 = omega arith in
    rw high (rw highest (omega arith))

unit_said : (u : ℕ) → u < 65536 → code_unit (digit_char (u / 4096)) (digit_char (u / 256 % 16)) (digit_char (u / 16 % 16)) (digit_char (u % 16)) ≡ Some u
unfolding code_unit
unit_said u h =
    let a : digit_value (digit_char (u / 4096)) ≡ u / 4096 = digit_value-digit_char (u / 4096) (omega arith) in
    let b : digit_value (digit_char (u / 256 % 16)) ≡ u / 256 % 16 = digit_value-digit_char (u / 256 % 16) (omega arith) in
    let c : digit_value (digit_char (u / 16 % 16)) ≡ u / 16 % 16 = digit_value-digit_char (u / 16 % 16) (omega arith) in
    let d : digit_value (digit_char (u % 16)) ≡ u % 16 = digit_value-digit_char (u % 16) (omega arith) in
    rw (a, b, c, d, lt-ltb (u / 4096) 16 (omega arith), lt-ltb (u / 256 % 16) 16 (omega arith), lt-ltb (u / 16 % 16) 16 (omega arith), lt-ltb (u % 16) 16 (omega arith)) (ap Some (summed u))

inside : (o s : Bool) (x : ℕ) (r : List ℕ) (k : Mode → List Lexeme) → lex_byte in_string (cond o operator (cond s space other)) x r k ≡ k in_string
inside true s x r k = refl
inside false true x r k = refl
inside false false x r k = refl

byte_passed : (x : ℕ) (r : List ℕ) → x ≢ 34 → x ≢ 92 → lex in_string (x ∷ r) ≡ lex in_string r
unfolding lex
byte_passed x r q b = rw (ne_eqb x 34 q, ne_eqb x 92 b) (inside (is_operator x) (is_space x) x r (λ m. lex m r))

digit_apart : (d : ℕ) → d < 16 → (digit_char d ≢ 34) × (digit_char d ≢ 92)
digit_apart d h = elim (cases_lt d 10) [
  | inl low ↦ rw (lt-ltb d 10 low) ((λ e. omega arith), (λ e. omega arith))
  | inr high ↦ rw (le-ltb d 10 high) ((λ e. omega arith), (λ e. omega arith))
]

digit_passed : (d : ℕ) (r : List ℕ) → d < 16 → lex in_string (digit_char d ∷ r) ≡ lex in_string r
digit_passed d r h = let p = digit_apart d h in byte_passed (digit_char d) r p.0 p.1

unit_begun : (u : ℕ) (r : List ℕ) → lex in_string (unit_text u ++ r) ≡ lex in_string (digit_char (u / 4096) ∷ digit_char (u / 256 % 16) ∷ digit_char (u / 16 % 16) ∷ digit_char (u % 16) ∷ r)
unfolding lex
unit_begun u r = refl

unit_passed : (u : ℕ) (r : List ℕ) → u < 65536 → lex in_string (unit_text u ++ r) ≡ lex in_string r
unit_passed u r h =
    unit_begun u r ∙ digit_passed (u / 4096) _ (omega arith) ∙ digit_passed (u / 256 % 16) _ (omega arith) ∙ digit_passed (u / 16 % 16) _ (omega arith)
    ∙ digit_passed (u % 16) r (omega arith)

-- a unit that is no surrogate, and a pair of surrogates
lone_said : (u : ℕ) (r : List ℕ) → u < 65536 → is_high_surrogate u ≡ false → is_low_surrogate u ≡ false
    → content plain (unit_text u ++ r) ≡ prepend (encode u) (content plain r)
unfolding content
lone_said u r h high low = rw (unit_said u h, high, low) refl

pair_said : (a b : ℕ) (r : List ℕ) → a < 65536 → b < 65536 → is_high_surrogate a ≡ true → is_low_surrogate b ≡ true
    → content plain (unit_text a ++ (unit_text b ++ r)) ≡ prepend (encode (surrogate_pair a b)) (content plain r)
unfolding content
pair_said a b r ha hb high low = rw (unit_said a ha, high, unit_said b hb, low) refl

lone : (u : ℕ) → u < 65536 → is_high_surrogate u ≡ false → is_low_surrogate u ≡ false → Reads (unit_text u) (encode u)
lone u h high low = record { said = λ r. lone_said u r h high low; passed = λ r. unit_passed u r h }

-- ---- a byte of ASCII

quote_reads : Reads (escape_byte 34) (34 ∷ [])
unfolding escape_byte content lex short_escape
quote_reads = record { said = λ r. refl; passed = λ r. refl }

backslash_reads : Reads (escape_byte 92) (92 ∷ [])
unfolding escape_byte content lex short_escape
backslash_reads = record { said = λ r. refl; passed = λ r. refl }

backspace_reads : Reads (escape_byte 8) (8 ∷ [])
unfolding escape_byte content lex short_escape
backspace_reads = record { said = λ r. refl; passed = λ r. refl }

tab_reads : Reads (escape_byte 9) (9 ∷ [])
unfolding escape_byte content lex short_escape
tab_reads = record { said = λ r. refl; passed = λ r. refl }

line_reads : Reads (escape_byte 10) (10 ∷ [])
unfolding escape_byte content lex short_escape
line_reads = record { said = λ r. refl; passed = λ r. refl }

form_reads : Reads (escape_byte 12) (12 ∷ [])
unfolding escape_byte content lex short_escape
form_reads = record { said = λ r. refl; passed = λ r. refl }

return_reads : Reads (escape_byte 13) (13 ∷ [])
unfolding escape_byte content lex short_escape
return_reads = record { said = λ r. refl; passed = λ r. refl }

plain_reads : (x : ℕ) → x ≢ 34 → x ≢ 92 → 32 ≤ x → Reads (escape_byte x) (x ∷ [])
unfolding content lex
plain_reads x q b l =
    let same = escape_byte_plain x q b l in
    record {
      said = λ r. rw (same, ne_eqb x 34 q, ne_eqb x 92 b, le-ltb x 32 l);
      passed = λ r. rw (same, ne_eqb x 34 q, ne_eqb x 92 b) (inside (is_operator x) (is_space x) x r (λ m. lex m r));
    }

-- any other below a space is escaped by its unit
record HasNoLetter (x : ℕ) : Type 0 where
  low : x < 32
  backspace : x ≢ 8
  tab : x ≢ 9
  line : x ≢ 10
  form : x ≢ 12
  back : x ≢ 13

unit_spelled : (x : ℕ) → x < 32 → 92 ∷ 117 ∷ 48 ∷ 48 ∷ digit_char (x / 16) ∷ digit_char (x % 16) ∷ [] ≡ unit_text x
unit_spelled x h =
    let first : x / 4096 ≡ 0 = omega arith in
    let second : x / 256 % 16 ≡ 0 = omega arith in
    let third : x / 16 % 16 ≡ x / 16 = omega arith in
    rw (first, second, third) refl

unit_escaped : (x : ℕ) → HasNoLetter x → escape_byte x ≡ unit_text x
unfolding escape_byte
unit_escaped x h =
    rw (
      ne_eqb x 34 (λ e. omega (arith, h.low)),
      ne_eqb x 92 (λ e. omega (arith, h.low)),
      ne_eqb x 8 h.backspace,
      ne_eqb x 12 h.form,
      ne_eqb x 10 h.line,
      ne_eqb x 13 h.back,
      ne_eqb x 9 h.tab,
      lt-ltb x 32 h.low,
    ) (unit_spelled x h.low)

control_reads : (x : ℕ) → HasNoLetter x → Reads (escape_byte x) (x ∷ [])
control_reads x h =
    let low : x < 32 = h.low in
    let unit : Reads (unit_text x) (encode x) = lone x (omega (arith, low)) (rw (lt-leb 55296 x (omega (arith, low))) refl) (rw (lt-leb 56320 x (omega (arith, low))) refl) in
    subst (λ bytes. Reads bytes (x ∷ [])) (sym (unit_escaped x h)) (subst (Reads (unit_text x)) (encode_ascii x (omega (arith, low))) unit)

byte_reads : (x : ℕ) → Reads (escape_byte x) (x ∷ [])
byte_reads x = high (cases_lt x 32)
  where
    high : (x < 32) ⊎ (32 ≤ x) → Reads (escape_byte x) (x ∷ [])
    high (inr l) = slash (cases_eq x 34) (cases_eq x 92)
      where
        slash : (x ≡ 34) ⊎ (x ≡ 34 → ⊥) → (x ≡ 92) ⊎ (x ≡ 92 → ⊥) → Reads (escape_byte x) (x ∷ [])
        slash (inl e) b = subst (λ y. Reads (escape_byte y) (y ∷ [])) (sym e) quote_reads
        slash (inr q) (inl e) = subst (λ y. Reads (escape_byte y) (y ∷ [])) (sym e) backslash_reads
        slash (inr q) (inr b) = plain_reads x q b l
    high (inl low) = letter (cases_eq x 8) (cases_eq x 9) (cases_eq x 10) (cases_eq x 12) (cases_eq x 13)
      where
        letter : (x ≡ 8) ⊎ (x ≡ 8 → ⊥) → (x ≡ 9) ⊎ (x ≡ 9 → ⊥) → (x ≡ 10) ⊎ (x ≡ 10 → ⊥) → (x ≡ 12) ⊎ (x ≡ 12 → ⊥) → (x ≡ 13) ⊎ (x ≡ 13 → ⊥)
            → Reads (escape_byte x) (x ∷ [])
        letter (inl e) b c d f = subst (λ y. Reads (escape_byte y) (y ∷ [])) (sym e) backspace_reads
        letter (inr a) (inl e) c d f = subst (λ y. Reads (escape_byte y) (y ∷ [])) (sym e) tab_reads
        letter (inr a) (inr b) (inl e) d f = subst (λ y. Reads (escape_byte y) (y ∷ [])) (sym e) line_reads
        letter (inr a) (inr b) (inr c) (inl e) f = subst (λ y. Reads (escape_byte y) (y ∷ [])) (sym e) form_reads
        letter (inr a) (inr b) (inr c) (inr d) (inl e) = subst (λ y. Reads (escape_byte y) (y ∷ [])) (sym e) return_reads
        letter (inr a) (inr b) (inr c) (inr d) (inr f) = control_reads x (record { low = low; backspace = a; tab = b; line = c; form = d; back = f })

-- ---- a character above ASCII

pair_is : (c : ℕ) → 65536 ≤ c → surrogate_pair (55296 + (c - 65536) / 1024) (56320 + (c - 65536) % 1024) ≡ c
pair_is c h = omega arith

pair : (c : ℕ) → 65536 ≤ c → c < 1114112 → Reads (pair_text c) (encode c)
pair c h below =
    let a : ℕ = 55296 + (c - 65536) / 1024 in
    let b : ℕ = 56320 + (c - 65536) % 1024 in
    let high : is_high_surrogate a ≡ true = rw (le-leb 55296 a (omega arith), lt-ltb a 56320 (omega arith)) refl in
    let low : is_low_surrogate b ≡ true = rw (le-leb 56320 b (omega arith), lt-ltb b 57344 (omega arith)) refl in
    record {
      said = λ r. ap (content plain) (append_assoc (unit_text a) (unit_text b) r) ∙ pair_said a b r (omega arith) (omega arith) high low
          ∙ ap (λ x. prepend (encode x) (content plain r)) (pair_is c h);
      passed = λ r. ap (lex in_string) (append_assoc (unit_text a) (unit_text b) r) ∙ unit_passed a _ (omega arith) ∙ unit_passed b r (omega arith);
    }

lone_of : (c : ℕ) → (c < 55296) ⊎ ((57344 ≤ c) × (c < 1114112)) → c < 65536 → Reads (unit_text c) (encode c)
lone_of c (inl low) h = lone c h (rw (lt-leb 55296 c low) refl) (rw (lt-leb 56320 c (omega arith)) refl)
lone_of c (inr high) h =
    let from : 57344 ≤ c = high.0 in
    lone c h (rw (le-leb 55296 c (omega arith), le-ltb c 56320 (omega arith)) refl) (rw (le-leb 56320 c (omega arith), le-ltb c 57344 from) refl)

pair_of : (c : ℕ) → (c < 55296) ⊎ ((57344 ≤ c) × (c < 1114112)) → 65536 ≤ c → Reads (pair_text c) (encode c)
pair_of c (inl low) h = absurd (omega arith)
pair_of c (inr high) h = pair c h high.1

above : (c : ℕ) → scalar c ≡ true → Reads (units_text c) (encode c)
above c ok = elim (cases_lt c 65536) [
  | inl small ↦ rw (lt-ltb c 65536 small) (lone_of c (scalar_cases c ok) small)
  | inr big ↦ rw (le-ltb c 65536 big) (pair_of c (scalar_cases c ok) big)
]

-- ---- any character, with its escape

-- an escape of ASCII is ASCII
abbrev is_low : List ℕ → Bool
is_low bs = list_all (λ b. nat_lt b 128) bs

low_ascii : (bs : List ℕ) → is_low bs ≡ true → IsAscii bs
low_ascii [] h i = omega arith
low_ascii (b ∷ bs) h zero = let p = and_parts (nat_lt b 128) (is_low bs) h in omega (arith, ltb-true b 128 p.0)
low_ascii (b ∷ bs) h (suc i) = low_ascii bs (and_parts (nat_lt b 128) (is_low bs) h).1 i

abbrev escapes_below : ℕ → Bool
escapes_below zero = true
escapes_below (suc n) = is_low (escape_byte n) && escapes_below n

escape_below : (n : ℕ) → escapes_below n ≡ true → (x : ℕ) → x < n → is_low (escape_byte x) ≡ true
escape_below zero e x h = absurd (omega arith)
escape_below (suc n) e x h =
    let p = and_parts _ _ e in
    elim (cases_eq x n) [ inl same ↦ rw same p.0 | inr apart ↦ escape_below n p.1 x (omega arith) ]

all_low : escapes_below 128 ≡ true
unfolding escape_byte
all_low = refl

escape-append : (xs ys : List ℕ) → escape (xs ++ ys) ≡ escape xs ++ escape ys
escape-append [] ys = refl
escape-append (x ∷ xs) ys = ap (λ l. escape_byte x ++ l) (escape-append xs ys) ∙ sym (append_assoc (escape_byte x) _ _)

escape_high : (xs : List ℕ) → ((k : ℕ) → k < length xs → 128 ≤ get_or xs k 0) → escape xs ≡ xs
escape_high [] h = refl
escape_high (x ∷ xs) h =
    let high : 128 ≤ x = h 0 (omega arith) in
    ap₂ (λ (a b : List ℕ). a ++ b) (escape_byte_plain x (λ e. omega arith) (λ e. omega arith) (omega arith)) (escape_high xs (λ k below. h (suc k) (omega arith)))

-- what is sent for a character
abbrev sent : ℕ → List ℕ
sent c = ascii (escape (encode c))

record IsSent (c : ℕ) : Type 0 where
  reads : Reads (sent c) (encode c)
  spelled : IsUtf8 (escape (encode c))

low_sent : (c : ℕ) → c < 128 → IsSent c
low_sent c h =
    let one : encode c ≡ c ∷ [] = encode_ascii c h in
    let plainly : escape (encode c) ≡ escape_byte c = ap escape one ∙ append-nil (escape_byte c) in
    let low : IsAscii (escape_byte c) = low_ascii (escape_byte c) (escape_below 128 all_low c h) in
    let is : sent c ≡ escape_byte c = ap ascii plainly ∙ ascii-plain (escape_byte c) low in
    record { reads = rw (is, one) (byte_reads c); spelled = subst IsUtf8 (sym plainly) (IsUtf8-from_ascii (escape_byte c) low) }

high_sent : (c : ℕ) → scalar c ≡ true → 128 ≤ c → IsSent c
high_sent c ok h =
    let high : (k : ℕ) → k < length (encode c) → 128 ≤ get_or (encode c) k 0 = λ k below. elim (cases_lt (get_or (encode c) k 0) 128) [
      | inl low ↦ absurd (omega (arith, inside_one c [] (encode c) k (sym (append-nil _)) below low))
      | inr high ↦ high
    ] in
    let same : escape (encode c) ≡ encode c = escape_high (encode c) high in
    let is : sent c ≡ units_text c =
    ap ascii same ∙ ascii-step (encode c) [] c (IsUtf8-encode c ok) (sym (append-nil _))
    ∙ ap₂ (λ (a b : List ℕ). a ++ b) (rw (le-ltb c 128 h) refl) (ascii-nil [] refl) ∙ append-nil (units_text c) in
    record { reads = rw is (above c ok); spelled = subst IsUtf8 (sym same) (IsUtf8-encode c ok) }

is_sent : (c : ℕ) → scalar c ≡ true → IsSent c
is_sent c ok = elim (cases_lt c 128) [ inl low ↦ low_sent c low | inr high ↦ high_sent c ok high ]

-- ---- a text

-- with the spelling of what is escaped of it
record IsRead (s : List ℕ) : Type 0 where
  back : IsReadBack s
  spelled : IsUtf8 (escape s)

none_read : IsRead []
unfolding content lex
none_read = record { back = record { said = λ r. rw (ascii-nil [] refl) refl; passed = λ r. rw (ascii-nil [] refl) refl }; spelled = IsUtf8-nil }

one_more : (c : ℕ) (s : List ℕ) → IsSent c → IsRead s → IsRead (encode c ++ s)
one_more c s one rest =
    let apart : (r : List ℕ) → ascii (escape (encode c ++ s)) ++ 34 ∷ r ≡ sent c ++ (ascii (escape s) ++ 34 ∷ r) = λ r. ap (λ l. ascii l ++ 34 ∷ r) (escape-append (encode c) s)
    ∙ ap (λ l. l ++ 34 ∷ r) (ascii-append (escape (encode c)) (escape s) one.spelled) ∙ append_assoc (sent c) (ascii (escape s)) (34 ∷ r) in
    record {
      back =
          record {
            said = λ r. ap (content plain) (apart r) ∙ one.reads.said _ ∙ ap (prepend (encode c)) (rest.back.said r);
            passed = λ r. ap (lex in_string) (apart r) ∙ one.reads.passed _ ∙ rest.back.passed r;
          };
      spelled = subst IsUtf8 (sym (escape-append (encode c) s)) (IsUtf8-append (escape (encode c)) (escape s) one.spelled rest.spelled);
    }

all_read : (cs : List ℕ) → scalars cs ≡ true → IsRead (encodes cs)
all_read [] ok = none_read
all_read (c ∷ cs) ok = let p = and_parts (scalar c) (scalars cs) ok in one_more c (encodes cs) (is_sent c p.0) (all_read cs p.1)

is_read : (s : List ℕ) → IsUtf8 s → IsRead s
is_read s utf8 = subst IsRead (encodes-chars s utf8) (all_read (chars s) (scalars-chars s utf8))

pub IsUtf8-escape : (s : List ℕ) → IsUtf8 s → IsUtf8 (escape s)
IsUtf8-escape s utf8 = (is_read s utf8).spelled

pub texts_lem : TextsReadBack
texts_lem s utf8 = (is_read s utf8).back
