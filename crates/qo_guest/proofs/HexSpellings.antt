-- Values from their hexadecimal digits, and back.
use Rattle.std.proofs.Common.{◌≡◌, ◌==◌, ℕ, suc, zero, ◌+◌, ◌*◌, ◌/◌, ◌%◌, ◌^◌, ◌<◌, Bool, true, false, cond, ◌&&◌, nat_le, List, [], ◌∷◌, ◌++◌, length, Option, Some, None, refl, ap, arith}
use Rattle.std.specs.Prelude.{option_and_then, codes}
use Rattle.std.specs.Char.{digit_value}
use Rattle.std.specs.Fmt.{digit_glyph}
use Rattle.std.specs.Str.Parse.{AllDigits, digits_value_after}
use Rattle.std.proofs.Math.Nat.{pow-suc}
use Rattle.std.proofs.lemmas.Bool.Decides.{nat_tests}
use Rattle.qo_guest.specs.Addresses.{hex_digit, with_hex, hex_of, value_of}
use Rattle.qo_guest.specs.Answers.{hex_text}
use Rattle.qo_guest.specs.Spellings.{IsHex, ValuesAreReadBack}
use Rattle.qo_guest.proofs.Numbers.{then_some}

-- a hexadecimal digit and its value
digit_is : (byte digit : ℕ) → hex_digit byte ≡ Some digit → (digit_value byte < 16) × (digit ≡ digit_value byte)
digit_is byte digit e = (grind (arith, nat_tests), grind (arith, nat_tests))

digit_of : (byte : ℕ) → digit_value byte < 16 → hex_digit byte ≡ Some (digit_value byte)
digit_of byte small = grind (arith, nat_tests)

-- digits read are digits, and stand for the value
digits_taken : (ds : List ℕ) (n value : ℕ) → with_hex n ds ≡ Some value → AllDigits 16 ds × (digits_value_after 16 n ds ≡ value)
digits_taken [] n value e = (tt, cc)
digits_taken (byte ∷ ds) n value e =
    let step = then_some (hex_digit byte) (λ digit. with_hex (n * 16 + digit) ds) value e in
    let here = digit_is byte step.0 step.1 in
    let rest = digits_taken ds (n * 16 + step.0) value step.2 in
    ((here.0, rest.0), rw (← here.1) rest.1)

digits_given : (ds : List ℕ) (n value : ℕ) → AllDigits 16 ds → digits_value_after 16 n ds ≡ value → with_hex n ds ≡ Some value
digits_given [] n value all e = ap Some e
digits_given (byte ∷ ds) n value all e = rw (digit_of byte all.0) (digits_given ds (n * 16 + digit_value byte) value all.1 e)

-- a test in front
pub guard_then : {A : Type 0} (b : Bool) (o : Option A) (y : A) → cond b o None ≡ Some y → (b ≡ true) × (o ≡ Some y)
guard_then true o y e = (refl, e)
guard_then false o y e = cc

pub hex_taken : (most : ℕ) (word : List ℕ) (value : ℕ) → hex_of most word ≡ Some value → (digits : List ℕ) × IsHex most digits value × (word ≡ codes "0x" ++ digits)
hex_taken most [] value e = cc
hex_taken most (first ∷ []) value e = cc
hex_taken most (first ∷ second ∷ digits) value e =
    let g = guard_then (first == 48 && second == 120 && nat_le 1 (length digits) && nat_le (length digits) most) (with_hex 0 digits) value e in
    let read = digits_taken digits 0 value g.1 in
    let nought : first ≡ 48 = grind (arith, nat_tests, g.0) in
    let letter : second ≡ 120 = grind (arith, nat_tests, g.0) in
    (digits, record { some = grind (arith, nat_tests, g.0); few = grind (arith, nat_tests, g.0); all = read.0; same = read.1 }, rw (nought, letter) refl)

pub hex_given : (most : ℕ) (digits : List ℕ) (value : ℕ) → IsHex most digits value → hex_of most (codes "0x" ++ digits) ≡ Some value
hex_given most digits value is =
    let some = is.some in
    let few = is.few in
    let within : (nat_le 1 (length digits) && nat_le (length digits) most) ≡ true = grind (arith, nat_tests) in
    rw within (digits_given digits 0 value is.all is.same)

-- digits read one part after the other
with_hex-append : (xs ys : List ℕ) (m : ℕ) → with_hex m (xs ++ ys) ≡ option_and_then (λ k. with_hex k ys) (with_hex m xs)
with_hex-append [] ys m = refl
with_hex-append (x ∷ xs) ys m = go (λ k. with_hex-append xs ys k) (hex_digit x)
  where
    go : ((k : ℕ) → with_hex k (xs ++ ys) ≡ option_and_then (λ j. with_hex j ys) (with_hex k xs)) → (o : Option ℕ)
        → option_and_then (λ digit. with_hex (m * 16 + digit) (xs ++ ys)) o
        ≡ option_and_then (λ k. with_hex k ys) (option_and_then (λ digit. with_hex (m * 16 + digit) xs) o)
    go rest None = refl
    go rest (Some k) = rest (m * 16 + k)

-- a digit that is written is read back
glyph_read : (digit : ℕ) → digit < 16 → hex_digit (digit_glyph false digit) ≡ Some digit
glyph_read digit small = grind (arith, nat_tests)

-- and a value
hex_text_read : (m value : ℕ) → value < 16 ^ m → with_hex 0 (hex_text m value) ≡ Some value
hex_text_read zero value small = let none : 0 ≡ value = omega arith in ap Some none
hex_text_read (suc m) value small =
    let power = pow-suc 16 m in
    let front = hex_text_read m (value / 16) (omega arith) in
    let last = glyph_read (value % 16) (omega arith) in
    let whole : value / 16 * 16 + value % 16 ≡ value = omega arith in
    rw (with_hex-append, front, last, whole) refl

pub values_are_read_back : ValuesAreReadBack
values_are_read_back value small = hex_text_read 8 value (omega arith)
