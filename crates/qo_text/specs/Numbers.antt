-- The value that an option of a monitor line has (docs/PROFILE.md, monitor lines).
use Rattle.std.specs.Prelude.{ℕ, pos, neg_ℤ, ◌+◌, ◌-◌, ◌*◌, ◌^◌, ◌&&◌, ◌||◌, ◌==◌, nat_lt, nat_le, true, false, if◌then◌else◌, List, [], ◌∷◌, codes, Option, Some, None, option_and_then, unwrap_or}
use Rattle.std.specs.Str.{bytes_eq}
use Rattle.qo_values.specs.declared.properties.Val.{Val}
use Rattle.qo_values.specs.declared.properties.Val.TheVariants as val

-- a number with one more decimal digit, where that is below 2^64
abbrev pub with_digit : ℕ → ℕ → Option ℕ
with_digit n byte =
    let more = n * 10 + (byte - 48) in
    if nat_le 48 byte && nat_le byte 57 && nat_lt more (2 ^ 64) then Some more else None

-- a number with more decimal digits
abbrev pub with_digits : ℕ → List ℕ → Option ℕ
with_digits n [] = Some n
with_digits n (byte ∷ bytes) = option_and_then (λ more. with_digits more bytes) (with_digit n byte)

-- a decimal number below 2^64, without leading zeros
abbrev pub whole : List ℕ → Option ℕ
whole [] = None
whole (byte ∷ []) = with_digit 0 byte
whole (byte ∷ bytes) = if byte == 48 then None else with_digits 0 (byte ∷ bytes)

-- the number that is as far below 0, from -1 to -2^63
abbrev pub below_zero : ℕ → Option Val
below_zero n = if n == 0 || nat_lt (2 ^ 63) n then None else Some (val.Int (neg_ℤ (pos n)))

-- a number from -2^63 to 2^64 - 1; one below 0 has a minus sign
abbrev pub number_of : List ℕ → Option Val
number_of [] = None
number_of (byte ∷ bytes) =
    if byte == 45 then option_and_then below_zero (whole bytes) else option_and_then (λ n. Some (val.Uint n)) (whole (byte ∷ bytes))

-- the value of an option: true, false, a number, or else a text
abbrev pub value_of : List ℕ → Val
value_of text =
    if bytes_eq text (codes "on") then val.Bool true
    else if bytes_eq text (codes "off") then val.Bool false
    else unwrap_or (number_of text) (val.Text text)
