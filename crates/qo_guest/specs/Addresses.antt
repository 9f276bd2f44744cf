-- The words of a guest line: numbers, addresses and values (docs/PROFILE.md, guest lines).
use Rattle.std.specs.Prelude.{ℕ, ◌+◌, ◌-◌, ◌*◌, ◌&&◌, ◌==◌, nat_le, List, [], ◌∷◌, length, Option, Some, None, option_and_then, if◌then◌else◌}
use Rattle.std.specs.List.{slice_split}
use Rattle.qo_guest.specs.declared.addresses.TheConstants.{STEPS_MAX}
use Rattle.qo_guest.specs.declared.addresses.Addr.{Addr}
use Rattle.qo_guest.specs.declared.addresses.Addr.TheVariants.{Slots, Mem}
use Rattle.qo_guest.specs.declared.words.TheConstants.{HWADDR_DIGITS_MAX, VALUE_DIGITS_MAX}

-- the parts of a line or a word between its separators
abbrev pub pieces : ℕ → List ℕ → List (List ℕ)
pieces separator bytes = slice_split (λ byte. byte == separator) bytes

-- a number with one more decimal digit, where that is at most 255
abbrev pub with_digit : ℕ → ℕ → Option ℕ
with_digit n byte =
    let more = n * 10 + (byte - 48) in
    if nat_le 48 byte && nat_le byte 57 && nat_le more 255 then Some more else None

-- a number with more decimal digits
abbrev pub with_digits : ℕ → List ℕ → Option ℕ
with_digits n [] = Some n
with_digits n (byte ∷ bytes) = option_and_then (λ more. with_digits more bytes) (with_digit n byte)

-- a word that is a number: decimal, 0 to 255, without leading zeros
abbrev pub number_of : List ℕ → Option ℕ
number_of [] = None
number_of (byte ∷ []) = with_digit 0 byte
number_of (byte ∷ bytes) = if byte == 48 then None else with_digits 0 (byte ∷ bytes)

-- words that are numbers each
abbrev pub numbers_of : List (List ℕ) → Option (List ℕ)
numbers_of [] = Some []
numbers_of (word ∷ words) = option_and_then (λ n. option_and_then (λ ns. Some (n ∷ ns)) (numbers_of words)) (number_of word)

-- at most STEPS_MAX slots
abbrev pub not_too_deep : List ℕ → Option (List ℕ)
not_too_deep steps = if nat_le (length steps) STEPS_MAX then Some steps else None

-- one to STEPS_MAX slots joined by dots
abbrev pub steps_of : List ℕ → Option (List ℕ)
steps_of word = option_and_then not_too_deep (numbers_of (pieces 46 word))

-- a word that is an address: `m` and a number, or slots
abbrev pub address_of : List ℕ → Option Addr
address_of [] = None
address_of (byte ∷ bytes) =
    if byte == 109 then option_and_then (λ n. Some (Mem n)) (number_of bytes)
    else option_and_then (λ steps. Some (Slots steps)) (steps_of (byte ∷ bytes))

-- a hexadecimal digit of either case
abbrev pub hex_digit : ℕ → Option ℕ
hex_digit byte =
    if nat_le 48 byte && nat_le byte 57 then Some (byte - 48)
    else (if nat_le 97 byte && nat_le byte 102 then Some (byte - 87)
    else (if nat_le 65 byte && nat_le byte 70 then Some (byte - 55) else None))

-- a number with more hexadecimal digits
abbrev pub with_hex : ℕ → List ℕ → Option ℕ
with_hex n [] = Some n
with_hex n (byte ∷ bytes) = option_and_then (λ digit. with_hex (n * 16 + digit) bytes) (hex_digit byte)

-- a word that is `0x` and one to `most` hexadecimal digits
abbrev pub hex_of : ℕ → List ℕ → Option ℕ
hex_of most (first ∷ second ∷ digits) =
    if first == 48 && second == 120 && nat_le 1 (length digits) && nat_le (length digits) most
    then with_hex 0 digits else None
hex_of most _ = None

-- a word that is a value
abbrev pub value_of : List ℕ → Option ℕ
value_of word = hex_of VALUE_DIGITS_MAX word

-- a word that is a hardware address
abbrev pub hwaddr_of : List ℕ → Option ℕ
hwaddr_of word = hex_of HWADDR_DIGITS_MAX word
