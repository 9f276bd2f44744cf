-- For a law alone. How a guest spells what it asks for (docs/PROFILE.md, guest lines).
use Rattle.std.specs.Prelude.{◌≡◌, ℕ, ◌≤◌, ◌<◌, ◌^◌, ◌↔◌, codes, List, ◌∷◌, ◌++◌, length, Some, All}
use Rattle.std.specs.Fmt.{decimal}
use Rattle.std.specs.Str.Parse.{AllDigits, digits_value}
use Rattle.qo_values.specs.declared.limits.TheConstants.{GUEST_LINE_MAX}
use Rattle.qo_guest.specs.declared.addresses.Addr.{Addr}
use Rattle.qo_guest.specs.declared.addresses.Addr.TheVariants.{Slots, Mem}
use Rattle.qo_guest.specs.declared.lines.GuestAct.{GuestAct}
use Rattle.qo_guest.specs.declared.lines.GuestAct.TheVariants.{Ack, Nack, Poll, Read, Write, Peek, Poke, Irq, Reset, Shutdown}
use Rattle.qo_guest.specs.declared.addresses.TheConstants.{STEPS_MAX}
use Rattle.qo_guest.specs.declared.words.TheConstants.{HWADDR_DIGITS_MAX, VALUE_DIGITS_MAX}
use Rattle.qo_guest.specs.Addresses.{number_of, address_of, value_of}
use Rattle.qo_guest.specs.Answers.{address_text, hex_text}
use Rattle.qo_guest.specs.Lines.{guest_line}

-- 1 to STEPS_MAX slots, each 0 to 255
pub record IsSteps (steps : List ℕ) : Type 0 where
  pub some : 1 ≤ length steps
  pub few : length steps ≤ STEPS_MAX
  pub slots : All (λ slot. slot ≤ 255) steps

-- an address whose numbers are 0 to 255
abbrev pub IsAddress : Addr → Type 0
IsAddress (Slots steps) = IsSteps steps
IsAddress (Mem n) = n ≤ 255

-- one to `most` hexadecimal digits of either case that stand for a number
pub record IsHex (most : ℕ) (digits : List ℕ) (value : ℕ) : Type 0 where
  pub some : 1 ≤ length digits
  pub few : length digits ≤ most
  pub all : AllDigits 16 digits
  pub same : digits_value 16 digits ≡ value

-- the line spells the act
abbrev pub Spells : List ℕ → GuestAct → Type 0
Spells line (Ack at) = IsAddress at × (line ≡ codes "ack " ++ address_text at)
Spells line (Nack at) = IsAddress at × (line ≡ codes "nack " ++ address_text at)
Spells line Poll = line ≡ codes "poll"
Spells line (Read at register) =
    IsAddress at × (register ≤ 255) × (line ≡ codes "read " ++ (address_text at ++ 32 ∷ decimal register))
Spells line (Write at register value) =
    (digits : List ℕ) × IsAddress at × (register ≤ 255) × IsHex VALUE_DIGITS_MAX digits value
    × (line ≡ codes "write " ++ (address_text at ++ (32 ∷ (decimal register ++ (codes " 0x" ++ digits)))))
Spells line (Peek at) = (digits : List ℕ) × IsHex HWADDR_DIGITS_MAX digits at × (line ≡ codes "peek 0x" ++ digits)
Spells line (Poke at value) =
    (place digits : List ℕ) × IsHex HWADDR_DIGITS_MAX place at × IsHex VALUE_DIGITS_MAX digits value
    × (line ≡ codes "poke 0x" ++ (place ++ (codes " 0x" ++ digits)))
Spells line Irq = line ≡ codes "irq"
Spells line Reset = line ≡ codes "reset"
Spells line Shutdown = line ≡ codes "shutdown"

-- a number is read from its decimal digits, and from nothing else
abbrev pub NumbersAreSpelled : Type 0
NumbersAreSpelled = (word : List ℕ) (n : ℕ) → (number_of word ≡ Some n) ↔ ((n ≤ 255) × (word ≡ decimal n))

-- an address is read from its text, and from nothing else
abbrev pub AddressesAreSpelled : Type 0
AddressesAreSpelled = (word : List ℕ) (at : Addr) → (address_of word ≡ Some at) ↔ (IsAddress at × (word ≡ address_text at))

-- a line of at most GUEST_LINE_MAX bytes is read as the act that it spells, and no other line is an act
abbrev pub LinesAreSpelled : Type 0
LinesAreSpelled = (line : List ℕ) (act : GuestAct) → (guest_line line ≡ Some act) ↔ ((length line ≤ GUEST_LINE_MAX) × Spells line act)

-- the digits of an answered value are read back
abbrev pub ValuesAreReadBack : Type 0
ValuesAreReadBack = (value : ℕ) → value < 2 ^ 32 → value_of (codes "0x" ++ hex_text 8 value) ≡ Some value
