-- How answers to guest lines are spelled (docs/PROFILE.md, guest lines).
use Rattle.std.specs.Prelude.{ℕ, ◌/◌, ◌%◌, zero, suc, codes, List, [], ◌∷◌, ◌++◌, false, map}
use Rattle.std.specs.Fmt.{decimal, digit_glyph}
use Rattle.std.specs.List.{join_with_byte}
use Rattle.qo_guest.specs.declared.addresses.Addr.{Addr}
use Rattle.qo_guest.specs.declared.addresses.Addr.TheVariants.{Slots, Mem}
use Rattle.qo_guest.specs.declared.answers.GuestAnswer.{GuestAnswer}
use Rattle.qo_guest.specs.declared.answers.GuestAnswer.TheVariants.{Fine, Plug, Unplug, NoNotice, Value, NoLine, NoStopped, NoAddress, NoDevice, NoPending, NoRegister, NoMemory}

-- slots joined by dots
abbrev pub steps_text : List ℕ → List ℕ
steps_text steps = join_with_byte 46 (map decimal steps)

-- an address: slots joined by dots, or `m` and a number
abbrev pub address_text : Addr → List ℕ
address_text (Slots steps) = steps_text steps
address_text (Mem n) = 109 ∷ decimal n

-- the last n hexadecimal digits of a number, in lower case
abbrev pub hex_text : ℕ → ℕ → List ℕ
hex_text zero value = []
hex_text (suc n) value = hex_text n (value / 16) ++ digit_glyph false (value % 16) ∷ []

-- an answer, without its line end
abbrev pub text_of : GuestAnswer → List ℕ
text_of Fine = codes "ok"
text_of (Plug at) = codes "ok plug " ++ address_text at
text_of (Unplug at) = codes "ok unplug " ++ address_text at
text_of NoNotice = codes "ok none"
text_of (Value value) = codes "ok 0x" ++ hex_text 8 value
text_of NoLine = codes "no line"
text_of NoStopped = codes "no stopped"
text_of NoAddress = codes "no address"
text_of NoDevice = codes "no device"
text_of NoPending = codes "no pending"
text_of NoRegister = codes "no register"
text_of NoMemory = codes "no memory"
