-- When the plain values of a board are told as they are (RFC 8259; QMP's specification, "2.1 General Definitions": a JSON text is in UTF-8).
use Rattle.std.specs.Prelude.{◌≡◌, ℕ, ◌<◌, ◌^◌, negsuc, List, IsUtf8, ⊤}
use Rattle.std.specs.List.{AllByRecursion}
use Rattle.qo_values.specs.declared.properties.Val.{Val}
use Rattle.qo_values.specs.declared.properties.Val.TheVariants as val
use Rattle.qo_model.specs.Board.{Board, Slot, plain, slots_at}
use Rattle.qo_model.specs.FinalNotesRuns.{Change, added, wrote}
use Rattle.qo_model.specs.Objects.{Given}

-- a value is told as it is: a text is in UTF-8, a number from 0 up stands as one of 64 bits, and one below 0 as one of 64 bits with a sign
abbrev pub IsTold : Val → Type 0
IsTold (val.Bool b) = ⊤
IsTold (val.Uint n) = n < 2 ^ 64
IsTold (val.Int z) = (n : ℕ) × ((z ≡ negsuc n) × (n < 2 ^ 63))
IsTold (val.Text text) = IsUtf8 text
IsTold val.Nothing = ⊤

abbrev pub HoldsTold : Slot → Type 0
HoldsTold (plain v) = IsTold v
HoldsTold s = ⊤

-- each value of a board's objects is
abbrev pub SoundValues : Board → Type 0
SoundValues b = (n : ℕ) → AllByRecursion (λ (s : List ℕ × Slot). HoldsTold s.1) (slots_at b n)

-- the values that are given are; and those of a command on objects
abbrev pub AllTold : List Given → Type 0
AllTold props = AllByRecursion (λ (p : Given). IsTold p.1) props

abbrev pub TellsTold : Change → Type 0
TellsTold (added driver id props) = AllTold props
TellsTold (wrote n name v) = IsTold v
TellsTold change = ⊤
