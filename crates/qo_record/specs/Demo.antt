-- The demo record: a recorded stream that is made of a seed and a number of steps (docs/PROFILE.md, the demo record).
use Rattle.std.specs.Prelude.{ℕ, zero, suc, ◌+◌, ◌*◌, ◌/◌, ◌%◌, ◌^◌, ◌==◌, if◌then◌else◌, List, [], ◌∷◌, ◌++◌, map, codes, decimal}
use Rattle.qo_causes.specs.Names.{Given, no_names}
use Rattle.qo_causes.specs.declared.inputs.Input.{Input}
use Rattle.qo_causes.specs.declared.inputs.What.{What}
use Rattle.qo_causes.specs.declared.inputs.What.TheVariants.{Open, Bytes, Shut, Guest, Step, End}
use Rattle.qo_record.specs.Names.{header_of}
use Rattle.qo_record.specs.Spelling.{Recorded, entries_text, given_from}
use Rattle.qo_record.specs.declared.versions.Version.TheVariants.{One}

-- numbers follow each other from the seed on, and a draw is the next number over 2^33, rounded down
unfoldable pub next_number : ℕ → ℕ
next_number x = (x * 6364136223846793005 + 1442695040888963407) % 2 ^ 64

unfoldable pub drawn : ℕ → ℕ
drawn x = x / 2 ^ 33

-- a text with a number in it
abbrev pub with_number : List ℕ → ℕ → List ℕ → List ℕ
with_number before n after = before ++ decimal n ++ after

-- a line: a text and its LF
abbrev pub line_of : List ℕ → List ℕ
line_of text = text ++ 10 ∷ []

-- the command that plugs a device of a driver into slot n, with the id `dN`; the one that unplugs it; and a reset
abbrev pub plugging : List ℕ → ℕ → List ℕ
plugging driver n =
    codes "{\"execute\":\"device_add\",\"arguments\":{\"driver\":\"" ++ driver ++ with_number (codes "\",\"id\":\"d") n (codes "\",\"slot\":")
    ++ with_number [] n (line_of (codes "}}"))

abbrev pub unplugging : ℕ → List ℕ
unplugging n = with_number (codes "{\"execute\":\"device_del\",\"arguments\":{\"id\":\"d") n (line_of (codes "\"}}"))

abbrev pub resetting : List ℕ
resetting = line_of (codes "{\"execute\":\"system_reset\"}")

-- what a step does, by two draws below 8
abbrev pub demo_what : ℕ → ℕ → What
demo_what k n =
    if k == 0 then Bytes 0 (plugging (codes "slot-uart") n)
    else if k == 1 then Bytes 0 (plugging (codes "slot-timer") n)
    else if k == 2 then Bytes 0 (unplugging n)
    else if k == 3 then Guest (with_number (codes "ack ") n (10 ∷ []))
    else if k == 4 then Guest (with_number (codes "nack ") n (10 ∷ []))
    else if k == 5 then Guest (with_number (codes "write ") n (line_of (codes " 1 0x10")))
    else if k == 6 then Step (1000 * (n + 1))
    else if n == 0 then Bytes 0 resetting
    else Guest (line_of (codes "poll"))

-- something at a whole second
abbrev pub at_second : ℕ → What → Input
at_second second what = record { at = record { seconds = second; micros = 0 }; what = what }

-- a step at a second, where this is the number before its draws
abbrev pub demo_step : ℕ → ℕ → Input
demo_step x second = at_second second (demo_what (drawn (next_number x) % 8) (drawn (next_number (next_number x)) % 8))

-- so many steps, the first at this second
abbrev pub demo_steps : ℕ → ℕ → ℕ → List Input
demo_steps zero x second = []
demo_steps (suc more) x second = demo_step x second ∷ demo_steps more (next_number (next_number x)) (second + 1)

-- session 0 opens and negotiates
abbrev pub demo_start : List Input
demo_start = at_second 0 (Open 0) ∷ at_second 0 (Bytes 0 (line_of (codes "{\"execute\":\"qmp_capabilities\"}"))) ∷ []

-- the inputs of a demo
unfoldable pub demo_inputs : ℕ → ℕ → List Input
demo_inputs seed steps = demo_start ++ demo_steps steps seed 1

-- an input as an entry of version 1, in which a session is spelled by its number
abbrev pub number_text : What → List ℕ
number_text (Open s) = decimal s
number_text (Bytes s bytes) = decimal s
number_text (Shut s) = decimal s
number_text (Guest bytes) = []
number_text (Step ns) = []
number_text End = []

abbrev pub numbered : Input → Recorded
numbered i = record { input = i; session = number_text i.what }

abbrev pub numbered_all : List Input → List Recorded
numbered_all inputs = map numbered inputs

-- the record of a demo, and its inputs with the names that stand with each
unfoldable pub demo_bytes : ℕ → ℕ → List ℕ
demo_bytes seed steps = header_of One ++ entries_text (numbered_all (demo_inputs seed steps))

abbrev pub demo_given : ℕ → ℕ → List Given
demo_given seed steps = given_from no_names (numbered_all (demo_inputs seed steps))
