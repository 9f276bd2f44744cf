-- The words after the program's name.
use Rattle.std.specs.Prelude.{ℕ, ◌-◌, ◌^◌, ◌==◌, Bool, true, false, if◌then◌else◌, List, [], ◌∷◌, length, Option, Some, None, codes}
use Rattle.std.specs.Str.{bytes_eq}
use Rattle.qo_record.specs.Reading.{◌>>=◌, after_front, with_digit, or_else}

-- what the program is asked to do; a socket has a path and a number of connections, a demo a seed and a number of steps
pub data Order : Type 0 where
  replay : Order
  rebuild : Order
  serve : List ℕ → ℕ → Order
  demo : ℕ → ℕ → Order
  types : Order
  watch : Order

-- further digits, to the end
abbrev pub digits_on : ℕ → ℕ → List ℕ → Option ℕ
digits_on last n [] = Some n
digits_on last n (b ∷ bytes) = with_digit last n b >>= λ next. digits_on last next bytes

-- a number up to the last, in digits without a leading zero
abbrev pub number : ℕ → List ℕ → Option ℕ
number last [] = None
number last (b ∷ bytes) =
    if b == 48 then (if length bytes == 0 then Some 0 else None)
    else (with_digit last 0 b >>= λ first. digits_on last first bytes)

-- a value is not empty and begins with no `-`
abbrev pub is_value : List ℕ → Bool
is_value [] = false
is_value (b ∷ bytes) = if b == 45 then false else true

-- a text as a value, and the words after it
abbrev pub value_then : List ℕ → List (List ℕ) → Option (List ℕ × List (List ℕ))
value_then text words = if is_value text then Some (text, words) else None

-- the value of an option at the front of the words, which is the next word or follows `=`, and the words after it
abbrev pub option_at : List ℕ → List (List ℕ) → Option (List ℕ × List (List ℕ))
option_at name [] = None
option_at name (word ∷ []) = after_front name word >>= λ more. (after_front (codes "=") more >>= λ text. value_then text [])
option_at name (word ∷ next ∷ words) =
    if bytes_eq word name then value_then next words
    else (after_front name word >>= λ more. (after_front (codes "=") more >>= λ text. value_then text (next ∷ words)))

-- the values of two options, in this order, with nothing after them
abbrev pub both : List ℕ → List ℕ → List (List ℕ) → Option (List ℕ × List ℕ)
both first second words =
    option_at first words >>= λ x. (option_at second x.1 >>= λ y. (if length y.1 == 0 then Some (x.0, y.0) else None))

-- the values of two options, in either order
abbrev pub options : List ℕ → List ℕ → List (List ℕ) → Option (List ℕ × List ℕ)
options first second words = or_else (both first second words) (both second first words >>= λ x. Some (x.1, x.0))

-- one word and no more
abbrev pub alone : Option Order → List (List ℕ) → Option Order
alone o words = if length words == 0 then o else None

-- how many connections `serve` takes, 1 to 1,000
abbrev pub connections_in : List ℕ → Option ℕ
connections_in text = number 1000 text >>= λ n. (if n == 0 then None else Some n)

-- `serve` with its values
abbrev pub serve_of : List ℕ → List ℕ → Option Order
serve_of path connections = connections_in connections >>= λ n. Some (serve path n)

-- `demo` with its values: its seed is below 2^64, and its steps are at most 1,000,000
abbrev pub demo_of : List ℕ → List ℕ → Option Order
demo_of seed steps = number (2 ^ 64 - 1) seed >>= λ s. (number 1000000 steps >>= λ n. Some (demo s n))

-- the order that the words are, or none
abbrev pub order : List (List ℕ) → Option Order
order [] = None
order (word ∷ words) =
    if bytes_eq word (codes "replay") then alone (Some replay) words
    else if bytes_eq word (codes "rebuild") then alone (Some rebuild) words
    else if bytes_eq word (codes "types") then alone (Some types) words
    else if bytes_eq word (codes "watch") then alone (Some watch) words
    else if bytes_eq word (codes "serve") then (options (codes "--socket") (codes "--connections") words >>= λ x. serve_of x.0 x.1)
    else if bytes_eq word (codes "demo") then (options (codes "--seed") (codes "--steps") words >>= λ x. demo_of x.0 x.1)
    else None

-- an order that has values
abbrev pub has_values : Option Order → Bool
has_values (Some (serve path connections)) = true
has_values (Some (demo seed steps)) = true
has_values o = false
