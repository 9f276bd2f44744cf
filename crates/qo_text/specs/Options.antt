-- The options of a monitor line (QEMU's util/qemu-option.c; which values they have is the profile's).
use Rattle.std.specs.Prelude.{ℕ, Bool, not, ◌&&◌, ◌==◌, if◌then◌else◌, List, [], ◌∷◌, length, map, filter, find, codes, Option, Some, None, option_map, option_and_then}
use Rattle.std.specs.Cmp.Lexicographic.{slice_cmp}
use Rattle.std.specs.List.{after_first, before_first, list_any}
use Rattle.std.specs.Ordering.{nat_cmp, is_le}
use Rattle.std.specs.Str.{bytes_eq}
use Rattle.qo_text.specs.Numbers.{value_of}
use Rattle.qo_values.specs.declared.properties.Val.{Val}

-- whether a byte stands in a text
abbrev pub holds : ℕ → List ℕ → Bool
holds byte text = list_any (λ (c : ℕ). c == byte) text

-- parts, with a byte more before the first
abbrev pub before : ℕ → List (List ℕ) → List (List ℕ)
before c [] = (c ∷ []) ∷ []
before c (part ∷ parts) = (c ∷ part) ∷ parts

-- parts joined by commas, read from the left; two commas together stand for a comma in a part
unfoldable pub parts : List ℕ → List (List ℕ)
parts [] = [] ∷ []
parts (c ∷ []) = if c == 44 then [] ∷ [] ∷ [] else (c ∷ []) ∷ []
parts (c ∷ d ∷ rest) =
    if not (c == 44) then before c (parts (d ∷ rest))
    else if d == 44 then before 44 (parts rest)
    else [] ∷ parts (d ∷ rest)

-- a key is not empty, and is not `driver`
abbrev pub is_key : List ℕ → Bool
is_key key = not (length key == 0) && not (bytes_eq key (codes "driver"))

-- the key of a part and its value, which follows the first `=`
abbrev pub option_in : List ℕ → Option (List ℕ × List ℕ)
option_in part =
    let key = before_first (λ (c : ℕ). c == 61) part in
    if holds 61 part && is_key key then Some (key, after_first (λ (c : ℕ). c == 61) part) else None

-- whether a key is no later in byte order than that of an option
abbrev pub is_upto : List ℕ → List ℕ × List ℕ → Bool
is_upto key p = is_le (slice_cmp nat_cmp key p.0)

-- a key and its value among options in byte order of their keys; none where the key is there
abbrev pub put_new : List ℕ → List ℕ → List (List ℕ × List ℕ) → Option (List (List ℕ × List ℕ))
put_new key value [] = Some ((key, value) ∷ [])
put_new key value (p ∷ ps) =
    if is_upto key p then (if bytes_eq key p.0 then None else Some ((key, value) ∷ p ∷ ps))
    else option_map (λ (qs : List (List ℕ × List ℕ)). p ∷ qs) (put_new key value ps)

-- the options that parts are, put among those found; none where a part is no option, or a key comes twice
abbrev pub options : List (List ℕ) → List (List ℕ × List ℕ) → Option (List (List ℕ × List ℕ))
options [] found = Some found
options (part ∷ others) found =
    option_and_then (λ (p : List ℕ × List ℕ). option_and_then (options others) (put_new p.0 p.1 found)) (option_in part)

-- the value of the option of a key, as a text
abbrev pub text_of : List ℕ → List (List ℕ × List ℕ) → Option (List ℕ)
text_of key found = option_map (λ (p : List ℕ × List ℕ). p.1) (find (λ (p : List ℕ × List ℕ). bytes_eq p.0 key) found)

-- all options but `id` and `bus` are properties
abbrev pub is_property : List ℕ × List ℕ → Bool
is_property p = not (bytes_eq p.0 (codes "id")) && not (bytes_eq p.0 (codes "bus"))

abbrev pub properties : List (List ℕ × List ℕ) → List (List ℕ × Val)
properties found = map (λ (p : List ℕ × List ℕ). (p.0, value_of p.1)) (filter is_property found)
