-- For a law alone. How the parts of a monitor line and the numbers in it are spelled.
use Rattle.std.specs.Prelude.{◌≡◌, ◌==◌, ◌<◌, ◌^◌, ◌↔◌, ℕ, true, false, if◌then◌else◌, List, [], ◌∷◌, ◌++◌, length, map, codes, Option, Some, option_and_then, option_map}
use Rattle.std.specs.Fmt.{decimal}
use Rattle.std.specs.List.{AllByRecursion}
use Rattle.qo_requests.specs.declared.calls.Alteration.TheVariants as alteration
use Rattle.qo_requests.specs.declared.calls.Change.TheVariants as change
use Rattle.qo_text.specs.Lines.{adding, is_driver, line_of}
use Rattle.qo_text.specs.declared.lines.Line.TheVariants.{Do}
use Rattle.qo_text.specs.Numbers.{whole}
use Rattle.qo_text.specs.Options.{holds, is_key, parts, put_new}

-- a part in which each comma stands twice
abbrev pub doubled : List ℕ → List ℕ
doubled [] = []
doubled (c ∷ part) = if c == 44 then 44 ∷ 44 ∷ doubled part else c ∷ doubled part

-- parts, joined by commas
abbrev pub joined : List ℕ → List (List ℕ) → List ℕ
joined first [] = doubled first
joined first (next ∷ others) = doubled first ++ 44 ∷ joined next others

-- a part behind a comma: it is not empty and begins with none
abbrev pub StandsBehind : List ℕ → Type 0
StandsBehind [] = ⊥
StandsBehind (c ∷ part) = (c == 44) ≡ false

-- parts that are joined are the parts that are read
abbrev pub PartsAreSpelled : Type 0
PartsAreSpelled = (first : List ℕ) (others : List (List ℕ)) → AllByRecursion StandsBehind others → parts (joined first others) ≡ first ∷ others

-- an option: the key, `=` and the value
abbrev pub option_text : List ℕ × List ℕ → List ℕ
option_text p = p.0 ++ 61 ∷ p.1

-- an option that can stand on a line: a key that holds no `=` and begins with no comma, and no space in it or in the value
pub record IsSpelled (p : List ℕ × List ℕ) : Type 0 where
  pub key : is_key p.0 ≡ true
  pub plain : holds 61 p.0 ≡ false
  pub behind : StandsBehind p.0
  pub key_word : holds 32 p.0 ≡ false
  pub value_word : holds 32 p.1 ≡ false

-- options put one after another in byte order of their keys, where no key comes twice
abbrev pub in_order : List (List ℕ × List ℕ) → List (List ℕ × List ℕ) → Option (List (List ℕ × List ℕ))
in_order [] found = Some found
in_order (p ∷ given) found = option_and_then (in_order given) (put_new p.0 p.1 found)

-- a device is added of a driver and options, and removed by its id, where they can stand on a line
pub record LinesAreSpelled : Type 0 where
  pub addition : (driver : List ℕ) (given : List (List ℕ × List ℕ)) → is_driver driver ≡ true → holds 32 driver ≡ false → AllByRecursion IsSpelled given
      → line_of (codes "device_add " ++ joined driver (map option_text given))
      ≡ option_map (λ (found : List (List ℕ × List ℕ)). Do (adding driver found)) (in_order given [])
  pub removal : (id : List ℕ) → (length id == 0) ≡ false → holds 32 id ≡ false
      → line_of (codes "device_del " ++ id) ≡ Some (Do (change.Alter (alteration.DeviceDel id)))

-- a number is read from its decimal digits, and from nothing else
abbrev pub NumbersAreSpelled : Type 0
NumbersAreSpelled = (text : List ℕ) (n : ℕ) → (whole text ≡ Some n) ↔ ((n < 2 ^ 64) × (text ≡ decimal n))
