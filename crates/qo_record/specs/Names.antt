-- How sessions are named in a recorded stream: in version 1 each by its number, in version 2 by a name that it opens with.
use Rattle.std.specs.Prelude.{ℕ, Bool, false, ◌&&◌, ◌||◌, ◌==◌, not, nat_le, List, [], ◌∷◌, ◌++◌, length, codes, Option, is_none, is_some}
use Rattle.std.specs.List.{list_all, position}
use Rattle.std.specs.Option.{option_map_or}
use Rattle.std.specs.Str.{bytes_eq}
use Rattle.qo_causes.specs.Names.{Names, name_of}
use Rattle.qo_record.specs.declared.versions.Version.{Version}
use Rattle.qo_record.specs.declared.versions.Version.TheVariants.{One, Two}

-- the first line of a stream
abbrev pub header_of : Version → List ℕ
header_of One = codes "qrec 1" ++ 10 ∷ []
header_of Two = codes "qrec 2" ++ 10 ∷ []

-- a name: a lower-case letter, and then lower-case letters, digits and `-`, at most 32 bytes; `g` is the guest's
abbrev pub is_letter : ℕ → Bool
is_letter b = nat_le 97 b && nat_le b 122

abbrev pub is_name_byte : ℕ → Bool
is_name_byte b = is_letter b || (nat_le 48 b && nat_le b 57) || (b == 45)

abbrev pub begins_with_letter : List ℕ → Bool
begins_with_letter [] = false
begins_with_letter (b ∷ bytes) = is_letter b

unfoldable pub is_name : List ℕ → Bool
is_name name = begins_with_letter name && nat_le (length name) 32 && not (bytes_eq name (codes "g")) && list_all is_name_byte name

-- is the session of this number open
abbrev pub is_open : Names → ℕ → Bool
is_open names s = is_some (name_of names s)

-- the number of the open session of a name, and the least number that no open session has
abbrev pub has_name : List ℕ → Option (List ℕ) → Bool
has_name name held = option_map_or (bytes_eq name) held false

unfoldable pub number_named : Names → List ℕ → Option ℕ
number_named names name = position (has_name name) names

unfoldable pub least_free : Names → Option ℕ
least_free names = position (λ (held : Option (List ℕ)). is_none held) names
