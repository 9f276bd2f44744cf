-- Which texts are ids.
use Rattle.std.specs.Prelude.{ℕ, Bool, false, ◌&&◌, ◌||◌, ◌==◌, nat_le, nat_lt, List, [], ◌∷◌, length}
use Rattle.std.specs.List.{list_all}
use Rattle.qo_values.specs.declared.limits.TheConstants.{ID_MAX}

-- an ASCII letter
abbrev pub is_letter : ℕ → Bool
is_letter b = (nat_le 65 b && nat_le b 90) || (nat_le 97 b && nat_le b 122)

-- a letter, a digit, `-`, `.` or `_`
abbrev pub is_id_byte : ℕ → Bool
is_id_byte b = is_letter b || (nat_le 48 b && nat_le b 57) || (b == 45) || (b == 46) || (b == 95)

-- a letter, and then such bytes, at most ID_MAX in all
abbrev pub is_id : List ℕ → Bool
is_id [] = false
is_id (b ∷ bs) = is_letter b && list_all is_id_byte bs && nat_lt (length bs) ID_MAX
