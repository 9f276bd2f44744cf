-- For proofs alone. The names of slots.
use Rattle.std.specs.Prelude.{◌≡◌, ℕ, ◌≤◌, Bool, ◌&&◌, not, ◌==◌, nat_le, List, length, true}
use Rattle.std.specs.List.{list_all}
use Rattle.qo_values.specs.declared.limits.TheConstants.{NAME_MAX}

-- a printable ASCII byte other than `/`
abbrev pub is_name_byte : ℕ → Bool
is_name_byte b = nat_le 32 b && nat_le b 126 && not (b == 47)

-- 1 to NAME_MAX such bytes
pub record IsName (bytes : List ℕ) : Type 0 where
  pub some : 1 ≤ length bytes
  pub short : length bytes ≤ NAME_MAX
  pub printable : list_all is_name_byte bytes ≡ true
