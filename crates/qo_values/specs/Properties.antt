-- Which values a property's type takes.
use Rattle.std.specs.Prelude.{ℕ, ◌%◌, pos, Bool, true, false, ◌&&◌, ◌==◌, nat_le, not, int_lt, if◌then◌else◌}
use Rattle.qo_values.specs.declared.properties.Val.{Val}
use Rattle.qo_values.specs.declared.properties.PropType.{PropType}
use Rattle.qo_values.specs.declared.properties.Val.TheVariants as val
use Rattle.qo_values.specs.declared.properties.PropType.TheVariants as ty

-- a multiple of the step; of 0 only 0 is one
abbrev pub is_multiple : ℕ → ℕ → Bool
is_multiple step n = if step == 0 then n == 0 else n % step == 0

-- the kind is the type's, and a number is in range and a multiple of the step
abbrev pub admits : PropType → Val → Bool
admits ty.Bool (val.Bool b) = true
admits ty.Text (val.Text t) = true
admits (ty.Int lo hi) (val.Int n) = not (int_lt n lo) && not (int_lt hi n)
admits (ty.Int lo hi) (val.Uint n) = not (int_lt (pos n) lo) && not (int_lt hi (pos n))
admits (ty.Uint lo hi step) (val.Uint n) = nat_le lo n && nat_le n hi && is_multiple step n
admits _ _ = false
