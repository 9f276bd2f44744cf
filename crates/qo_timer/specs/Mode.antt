-- For proofs alone. A timer's registers in terms of what the code keeps of its segments.
use Rattle.std.specs.Prelude.{ℕ, Bool, true, false, Option, Some, None}
use Rattle.qo_timer.specs.declared.timer.Mode.{Mode}
use Rattle.qo_timer.specs.declared.timer.Mode.TheVariants.{Disabled, Open}

-- whether CTRL is 1
abbrev pub is_enabled : Mode → Bool
is_enabled Disabled = false
is_enabled _ = true

-- where the open segment began, if there is one: at the last moment
abbrev pub began_of : Mode → ℕ → Option ℕ
began_of Open last = Some last
began_of _ last = None
