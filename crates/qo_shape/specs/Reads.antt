-- For proofs alone. What reading a part of a description comes to.
use Rattle.std.specs.Prelude.{◌≡◌, Option, Some, None, Result, Ok, Err, ⊤}
use Rattle.qo_shape.specs.declared.errors.ShapeError.{ShapeError}
use Rattle.qo_shape.specs.declared.errors.ShapeError.TheVariants.{Memory, Shape}

-- what was read says what is defined, or nothing is defined; or there was want of memory
abbrev pub Reads : {X Y : Type 0} → (X → Y) → Result X ShapeError → Option Y → Type 0
Reads said (Ok x) defined = defined ≡ Some (said x)
Reads said (Err Shape) defined = defined ≡ None
Reads said (Err Memory) defined = ⊤
