-- The numbers of clocks as properties, which `qom-set` alone writes, and `qom-set` whole (docs/devel/clocks.rst, "Changing a clock period" and "Clock
-- multiplier and divider settings"; QEMU's QAPI, `qom-set`).
use Rattle.std.specs.Prelude.{ℕ, Bool, true, false, if◌then◌else◌, List, Option, Some, None, is_some, option_and_then, Result, Ok, Err}
use Rattle.qo_values.specs.Properties.{admits}
use Rattle.qo_values.specs.declared.codes.Code.{Code}
use Rattle.qo_values.specs.declared.codes.Code.TheVariants.{E17, E18, E19}
use Rattle.qo_values.specs.declared.properties.PropType.{PropType}
use Rattle.qo_values.specs.declared.properties.Val.{Val}
use Rattle.qo_values.specs.declared.properties.Val.TheVariants as val
use Rattle.qo_model.specs.declared.properties.Access.{Access}
use Rattle.qo_model.specs.declared.properties.Access.TheVariants.{Set}
use Rattle.qo_model.specs.declared.properties.Property.{Property}
use Rattle.qo_model.specs.declared.properties.PropertyName.{PropertyName}
use Rattle.qo_model.specs.declared.properties.PropertyName.TheVariants as prop
use Rattle.qo_model.specs.declared.properties.PropertyRole.{PropertyRole}
use Rattle.qo_model.specs.declared.properties.PropertyRole.TheVariants as row
use Rattle.qo_model.specs.Board.{Board, Slot, kind_of, slot_named, plain, alias}
use Rattle.qo_model.specs.ClockChanges.{clock_scaled, clock_set}
use Rattle.qo_model.specs.Clocks.{div_of, mul_of}
use Rattle.qo_model.specs.Properties.{property_named, write}

-- the row of the property of a name of n, if `qom-set` alone writes it: the property of a clock, or another name for one
abbrev pub is_set : Access → Bool
is_set Set = true
is_set access = false

abbrev pub only_set : Property → Option Property
only_set p = if is_set p.access then Some p else None

abbrev pub set_row : Board → ℕ → List ℕ → Option Property
set_row b n name = option_and_then (λ t. option_and_then only_set (property_named t name)) (kind_of b n)

-- a property of n by its row; none where n has no such slot, or `qom-set` alone writes no value there
abbrev pub in_slot : ℕ → Slot → Option Property → Result (ℕ × Property) Code
in_slot n (plain old) (Some p) = Ok (n, p)
in_slot n s p = Err E18

abbrev pub own_property : Board → ℕ → List ℕ → Result (ℕ × Property) Code
own_property b n name = elim (slot_named b n name) [ None ↦ Err E17 | Some s ↦ in_slot n s (set_row b n name) ]

-- the property that a name of n leads to: an alias passes on, once
abbrev pub led_by : Board → ℕ → List ℕ → Slot → Result (ℕ × Property) Code
led_by b n name (alias m property) = own_property b m property
led_by b n name s = own_property b n name

abbrev pub led_to : Board → ℕ → List ℕ → Result (ℕ × Property) Code
led_to b n name = elim (slot_named b n name) [ None ↦ Err E17 | Some s ↦ led_by b n name s ]

-- a number to the period of a clock, to its mul, or to its div
abbrev pub number_written : Board → ℕ → PropertyName → ℕ → Result Board Code
number_written b c prop.Period n = clock_set b c n
number_written b c prop.Mul n = clock_scaled b c n (div_of b c)
number_written b c prop.Div n = clock_scaled b c (mul_of b c) n
number_written b c name n = Err E18

-- a value there, where the property takes values of a type; they are numbers
abbrev pub typed_written : Board → ℕ → PropertyName → PropType → Val → Result Board Code
typed_written b c name type (val.Uint n) = if admits type (val.Uint n) then number_written b c name n else Err E19
typed_written b c name type v = Err E19

abbrev pub role_written : Board → ℕ → PropertyName → PropertyRole → Val → Result Board Code
role_written b c name (row.Plain type first) v = typed_written b c name type v
role_written b c name kind v = Err E18

-- a value to a property of a clock, if one was found
abbrev pub clock_property_written : Board → Val → Result (ℕ × Property) Code → Result Board Code
clock_property_written b v (Ok p) = role_written b p.0 p.1.name p.1.role v
clock_property_written b v (Err code) = Err code

-- a value to the property of a name of n, as `qom-set` writes it
abbrev pub set_property : Board → ℕ → List ℕ → Val → Result Board Code
set_property b n name v = if is_some (set_row b n name) then clock_property_written b v (led_to b n name) else write b n name v
