-- Worked rows: lines of the monitor.
use Rattle.std.proofs.Common.{◌≡◌, pos, neg_ℤ, refl, true, [], ◌∷◌, codes, Some, None}
use Rattle.qo_values.specs.declared.properties.Val.TheVariants as val
use Rattle.qo_requests.specs.declared.calls.Addition.TheVariants.{DeviceAdd}
use Rattle.qo_requests.specs.declared.calls.Alteration.TheVariants.{DeviceDel, SystemReset}
use Rattle.qo_requests.specs.declared.calls.Change.TheVariants.{Add, Alter}
use Rattle.qo_text.specs.declared.lines.Line.TheVariants.{Do, Tree, Bus}
use Rattle.qo_text.specs.Lines.{line_of}
use Rattle.qo_text.specs.Numbers.{value_of}
use Rattle.qo_text.specs.Options.{parts}

-- the lines of one word each, and nothing else
tree : line_of (codes "info qom-tree") ≡ Some Tree
unfolding line_of
tree = refl

buses : line_of (codes "info qtree") ≡ Some Bus
unfolding line_of
buses = refl

reset : line_of (codes "system_reset") ≡ Some (Do (Alter SystemReset))
unfolding line_of
reset = refl

two-spaces : line_of (codes "info  qtree") ≡ None
unfolding line_of
two-spaces = refl

space-behind : line_of (codes "system_reset ") ≡ None
unfolding line_of
space-behind = refl

-- a device with options, whose properties stand in byte order
uart : line_of (codes "device_add slot-uart,id=u0,slot=3") ≡ Some (Do (Add (DeviceAdd (codes "slot-uart") (Some (codes "u0")) None ((codes "slot", val.Uint 3) ∷ []))))
unfolding line_of parts
uart = refl

bridged : line_of (codes "device_add slot-uart,slot=3,bus=br/bus.0,chardev=r,,0")
    ≡ Some (Do (Add (DeviceAdd (codes "slot-uart") None (Some (codes "br/bus.0")) ((codes "chardev", val.Text (codes "r,0")) ∷ (codes "slot", val.Uint 3) ∷ []))))
unfolding line_of parts
bridged = refl

bare : line_of (codes "device_add slot-bridge") ≡ Some (Do (Add (DeviceAdd (codes "slot-bridge") None None [])))
unfolding line_of parts
bare = refl

-- no driver; an empty part; a key twice; `driver` as a key
no-driver : line_of (codes "device_add ") ≡ None
unfolding line_of parts
no-driver = refl

empty-part : line_of (codes "device_add slot-uart,") ≡ None
unfolding line_of parts
empty-part = refl

twice : line_of (codes "device_add slot-uart,id=a,id=b") ≡ None
unfolding line_of parts
twice = refl

driver-key : line_of (codes "device_add slot-uart,driver=a") ≡ None
unfolding line_of parts
driver-key = refl

spaced : line_of (codes "device_add slot-uart, id=a") ≡ None
unfolding line_of parts
spaced = refl

-- a removal
removal : line_of (codes "device_del u0") ≡ Some (Do (Alter (DeviceDel (codes "u0"))))
unfolding line_of
removal = refl

no-id : line_of (codes "device_del ") ≡ None
unfolding line_of
no-id = refl

-- a comma in a part, read from the left
three-commas : parts (codes "a,,,b") ≡ codes "a," ∷ codes "b" ∷ []
unfolding parts
three-commas = refl

-- values
truth : value_of (codes "on") ≡ val.Bool true
truth = refl

least : value_of (codes "-9223372036854775808") ≡ val.Int (neg_ℤ (pos 9223372036854775808))
least = refl

below-least : value_of (codes "-9223372036854775809") ≡ val.Text (codes "-9223372036854775809")
below-least = refl

greatest : value_of (codes "18446744073709551615") ≡ val.Uint 18446744073709551615
greatest = refl

above-greatest : value_of (codes "18446744073709551616") ≡ val.Text (codes "18446744073709551616")
above-greatest = refl

leading-zero : value_of (codes "007") ≡ val.Text (codes "007")
leading-zero = refl

no-number : value_of (codes "-0") ≡ val.Text (codes "-0")
no-number = refl

nothing : value_of (codes "") ≡ val.Text []
nothing = refl
