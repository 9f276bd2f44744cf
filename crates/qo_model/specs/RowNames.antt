-- The names in the rows of the type table (docs/devel/qom.rst, "The QEMU Object Model", "Interfaces"; which there are is the profile's).
use Rattle.std.specs.Prelude.{ℕ, List, codes}
use Rattle.qo_model.specs.declared.properties.Interface.{Interface}
use Rattle.qo_model.specs.declared.properties.Interface.TheVariants.{HotplugHandler, Resettable, UserCreatable}
use Rattle.qo_model.specs.declared.properties.PropertyName.{PropertyName}
use Rattle.qo_model.specs.declared.properties.PropertyName.TheVariants as prop

-- the name of a property, as commands and replies spell it
abbrev pub property_name : PropertyName → List ℕ
property_name prop.Type = codes "type"
property_name prop.Realized = codes "realized"
property_name prop.ParentBus = codes "parent_bus"
property_name prop.Slot = codes "slot"
property_name prop.Peer = codes "peer"
property_name prop.Watch = codes "watch"
property_name prop.Clk = codes "clk"
property_name prop.ClockPeriod = codes "clock-period"
property_name prop.Chardev = codes "chardev"
property_name prop.Bus0 = codes "bus.0"
property_name prop.Memdev = codes "memdev"
property_name prop.Addr = codes "addr"
property_name prop.Period = codes "period"
property_name prop.Mul = codes "mul"
property_name prop.Div = codes "div"
property_name prop.Source = codes "source"
property_name prop.Size = codes "size"
property_name prop.Text = codes "text"
property_name prop.Number = codes "number"
property_name prop.Flag = codes "flag"
property_name prop.Next = codes "next"
property_name prop.Seen = codes "seen"

-- the name of an interface, as commands spell it
abbrev pub interface_name : Interface → List ℕ
interface_name HotplugHandler = codes "hotplug-handler"
interface_name Resettable = codes "resettable"
interface_name UserCreatable = codes "user-creatable"
