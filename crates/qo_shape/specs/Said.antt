-- For proofs alone. What a description in code says.
use Rattle.std.specs.Prelude.{map}
use Rattle.qo_shape.specs.declared.items.ClockItem.{ClockItem as ClockRead}
use Rattle.qo_shape.specs.declared.items.ClockNumbers.{ClockNumbers as NumbersRead}
use Rattle.qo_shape.specs.declared.items.Description.{Description as Read}
use Rattle.qo_shape.specs.declared.items.DeviceItem.{DeviceItem as DeviceRead}
use Rattle.qo_shape.specs.declared.items.LinkItem.{LinkItem as LinkRead}
use Rattle.qo_shape.specs.declared.items.ObjectItem.{ObjectItem as ObjectRead}
use Rattle.qo_shape.specs.declared.items.RingItem.{RingItem as RingRead}
use Rattle.qo_save.specs.Description.{ClockItem, ClockNumbers, Description, DeviceItem, LinkItem, ObjectItem, RingItem}

abbrev pub numbers_said : NumbersRead → ClockNumbers
numbers_said c = record { div = c.div; mul = c.mul; period = c.period }

abbrev pub clock_said : ClockRead → ClockItem
clock_said c = record { div = c.div; mul = c.mul; path = c.path }

abbrev pub device_said : DeviceRead → DeviceItem
device_said d = record { bus = d.bus; driver = d.driver; id = d.id; props = d.props; slot = d.slot }

abbrev pub link_said : LinkRead → LinkItem
link_said l = record { path = l.path; property = l.property; value = l.value }

abbrev pub object_said : ObjectRead → ObjectItem
object_said o = record { id = o.id; props = o.props; kind = o.kind }

abbrev pub ring_said : RingRead → RingItem
ring_said r = record { id = r.id; size = r.size }

-- all of it
abbrev pub said : Read → Description
said d =
    record {
      clock = numbers_said d.clock;
      clocks = map clock_said d.clocks.items;
      devices = map device_said d.devices.items;
      links = map link_said d.links.items;
      objects = map object_said d.objects.items;
      rings = map ring_said d.rings.items;
    }
