-- By the part.
use Rattle.qo_describe.proofs.WalkLemmas.{then-ok}
use Rattle.qo_describe.proofs.parts.push_entry.Goals as goal

pub returns-in-Clocks : goal.returns-in-Clocks
returns-in-Clocks g c = then-ok c.push_clock_of.result c.push_clock_of.ensures (λ told. λ b s. rw c.in-Clocks.is (told b s c.args.name.now))

pub returns-in-Devices : goal.returns-in-Devices
returns-in-Devices g c = then-ok c.push_device.result c.push_device.ensures (λ told. λ b s. rw c.in-Devices.is (told b s))

pub returns-in-Links : goal.returns-in-Links
returns-in-Links g c = then-ok c.push_links.result c.push_links.ensures (λ told. λ b s. rw c.in-Links.is (told b s c.args.name.now))

pub returns-in-Objects : goal.returns-in-Objects
returns-in-Objects g c = then-ok c.push_object.result c.push_object.ensures (λ told. λ b s. rw c.in-Objects.is (told b s))
