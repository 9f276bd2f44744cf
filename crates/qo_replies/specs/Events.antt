-- What a session is told unasked (QMP specification, 2.5 "Asynchronous events").
use Rattle.std.specs.Prelude.{ℕ, List, ◌++◌, Bool, true, false, Option, None, Some, codes, if◌then◌else◌}
use Rattle.qo_causes.specs.declared.inputs.Moment.{Moment}
use Rattle.json.specs.Print.{quoted}
use Rattle.serde_json.specs.Data.{Data, Members, boolean, member, no_members, number, object, string, unsigned}
use Rattle.serde_json.specs.Written.{members_text}
use Rattle.qo_replies.specs.Json.{json}
use Rattle.qo_replies.specs.Replies.{line_end}
use Rattle.qo_replies.specs.declared.events.Event.{Event}
use Rattle.qo_replies.specs.declared.events.Event.TheVariants.{DeviceDeleted, DeviceUnplugGuestError, Reset, Shutdown, Stop, Resume}

-- the member `timestamp`: the moment of the input that made the event
abbrev pub timestamp : Moment → Members
timestamp at =
    member (codes "timestamp")
    (object (member (codes "microseconds") (number (unsigned at.micros)) (member (codes "seconds") (number (unsigned at.seconds)) no_members)))
    no_members

-- the members that an event ends with: its name and its moment
abbrev pub named : List ℕ → Moment → Members
named name at = member (codes "event") (string name) (timestamp at)

-- the text of an event from its name on
unfoldable pub ending : List ℕ → Moment → List ℕ
ending name at = members_text false (named name at)

-- the text of an event with data up to its path, or to the reason of what one side caused
abbrev pub before_path : Option (List ℕ) → List ℕ
before_path None = codes "{\"data\":{\"path\":"
before_path (Some id) = codes "{\"data\":{\"device\":" ++ (quoted id ++ codes ",\"path\":")

abbrev pub before_reason : Bool → List ℕ
before_reason true = codes "{\"data\":{\"guest\":true,\"reason\":"
before_reason false = codes "{\"data\":{\"guest\":false,\"reason\":"

-- an event without data
abbrev pub plain_event : Moment → List ℕ → Data
plain_event at name = object (member (codes "event") (string name) (timestamp at))

-- an event with data
abbrev pub told_event : Moment → Members → List ℕ → Data
told_event at told name = object (member (codes "data") (object told) (member (codes "event") (string name) (timestamp at)))

-- an event of a device: its id where it has one, and its path
abbrev pub device_event : Moment → Option (List ℕ) → List ℕ → List ℕ → Data
device_event at None path name = told_event at (member (codes "path") (string path) no_members) name
device_event at (Some id) path name =
    told_event at (member (codes "device") (string id) (member (codes "path") (string path) no_members)) name

-- an event that the guest caused, or the host by a command
abbrev pub caused_event : Moment → Bool → List ℕ → List ℕ → Data
caused_event at guest reason name =
    told_event at (member (codes "guest") (boolean guest) (member (codes "reason") (string reason) no_members)) name

-- the name of an event of a device: it was deleted, or the guest refused to let it go
abbrev pub device_name : Bool → List ℕ
device_name true = codes "DEVICE_DELETED"
device_name false = codes "DEVICE_UNPLUG_GUEST_ERROR"

-- an event of a device
abbrev pub of_device : Bool → Option (List ℕ) → List ℕ → Event
of_device deleted id path = if deleted then DeviceDeleted id path else DeviceUnplugGuestError id path

-- an event as a value
abbrev pub event_data : Moment → Event → Data
event_data at (DeviceDeleted id path) = device_event at id path (codes "DEVICE_DELETED")
event_data at (DeviceUnplugGuestError id path) = device_event at id path (codes "DEVICE_UNPLUG_GUEST_ERROR")
event_data at (Reset true) = caused_event at true (codes "guest-reset") (codes "RESET")
event_data at (Reset false) = caused_event at false (codes "host-qmp-system-reset") (codes "RESET")
event_data at (Shutdown true) = caused_event at true (codes "guest-shutdown") (codes "SHUTDOWN")
event_data at (Shutdown false) = caused_event at false (codes "host-qmp-quit") (codes "SHUTDOWN")
event_data at Stop = plain_event at (codes "STOP")
event_data at Resume = plain_event at (codes "RESUME")

-- an event as it is sent
unfoldable pub event_line : Moment → Event → List ℕ
event_line at event = json (event_data at event) ++ line_end
