-- What each command returns, or the code that refuses it (docs/PROFILE.md, commands).
use Rattle.std.specs.Prelude.{ℕ, Bool, true, false, if◌then◌else◌, List, [], ◌∷◌, ◌++◌, map, filter, filter_map, codes, Option, Some, None, unwrap_or, Result, Ok, Err}
use Rattle.serde_json.specs.Data.{Data, Members, array, boolean, member, no_members, number, object, string, unsigned}
use Rattle.serde_json.specs.View.{items_of}
use Rattle.qo_values.specs.Codes.{description_of}
use Rattle.qo_values.specs.declared.codes.Code.{Code}
use Rattle.qo_values.specs.declared.codes.Code.TheVariants.{E20, E22, E54}
use Rattle.qo_values.specs.Kinds.{type_name}
use Rattle.qo_values.specs.declared.kinds.TypeId.{TypeId}
use Rattle.qo_guest.specs.Answers.{text_of}
use Rattle.qo_guest.specs.declared.answers.GuestAnswer.{GuestAnswer}
use Rattle.qo_guest.specs.declared.answers.GuestAnswer.TheVariants.{NoLine}
use Rattle.qo_commands.specs.Hearing.{Outcome, heard}
use Rattle.qo_layout.specs.Layout.{flat_view}
use Rattle.qo_memmap.specs.declared.span.Span.{Span}
use Rattle.qo_model.specs.Board.{Board, DeviceEvent, is_live}
use Rattle.qo_model.specs.Hotplug.{asked, reset_whole, woken}
use Rattle.qo_model.specs.Plug.{Plugged, plug}
use Rattle.qo_plug.specs.Admission.{wanted}
use Rattle.qo_values.specs.PlainValues.{data_of}
use Rattle.qo_values.specs.declared.kinds.ResetKind.TheVariants.{Cold}
use Rattle.qo_model.specs.Listing.{around, value_word}
use Rattle.qo_model.specs.NoteReplies.{first_from, given_from}
use Rattle.qo_model.specs.Notes.{note_text, total_of}
use Rattle.qo_model.specs.Objects.{Changed, may_add, object_add, sever}
use Rattle.qo_model.specs.Paths.{canonical}
use Rattle.qo_model.specs.declared.notes.Note.{Note}
use Rattle.qo_model.specs.Access.{listing_at, read, write_at}
use Rattle.qo_model.specs.Detachment.{detached_listed}
use Rattle.qo_model.specs.declared.detached.Detached.{Detached}
use Rattle.qo_model.specs.Types.{TypeInfo, is_a, type_named, info_of, slots_of}
use Rattle.qo_model.specs.RowNames.{property_name}
use Rattle.qo_model.specs.declared.properties.Property.{Property}
use Rattle.qo_model.specs.declared.properties.PropertyRole.{PropertyRole}
use Rattle.qo_model.specs.declared.properties.PropertyRole.TheVariants as row
use Rattle.qo_types.specs.Rows.{listed as listed_types}
pub use Rattle.qo_replies.specs.Properties.{properties_data, property_data}
use Rattle.qo_realize.specs.Chardevs.{Reading, chardev_added, chardev_removed, ringbuf_read, ringbuf_written}
use Rattle.qo_realize.specs.Resets.{held_at, released_at}
use Rattle.qo_realize.specs.Users.{object_removed}
use Rattle.qo_realize.specs.Time.{advanced, switches, with_running}
use Rattle.qo_replies.specs.Replies.{version_data}
use Rattle.qo_replies.specs.declared.events.Event.{Event}
use Rattle.qo_replies.specs.declared.events.Event.TheVariants.{DeviceDeleted, DeviceUnplugGuestError, Reset, Resume, Shutdown, Stop as Stopped}
use Rattle.qo_requests.specs.Commands.{command_name, commands}
use Rattle.qo_requests.specs.declared.commands.Command.{Command}
use Rattle.qo_requests.specs.declared.calls.Addition.{Addition}
use Rattle.qo_requests.specs.declared.calls.Addition.TheVariants.{ObjectAdd, DeviceAdd}
use Rattle.qo_requests.specs.declared.calls.Alteration.{Alteration}
use Rattle.qo_requests.specs.declared.calls.Alteration.TheVariants.{ChardevAdd, ChardevRemove, Cont, DeviceDel, ObjectDel, QomSet, RingbufRead, RingbufWrite, Stop, SystemReset, XGuest, XResetHold, XResetRelease, XSever, XStep, XWakeup}
use Rattle.qo_requests.specs.declared.calls.Call.{Call}
use Rattle.qo_requests.specs.declared.calls.Call.TheVariants as call
use Rattle.qo_requests.specs.declared.calls.Change.{Change}
use Rattle.qo_requests.specs.declared.calls.Change.TheVariants.{Add, Alter}
use Rattle.qo_requests.specs.declared.calls.Query.{Query}
use Rattle.qo_requests.specs.declared.calls.Query.TheVariants.{DeviceListProperties, QomGet, QomList, QomListTypes, QueryCommands, QueryStatus, QueryVersion, Quit, XDescribe, XMemmap, XQueryDetached, XQueryNotes}
use Rattle.qo_save.specs.Described.{described}
use Rattle.qo_save.specs.Description.{Description, description_data}
use Rattle.qo_text.specs.Buses.{buses_text}
use Rattle.qo_text.specs.Lines.{line_of}
use Rattle.qo_text.specs.Trees.{tree_text}
use Rattle.qo_text.specs.declared.lines.Line.{Line}
use Rattle.qo_text.specs.declared.lines.Line.TheVariants.{Bus, Do, Tree}

-- what a command comes to: what it returns or the code that refuses it, the board after it, its events, and whether it ends the run
pub record Done : Type 0 where
  pub result : Result Data Code
  pub board : Board
  pub events : List Event
  pub ends : Bool

abbrev pub returned : Board → Data → Done
returned b value = record { result = Ok value; board = b; events = []; ends = false }

-- a refused command leaves the board
abbrev pub refused_with : Board → Code → Done
refused_with b code = record { result = Err code; board = b; events = []; ends = false }

-- what a command returns that returns nothing
abbrev pub empty : Data
empty = object no_members

-- what a command returns that reads the board, or the code that refuses it; the board stays
abbrev pub answered : {T : Type 0} → Board → (T → Data) → Result T Code → Done
answered b f (Ok found) = returned b (f found)
answered b f (Err code) = refused_with b code

-- a write that makes another board, or the code that refuses it
abbrev pub wrote : Board → Result Board Code → Done
wrote b (Ok c) = returned c empty
wrote b (Err code) = refused_with b code

-- a change of the board by command; where it is refused the board is that of an attempt that was given up, if there was one
abbrev pub changed : Changed → Done
changed change = elim change.refusal [ None ↦ returned change.board empty | Some code ↦ refused_with change.board code ]

-- a device is added, or the code that refuses it, after an attempt if there was one
abbrev pub plugged : Plugged → Done
plugged add = elim add.refusal [ None ↦ returned add.board empty | Some refusal ↦ refused_with add.board refusal.1 ]

-- what the bytes of a ring that were taken are told as, or the code that refuses it
abbrev pub ring_told : Reading → Done
ring_told reading = answered reading.board string reading.text

-- what a line of the guest is answered; one that is none is refused
abbrev pub answer_data : GuestAnswer → Data
answer_data answer = object (member (codes "answer") (string (text_of answer)) no_members)

abbrev pub answer_told : GuestAnswer → Result Data Code
answer_told NoLine = Err E54
answer_told answer = Ok (answer_data answer)

abbrev pub guest_reply : Outcome → Done
guest_reply line = record { result = answer_told line.answer; board = line.board; events = line.events; ends = line.ends }

-- the machine runs, or stands still; it is told of where that is a change
abbrev pub switched : Board → Bool → Event → Done
switched b on event = record { result = Ok empty; board = with_running on b; events = if switches b on then event ∷ [] else []; ends = false }

-- the whole board is reset, and sessions are told that it was
abbrev pub reset_by : Board → Done
reset_by b = record { result = Ok empty; board = reset_whole b; events = Reset false ∷ []; ends = false }

-- the virtual time, in ns, as it is told
abbrev pub time_data : ℕ → Data
time_data now = object (member (codes "now") (number (unsigned now)) no_members)

-- the time went on, and it is told; or a code refuses that
abbrev pub timed : Changed → Done
timed change = elim change.refusal [ None ↦ returned change.board (time_data change.board.now) | Some code ↦ refused_with change.board code ]

-- notes from a number on, as they are told: the number of the first, the texts of at most 256, and how many there were
abbrev pub note_data : Note → Data
note_data note = string (note_text note)

abbrev pub notes_reply : ℕ → List Note → ℕ → Data
notes_reply first notes total =
    object
    (member (codes "first") (number (unsigned first))
    (member (codes "notes") (array (items_of (map note_data notes)))
    (member (codes "total") (number (unsigned total)) no_members)))

abbrev pub notes_data : ℕ → List Note → Data
notes_data from notes = notes_reply (first_from from notes) (given_from from notes) (total_of notes)

-- an object without a parent, as it is told
abbrev pub detached_data : Detached → Data
detached_data d =
    object
    (member (codes "birth") (number (unsigned d.birth))
    (member (codes "refs") (number (unsigned d.refs))
    (member (codes "type") (string (type_name d.kind)) no_members)))

-- the name of what shows in the memory map: the path of the device, and `boot` where there is none
abbrev pub shown_name : Board → ℕ → List ℕ
shown_name b leaf = if is_live b leaf then unwrap_or (canonical b leaf) [] else codes "boot"

-- what shows from an address on, as it is told
abbrev pub span_data : List ℕ → Span → Data
span_data name span =
    object
    (member (codes "at") (number (unsigned span.at))
    (member (codes "name") (string name)
    (member (codes "offset") (number (unsigned span.offset))
    (member (codes "size") (number (unsigned span.size)) no_members))))

abbrev pub shown_data : Board → Span → Data
shown_data b span = span_data (shown_name b span.leaf) span

-- the description of a board, as it is told; an object without members where it has none
abbrev pub told_as : Option Description → Data
told_as None = empty
told_as (Some d) = description_data d

-- a command by its name
abbrev pub command_data : Command → Data
command_data command = object (member (codes "name") (string (command_name command)) no_members)

-- a type: that it is abstract is said only where it is, and its parent only where it has one
abbrev pub with_parent : Option TypeId → Members
with_parent None = no_members
with_parent (Some parent) = member (codes "parent") (string (type_name parent)) no_members

abbrev pub named_type : TypeInfo → Members
named_type row = member (codes "name") (string (type_name row.id)) (with_parent row.parent)

abbrev pub type_members : TypeInfo → Members
type_members row = if row.is_abstract then member (codes "abstract") (boolean true) (named_type row) else named_type row

abbrev pub type_data : TypeInfo → Data
type_data row = object (type_members row)

-- the rows of the types of a name, abstract ones only where asked, in row order
abbrev pub types_of : List ℕ → Bool → List TypeInfo
types_of name with_abstract = filter_map info_of (listed_types name with_abstract)

-- whether the adding command writes a property
abbrev pub is_for_adding : Property → Bool
is_for_adding row = may_add row.access

-- the type text of a property by its row; that of an alias is the text of what it passes on to, and is empty here
abbrev pub link_word : TypeId → List ℕ
link_word t = around (codes "link") t

abbrev pub role_word : PropertyRole → List ℕ
role_word (row.Plain type first) = value_word type
role_word (row.Link t holds) = link_word t
role_word (row.Child t) = around (codes "child") t
role_word (row.Alias owner of) = []

-- a property by its name and type text
abbrev pub property_words : Property → List ℕ × List ℕ
property_words p = (property_name p.name, role_word p.role)

-- the properties of a type of devices that the adding command writes, in row order
abbrev pub adding_properties : TypeId → List (List ℕ × List ℕ)
adding_properties t = map property_words (filter is_for_adding (slots_of t))

-- the properties of a named type, which must be one of devices
abbrev pub device_properties : Board → Option TypeInfo → Done
device_properties b None = refused_with b E20
device_properties b (Some row) =
    if is_a row.id (codes "device") then returned b (array (items_of (map property_data (adding_properties row.id)))) else refused_with b E22

-- whether the machine runs, as a word too
abbrev pub status_word : Bool → List ℕ
status_word true = codes "running"
status_word false = codes "paused"

abbrev pub status_data : Bool → Data
status_data running =
    object (member (codes "running") (boolean running) (member (codes "status") (string (status_word running)) no_members))

-- what a command comes to that leaves the board
unfoldable pub queried : Board → Query → Done
queried b (QomList path) = answered b properties_data (listing_at b path)
queried b (QomGet path property) = answered b data_of (read b path property)
queried b (QomListTypes implements with_abstract) =
    returned b (array (items_of (map type_data (types_of (unwrap_or implements (codes "object")) (unwrap_or with_abstract false)))))
queried b (DeviceListProperties typename) = device_properties b (type_named typename)
queried b (XQueryNotes from) = returned b (notes_data from b.notes)
queried b XQueryDetached = returned b (array (items_of (map detached_data (detached_listed b))))
queried b XDescribe = returned b (told_as (described b))
queried b XMemmap = returned b (array (items_of (map (shown_data b) (flat_view b))))
queried b QueryVersion = returned b version_data
queried b QueryCommands = returned b (array (items_of (map command_data commands)))
queried b QueryStatus = returned b (status_data b.running)
queried b Quit = record { result = Ok empty; board = b; events = Shutdown false ∷ []; ends = true }

-- one that makes objects
unfoldable pub added : Board → Addition → Done
added b (ObjectAdd driver id props) = changed (object_add b driver id props)
added b (DeviceAdd driver id bus props) = plugged (plug b (wanted driver id bus props))

-- and one that changes the board otherwise
unfoldable pub altered : Board → Alteration → Done
altered b (QomSet path property value) = wrote b (write_at b path property value)
altered b (ObjectDel id) = changed (object_removed b id)
altered b (XSever birth) = changed (sever b birth)
altered b (DeviceDel id) = changed (asked b id)
altered b (ChardevAdd id kind size) = changed (chardev_added b id kind size)
altered b (ChardevRemove id) = changed (chardev_removed b id)
altered b (RingbufRead device size format) = ring_told (ringbuf_read b device size format)
altered b (RingbufWrite device payload format) = changed (ringbuf_written b device payload format)
altered b (XGuest line) = guest_reply (heard b line)
altered b Stop = switched b false Stopped
altered b Cont = switched b true Resume
altered b (XStep ns) = timed (advanced b ns)
altered b SystemReset = reset_by b
altered b (XResetHold path kind) = changed (held_at b path (unwrap_or kind Cold))
altered b (XResetRelease path) = changed (released_at b path)
altered b XWakeup = changed (record { refusal = None; board = woken b })

abbrev pub made : Board → Change → Done
made b (Add addition) = added b addition
made b (Alter alteration) = altered b alteration

-- how a line of the monitor tells what a command came to: nothing where it was done, and the text of the code that refuses it
abbrev pub refusal_line : Code → List ℕ
refusal_line code = codes "Error: " ++ (description_of code ++ 10 ∷ [])

abbrev pub line_answer : Result Data Code → List ℕ
line_answer (Ok value) = []
line_answer (Err code) = refusal_line code

-- what a line of the monitor comes to: it returns a text, and else is as its command
abbrev pub monitored : Board → Option Line → Done
monitored b None = returned b (string (codes "Error: line unreadable" ++ 10 ∷ []))
monitored b (Some Tree) = returned b (string (tree_text b))
monitored b (Some Bus) = returned b (string (buses_text b))
monitored b (Some (Do change)) = record (made b change) { result = Ok (string (line_answer (made b change).result)) }

-- what a command of a session that has negotiated comes to by itself; a query leaves the board
abbrev pub performed : Board → Call → Done
performed b (call.Query query) = record (queried b query) { board = b }
performed b (call.Change change) = made b change
performed b (call.Monitor text) = monitored b (line_of text)

-- an event on a device, as sessions are told of it (qapi/qdev.json, DEVICE_DELETED and DEVICE_UNPLUG_GUEST_ERROR)
abbrev pub event_of : DeviceEvent → Event
event_of e = if e.deleted then DeviceDeleted e.id e.path else DeviceUnplugGuestError e.id e.path

-- the events on devices that wait on the board go first, and then none waits
abbrev pub without_events : Board → Board
without_events b = record b { events = [] }

abbrev pub drained : Done → Done
drained d = record d { board = without_events d.board; events = map event_of d.board.events ++ d.events }

-- a command, and the events that wait after it
abbrev pub perform : Board → Call → Done
perform b command = drained (performed b command)
