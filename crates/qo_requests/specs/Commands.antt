-- The commands by name, what they take, and the request that each makes (QMP specification, 2.3 "Issuing Commands"; docs/PROFILE.md, commands).
use Rattle.std.specs.Prelude.{ℕ, Bool, true, false, List, [], ◌∷◌, codes, Option, find}
use Rattle.std.specs.Str.{bytes_eq}
use Rattle.qo_requests.specs.declared.commands.Command.{Command}
use Rattle.qo_requests.specs.declared.commands.Command.TheVariants.{ChardevAdd, ChardevRemove, Cont, DeviceListProperties, DeviceAdd, DeviceDel, HumanMonitorCommand, ObjectAdd, ObjectDel, QmpCapabilities, QomGet, QomList, QomListTypes, QomSet, QueryCommands, QueryStatus, QueryVersion, Quit, RingbufRead, RingbufWrite, Stop, SystemReset, XDescribe, XGuest, XMemmap, XQueryDetached, XQueryNotes, XResetHold, XResetRelease, XSever, XStep, XWakeup}
use Rattle.qo_requests.specs.declared.arguments.Argument.{Argument}
use Rattle.qo_requests.specs.declared.arguments.Argument.TheVariants.{Needed, Optional}
use Rattle.qo_requests.specs.declared.arguments.ArgumentType.TheVariants.{Object, Text, Texts, Truth, Number, RingBytes, Form, ResetType, Plain}
use Rattle.qo_requests.specs.declared.fields.Field.TheVariants as field
use Rattle.serde_json.specs.Data.{Data}
use Rattle.qo_requests.specs.Fields.{part_of}
use Rattle.qo_requests.specs.Values.{text_at, number_at, truth_at, form_at, reset_type_at, texts_at, text_in, number_in, value_in, properties_beside}
use Rattle.qo_requests.specs.declared.calls.Addition.{Addition}
use Rattle.qo_requests.specs.declared.calls.Addition.TheVariants as addition
use Rattle.qo_requests.specs.declared.calls.Alteration.{Alteration}
use Rattle.qo_requests.specs.declared.calls.Alteration.TheVariants as alteration
use Rattle.qo_requests.specs.declared.calls.Call.TheVariants as call
use Rattle.qo_requests.specs.declared.calls.Change.TheVariants as change
use Rattle.qo_requests.specs.declared.calls.Query.{Query}
use Rattle.qo_requests.specs.declared.calls.Query.TheVariants as query
use Rattle.qo_requests.specs.declared.requests.Request.{Request}
use Rattle.qo_requests.specs.declared.requests.Request.TheVariants as request

-- a command's name, as messages spell it
abbrev pub command_name : Command → List ℕ
command_name ChardevAdd = codes "chardev-add"
command_name ChardevRemove = codes "chardev-remove"
command_name Cont = codes "cont"
command_name DeviceListProperties = codes "device-list-properties"
command_name DeviceAdd = codes "device_add"
command_name DeviceDel = codes "device_del"
command_name HumanMonitorCommand = codes "human-monitor-command"
command_name ObjectAdd = codes "object-add"
command_name ObjectDel = codes "object-del"
command_name QmpCapabilities = codes "qmp_capabilities"
command_name QomGet = codes "qom-get"
command_name QomList = codes "qom-list"
command_name QomListTypes = codes "qom-list-types"
command_name QomSet = codes "qom-set"
command_name QueryCommands = codes "query-commands"
command_name QueryStatus = codes "query-status"
command_name QueryVersion = codes "query-version"
command_name Quit = codes "quit"
command_name RingbufRead = codes "ringbuf-read"
command_name RingbufWrite = codes "ringbuf-write"
command_name Stop = codes "stop"
command_name SystemReset = codes "system_reset"
command_name XDescribe = codes "x-describe"
command_name XGuest = codes "x-guest"
command_name XMemmap = codes "x-memmap"
command_name XQueryDetached = codes "x-query-detached"
command_name XQueryNotes = codes "x-query-notes"
command_name XResetHold = codes "x-reset-hold"
command_name XResetRelease = codes "x-reset-release"
command_name XSever = codes "x-sever"
command_name XStep = codes "x-step"
command_name XWakeup = codes "x-wakeup"

-- the commands, in byte order of their names
abbrev pub commands : List Command
commands = ChardevAdd ∷ ChardevRemove ∷ Cont ∷ DeviceListProperties ∷ DeviceAdd ∷ DeviceDel ∷ HumanMonitorCommand ∷ ObjectAdd ∷ ObjectDel ∷ QmpCapabilities
    ∷ QomGet ∷ QomList
    ∷ QomListTypes ∷ QomSet ∷ QueryCommands ∷ QueryStatus ∷ QueryVersion ∷ Quit ∷ RingbufRead ∷ RingbufWrite ∷ Stop ∷ SystemReset ∷ XDescribe ∷ XGuest
    ∷ XMemmap ∷ XQueryDetached ∷ XQueryNotes ∷ XResetHold ∷ XResetRelease ∷ XSever ∷ XStep ∷ XWakeup ∷ []

-- the command of a name
abbrev pub command_of : List ℕ → Option Command
command_of name = find (λ command. bytes_eq (command_name command) name) commands

-- the arguments that a command takes
abbrev pub arguments : Command → List Argument
arguments ChardevAdd = Needed field.Id Text ∷ Needed field.Backend Object ∷ []
arguments ChardevRemove = Needed field.Id Text ∷ []
arguments DeviceListProperties = Needed field.Typename Text ∷ []
arguments DeviceAdd = Needed field.Driver Text ∷ Optional field.Id Text ∷ Optional field.Bus Text ∷ []
arguments DeviceDel = Needed field.Id Text ∷ []
arguments HumanMonitorCommand = Needed field.CommandLine Text ∷ []
arguments ObjectAdd = Needed field.QomType Text ∷ Needed field.Id Text ∷ []
arguments ObjectDel = Needed field.Id Text ∷ []
arguments QmpCapabilities = Optional field.Enable Texts ∷ []
arguments QomGet = Needed field.Path Text ∷ Needed field.Property Text ∷ []
arguments QomList = Needed field.Path Text ∷ []
arguments QomListTypes = Optional field.Implements Text ∷ Optional field.Abstract Truth ∷ []
arguments QomSet = Needed field.Path Text ∷ Needed field.Property Text ∷ Needed field.Value Plain ∷ []
arguments RingbufRead = Needed field.Device Text ∷ Needed field.Size RingBytes ∷ Optional field.Format Form ∷ []
arguments RingbufWrite = Needed field.Device Text ∷ Needed field.Payload Text ∷ Optional field.Format Form ∷ []
arguments XGuest = Needed field.Line Text ∷ []
arguments XQueryNotes = Needed field.From Number ∷ []
arguments XResetHold = Needed field.Path Text ∷ Optional field.Kind ResetType ∷ []
arguments XResetRelease = Needed field.Path Text ∷ []
arguments XSever = Needed field.Birth Number ∷ []
arguments XStep = Needed field.Ns Number ∷ []
arguments _ = []

-- each further argument is a property
abbrev pub is_open : Command → Bool
is_open DeviceAdd = true
is_open ObjectAdd = true
is_open _ = false

-- the request of a command, by what it does to the board
abbrev pub queries : Query → Request
queries q = request.Call (call.Query q)

abbrev pub adds : Addition → Request
adds a = request.Call (call.Change (change.Add a))

abbrev pub alters : Alteration → Request
alters a = request.Call (call.Change (change.Alter a))

-- the ring that a `backend` asks for: its `type`, and the `size` of its `data`
abbrev pub ring_on : Data → Data → Request
ring_on args backend =
    alters (alteration.ChardevAdd (text_in field.Id args) (text_in field.Kind backend) (number_at field.Size (part_of field.Payload backend)))

-- the request of a command with these arguments; those of an object or a device that no row names are its properties
abbrev pub request_of : Command → Data → Request
request_of ChardevAdd args = ring_on args (part_of field.Backend args)
request_of ChardevRemove args = alters (alteration.ChardevRemove (text_in field.Id args))
request_of Cont args = alters alteration.Cont
request_of DeviceListProperties args = queries (query.DeviceListProperties (text_in field.Typename args))
request_of DeviceAdd args =
    adds (addition.DeviceAdd (text_in field.Driver args) (text_at field.Id args) (text_at field.Bus args) (properties_beside (arguments DeviceAdd) args))
request_of DeviceDel args = alters (alteration.DeviceDel (text_in field.Id args))
request_of HumanMonitorCommand args = request.Call (call.Monitor (text_in field.CommandLine args))
request_of ObjectAdd args = adds (addition.ObjectAdd (text_in field.QomType args) (text_in field.Id args) (properties_beside (arguments ObjectAdd) args))
request_of ObjectDel args = alters (alteration.ObjectDel (text_in field.Id args))
request_of QmpCapabilities args = request.QmpCapabilities (texts_at field.Enable args)
request_of QomGet args = queries (query.QomGet (text_in field.Path args) (text_in field.Property args))
request_of QomList args = queries (query.QomList (text_in field.Path args))
request_of QomListTypes args = queries (query.QomListTypes (text_at field.Implements args) (truth_at field.Abstract args))
request_of QomSet args = alters (alteration.QomSet (text_in field.Path args) (text_in field.Property args) (value_in field.Value args))
request_of QueryCommands args = queries query.QueryCommands
request_of QueryStatus args = queries query.QueryStatus
request_of QueryVersion args = queries query.QueryVersion
request_of Quit args = queries query.Quit
request_of RingbufRead args = alters (alteration.RingbufRead (text_in field.Device args) (number_in field.Size args) (form_at field.Format args))
request_of RingbufWrite args = alters (alteration.RingbufWrite (text_in field.Device args) (text_in field.Payload args) (form_at field.Format args))
request_of Stop args = alters alteration.Stop
request_of SystemReset args = alters alteration.SystemReset
request_of XDescribe args = queries query.XDescribe
request_of XGuest args = alters (alteration.XGuest (text_in field.Line args))
request_of XMemmap args = queries query.XMemmap
request_of XQueryDetached args = queries query.XQueryDetached
request_of XQueryNotes args = queries (query.XQueryNotes (number_in field.From args))
request_of XResetHold args = alters (alteration.XResetHold (text_in field.Path args) (reset_type_at field.Kind args))
request_of XResetRelease args = alters (alteration.XResetRelease (text_in field.Path args))
request_of XSever args = alters (alteration.XSever (number_in field.Birth args))
request_of XStep args = alters (alteration.XStep (number_in field.Ns args))
request_of XWakeup args = alters alteration.XWakeup
