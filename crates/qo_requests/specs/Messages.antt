-- What a message is read into, or the first code that stands (QMP specification, 2.3 "Issuing Commands" and 2.5 "Server responses";
-- docs/PROFILE.md, commands).
use Rattle.std.specs.Prelude.{◌≡◌, ℕ, Bool, true, false, not, ◌&&◌, ◌||◌, List, [], ◌∷◌, codes, Option, Some, None, is_some, option_and_then, option_map, unwrap_or, Result, Ok, Err, if◌then◌else◌, ⊤}
use Rattle.std.specs.Option.{option_map_or}
use Rattle.std.specs.Str.{bytes_eq, is_utf8}
use Rattle.serde_json.specs.Data.{Data}
use Rattle.serde_json.specs.Find.{as_object}
use Rattle.serde_json.specs.Read.{read}
use Rattle.serde_json.specs.Written.{has_float}
use Rattle.qo_values.specs.declared.codes.Code.{Code}
use Rattle.qo_values.specs.declared.codes.Code.TheVariants.{E1, E6, E7, E10, E12, E13, E14}
use Rattle.qo_requests.specs.Arguments.{all_stand, has_only, all_fit, plain_beside}
use Rattle.qo_requests.specs.Commands.{command_of, arguments, is_open, request_of}
use Rattle.qo_requests.specs.Fields.{argument, part_of}
use Rattle.qo_requests.specs.Values.{text_at}
use Rattle.qo_replies.specs.Json.{json}
use Rattle.qo_requests.specs.declared.arguments.Argument.{Argument}
use Rattle.qo_requests.specs.declared.arguments.Argument.TheVariants.{Needed, Optional}
use Rattle.qo_requests.specs.declared.arguments.ArgumentType.TheVariants.{Any, Object, Text, Number}
use Rattle.qo_requests.specs.declared.commands.Command.{Command}
use Rattle.qo_requests.specs.declared.commands.Command.TheVariants.{ChardevAdd}
use Rattle.qo_requests.specs.declared.fields.Field.TheVariants.{Arguments, Backend, Execute, Id, Kind, Payload, Size}
use Rattle.qo_requests.specs.declared.messages.Refusal.{Refusal}
use Rattle.qo_requests.specs.declared.messages.Refusal.TheVariants as refusal
use Rattle.qo_requests.specs.declared.requests.Parsed.{Parsed}
use Rattle.qo_requests.specs.declared.requests.ReadError.{ReadError}
use Rattle.qo_requests.specs.declared.requests.ReadError.TheVariants.{Refused, Memory}
use Rattle.qo_requests.specs.declared.requests.Request.{Request}

-- the value that a message is, where it is JSON in UTF-8
abbrev pub value_of : List ℕ → Option Data
value_of bytes = if is_utf8 bytes then read bytes else None

-- the members of a message
abbrev pub message_members : List Argument
message_members = Needed Execute Text ∷ Optional Arguments Object ∷ Optional Id Any ∷ []

-- a message has the members `execute`, a text, and maybe `arguments`, an object, and `id`, and no other
abbrev pub is_message : Data → Bool
is_message d = has_only message_members d && all_stand message_members d && all_fit message_members d

-- the members of `backend` of `chardev-add`, and of its `data`
abbrev pub backend_members : List Argument
backend_members = Needed Kind Text ∷ Needed Payload Object ∷ []

abbrev pub payload_members : List Argument
payload_members = Optional Size Number ∷ []

-- `backend`, where it is an object, has all its members
abbrev pub backend_complete : Data → Bool
backend_complete d = not (is_some (as_object d)) || all_stand backend_members d

-- `backend` and its `data` have no other members
abbrev pub backend_closed : Data → Bool
backend_closed d = has_only backend_members d && has_only payload_members (part_of Payload d)

-- the members of `backend` and of its `data` are of their kinds
abbrev pub backend_fits : Data → Bool
backend_fits d = all_fit backend_members d && all_fit payload_members (part_of Payload d)

-- the `backend` of `chardev-add`, where it stands
abbrev pub backend_of : Command → Data → Option Data
backend_of ChardevAdd args = argument Backend args
backend_of command args = None

-- each argument that must stand there does
abbrev pub is_complete : Command → Data → Bool
is_complete command args = all_stand (arguments command) args && option_map_or backend_complete (backend_of command args) true

-- no argument stands there that the command does not take
abbrev pub is_closed : Command → Data → Bool
is_closed command args = (is_open command || has_only (arguments command) args) && option_map_or backend_closed (backend_of command args) true

-- each argument is of its kind, and each further one a plain value
abbrev pub is_fitting : Command → Data → Bool
is_fitting command args =
    all_fit (arguments command) args && (not (is_open command) || plain_beside (arguments command) args)
    && option_map_or backend_fits (backend_of command args) true

-- a command with its arguments: all are there, then none is beside them, then each is of its kind
abbrev pub call_of : Option Command → Data → Result Request Code
call_of None args = Err E10
call_of (Some command) args =
    if not (is_complete command args) then Err E12
    else (if not (is_closed command args) then Err E13
    else (if not (is_fitting command args) then Err E14 else Ok (request_of command args)))

-- the call that a message makes
abbrev pub call_in : Data → Result Request Code
call_in d = call_of (option_and_then command_of (text_at Execute d)) (part_of Arguments d)

-- the request that a value is, or the first code that stands
abbrev pub request_in : Data → Result Request Code
request_in d =
    if has_float d then Err E7
    else (if not (is_message d) then Err E6 else call_in d)

-- an id as its text in a reply, where no number of it is a float
abbrev pub id_text : Option Data → Option (List ℕ)
id_text None = None
id_text (Some d) = if has_float d then None else Some (json d)

-- `execute` is `qmp_capabilities`
abbrev pub negotiates : Data → Bool
negotiates d = unwrap_or (option_map (λ name. bytes_eq name (codes "qmp_capabilities")) (text_at Execute d)) false

-- a request or a code, with the id of its message
abbrev pub with_id : Data → Result Request Code → Result Parsed ReadError
with_id d (Ok request) = Ok (record { id = id_text (argument Id d); request = request })
with_id d (Err code) = Err (Refused code (id_text (argument Id d)) (negotiates d))

-- what the value of a message is read into; E1 where there is none
abbrev pub of_value : Option Data → Result Parsed ReadError
of_value None = Err (Refused E1 None false)
of_value (Some d) = with_id d (request_in d)

-- what a message is read into
unfoldable pub command : List ℕ → Result Parsed ReadError
command bytes = of_value (value_of bytes)

-- what a reading comes to: as defined, or want of memory
abbrev pub Reads : Result Parsed ReadError → Result Parsed ReadError → Type 0
Reads (Err Memory) defined = ⊤
Reads (Err (Refused code id negotiates)) defined = defined ≡ Err (Refused code id negotiates)
Reads (Ok parsed) defined = defined ≡ Ok parsed

-- what a value is read into: as defined, or want of memory
abbrev pub GivesCode : Result Request Refusal → Result Request Code → Type 0
GivesCode (Ok request) defined = defined ≡ Ok request
GivesCode (Err (refusal.Code code)) defined = defined ≡ Err code
GivesCode (Err refusal.Memory) defined = ⊤
