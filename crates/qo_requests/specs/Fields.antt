-- The members of messages by name.
use Rattle.std.specs.Prelude.{ℕ, List, codes, Option, unwrap_or}
use Rattle.serde_json.specs.Data.{Data, null}
use Rattle.serde_json.specs.Find.{get}
use Rattle.qo_requests.specs.declared.fields.Field.{Field}
use Rattle.qo_requests.specs.declared.fields.Field.TheVariants.{Abstract, Arguments, Backend, Birth, Bus, CommandLine, Device, Driver, Enable, Execute, Format, From, Id, Implements, Kind, Line, Ns, Path, Payload, Property, QomType, Size, Typename, Value}

-- a member's name, as messages spell it
abbrev pub field_name : Field → List ℕ
field_name Abstract = codes "abstract"
field_name Arguments = codes "arguments"
field_name Backend = codes "backend"
field_name Birth = codes "birth"
field_name Bus = codes "bus"
field_name CommandLine = codes "command-line"
field_name Device = codes "device"
field_name Driver = codes "driver"
field_name Enable = codes "enable"
field_name Execute = codes "execute"
field_name Format = codes "format"
field_name From = codes "from"
field_name Id = codes "id"
field_name Implements = codes "implements"
field_name Kind = codes "type"
field_name Line = codes "line"
field_name Ns = codes "ns"
field_name Path = codes "path"
field_name Payload = codes "data"
field_name Property = codes "property"
field_name QomType = codes "qom-type"
field_name Size = codes "size"
field_name Typename = codes "typename"
field_name Value = codes "value"

-- the member of a name in an object; what is no object has none
abbrev pub argument : Field → Data → Option Data
argument field d = get (field_name field) d

-- the member of a name in an object, or else null, which has no members
abbrev pub part_of : Field → Data → Data
part_of field d = unwrap_or (argument field d) null
