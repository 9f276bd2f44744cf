-- What a session is sent (QMP specification, 2.2 "Server Greeting", 2.4 "Commands Responses").
use Rattle.std.specs.Prelude.{ℕ, List, [], ◌∷◌, ◌++◌, Option, None, Some, codes}
use Rattle.qo_values.specs.Codes.{class_name, class_of, description_of}
use Rattle.qo_values.specs.declared.codes.Code.{Code}
use Rattle.serde_json.specs.Data.{Data, array, member, no_items, no_members, number, object, string, unsigned}
use Rattle.qo_replies.specs.Json.{json}

-- what ends each message to a session: CR LF
abbrev pub line_end : List ℕ
line_end = 13 ∷ 10 ∷ []

-- the version that the greeting and `query-version` tell
abbrev pub version_data : Data
version_data =
    object
    (member (codes "package") (string (codes "compose"))
    (member (codes "qemu")
    (object
    (member (codes "major") (number (unsigned 1))
    (member (codes "micro") (number (unsigned 0))
    (member (codes "minor") (number (unsigned 0)) no_members)))) no_members))

-- sent when a session opens: no capability is offered
abbrev pub greeting_data : Data
greeting_data =
    object
    (member (codes "QMP")
    (object (member (codes "capabilities") (array no_items) (member (codes "version") version_data no_members)))
    no_members)

unfoldable pub greeting : List ℕ
greeting = json greeting_data ++ line_end

-- the member `id`, where the message had one; it is kept as its text
abbrev pub id_member : Option (List ℕ) → List ℕ → List ℕ → List ℕ
id_member None before after = []
id_member (Some id) before after = before ++ codes "\"id\":" ++ id ++ after

-- the reply to a command that was done: members `id` and `return`
unfoldable pub return_reply : Option (List ℕ) → Data → List ℕ
return_reply id value =
    codes "{" ++ id_member id [] (codes ",") ++ codes "\"return\":" ++ json value ++ codes "}" ++ line_end

-- the reply to a message that was refused: members `error` and `id`
unfoldable pub error_reply : Option (List ℕ) → Code → List ℕ
error_reply id code =
    codes "{\"error\":{\"class\":\"" ++ class_name (class_of code) ++ codes "\",\"desc\":\"" ++ description_of code ++ codes "\"}"
    ++ id_member id (codes ",") [] ++ codes "}" ++ line_end
