-- For proofs alone. What the code's outcomes of commands are.
use Rattle.std.specs.Prelude.{option_to_list, ℕ, Bool, false, if◌then◌else◌, List, [], ◌∷◌, Option, Result, Ok, Err}
use Rattle.serde_json.specs.Data.{Data, string}
use Rattle.serde_json.specs.View.{view}
use Rattle.serde_json.specs.Written.{has_float}
use Rattle.qo_values.specs.declared.codes.Code.{Code}
use Rattle.qo_values.specs.declared.kinds.TypeId.{TypeId}
use Rattle.qo_model.specs.Board.{Board}
use Rattle.qo_model.specs.declared.properties.Property.{Property}
use Rattle.qo_model.specs.Listing.{listing}
use Rattle.qo_replies.specs.Properties.{properties_data}
use Rattle.qo_commands.specs.Commands as defined
use Rattle.qo_commands.specs.declared.commands.ReplyBody.{ReplyBody}
use Rattle.qo_commands.specs.declared.commands.ReplyBody.TheVariants.{Answer, Empty, Status, Listing, Time, Told, Value}
use Rattle.qo_commands.specs.declared.commands.Done.{Done}

-- what is returned, as data, where this board stands
abbrev pub body_data : Board → ReplyBody → Data
body_data b Empty = defined.empty
body_data b (Status running) = defined.status_data running
body_data b (Listing n) = properties_data (listing b n)
body_data b (Answer answer) = defined.answer_data answer
body_data b (Time now) = defined.time_data now
body_data b (Told text) = string text
body_data b (Value whole) = view whole.value

abbrev pub data_of : Board → Result ReplyBody Code → Result Data Code
data_of b (Ok body) = Ok (body_data b body)
data_of b (Err code) = Err code

-- an outcome that leaves this board
abbrev pub done_of : Board → Done → defined.Done
done_of b d = record { result = data_of b d.result; board = b; events = option_to_list d.event; ends = d.ends }

-- whether a number in what was returned has no text
abbrev pub has_float_in : Result Data Code → Bool
has_float_in (Ok d) = has_float d
has_float_in (Err code) = false

-- a property by name and type text, if the adding command writes it
abbrev pub words_for_adding : Property → List (List ℕ × List ℕ)
words_for_adding p = if defined.is_for_adding p then defined.property_words p ∷ [] else []

-- a type as it is told of, by the parts of its row that are told: its id, whether it is abstract, and its parent
abbrev pub row_data : TypeId → Bool → Option TypeId → Data
row_data t abstract parent = defined.type_data (record { id = t; parent = parent; is_abstract = abstract; interfaces = []; properties = [] })
