-- What `rebuild` puts.
use Rattle.std.specs.Prelude.{◌≡◌, ℕ, ◌<◌, ◌≤◌, List, [], ◌∷◌, ◌++◌, codes, length, Option, Some, None, option_map, Result, Ok, Err, IfSome, ⊤}
use Rattle.std.specs.Io.KnownBytes.{append_known, prepend_known}
use Rattle.qo_causes.specs.Bytes.{AppendsPrefix}
use Rattle.qo_values.specs.Codes.{description_of}
use Rattle.qo_values.specs.declared.codes.Code.{Code}
use Rattle.qo_model.specs.Board.{Board}
use Rattle.qo_replies.specs.Json.{json}
use Rattle.qo_save.specs.Described.{described}
use Rattle.qo_commands.specs.Commands.{told_as}
use Rattle.qo_rebuild.specs.Texts.{rebuilt_of_text}
use Rattle.qo_rebuild.specs.declared.errors.SaveError.{SaveError}
use Rattle.qo_rebuild.specs.declared.errors.SaveError.TheVariants as save
use Rattle.compose.specs.Replay.{line_of}
use Rattle.compose.specs.declared.whole_sources.TheConstants.{DESCRIPTION_MAX}
use Rattle.compose.specs.declared.statuses.Status.{Status}
use Rattle.compose.specs.declared.statuses.Status.TheVariants.{Done, Usage, BadRecord, Memory, ReadFault, WriteFault, HubFault, InputLimit, BadBoard}

-- the description of a board, as `x-describe` returns it, and the end of the line
abbrev pub board_text : Board → List ℕ
board_text b = json (told_as (described b)) ++ 10 ∷ []

-- the source gave these bytes, which are not too many, and has come to its end
pub record GaveAll (left_old left_new : Option (List ℕ)) (bytes : List ℕ) : Type 0 where
  pub gave : left_old ≡ prepend_known bytes left_new
  pub few : length bytes ≤ DESCRIPTION_MAX
  pub ended : IfSome left_new (λ left. left ≡ [])

-- the text of the board that another text describes; or there is none, since that is no description, or since a code refuses it; or there was want of memory
abbrev pub TellsBoard : Option (Result Board Code) → Result (List ℕ) SaveError → Type 0
TellsBoard defined (Ok line) = (b : Board) × (defined ≡ Some (Ok b)) × (line ≡ board_text b)
TellsBoard defined (Err save.Shape) = defined ≡ None
TellsBoard defined (Err (save.Refused code)) = defined ≡ Some (Err code)
TellsBoard defined (Err save.Memory) = ⊤

-- why a text is rebuilt to no board: by no code where it is no description, and else by the code of the call that refuses it
abbrev pub bad_board : Option Code → Option (Result Board Code)
bad_board why = option_map Err why

-- `rebuild`, by its status, where the source gave these bytes: the text of the board that they describe was put, or a front of it, or nothing
abbrev pub RebuiltBy : Status → Option Code → Option (List ℕ) → Option (List ℕ) → Option (List ℕ) → Option (List ℕ) → List ℕ → Type 0
RebuiltBy Done why left_old left_new held_old held_new bytes =
    GaveAll left_old left_new bytes × (b : Board) × (rebuilt_of_text bytes ≡ Some (Ok b)) × (held_new ≡ append_known held_old (board_text b))
RebuiltBy WriteFault why left_old left_new held_old held_new bytes =
    GaveAll left_old left_new bytes × (b : Board) × (rebuilt_of_text bytes ≡ Some (Ok b)) × AppendsPrefix held_old held_new (board_text b)
RebuiltBy BadBoard why left_old left_new held_old held_new bytes =
    GaveAll left_old left_new bytes × (rebuilt_of_text bytes ≡ bad_board why) × (held_new ≡ held_old)
RebuiltBy InputLimit why left_old left_new held_old held_new bytes =
    (left_old ≡ prepend_known bytes left_new) × (DESCRIPTION_MAX < length bytes) × (held_new ≡ held_old)
RebuiltBy ReadFault why left_old left_new held_old held_new bytes = (left_old ≡ prepend_known bytes left_new) × (held_new ≡ held_old)
RebuiltBy Memory why left_old left_new held_old held_new bytes = (left_old ≡ prepend_known bytes left_new) × (held_new ≡ held_old)
RebuiltBy Usage why left_old left_new held_old held_new bytes = ⊥
RebuiltBy BadRecord why left_old left_new held_old held_new bytes = ⊥
RebuiltBy HubFault why left_old left_new held_old held_new bytes = ⊥

-- the line that tells a status of it: a bad board is told with the code that refuses it, if one does
abbrev pub board_line : Status → Option Code → List ℕ
board_line BadBoard (Some code) = codes "compose: bad board: " ++ (description_of code ++ 10 ∷ [])
board_line status why = line_of status 0
