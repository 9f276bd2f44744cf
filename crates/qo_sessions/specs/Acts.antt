-- What an item of a session comes to, by the mode of the session (QMP specification, 4 "Capabilities Negotiation").
use Rattle.std.specs.Prelude.{ℕ, Bool, true, false, List, [], ◌∷◌, Option, None, Some, Result, Ok, Err}
use Rattle.qo_values.specs.declared.codes.Code.{Code}
use Rattle.qo_values.specs.declared.codes.Code.TheVariants.{E1, E2, E3, E4, E5, E6, E7, E8, E9, E11, E99}
use Rattle.qo_framing.specs.declared.items.Item.{Item}
use Rattle.qo_framing.specs.declared.items.Item.TheVariants.{Object, Junk, Broken, TooLong, TooDeep}
use Rattle.qo_requests.specs.Messages.{command}
use Rattle.qo_requests.specs.declared.requests.Parsed.{Parsed}
use Rattle.qo_requests.specs.declared.requests.ReadError.{ReadError}
use Rattle.qo_requests.specs.declared.requests.ReadError.TheVariants.{Refused, Memory}
use Rattle.qo_requests.specs.declared.requests.Request.{Request}
use Rattle.qo_requests.specs.declared.requests.Request.TheVariants.{Call, QmpCapabilities}
use Rattle.qo_sessions.specs.declared.acts.SessionAct.{SessionAct}
use Rattle.qo_sessions.specs.declared.acts.SessionAct.TheVariants.{Answer, Negotiated, Do}
use Rattle.qo_sessions.specs.declared.modes.Mode.{Mode}
use Rattle.qo_sessions.specs.declared.modes.Mode.TheVariants.{Commanding}

-- a negotiation that asks for no capability is done; none is offered
abbrev pub offered : Option (List (List ℕ)) → Option (List ℕ) → SessionAct
offered None id = Negotiated id
offered (Some []) id = Negotiated id
offered (Some (name ∷ names)) id = Answer E11 id

-- a request before the negotiation
abbrev pub negotiate : Request → Option (List ℕ) → SessionAct
negotiate (QmpCapabilities enable) id = offered enable id
negotiate (Call call) id = Answer E8 id

-- a request after it
abbrev pub demand : Request → Option (List ℕ) → SessionAct
demand (QmpCapabilities enable) id = Answer E9 id
demand (Call call) id = Do call id

-- a request that was read
abbrev pub asked : Mode → Request → Option (List ℕ) → SessionAct
asked Commanding request id = demand request id
asked mode request id = negotiate request id

-- of a refused message: whether it is no command at all
abbrev pub is_no_command : Code → Bool
is_no_command E1 = true
is_no_command E6 = true
is_no_command E7 = true
is_no_command code = false

-- the code of a refused command: the mode is looked at before its name and its arguments
abbrev pub code_in : Mode → Bool → Code → Code
code_in Commanding true code = E9
code_in Commanding false code = code
code_in mode true code = code
code_in mode false code = E8

-- the code of a refused message
abbrev pub refusal_code : Bool → Mode → Bool → Code → Code
refusal_code true mode negotiates code = code
refusal_code false mode negotiates code = code_in mode negotiates code

-- what a message comes to, by what it is read into; the definition of a reading never wants memory
abbrev pub judged : Mode → Result Parsed ReadError → SessionAct
judged mode (Ok parsed) = asked mode parsed.request parsed.id
judged mode (Err (Refused code id negotiates)) = Answer (refusal_code (is_no_command code) mode negotiates code) id
judged mode (Err Memory) = Answer E99 None

-- what an item comes to
unfoldable pub act : Mode → Item → SessionAct
act mode (Object bytes) = judged mode (command bytes)
act mode Junk = Answer E2 None
act mode Broken = Answer E3 None
act mode TooLong = Answer E4 None
act mode TooDeep = Answer E5 None

-- the mode after it
abbrev pub mode_after : Mode → SessionAct → Mode
mode_after mode (Negotiated id) = Commanding
mode_after mode what = mode
