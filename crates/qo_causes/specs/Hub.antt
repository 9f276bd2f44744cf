-- What the calls of a hub do to its meanings and its counts.
use Rattle.std.specs.Prelude.{ℕ, ◌≡◌, ◌≤◌, ◌==◌, Bool, true, false, if◌then◌else◌, List, [], ◌∷◌, ◌++◌, Option, Some, None, Result, Ok, Err, IfSome, option_map, unwrap_or, decimal, codes}
use Rattle.std.specs.Io.KnownBytes.{append_known}
use Rattle.qo_causes.specs.Bytes.{AppendsPrefix}
use Rattle.qo_causes.specs.Cause.{Rose}
use Rattle.qo_causes.specs.Names.{Given, Names, name_of}
use Rattle.qo_causes.specs.declared.faults.Failed.{Failed}
use Rattle.qo_causes.specs.declared.hubs.Lane.{Lane}
use Rattle.qo_causes.specs.declared.hubs.Lane.TheVariants.{Session, Guest}
use Rattle.qo_causes.specs.declared.hubs.NextError.{NextError}
use Rattle.qo_causes.specs.declared.hubs.NextError.TheVariants.{Failed as NextFailed, Bad, Memory}
use Rattle.qo_causes.specs.declared.hubs.SendError.{SendError}
use Rattle.qo_causes.specs.declared.hubs.SendError.TheVariants.{Gone, Failed as SendFailed}
use Rattle.qo_causes.specs.declared.inputs.Input.{Input}
use Rattle.qo_causes.specs.declared.inputs.What.{What}
use Rattle.qo_causes.specs.declared.inputs.What.TheVariants.{End}

-- is it the same lane
abbrev pub same_lane : Lane → Lane → Bool
same_lane (Session s) (Session t) = s == t
same_lane (Session s) Guest = false
same_lane Guest (Session t) = false
same_lane Guest Guest = true

-- what lane l gets of bytes that are sent to a lane
abbrev pub part : Lane → Lane → List ℕ → List ℕ
part l lane bytes = if same_lane l lane then bytes else []

-- a lane as the transcript names it: the name of its session among these, or its number where it has none; or `g` for the guest
abbrev pub lane_text : Names → Lane → List ℕ
lane_text names (Session s) = unwrap_or (name_of names s) (decimal s)
lane_text names Guest = codes "g"

-- the transcript's line of one message, whose bytes have its line end, while sessions have these names
abbrev pub line : Names → Lane → List ℕ → List ℕ
line names lane bytes = lane_text names lane ++ 32 ∷ bytes

-- does it say that there are no more inputs
abbrev pub is_end : What → Bool
is_end End = true
is_end what = false

-- the input that came with the names that stand with it, and none at the end
abbrev pub given_by : Input → Names → Option Given
given_by i names = if is_end i.what then None else Some (record { input = i; names = names })

-- no input is left, and this is the bad place, or there is none
abbrev pub AtEnd : Option (List Given) → Option (Option ℕ) → Option ℕ → Type 0
AtEnd inputs bad place = IfSome inputs (λ rest. rest ≡ []) × IfSome bad (λ told. told ≡ place)

-- the input was the first of those left; there is none only at an end that is not bad
abbrev pub Gives : Option (List Given) → Option (List Given) → Option (Option ℕ) → Option Given → Type 0
Gives old new bad (Some i) = old ≡ option_map (λ rest. i ∷ rest) new
Gives old new bad None = (new ≡ old) × AtEnd old bad None

-- `next` gave the first input, with which the names now stand, or the end, or the bad place where no input is left; other errors take no input
abbrev pub NextGives : Option (List Given) → Option (List Given) → Option (Option ℕ) → Names → Result Input NextError → Type 0
NextGives old new bad names (Ok i) = Gives old new bad (given_by i names)
NextGives old new bad names (Err (Bad n)) = (new ≡ old) × AtEnd old bad (Some n)
NextGives old new bad names (Err NextFailed) = new ≡ old
NextGives old new bad names (Err Memory) = new ≡ old

-- where `next` gave no input the names now are as before
abbrev pub NamesStay : Names → Names → Result Input NextError → Type 0
NamesStay old new (Ok i) = is_end i.what ≡ true → new ≡ old
NamesStay old new (Err e) = new ≡ old

-- the fact holds where `next` answered Failed
abbrev pub OnNextFailed : Result Input NextError → Type 0 → Type 0
OnNextFailed (Ok i) fact = Unit {0}
OnNextFailed (Err (Bad n)) fact = Unit {0}
OnNextFailed (Err NextFailed) fact = fact
OnNextFailed (Err Memory) fact = Unit {0}

-- the fact holds but where `next` answered Failed
abbrev pub ButNextFailed : Result Input NextError → Type 0 → Type 0
ButNextFailed (Ok i) fact = fact
ButNextFailed (Err (Bad n)) fact = fact
ButNextFailed (Err NextFailed) fact = Unit {0}
ButNextFailed (Err Memory) fact = fact

-- `begin` with Ok is what was asked
abbrev pub Asks : Option (Option (List ℕ × ℕ)) → Option (Option (List ℕ × ℕ)) → List ℕ → ℕ → Result Unit Failed → Type 0
Asks old new path connections (Ok u) = new ≡ option_map (λ _. Some (path, connections)) old
Asks old new path connections (Err e) = new ≡ old

-- the line was appended to the transcript, or where the send failed a front of it; a hub with a transcript loses no session
abbrev pub Sends : Option (List ℕ) → Option (List ℕ) → List ℕ → Result Unit SendError → Type 0
Sends old new text (Ok u) = new ≡ append_known old text
Sends old new text (Err SendFailed) = AppendsPrefix old new text
Sends old new text (Err (Gone s)) = (old ≡ None) × (new ≡ None)

-- only the session of the lane is gone
abbrev pub GoneOnly : Lane → Result Unit SendError → Type 0
GoneOnly lane (Ok u) = Unit {0}
GoneOnly lane (Err SendFailed) = Unit {0}
GoneOnly lane (Err (Gone s)) = lane ≡ Session s

-- the fact holds where `send` answered Failed
abbrev pub OnSendFailed : Result Unit SendError → Type 0 → Type 0
OnSendFailed (Ok u) fact = Unit {0}
OnSendFailed (Err SendFailed) fact = fact
OnSendFailed (Err (Gone s)) fact = Unit {0}

-- the fact holds but where `send` answered Failed
abbrev pub ButSendFailed : Result Unit SendError → Type 0 → Type 0
ButSendFailed (Ok u) fact = fact
ButSendFailed (Err SendFailed) fact = Unit {0}
ButSendFailed (Err (Gone s)) fact = fact

-- did `send` answer that session t is gone
abbrev pub is_gone : Result Unit SendError → ℕ → Bool
is_gone (Ok u) t = false
is_gone (Err SendFailed) t = false
is_gone (Err (Gone s)) t = t == s

-- a session's count of losses rose where it is gone, and is as before where it is not
abbrev pub Loses : Bool → ℕ → ℕ → Type 0
Loses true before now = Rose before now × (before ≤ now)
Loses false before now = now ≡ before

-- each lane has what it had
abbrev pub SameLanes : (Lane → Option (List ℕ)) → (Lane → Option (List ℕ)) → Type 0
SameLanes old new = (l : Lane) → new l ≡ old l

-- each session's count is as before
abbrev pub SameCounts : (ℕ → ℕ) → (ℕ → ℕ) → Type 0
SameCounts old new = (t : ℕ) → new t ≡ old t
