-- Runs: what a list of inputs sends to each lane, and what a hub tells of it.
use Rattle.std.specs.Prelude.{◌≡◌, ℕ, ◌+◌, ◌-◌, ◌^◌, ◌<◌, ◌≤◌, min, max, Bool, true, false, if◌then◌else◌, List, [], ◌∷◌, ◌++◌, length, take, Option, Some, None, option_map, option_to_list, slice_index_or}
use Rattle.std.specs.List.{flat_map, filter_map, list_any}
use Rattle.std.specs.Io.KnownBytes.{append_known}
use Rattle.qo_causes.specs.Bytes.{AppendsPrefix}
use Rattle.qo_causes.specs.Hub.{AtEnd, given_by, is_end, line, part, same_lane}
use Rattle.qo_causes.specs.Names.{Given, Names}
use Rattle.qo_causes.specs.declared.hubs.Lane.{Lane}
use Rattle.qo_causes.specs.declared.hubs.Lane.TheVariants.{Session, Guest}
use Rattle.qo_causes.specs.declared.inputs.Input.{Input}
use Rattle.qo_machine.specs.Machine.{Message, State, Choice, step, opening}
use Rattle.qo_sessions.specs.Sessions.{State as SessionState, closed}
use Rattle.qo_machine.specs.declared.running.Ending.{Ending}
use Rattle.qo_machine.specs.declared.running.Ending.TheVariants.{Done, Bad, Memory, NextFailed, SendFailed, Limit}

-- an input, the names of the sessions that are open once it was taken, the choices at it, the sessions that are lost in its step, and how many bytes of the
-- step a lost one got
pub record Turn : Type 0 where
  pub input : Input
  pub names : Names
  pub choices : List Choice
  pub lost : List Bool
  pub cut : Lane → ℕ

-- is a lane lost; the guest never is
abbrev pub is_lost : List Bool → Lane → Bool
is_lost lost (Session n) = slice_index_or lost n false
is_lost lost Guest = false

-- the sessions that are lost are closed
unfoldable pub closed_where : List Bool → List SessionState → List SessionState
closed_where [] sessions = sessions
closed_where (flag ∷ lost) [] = []
closed_where (flag ∷ lost) (session ∷ sessions) = (if flag then closed else session) ∷ closed_where lost sessions

abbrev pub close_lost : List Bool → State → State
close_lost lost s =
    record { board = s.board; sessions = closed_where lost s.sessions; guest_line = s.guest_line; ended = s.ended }

-- what a turn sends, and the state after it
abbrev pub outs_at : State → Turn → List Message
outs_at s t = (step s t.input t.choices).outs

abbrev pub after : State → Turn → State
after s t = close_lost t.lost ((step s t.input t.choices).state)

-- the state after some turns, and all that they send
abbrev pub state_after : State → List Turn → State
state_after s [] = s
state_after s (t ∷ ts) = state_after (after s t) ts

abbrev pub outs_of : State → List Turn → List Message
outs_of s [] = []
outs_of s (t ∷ ts) = outs_at s t ++ outs_of (after s t) ts

-- the lines of some messages, in order, while sessions have these names
abbrev pub transcript : Names → List Message → List ℕ
transcript names outs = flat_map (λ m. line names m.0 m.1) outs

-- the transcript of a turn, and of some: each message as its line, in order, by the names that stand with the input of its turn
abbrev pub transcript_at : State → Turn → List ℕ
transcript_at s t = transcript t.names (outs_at s t)

abbrev pub transcript_of : State → List Turn → List ℕ
transcript_of s [] = []
transcript_of s (t ∷ ts) = transcript_at s t ++ transcript_of (after s t) ts

-- the bytes of a lane among some messages
abbrev pub lane_bytes : Lane → List Message → List ℕ
lane_bytes l outs = flat_map (λ m. part l m.0 m.1) outs

abbrev pub cut_to : Bool → ℕ → List ℕ → List ℕ
cut_to true n bytes = take n bytes
cut_to false n bytes = bytes

-- what a lane gets in a turn, and in some turns: of a step in which its session is lost a front
abbrev pub lane_at : Lane → State → Turn → List ℕ
lane_at l s t = cut_to (is_lost t.lost l) (t.cut l) (lane_bytes l (outs_at s t))

abbrev pub lane_of : Lane → State → List Turn → List ℕ
lane_of l s [] = []
lane_of l s (t ∷ ts) = lane_at l s t ++ lane_of l (after s t) ts

-- the inputs of some turns, each with the names that stand with it; the end is none
abbrev pub turn_inputs : List Turn → List Given
turn_inputs ts = filter_map (λ t. given_by t.input t.names) ts

-- has the end come
abbrev pub has_end : List Turn → Bool
has_end ts = list_any (λ t. is_end t.input.what) ts

-- a count that has risen, below its last value
abbrev pub risen : Bool → ℕ → ℕ
risen true n = max n (min (n + 1) (2 ^ 64 - 1))
risen false n = n

-- a session's count of losses after some turns
abbrev pub risen_by : ℕ → ℕ → List Turn → ℕ
risen_by n count [] = count
risen_by n count (t ∷ ts) = risen_by n (risen (slice_index_or t.lost n false) count) ts

-- is one of some messages for a lane
abbrev pub has_for : Lane → List Message → Bool
has_for l outs = list_any (λ m. same_lane l m.0) outs

-- each lane that is lost had a message
abbrev pub LostHad : List Bool → List Message → Type 0
LostHad lost outs = (l : Lane) → is_lost lost l ≡ true → has_for l outs ≡ true

-- a session is lost only in a turn that had a message for it
abbrev pub AllLostHad : State → List Turn → Type 0
AllLostHad s [] = Unit {0}
AllLostHad s (t ∷ ts) = LostHad t.lost (outs_at s t) × AllLostHad (after s t) ts

-- what a hub tells
pub record Told : Type 0 where
  pub inputs : Option (List Given)
  pub sent : Option (List ℕ)
  pub got : Lane → Option (List ℕ)
  pub losses : ℕ → ℕ

abbrev pub known : Option (List Given) → Option (List ℕ) → (Lane → Option (List ℕ)) → (ℕ → ℕ) → Told
known inputs sent got losses = record { inputs = inputs; sent = sent; got = got; losses = losses }

-- by some turns a hub came from the one to the other: their inputs were taken, what they send was sent, and only who was sent to was lost
pub record Turns (from : State) (old new : Told) (turns : List Turn) : Type 0 where
  pub took : old.inputs ≡ option_map (λ rest. turn_inputs turns ++ rest) new.inputs
  pub sent : new.sent ≡ append_known old.sent (transcript_of from turns)
  pub lanes : (l : Lane) → new.got l ≡ append_known (old.got l) (lane_of l from turns)
  pub losses : (n : ℕ) → risen_by n (old.losses n) turns ≤ new.losses n
  pub had : AllLostHad from turns

-- what a last turn sends, its transcript, and its input, if there is such a turn
abbrev pub last_outs : State → Option Turn → List Message
last_outs s None = []
last_outs s (Some t) = outs_at s t

abbrev pub last_transcript : State → Option Turn → List ℕ
last_transcript s None = []
last_transcript s (Some t) = transcript_at s t

abbrev pub last_input : Option Turn → List Given
last_input None = []
last_input (Some t) = turn_inputs (t ∷ [])

-- by a last turn that was cut, if any: its input was taken, and fronts of what it sends were sent
pub record Cut (from : State) (old new : Told) (last : Option Turn) : Type 0 where
  pub took : old.inputs ≡ option_map (λ rest. last_input last ++ rest) new.inputs
  pub sent : AppendsPrefix old.sent new.sent (last_transcript from last)
  pub lanes : (l : Lane) → AppendsPrefix (old.got l) (new.got l) (lane_bytes l (last_outs from last))
  pub losses : (n : ℕ) → old.losses n ≤ new.losses n

-- whole turns, after which the run has not ended
abbrev pub OpenRun : Told → Told → List Turn → Type 0
OpenRun old new turns = Turns opening old new turns × ((state_after opening turns).ended ≡ false)

-- a run that has ended with its last turn, and not before
abbrev pub EndsAtLast : List Turn → Type 0
EndsAtLast turns =
    (before : List Turn) × (last : Turn) × (turns ≡ before ++ last ∷ []) × ((state_after opening before).ended ≡ false)
    × ((state_after opening turns).ended ≡ true)

-- whole turns, after which the run has not ended, and then one that was cut, if any; at most so many
abbrev pub CutRun : ℕ → Told → Told → Type 0
CutRun limit old new =
    (mid : Told) × (turns : List Turn) × (last : Option Turn) × OpenRun old mid turns × Cut (state_after opening turns) mid new last
    × (length turns + length (option_to_list last) ≤ limit)

-- what a run did by how it ended, of at most so many inputs; the hub had this bad place
abbrev pub RunMeets : Ending → ℕ → Told → Told → Option (Option ℕ) → Type 0
RunMeets Done limit old new bad =
    (turns : List Turn) × Turns opening old new turns × EndsAtLast turns × (length turns ≤ limit) × (has_end turns ≡ true → AtEnd new.inputs bad None)
RunMeets (Bad n) limit old new bad =
    (turns : List Turn) × OpenRun old new turns × (length turns < limit) × AtEnd new.inputs bad (Some n)
RunMeets Limit limit old new bad = (turns : List Turn) × OpenRun old new turns × (length turns ≡ limit)
RunMeets NextFailed limit old new bad = (turns : List Turn) × OpenRun old new turns × (length turns < limit)
RunMeets SendFailed limit old new bad = CutRun limit old new
RunMeets Memory limit old new bad = CutRun limit old new
