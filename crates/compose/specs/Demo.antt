-- What `demo` puts: five lines that count what the run over its record sends.
use Rattle.std.specs.Prelude.{◌≡◌, ℕ, ◌==◌, Bool, true, false, if◌then◌else◌, List, [], ◌∷◌, ◌++◌, length}
use Rattle.std.specs.Prelude.{map, filter, decimal, codes, Option, Some, None, is_some}
use Rattle.std.specs.List.{slice_split}
use Rattle.std.specs.Io.KnownBytes.{append_known}
use Rattle.serde_json.specs.Data.{Data}
use Rattle.serde_json.specs.Find.{get}
use Rattle.qo_causes.specs.Bytes.{AppendsPrefix}
use Rattle.qo_causes.specs.Names.{Given}
use Rattle.qo_machine.specs.Machine.{opening}
use Rattle.qo_machine.specs.Runs.{Turn, transcript_of}
use Rattle.qo_record.specs.Demo.{demo_given}
use Rattle.qo_record.specs.Reading.{after_front}
use Rattle.qo_requests.specs.Messages.{value_of}
use Rattle.compose.specs.declared.counts.Kind.{Kind}
use Rattle.compose.specs.declared.counts.Kind.TheVariants.{Reply, Error, Event, Answer, Other}
use Rattle.compose.specs.declared.statuses.Status.{Status}
use Rattle.compose.specs.declared.statuses.Status.TheVariants.{Done, Usage, BadRecord, Memory, ReadFault, WriteFault, HubFault, InputLimit, BadBoard}

-- an input that is done as it is defined: each command and each line has its memory, and no session is lost
abbrev pub as_defined : Given → Turn
as_defined g = record { input = g.input; names = g.names; choices = []; lost = []; cut = λ _. 0 }

-- the transcript of the run over the inputs of a demo; their end sends nothing
unfoldable pub demo_transcript : ℕ → ℕ → List ℕ
demo_transcript seed steps = transcript_of opening (map as_defined (demo_given seed steps))

-- what a message is, by the members that it has
abbrev pub has : List ℕ → Data → Bool
has name value = is_some (get name value)

abbrev pub kind_of_value : Data → Kind
kind_of_value value =
    if has (codes "return") value then Reply
    else if has (codes "error") value then Error
    else if has (codes "event") value then Event
    else Other

abbrev pub kind_of_message : Option Data → Kind
kind_of_message None = Other
kind_of_message (Some value) = kind_of_value value

-- what a line of the transcript is: a demo has session 0 and the guest
abbrev pub kind_to_session : Option (List ℕ) → Kind
kind_to_session None = Other
kind_to_session (Some text) = kind_of_message (value_of text)

abbrev pub kind_of : List ℕ → Kind
kind_of line = if is_some (after_front (codes "g ") line) then Answer else kind_to_session (after_front (codes "0 ") line)

-- the lines of a transcript: what stands between its LFs
abbrev pub lines : List ℕ → List (List ℕ)
lines bytes = slice_split (λ b. b == 10) bytes

abbrev pub is : Kind → Kind → Bool
is Reply Reply = true
is Error Error = true
is Event Event = true
is Answer Answer = true
is Other Other = true
is a b = false

-- how many of some lines are of a kind
abbrev pub count_of : Kind → List Kind → ℕ
count_of kind kinds = length (filter (λ k. is k kind) kinds)

-- a line of the summary, and its five lines: the last one has the length of the transcript
abbrev pub count_line : List ℕ → ℕ → List ℕ
count_line name n = name ++ 32 ∷ (decimal n ++ 10 ∷ [])

abbrev pub summary_of : List Kind → ℕ → List ℕ
summary_of kinds size =
    count_line (codes "replies") (count_of Reply kinds) ++ count_line (codes "errors") (count_of Error kinds)
    ++ count_line (codes "events") (count_of Event kinds) ++ count_line (codes "answers") (count_of Answer kinds)
    ++ count_line (codes "bytes") size

unfoldable pub summary : List ℕ → List ℕ
summary bytes = summary_of (map kind_of (lines bytes)) (length bytes)

-- `demo`, by its status: the lines were put, or a front of them, or nothing
abbrev pub ToldDemo : Status → ℕ → ℕ → Option (List ℕ) → Option (List ℕ) → Type 0
ToldDemo Done seed steps held_old held_new = held_new ≡ append_known held_old (summary (demo_transcript seed steps))
ToldDemo WriteFault seed steps held_old held_new = AppendsPrefix held_old held_new (summary (demo_transcript seed steps))
ToldDemo Memory seed steps held_old held_new = held_new ≡ held_old
ToldDemo Usage seed steps held_old held_new = ⊥
ToldDemo BadRecord seed steps held_old held_new = ⊥
ToldDemo ReadFault seed steps held_old held_new = ⊥
ToldDemo HubFault seed steps held_old held_new = ⊥
ToldDemo InputLimit seed steps held_old held_new = ⊥
ToldDemo BadBoard seed steps held_old held_new = ⊥

-- some bytes stand nowhere among others (for proofs alone)
abbrev pub Lacks : List ℕ → List ℕ → Type 0
Lacks part bytes = (before after_front : List ℕ) → bytes ≡ before ++ (part ++ after_front) → ⊥

-- what a reply has that is refused for want of memory, and the line of such an answer to the guest (for proofs alone)
abbrev pub refused_reply : List ℕ
refused_reply = codes "\"desc\":\"E99 "

abbrev pub refused_line : List ℕ
refused_line = codes "g no memory"
