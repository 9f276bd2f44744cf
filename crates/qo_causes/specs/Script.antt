-- For proofs alone. The hub in memory, whose calls fail, and whose sessions are gone, where it is told to.
use Rattle.std.specs.Prelude.{ℕ, ◌+◌, ◌&&◌, ◌||◌, nat_le, nat_lt, Bool, if◌then◌else◌, List, [], ◌∷◌, ◌++◌, length, replicate, slice_index_or, slice_set, is_some, Option, Some, None, Result, Ok, Err}
use Rattle.qo_causes.specs.Cause.{counted, fault}
use Rattle.qo_causes.specs.Hub.{is_end}
use Rattle.qo_causes.specs.MemoryStreams.{faults_after, is_listed}
use Rattle.qo_causes.specs.declared.faults.Failed.{Failed}
use Rattle.qo_causes.specs.declared.hubs.Lane.{Lane}
use Rattle.qo_causes.specs.declared.hubs.Lane.TheVariants.{Session, Guest}
use Rattle.qo_causes.specs.declared.hubs.NextError.{NextError}
use Rattle.qo_causes.specs.declared.hubs.NextError.TheVariants.{Failed as NextFailed}
use Rattle.qo_causes.specs.declared.hubs.SendError.{SendError}
use Rattle.qo_causes.specs.declared.hubs.SendError.TheVariants.{Gone, Failed as SendFailed}
use Rattle.qo_causes.specs.declared.inputs.Input.{Input}
use Rattle.qo_causes.specs.declared.inputs.What.TheVariants.{End}

-- what a lane got, and the bytes that it has room for
pub record ShelfState : Type 0 where
  pub held : List ℕ
  pub room : ℕ

abbrev pub empty_shelf : ℕ → ShelfState
empty_shelf room = record { held = []; room = room }

abbrev pub has_room : ShelfState → List ℕ → Bool
has_room s bytes = nat_le (length s.held + length bytes) s.room

abbrev pub added : ShelfState → List ℕ → ShelfState
added s bytes = record { held = s.held ++ bytes; room = s.room }

-- the hub: its inputs, the lanes of the sixteen sessions and of the guest, what `begin` was asked, how many calls of
-- `next` and of `send` there were, the numbers of those that fail or find the session gone, and what failed so far
pub record ScriptState : Type 0 where
  pub inputs : List Input
  pub sessions : List ShelfState
  pub guest : ShelfState
  pub asked : Option (List ℕ × ℕ)
  pub next_calls : ℕ
  pub send_calls : ℕ
  pub nexts : List ℕ
  pub sends : List ℕ
  pub gone : List ℕ
  pub next_faults : ℕ
  pub send_faults : ℕ
  pub losses : List ℕ

-- the hub at first
abbrev pub script_of : List Input → ℕ → List ℕ → List ℕ → List ℕ → ScriptState
script_of inputs room nexts sends gone =
    record {
      inputs = inputs;
      sessions = replicate 16 (empty_shelf room);
      guest = empty_shelf room;
      asked = None;
      next_calls = 0;
      send_calls = 0;
      nexts = nexts;
      sends = sends;
      gone = gone;
      next_faults = 0;
      send_faults = 0;
      losses = replicate 16 0;
    }

-- the inputs before an end among them
abbrev pub before_end : List Input → List Input
before_end [] = []
before_end (i ∷ inputs) = if is_end i.what then [] else i ∷ before_end inputs

-- the first input, or the end where none is left
abbrev pub first_input : List Input → Input
first_input [] = record { at = record { seconds = 0; micros = 0 }; what = End }
first_input (i ∷ inputs) = i

-- the inputs after the first; nothing is after an end
abbrev pub after_first : List Input → List Input
after_first [] = []
after_first (i ∷ inputs) = if is_end i.what then [] else inputs

-- what `next` answers, and the hub after it
abbrev pub next_fails : ScriptState → Bool
next_fails s = is_listed s.next_calls s.nexts

abbrev pub next_answer : ScriptState → Result Input NextError
next_answer s = if next_fails s then Err NextFailed else Ok (first_input s.inputs)

abbrev pub after_next : ScriptState → ScriptState
after_next s =
    record s {
      inputs = if next_fails s then s.inputs else after_first s.inputs;
      next_calls = counted s.next_calls;
      next_faults = faults_after (next_fails s) s.next_faults;
    }

-- does `begin` fail: a second time, and where the path is longer than 4,096 bytes
abbrev pub begin_fails : ScriptState → List ℕ → Bool
begin_fails s path = is_some s.asked || nat_lt 4096 (length path)

-- what `begin` answers, and the hub after it
abbrev pub begin_answer : ScriptState → List ℕ → Result Unit Failed
begin_answer s path = if begin_fails s path then Err fault else Ok tt

abbrev pub after_begin : ScriptState → List ℕ → ℕ → ScriptState
after_begin s path connections =
    record s {
      asked = if begin_fails s path then s.asked else Some (path, connections);
      next_faults = faults_after (begin_fails s path) s.next_faults;
    }

-- a lane; a session past the sixteen has no room
abbrev pub shelf_of : ScriptState → Lane → ShelfState
shelf_of s (Session n) = slice_index_or s.sessions n (empty_shelf 0)
shelf_of s Guest = s.guest

-- the session that is gone at the next send, if it is one of the sixteen
abbrev pub gone_at : ScriptState → Lane → Option ℕ
gone_at s (Session n) = if is_listed s.send_calls s.gone && nat_lt n 16 then Some n else None
gone_at s Guest = None

abbrev pub unless_gone : Option ℕ → Result Unit SendError → Result Unit SendError
unless_gone None other = other
unless_gone (Some n) other = Err (Gone n)

-- what `send` answers: it fails where it is listed, then the session is gone where that is listed, then it fails where the bytes do not fit
abbrev pub send_answer : ScriptState → Lane → List ℕ → Result Unit SendError
send_answer s lane bytes =
    if is_listed s.send_calls s.sends then Err SendFailed
    else unless_gone (gone_at s lane) (if has_room (shelf_of s lane) bytes then Ok tt else Err SendFailed)

-- the hub with bytes added to a lane
abbrev pub with_added : ScriptState → Lane → List ℕ → ScriptState
with_added s (Session n) bytes = record s { sessions = slice_set s.sessions n (added (shelf_of s (Session n)) bytes) }
with_added s Guest bytes = record s { guest = added s.guest bytes }

-- the hub with one more loss of a session
abbrev pub with_loss : ScriptState → ℕ → ScriptState
with_loss s n = record s { losses = slice_set s.losses n (counted (slice_index_or s.losses n 0)) }

-- the hub with one more failed send, and with one more send
abbrev pub with_fault : ScriptState → ScriptState
with_fault s = record s { send_faults = counted s.send_faults }

abbrev pub with_send : ScriptState → ScriptState
with_send s = record s { send_calls = counted s.send_calls }

-- the hub after a send
abbrev pub after_answer : ScriptState → Lane → List ℕ → Result Unit SendError → ScriptState
after_answer s lane bytes (Ok u) = with_added s lane bytes
after_answer s lane bytes (Err SendFailed) = with_fault s
after_answer s lane bytes (Err (Gone n)) = with_loss s n

abbrev pub after_send : ScriptState → Lane → List ℕ → ScriptState
after_send s lane bytes = with_send (after_answer s lane bytes (send_answer s lane bytes))
