-- For proofs alone. The source and the sink in memory, whose calls fail where they are told to.
use Rattle.std.specs.Prelude.{ℕ, ◌-◌, ◌==◌, ◌&&◌, ◌||◌, min, Bool, not, if◌then◌else◌, List, ◌++◌, length, take, drop, Result, Ok, Err}
use Rattle.std.specs.List.{list_any}
use Rattle.qo_causes.specs.Cause.{counted, fault}
use Rattle.qo_causes.specs.declared.faults.Failed.{Failed}

-- a source: the bytes left, how many calls there were, the numbers of the calls that fail, and how many failed
pub record SourceState : Type 0 where
  pub bytes : List ℕ
  pub calls : ℕ
  pub fails : List ℕ
  pub faults : ℕ

-- a sink: the bytes held, the bytes that it has room for, and the same of its calls
pub record SinkState : Type 0 where
  pub held : List ℕ
  pub room : ℕ
  pub calls : ℕ
  pub fails : List ℕ
  pub faults : ℕ

-- after so many calls, is the next one listed to fail; calls are numbered from 1
abbrev pub is_listed : ℕ → List ℕ → Bool
is_listed calls fails = list_any (λ n. n == counted calls) fails

-- one more fault, where the call fails
abbrev pub faults_after : Bool → ℕ → ℕ
faults_after fails faults = if fails then counted faults else faults

-- does the next take fail: where it is listed
abbrev pub take_fails : SourceState → Bool
take_fails s = is_listed s.calls s.fails

-- what a take into a buffer of this length answers: as many bytes as it has room for and are left
abbrev pub take_answer : SourceState → ℕ → Result ℕ Failed
take_answer s room = if take_fails s then Err fault else Ok (min room (length s.bytes))

-- the source after it
abbrev pub after_take : SourceState → ℕ → SourceState
after_take s room =
    record {
      bytes = if take_fails s then s.bytes else drop room s.bytes;
      calls = counted s.calls;
      fails = s.fails;
      faults = faults_after (take_fails s) s.faults;
    }

-- the bytes that still fit
abbrev pub room_left : SinkState → ℕ
room_left s = s.room - length s.held

-- does the next put fail: where it is listed, and where nothing of a piece that is not empty fits
abbrev pub put_fails : SinkState → List ℕ → Bool
put_fails s piece = is_listed s.calls s.fails || (room_left s == 0 && not (length piece == 0))

-- what a put of this piece answers: as many bytes as the piece has and still fit
abbrev pub put_answer : SinkState → List ℕ → Result ℕ Failed
put_answer s piece = if put_fails s piece then Err fault else Ok (min (length piece) (room_left s))

-- the sink after it
abbrev pub after_put : SinkState → List ℕ → SinkState
after_put s piece =
    record {
      held = if put_fails s piece then s.held else s.held ++ take (room_left s) piece;
      room = s.room;
      calls = counted s.calls;
      fails = s.fails;
      faults = faults_after (put_fails s piece) s.faults;
    }
