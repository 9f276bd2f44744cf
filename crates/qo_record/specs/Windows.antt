-- For proofs alone. What the code that reads from a source finds.
use Rattle.std.specs.Prelude.{ℕ, ◌≡◌, ◌+◌, ◌<◌, ◌≤◌, ◌⊎◌, true, false, Bool, List, [], ◌++◌, length, take, drop, Option, None, Some, Result, Ok, Err, IfSome}
use Rattle.std.specs.Io.KnownBytes.{prepend_known}
use Rattle.qo_causes.specs.Cause.{Rose}
use Rattle.qo_causes.specs.declared.hubs.NextError.{NextError}
use Rattle.qo_causes.specs.declared.hubs.NextError.TheVariants.{Failed as NextFailed, Bad, Memory}
use Rattle.qo_causes.specs.Names.{Names}
use Rattle.qo_record.specs.Names.{header_of}
use Rattle.qo_record.specs.Record.{entry_at, headed}
use Rattle.qo_record.specs.Replays.{NoneHeld, ahead_of}
use Rattle.qo_record.specs.Spelling.{Recorded}
use Rattle.qo_record.specs.Streams.{IsOfSixteen}
use Rattle.qo_record.specs.declared.entries.First.{First}
use Rattle.qo_record.specs.declared.readers.Front.{Front}
use Rattle.qo_record.specs.declared.readers.Front.TheVariants.{Header, Other, Short}
use Rattle.qo_record.specs.declared.versions.Version.{Version}
use Rattle.qo_record.specs.declared.windows.TheConstants.{ROOM}

-- the bytes of a window: those from one place to another
abbrev pub between : List ℕ → ℕ → ℕ → List ℕ
between bytes at end = drop at (take end bytes)

-- a source gave so many bytes, which stand in a buffer from this place on, and nothing to a buffer with room only at its end
abbrev pub TakesAfter : {E : Type 0} → Option (List ℕ) → Option (List ℕ) → Result ℕ E → List ℕ → ℕ → Type 0
TakesAfter old new (Ok n) buffer end =
    (old ≡ prepend_known (between buffer end (end + n)) new) × (n ≡ 0 → end < length buffer → IfSome new (λ left. left ≡ []))
TakesAfter old new (Err e) buffer end = new ≡ old

-- an entry at the front of some bytes
abbrev pub recorded : First → Recorded
recorded f = record { input = f.input; session = f.session }

-- with the bytes after it
abbrev pub first_entry : List ℕ → First → Recorded × List ℕ
first_entry bytes f = (recorded f, drop f.size bytes)

-- a take gave so many bytes more, or there are none
abbrev pub Filled : {E : Type 0} → List ℕ → List ℕ → Option (List ℕ) → Result ℕ E → Type 0
Filled old new left (Ok n) = (length new ≡ length old + n) × (n ≡ 0 → (new ≡ old) × IfSome left (λ more. more ≡ []))
Filled old new left (Err e) = new ≡ old

-- more bytes were taken for the entry at the front, or there is no room for any, or there are none
abbrev pub More : {E : Type 0} → List ℕ → List ℕ → Option (List ℕ) → Result Bool E → Type 0
More old new left (Ok true) = length old < length new
More old new left (Ok false) = (new ≡ old) × ((length new ≡ ROOM) ⊎ IfSome left (λ more. more ≡ []))
More old new left (Err e) = new ≡ old

-- some bytes begin with the header of a version
abbrev pub BeginsWithHeader : Version → List ℕ → Type 0
BeginsWithHeader v bytes = (more : List ℕ) × (bytes ≡ header_of v ++ more)

-- what the first bytes of a stream are
abbrev pub HeaderIn : List ℕ → Front → Type 0
HeaderIn bytes (Header v) = BeginsWithHeader v bytes
HeaderIn bytes Other = (more : List ℕ) → headed (bytes ++ more) ≡ None
HeaderIn bytes Short = (headed bytes ≡ None) × (length bytes ≤ 7)

-- the header stands at the front of what is held, or is not ahead
abbrev pub HeaderFound : {E : Type 0} → List ℕ → Option (List ℕ) → Result (Option Version) E → Type 0
HeaderFound buffered left (Ok (Some v)) = BeginsWithHeader v buffered
HeaderFound buffered left (Ok None) = IfSome (ahead_of buffered left) (λ bytes. headed bytes ≡ None)
HeaderFound buffered left (Err e) = headed buffered ≡ None

-- it is the first entry of some bytes, while sessions of these names are open
pub record IsFirst (v : Version) (names : Names) (bytes : List ℕ) (f : First) : Type 0 where
  pub entry : entry_at v names bytes ≡ Some (first_entry bytes f)
  pub number : IsOfSixteen f.input.what
  pub within : f.size ≤ length bytes

-- no entry stands ahead; where nothing is held nothing is left
abbrev pub NoEntry : Version → Names → List ℕ → List ℕ → Type 0
NoEntry v names buffered left = (entry_at v names (buffered ++ left) ≡ None) × (buffered ≡ [] → left ≡ [])

-- the first entry is held, or none stands ahead; where the source failed neither a whole entry nor a wrong one was held
abbrev pub EntryFound : Version → Names → List ℕ → Option (List ℕ) → Result (Option First) NextError → Type 0
EntryFound v names buffered left (Ok (Some f)) = IsFirst v names buffered f
EntryFound v names buffered left (Ok None) = IfSome left (NoEntry v names buffered)
EntryFound v names buffered left (Err (Bad n)) = ⊥
EntryFound v names buffered left (Err NextFailed) = NoneHeld v names buffered
EntryFound v names buffered left (Err Memory) = Unit {0}

-- the count of faults rose where the source failed, and is as before where it did not
abbrev pub LookedFor : ℕ → ℕ → Result (Option First) NextError → Type 0
LookedFor before now (Ok f) = now ≡ before
LookedFor before now (Err (Bad n)) = now ≡ before
LookedFor before now (Err NextFailed) = Rose before now
LookedFor before now (Err Memory) = now ≡ before
