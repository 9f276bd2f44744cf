-- What sending the messages of one step does to a hub.
use Rattle.std.specs.Prelude.{◌≡◌, ℕ, ◌<◌, ◌≤◌, Bool, true, false, List, length, Option, None, Result, Ok, Err, slice_index_or}
use Rattle.std.specs.Io.KnownBytes.{append_known}
use Rattle.std.specs.List.{AllByRecursion}
use Rattle.qo_values.specs.declared.limits.TheConstants.{SESSIONS}
use Rattle.qo_causes.specs.Bytes.{AppendsPrefix}
use Rattle.qo_causes.specs.Names.{Names}
use Rattle.qo_causes.specs.declared.faults.Failed.{Failed}
use Rattle.qo_causes.specs.declared.hubs.Lane.{Lane}
use Rattle.qo_causes.specs.declared.hubs.Lane.TheVariants.{Session, Guest}
use Rattle.qo_machine.specs.Machine.{Message}
use Rattle.qo_machine.specs.Runs.{LostHad, Told, cut_to, is_lost, lane_bytes, risen, transcript}

-- a lane of one of the sixteen sessions, or of the guest
abbrev pub IsLane : Lane → Type 0
IsLane (Session n) = n < SESSIONS
IsLane Guest = Unit {0}

-- each message goes to such a lane
abbrev pub AreToLanes : List Message → Type 0
AreToLanes outs = AllByRecursion (λ (m : Message). IsLane m.0) outs

-- each lane got its bytes, and that of a lost session the first so many of them
pub record SentLanes (old new : Lane → Option (List ℕ)) (outs : List Message) (lost : List Bool) (cut : Lane → ℕ) : Type 0 where
  pub within : (l : Lane) → cut l ≤ length (lane_bytes l outs)
  pub lanes : (l : Lane) → new l ≡ append_known (old l) (cut_to (is_lost lost l) (cut l) (lane_bytes l outs))

-- the messages were sent while sessions had these names, but for what is left out for lost sessions; each of these had a message
pub record Sent (names : Names) (old new : Told) (outs : List Message) (lost : List Bool) : Type 0 where
  pub inputs : new.inputs ≡ old.inputs
  pub sent : new.sent ≡ append_known old.sent (transcript names outs)
  pub lanes : (cut : Lane → ℕ) × SentLanes old.got new.got outs lost cut
  pub losses : (n : ℕ) → risen (slice_index_or lost n false) (old.losses n) ≤ new.losses n
  pub untold : (l : Lane) → is_lost lost l ≡ true → new.sent ≡ None
  pub had : LostHad lost outs
  pub size : length lost ≡ SESSIONS

-- fronts of the messages were sent
pub record SentFront (names : Names) (old new : Told) (outs : List Message) : Type 0 where
  pub inputs : new.inputs ≡ old.inputs
  pub sent : AppendsPrefix old.sent new.sent (transcript names outs)
  pub lanes : (l : Lane) → AppendsPrefix (old.got l) (new.got l) (lane_bytes l outs)
  pub losses : (n : ℕ) → old.losses n ≤ new.losses n

abbrev pub SendsAll : Names → Told → Told → List Message → Result (List Bool) Failed → Type 0
SendsAll names old new outs (Ok lost) = Sent names old new outs lost
SendsAll names old new outs (Err e) = SentFront names old new outs
