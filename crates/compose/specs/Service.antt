-- What `serve` does with the hub that is handed in, by how it ended.
use Rattle.std.specs.Prelude.{◌≡◌, ℕ, ◌⊎◌, Bool, true, false, List, Option, Some, option_map}
use Rattle.qo_causes.specs.Hub.{SameCounts, SameLanes}
use Rattle.qo_machine.specs.Runs.{RunMeets, Told}
use Rattle.qo_machine.specs.declared.running.Ending.{Ending}
use Rattle.qo_machine.specs.declared.running.Ending.TheVariants as ending
use Rattle.qo_values.specs.declared.limits.TheConstants.{INPUTS_MAX}
use Rattle.compose.specs.Replay.{offset_of}
use Rattle.qo_words.specs.Words.{Order, serve}
use Rattle.compose.specs.declared.statuses.Status.{Status}
use Rattle.compose.specs.declared.statuses.Status.TheVariants.{Done, BadRecord, Memory, HubFault, InputLimit}

-- the status of a run over a hub by how it ended
abbrev pub serve_status : Ending → Status
serve_status ending.Done = Done
serve_status (ending.Bad n) = BadRecord
serve_status ending.Memory = Memory
serve_status ending.NextFailed = HubFault
serve_status ending.SendFailed = HubFault
serve_status ending.Limit = InputLimit

-- the hub did not begin, or there was not enough memory to read the words, and what it tells is as it was
pub record NotBegun (status : Status) (asked_old asked_new : Option (Option (List ℕ × ℕ))) (old new : Told) : Type 0 where
  pub answered : (status ≡ HubFault) ⊎ (status ≡ Memory)
  pub asked : asked_new ≡ asked_old
  pub inputs : new.inputs ≡ old.inputs
  pub sent : new.sent ≡ old.sent
  pub lanes : SameLanes old.got new.got
  pub losses : SameCounts old.losses new.losses

-- the hub, which has this bad place, began at a path with so many connections, and a new machine ran over it and ended so; the line tells this place
pub record RanOver (path : List ℕ) (connections : ℕ) (status : Status) (place : ℕ) (ending : Ending) (asked_old asked_new : Option (Option (List ℕ × ℕ)))
    (old new : Told) (bad : Option (Option ℕ)) : Type 0 where
  pub answered : status ≡ serve_status ending
  pub told : place ≡ offset_of ending
  pub asked : asked_new ≡ option_map (λ _. Some (path, connections)) asked_old
  pub run : RunMeets ending INPUTS_MAX old new bad

-- `serve` with a path and a number of connections
abbrev pub Served : List ℕ → ℕ → Status → ℕ → Option (Option (List ℕ × ℕ)) → Option (Option (List ℕ × ℕ)) → Told → Told → Option (Option ℕ) → Type 0
Served path connections status place asked_old asked_new old new bad =
    NotBegun status asked_old asked_new old new
    ⊎ ((ending : Ending) × RanOver path connections status place ending asked_old asked_new old new bad)

-- is the hub asked for by the order
abbrev pub asks_hub : Option Order → Bool
asks_hub (Some (serve path connections)) = true
asks_hub o = false
