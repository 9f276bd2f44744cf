-- What the program does where nothing stands in its way but that memory runs out.
use Rattle.std.proofs.Common.{◌≡◌, refl, ap, sym, ◌∙◌, ℕ, ◌+◌, ◌<◌, min, List, ◌++◌, length, length-append, take, Option, None, Some, IfSome, option_map, subst, arith, inl, inr}
use Rattle.std.proofs.lemmas.List.{length-take}
use Rattle.std.specs.Prelude.{◌⊎◌}
use Rattle.qo_causes.specs.Hub.{AtEnd}
use Rattle.qo_causes.specs.Names.{Given}
use Rattle.qo_listen.specs.Ears.{Ear}
use Rattle.qo_machine.proofs.AnsweringLemmas.{answered_runs}
use Rattle.qo_machine.specs.Machine.{opening}
use Rattle.qo_machine.specs.Runs.{OpenRun, RunMeets, Told, Turn, turn_inputs}
use Rattle.qo_machine.specs.declared.running.Ending.{Ending}
use Rattle.qo_machine.specs.declared.running.Ending.TheVariants as ending
use Rattle.qo_record.proofs.ReadingLemmas.{none_some, some_is}
use Rattle.qo_record.specs.Record.{bad_place, stream_given}
use Rattle.qo_record.specs.Replays.{capped_offset}
use Rattle.compose.proofs.ReplayLemmas.{each_taken, going_on}
use Rattle.compose.specs.Completeness.{CompletesReplay, CompletesServe, CompletesWatch, IsWholeHub}
use Rattle.compose.specs.Replay.{Replayed, DidReplay, TakeToBad, TakeToLimit}
use Rattle.compose.specs.Service.{Served, serve_status}
use Rattle.compose.specs.Watch.{DidWatch, Watched}
use Rattle.compose.specs.declared.statuses.Status.{Status}
use Rattle.compose.specs.declared.statuses.Status.TheVariants.{Done, Usage, BadRecord, Memory, ReadFault, WriteFault, HubFault, InputLimit, BadBoard}

-- A record.

not_bad : (turns : List Turn) (place : ℕ) (bytes : List ℕ) → bad_place bytes ≡ None → TakeToBad turns place bytes → ⊥
not_bad turns place bytes none takes = none_some (sym (ap (option_map capped_offset) none) ∙ takes.1)

not_limit : (turns : List Turn) (bytes : List ℕ) → length (stream_given bytes) < 1000000000 → TakeToLimit turns bytes → ⊥
not_limit turns bytes few takes =
    let most : length (take 1000000000 (stream_given bytes)) ≡ min 1000000000 (length (stream_given bytes)) =
    length-take 1000000000 (stream_given bytes) in
    let is : length (turn_inputs turns) ≡ length (take 1000000000 (stream_given bytes)) = ap length takes.0 in
    omega (arith, few, most, is, takes.1)

did_whole : (status : Status) (bytes taken : List ℕ) (held_old held_new : Option (List ℕ)) (place : ℕ)
    → DidReplay status (Some bytes) taken held_old held_new place → (status ≡ ReadFault → ⊥) → (status ≡ WriteFault → ⊥)
    → CompletesReplay status (Some bytes) held_old held_new
did_whole Done bytes taken held_old held_new place did read put whole = inl (refl, (did.0, did.1, did.2, answered_runs opening did.0))
did_whole Memory bytes taken held_old held_new place did read put whole = inr refl
did_whole BadRecord bytes taken held_old held_new place did read put whole = absurd (not_bad did.0 place bytes whole.good did.3)
did_whole InputLimit bytes taken held_old held_new place did read put whole = absurd (not_limit did.0 bytes whole.few did.3)
did_whole ReadFault bytes taken held_old held_new place did read put whole = absurd (read refl)
did_whole WriteFault bytes taken held_old held_new place did read put whole = absurd (put refl)
did_whole Usage bytes taken held_old held_new place did read put whole = absurd did
did_whole HubFault bytes taken held_old held_new place did read put whole = absurd did
did_whole BadBoard bytes taken held_old held_new place did read put whole = absurd did

-- whether the source tells its bytes or not
pub completes_replay : (status : Status) (left left_new held_old held_new : Option (List ℕ)) (taken : List ℕ) (place : ℕ)
    → Replayed status left left_new held_old held_new taken place → (status ≡ ReadFault → ⊥) → (status ≡ WriteFault → ⊥)
    → CompletesReplay status left held_old held_new
completes_replay status None left_new held_old held_new taken place done read put = tt
completes_replay status (Some bytes) left_new held_old held_new taken place done read put =
    did_whole status bytes taken held_old held_new place done.did read put

-- A record that listeners hear.

heard_whole : (status : Status) (bytes taken : List ℕ) (held_old held_new : Option (List ℕ)) (place : ℕ) (ears : List Ear)
    → DidWatch status (Some bytes) taken held_old held_new place ears → (status ≡ ReadFault → ⊥) → (status ≡ WriteFault → ⊥)
    → CompletesWatch status (Some bytes)
heard_whole Done bytes taken held_old held_new place ears did read put whole = inl refl
heard_whole Memory bytes taken held_old held_new place ears did read put whole = inr refl
heard_whole BadRecord bytes taken held_old held_new place ears (same, did) read put whole = absurd (not_bad did.0 place bytes whole.good did.3)
heard_whole InputLimit bytes taken held_old held_new place ears (same, did) read put whole = absurd (not_limit did.0 bytes whole.few did.3)
heard_whole ReadFault bytes taken held_old held_new place ears did read put whole = absurd (read refl)
heard_whole WriteFault bytes taken held_old held_new place ears did read put whole = absurd (put refl)
heard_whole Usage bytes taken held_old held_new place ears did read put whole = absurd did
heard_whole HubFault bytes taken held_old held_new place ears did read put whole = absurd did
heard_whole BadBoard bytes taken held_old held_new place ears did read put whole = absurd did

-- whether the source tells its bytes or not
pub completes_watch : (status : Status) (left left_new held_old held_new : Option (List ℕ)) (taken : List ℕ) (place : ℕ) (ears : List Ear)
    → Watched status left left_new held_old held_new taken place ears → (status ≡ ReadFault → ⊥) → (status ≡ WriteFault → ⊥)
    → CompletesWatch status left
completes_watch status None left_new held_old held_new taken place ears done read put = tt
completes_watch status (Some bytes) left_new held_old held_new taken place ears done read put =
    heard_whole status bytes taken held_old held_new place ears done.did read put

-- A hub.

not_all : (old new : Told) (bad : Option (Option ℕ)) (turns : List Turn) → OpenRun old new turns → length turns ≡ 1000000000 → IsWholeHub old.inputs bad → ⊥
not_all old new bad turns run size whole = go new.inputs (sym whole.told ∙ run.0.took)
  where
    each : length (turn_inputs turns) ≡ length turns
    each = each_taken turns (going_on turns run.1)

    go : (left : Option (List Given)) → Some whole.all ≡ option_map (λ (rest : List Given). turn_inputs turns ++ rest) left → ⊥
    go None took = none_some (sym took)
    go (Some rest) took =
        let all : length whole.all ≡ length (turn_inputs turns ++ rest) = ap length (some_is took) in
        let both : length (turn_inputs turns ++ rest) ≡ length (turn_inputs turns) + length rest = length-append (turn_inputs turns) rest in
        omega (arith, whole.few, all, both, each, size)

no_place : (inputs : Option (List Given)) (bad : Option (Option ℕ)) (place : ℕ) → AtEnd inputs bad (Some place) → bad ≡ Some None → ⊥
no_place inputs bad place at good = none_some (subst (λ (b : Option (Option ℕ)). IfSome b (λ told. told ≡ Some place)) good at.1)

run_whole : (e : Ending) (old new : Told) (bad : Option (Option ℕ)) → RunMeets e 1000000000 old new bad → (serve_status e ≡ HubFault → ⊥)
    → CompletesServe (serve_status e) old new bad
run_whole ending.Done old new bad run none = ((run.0, run.1, run.2, answered_runs opening run.0), λ whole. inl refl)
run_whole (ending.Bad place) old new bad run none =
    ((run.0, place, run.1, run.3), λ whole. absurd (no_place new.inputs bad place run.3 whole.good))
run_whole ending.Memory old new bad run none = (tt, λ whole. inr refl)
run_whole ending.Limit old new bad run none = ((run.0, run.1, run.2), λ whole. absurd (not_all old new bad run.0 run.1 run.2 whole))
run_whole ending.NextFailed old new bad run none = absurd (none refl)
run_whole ending.SendFailed old new bad run none = absurd (none refl)

memory_whole : (status : Status) (old new : Told) (bad : Option (Option ℕ)) → status ≡ Memory → CompletesServe status old new bad
memory_whole status old new bad is =
    subst (λ (s : Status). CompletesServe s old new bad) (sym is) (tt, λ whole. inr refl)

pub completes_serve : (path : List ℕ) (connections : ℕ) (status : Status) (place : ℕ) (asked_old asked_new : Option (Option (List ℕ × ℕ))) (old new : Told)
    (bad : Option (Option ℕ)) → Served path connections status place asked_old asked_new old new bad → (status ≡ HubFault → ⊥)
    → CompletesServe status old new bad
completes_serve path connections status place asked_old asked_new old new bad (inl begun) none = go begun.answered
  where
    go : (status ≡ HubFault) ⊎ (status ≡ Memory) → CompletesServe status old new bad
    go (inl is) = absurd (none is)
    go (inr is) = memory_whole status old new bad is
completes_serve path connections status place asked_old asked_new old new bad (inr (e, ran)) none =
    subst (λ (s : Status). CompletesServe s old new bad) (sym ran.answered)
    (run_whole e old new bad ran.run (λ is. none (ran.answered ∙ is)))

-- neither of two causes
pub no_cause : {A B : Type 0} → (A → ⊥) → (B → ⊥) → A ⊎ B → ⊥
no_cause no_a no_b (inl a) = no_a a
no_cause no_a no_b (inr b) = no_b b
