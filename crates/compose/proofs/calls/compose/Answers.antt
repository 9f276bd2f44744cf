-- Where memory ran out for the words, no order was begun. What replay, watch and serve come to where no fault was counted.
use Rattle.std.proofs.Common.{◌≡◌, ◌∙◌, refl, ap, inl, inr}
use Rattle.qo_machine.specs.Runs.{known}
use Rattle.compose.proofs.CompletenessLemmas.{completes_replay, completes_serve, completes_watch, no_cause}
use Rattle.compose.specs.declared.statuses.Status.TheVariants.{Memory}
use Rattle.compose.proofs.calls.compose.Goals as goal

pub returns-in-Err-clause-serve : goal.returns-in-Err-clause-serve
returns-in-Err-clause-serve g c path connections is =
    let ran = c.told-in-Err.ensures.ran ∙ c.ended-in-Err.ensures in
    let status : c.told-in-Err.result.status ≡ Memory = ap (λ r. r.status) ran in (
      0,
      inl (record { answered = inr status; asked = refl; inputs = refl; sent = refl; lanes = λ l. refl; losses = λ t. refl }),
      ap (λ r. r.source) ran,
      ap (λ r. r.sink) ran,
      rw status (rw (ap (λ r. r.status) c.ended-in-Err.ensures) at c.told-in-Err.ensures.told),
    )

pub returns-in-Err-clause-demo : goal.returns-in-Err-clause-demo
returns-in-Err-clause-demo g c seed steps is =
    let ran = c.told-in-Err.ensures.ran ∙ c.ended-in-Err.ensures in
    let status : c.told-in-Err.result.status ≡ Memory = ap (λ r. r.status) ran in (
      rw status (ap (λ r. g.K.Sink.held r.sink) ran),
      ap (λ r. r.source) ran,
      rw status (rw (ap (λ r. r.status) c.ended-in-Err.ensures) at c.told-in-Err.ensures.told),
    )

pub returns-in-Ok-Some-Replay-clause-complete_replay : goal.returns-in-Ok-Some-Replay-clause-complete_replay
returns-in-Ok-Some-Replay-clause-complete_replay g c is no_read no_put =
    let ran = c.replay-ran in
    let did = ran.ensures.replayed in
    let same = c.told-in-Ok-Some-Replay.ensures.ran in
    rw same (completes_replay ran.result.0.status (g.S.Source.left c.args.source) (g.S.Source.left ran.result.0.source) (g.K.Sink.held c.args.sink)
    (g.K.Sink.held ran.result.0.sink) did.0 ran.result.1 did.1 (λ fault. no_read (rw same (ran.ensures.read_cause fault)))
    (λ fault. no_put (rw same (ran.ensures.write_cause fault))))

pub returns-in-Ok-Some-Watch-clause-complete_watch : goal.returns-in-Ok-Some-Watch-clause-complete_watch
returns-in-Ok-Some-Watch-clause-complete_watch g c is no_read no_put =
    let ran = c.watch in
    let did = ran.ensures.watched in
    let same = c.told.ensures.ran in
    rw same (completes_watch ran.result.0.status (g.S.Source.left c.args.source) (g.S.Source.left ran.result.0.source) (g.K.Sink.held c.args.sink)
    (g.K.Sink.held ran.result.0.sink) did.0 ran.result.1 _ did.1 (λ fault. no_read (rw same (ran.ensures.read_cause fault)))
    (λ fault. no_put (rw same (ran.ensures.write_cause fault))))

pub returns-in-Ok-Some-Serve-clause-complete_serve : goal.returns-in-Ok-Some-Serve-clause-complete_serve
returns-in-Ok-Some-Serve-clause-complete_serve g c asks no_next no_send =
    let hub = g.H.Hub in
    let old = c.args.hub.now in
    let new = c.serve-status.new.hub in
    let told = c.told-in-Ok-Some-Serve in
    let status : told.result.status ≡ c.serve-status.result.0 = ap (λ r. r.status) (told.ensures.ran ∙ c.ended.ensures) in
    rw status
    (completes_serve c.as_str.result.now c.in-Ok-Some-Serve.connections c.serve-status.result.0 c.serve-status.result.1 (hub.asked old) (hub.asked new)
    (known (hub.inputs old) (hub.sent old) (hub.got old) (hub.losses old)) (known (hub.inputs new) (hub.sent new) (hub.got new) (hub.losses new)) (hub.bad old)
    c.serve-status.ensures.served (λ fault. no_cause no_next no_send (c.serve-status.ensures.cause fault)))
