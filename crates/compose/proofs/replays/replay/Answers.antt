-- The run is over the stream of the source.
use Rattle.std.proofs.Common.{[], ◌∙◌, ap}
use Rattle.compose.proofs.ReplayLemmas.{hub_replayed, not_made}
use Rattle.compose.proofs.replays.replay.Goals as goal

pub returns-in-Ok-clause-replayed : goal.returns-in-Ok-clause-replayed
returns-in-Ok-clause-replayed g c =
    let parts = c.into_parts-source.ensures in
    let ran = c.ended.ensures in
    hub_replayed g.S.Source.left g.K.Sink.held c.run-ending.result _ _ c.in-Ok.hub c.run-ending.new.hub _ _ _ _ _ _
    c.in-Ok.ensures.made (ap (λ r. r.status) ran ∙ c.status_of-status.ensures) c.offset_of.ensures
    (ap (λ r. r.source) ran ∙ parts.source) (ap (λ r. r.sink) ran ∙ parts.sink) parts.few c.run-ending.ensures.starved
    c.run-ending.ensures.later c.run-ending.ensures.meets

pub returns-in-Err-clause-replayed : goal.returns-in-Err-clause-replayed
returns-in-Err-clause-replayed g c =
    let same = c.in-Err.ensures.unmade in
    let ran = c.ended-in-Err.ensures in
    ([], rw (ap (λ r. r.status) ran, ap (λ r. r.source) ran ∙ same.0, ap (λ r. r.sink) ran ∙ same.1) (not_made (g.S.Source.left c.args.source) (g.K.Sink.held c.args.sink)))
