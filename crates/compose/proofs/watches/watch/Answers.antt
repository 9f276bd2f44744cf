-- The run is over the stream of the source, and what listeners tell is put.
use Rattle.std.proofs.Common.{[], ◌∙◌, ap}
use Rattle.qo_listen.specs.Ears.{ears}
use Rattle.qo_listen.specs.contracts.listeners.BoxDynListenerListener.TheImpl.{ghosts}
use Rattle.compose.proofs.WatchLemmas.{all-tell, hub_watched, never_rose, not_watched}
use Rattle.compose.proofs.watches.watch.Goals as goal

pub returns-in-Ok-clause-watched : goal.returns-in-Ok-clause-watched
returns-in-Ok-clause-watched g c =
    let parts = c.into_parts-source.ensures in
    let ran = c.ended.ensures in
    let before = ears (ghosts g.dyn-1) c.args.listeners.all.items in
    let after = ears (ghosts g.dyn-1) c.run_told-ending.new.listeners.all.items in
    hub_watched g.S.Source.left c.run_told-ending.result _ c.status_after-status.result _ c.in-Ok.hub c.run_told-ending.new.hub _ _ _
    (g.K.Sink.held c.args.sink) (g.K.Sink.held c.status_after-status.new.sink) _ _ _ before after c.in-Ok.ensures.made (ap (λ r. r.status) ran)
    c.offset_of.ensures (ap (λ r. r.source) ran ∙ parts.source) (ap (λ r. g.K.Sink.held r.sink) ran) parts.few c.run_told-ending.ensures.starved
    c.run_told-ending.ensures.later c.run_told-ending.ensures.meets
    (all-tell (ghosts g.dyn-1) c.run_told-ending.new.listeners.all.items) (λ is. never_rose (c.run_told-ending.ensures.send_cause is))
    c.status_after-status.ensures.put

pub returns-in-Err-clause-watched : goal.returns-in-Err-clause-watched
returns-in-Err-clause-watched g c =
    let same = c.in-Err.ensures.unmade in
    let ran = c.ended-in-Err.ensures in (
      [],
      rw (ap (λ r. r.status) ran, ap (λ r. r.source) ran ∙ same.0, ap (λ r. r.sink) ran)
          (not_watched (g.S.Source.left c.args.source) (g.K.Sink.held c.args.sink) (ears (ghosts g.dyn-1) c.args.listeners.all.items)),
    )
