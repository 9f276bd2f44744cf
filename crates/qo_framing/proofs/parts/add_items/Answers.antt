-- A part is the last, or leads on.
use Rattle.std.proofs.Common.{sym, ◌∙◌, ap}
use Rattle.std.specs.Prelude.{option_to_list}
use Rattle.qo_framing.specs.Cut.{cut}
use Rattle.qo_framing.specs.Parts.{part_view, state_at, state_of}
use Rattle.qo_framing.proofs.Feeding.{cut_stops, cut_goes_on, followed_by_none, followed_further, goes_on_shrinks}
use Rattle.qo_framing.proofs.parts.add_items.Goals as goal

pub returns-in-Stops-clause-cut : goal.returns-in-Stops-clause-cut
returns-in-Stops-clause-cut c =
    sym c.loop-stop.invariant
    ∙ followed_by_none c.loop-stop.items.items (cut (state_of c.loop-stop.gap) c.loop-stop.left.now) (state_at c.in-Stops.stop)
    (cut_stops (state_of c.loop-stop.gap) c.loop-stop.left.now (state_at c.in-Stops.stop) (sym (ap part_view c.in-Stops.is) ∙ c.in_ok-stop.ensures.part))

pub loop-stop-smaller : goal.loop-stop-smaller
loop-stop-smaller c =
    goes_on_shrinks (state_of c.loop-stop.gap) c.loop-stop.left.now c.in-GoesOn.item (state_of c.in-GoesOn.next) c.in-GoesOn.rest.now
    (sym (ap part_view c.in-GoesOn.is) ∙ c.in_ok-stop.ensures.part)

pub loop-stop-preserved : goal.loop-stop-preserved
loop-stop-preserved c =
    followed_further c.loop-stop.items.items (option_to_list c.in-GoesOn.item) c.push_some.new.items.items (cut (state_of c.loop-stop.gap) c.loop-stop.left.now)
    (cut (state_of c.in-GoesOn.next) c.in-GoesOn.rest.now)
    (cut_goes_on (state_of c.loop-stop.gap) c.loop-stop.left.now c.in-GoesOn.item (state_of c.in-GoesOn.next) c.in-GoesOn.rest.now
    (sym (ap part_view c.in-GoesOn.is) ∙ c.in_ok-stop.ensures.part))
    c.in_ok-push_some-in-GoesOn.ensures
    ∙ c.loop-stop.invariant
