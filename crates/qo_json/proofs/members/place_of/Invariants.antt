use Rattle.qo_json.proofs.PlaceLemmas.{IsFurther}
use Rattle.qo_json.proofs.members.place_of.Given as goal

-- the place is that among the members left, so much further
abbrev pub invariant-loop-at : goal.invariant-loop-at
invariant-loop-at l = IsFurther l.name l.members l.at
