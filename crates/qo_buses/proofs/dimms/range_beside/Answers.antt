-- The place beside the ranges is that beside those of the board.
use Rattle.std.proofs.Common.{refl, ap, sym, ◌∙◌, ℕ, Option, Some, None, Result, Ok, Err}
use Rattle.qo_values.specs.Placing.{range_at}
use Rattle.qo_values.specs.declared.codes.Code.{Code}
use Rattle.qo_values.specs.declared.codes.Code.TheVariants.{E41}
use Rattle.qo_values.specs.declared.ranges.Range.{Range}
use Rattle.qo_model.specs.Plug.{range_for, ranges_of}
use Rattle.qo_buses.proofs.PlacingLemmas.{place-free, place-same}
use Rattle.qo_buses.proofs.dimms.range_beside.Goals as goal

pub returns-in-Some-place-clause-range : goal.returns-in-Some-place-clause-range
returns-in-Some-place-clause-range c = λ b same.
    let placed = c.in-Some-place.ensures ∙ place-same c.args.ranges.now (ranges_of b) c.args.size same in
    ap (λ (o : Option ℕ). elim o as (λ _. Result Range Code) [ None ↦ Err E41 | Some at ↦ Ok (range_at at c.args.size) ]) placed
    ∙ ap (λ (at : Option ℕ). range_for b at c.args.size) (sym c.in_default.is)

pub returns-in-Some-place-clause-free : goal.returns-in-Some-place-clause-free
returns-in-Some-place-clause-free c =
    let free = place-free c.args.ranges.now c.args.size c.in-Some-place.at (sym c.in-Some-place.ensures) in
    (free.1, free.0, refl)
