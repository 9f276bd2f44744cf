-- the place is free
use Rattle.std.proofs.Common.{sym, refl}
use Rattle.qo_values.specs.declared.limits.TheConstants.{DIMM_ALIGN}
use Rattle.qo_values.specs.Placing.{window_start, window_size, fits_at}
use Rattle.qo_values.proofs.PlacingLemmas.{least-passes}
use Rattle.qo_claims.proofs.Walks.{fits-free}
use Rattle.qo_claims.proofs.ranges.Ranges.choose.Goals as goal

pub returns-in-Some-place-clause-free : goal.returns-in-Some-place-clause-free
returns-in-Some-place-clause-free c =
    let passes = least-passes (fits_at c.deref.result.now c.args.size DIMM_ALIGN) window_start window_size c.in-Some-place.at (sym c.in-Some-place.ensures) in
    let fits = fits-free c.deref.result.now c.args.size DIMM_ALIGN c.in-Some-place.at passes in
    (refl, fits.0, rw (← c.self.view_is, ← c.deref.ensures.value) fits.1)
