-- The source tells whether the period is one by it.
use Rattle.std.proofs.Common.{◌≡◌, ap, sym, ◌∙◌, None, Some, rules}
use Rattle.qo_properties.proofs.ClockLemmas.{derived-is, source-there}
use Rattle.qo_properties.proofs.reading.values.derived_period.Goals as goal

pub returns-in_err-source_of : goal.returns-in_err-source_of
returns-in_err-source_of g c = λ b s fit.
    let none : c.from_residual.result ≡ None = search rules in
    none ∙ sym (derived-is b c.args.heap.now s c.args.o.birth None c.in_err-source_of.ensures.source)

pub returns : goal.returns
returns g c = λ b s fit.
    let heap = c.args.heap.now in
    let n = c.args.o.birth in
    ap Some (c.period.ensures.period b s (fit (source-there b heap s n _ c.in_ok-source_of.ensures.source)))
    ∙ sym (derived-is b heap s n _ c.in_ok-source_of.ensures.source)
