-- What bars a bus.
use Rattle.std.proofs.Common.{◌≡◌, refl, sym, Err, rules}
use Rattle.qo_plug.proofs.checks.open_bus.Goals as goal

pub returns-in_err-bus-clause-refused : goal.returns-in_err-bus-clause-refused
returns-in_err-bus-clause-refused g c = λ b s pending.
    let is : c.from_residual.result ≡ Err c.in_err-bus.field-0.0 = search rules in
    rw is (sym (c.in_err-bus.ensures.refused b c.in_err-bus.field-0.0 s refl))
