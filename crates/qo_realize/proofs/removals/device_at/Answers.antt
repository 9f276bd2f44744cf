-- Where the container is not there, no device is.
use Rattle.std.proofs.Common.{◌≡◌, None, sym, ◌∙◌, rules}
use Rattle.qo_realize.proofs.DeviceLemmas.{none-peripheral}
use Rattle.qo_realize.proofs.removals.device_at.Goals as goal

pub returns-in_err-peripheral-clause-device : goal.returns-in_err-peripheral-clause-device
returns-in_err-peripheral-clause-device g c = λ b s.
    let none : c.from_residual.result ≡ None = search rules in
    rw none (none-peripheral b c.args.heap.now s c.in_err-peripheral.ensures.none c.args.id.now (sym c.is_absolute.ensures ∙ c.if-is_absolute.false))
