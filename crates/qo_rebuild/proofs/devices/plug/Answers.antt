-- What is asked for is the device with its slot among its properties.
use Rattle.std.proofs.Common.{◌≡◌, Err, inl, rules}
use Rattle.qo_plug.specs.declared.refusals.AddRefusal.TheVariants.{Memory}
use Rattle.qo_rebuild.proofs.devices.plug.Goals as goal

pub returns-in_err-props : goal.returns-in_err-props
returns-in_err-props g c = λ b s.
    let is : c.from_residual.result ≡ Err Memory = search rules in
    rw is (inl s)

pub returns : goal.returns
returns g c = λ b s.
    rw (← c.as_str.ensures, ← c.as_str-2.ensures, ← c.as_str-3.ensures, ← c.in_ok-props.ensures) (c.add.ensures.change b s)
