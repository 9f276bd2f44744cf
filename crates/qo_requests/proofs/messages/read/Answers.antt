use Rattle.std.proofs.Common.{◌≡◌, ◌∙◌, ap, Err, None, refl}
use Rattle.qo_requests.specs.Messages.{value_of, command}
use Rattle.qo_requests.proofs.Readings.{value_read, value_refused}
use Rattle.qo_requests.proofs.messages.read.Goals as goal

pub returns-in-Ok : goal.returns-in-Ok
unfolding command
returns-in-Ok c = rw (value_read _ _ c.in-Ok.ensures.ok.0 c.in-Ok.ensures.ok.1) c.read_value.ensures

pub returns-in-Err-Invalid : goal.returns-in-Err-Invalid
unfolding command
returns-in-Err-Invalid c =
    let none : value_of c.args.bytes.now ≡ None = value_refused _ (c.read.ensures.invalid (c.in-Err-Invalid.is ∙ ap Err c.in-Err-Invalid.field-0-is)) in
    rw (none, c.not_json.ensures) refl
