-- The device is added, and the notice of it is taken.
use Rattle.std.proofs.Common.{Err}
use Rattle.qo_model.specs.Plug.{plug}
use Rattle.qo_plug.specs.declared.refusals.AddRefusal.TheVariants.{Refused}
use Rattle.qo_realize.specs.Answers.{Plugs}
use Rattle.qo_save.specs.Rebuilding.{wanted_by}
use Rattle.qo_shape.specs.Said.{device_said}
use Rattle.qo_rebuild.proofs.CallLemmas.{device-done, device-refused}
use Rattle.qo_rebuild.proofs.devices.add_device.Goals as goal

pub returns-in-Ok : goal.returns-in-Ok
returns-in-Ok g c = λ b s.
    let did = c.in-Ok.ensures b s in
    device-done b (device_said c.args.device.now) c.poll-notice.new.self did.0 (c.poll-notice.ensures.polled (plug b (wanted_by (device_said c.args.device.now))).board did.1)

pub returns-in-Err-Refused : goal.returns-in-Err-Refused
returns-in-Err-Refused g c = λ b s.
    let why : Plugs b (wanted_by (device_said c.args.device.now)) (Err (Refused c.in-Err-Refused.field-0-0 c.in-Err-Refused.code)) c.plug.new.board =
    rw c.in-Err-Refused.field-0-is at (c.in-Err-Refused.ensures b s) in
    device-refused b (device_said c.args.device.now) c.in-Err-Refused.field-0-0 c.in-Err-Refused.code why.0
