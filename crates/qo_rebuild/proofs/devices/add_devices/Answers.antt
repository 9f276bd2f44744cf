-- One more, or the first that is refused.
use Rattle.std.proofs.Common.{◌≡◌, ◌≤◌, ◌<◌, Err, ◌∙◌, arith, rules}
use Rattle.qo_save.specs.Rebuilding.{add_device}
use Rattle.qo_shape.specs.Said.{device_said}
use Rattle.qo_rebuild.proofs.StepLemmas.{went-none}
use Rattle.qo_rebuild.proofs.StepLemmas.{list-all, list-next, list-stops}
use Rattle.qo_rebuild.proofs.devices.add_devices.Goals as goal

pub loop-device-init : goal.loop-device-init
loop-device-init g c = λ b s. went-none b c.args.board.now s

pub returns-in_err-add_device : goal.returns-in_err-add_device
returns-in_err-add_device g c = λ b s.
    let is : c.from_residual.result ≡ Err c.in_err-add_device.field-0.0 = search rules in
    list-stops add_device device_said c.args.devices.now c.loop-device.device-index c.device-item.result (omega arith) c.device-item.is b c.loop-device.board
    c.add_device.new.board
    c.from_residual.result c.in_err-add_device.field-0.0 (c.loop-device.invariant b s) is c.in_err-add_device.ensures

pub loop-device-preserved : goal.loop-device-preserved
loop-device-preserved g c = λ b s.
    list-next add_device device_said c.args.devices.now c.loop-device.device-index c.device-item.result (omega arith) c.device-item.is b c.loop-device.board
    c.add_device.new.board
    (c.loop-device.invariant b s) c.in_ok-add_device.ensures

pub returns : goal.returns
returns g c = λ b s.
    list-all add_device device_said c.args.devices.now c.loop-device.device-index (omega arith) b c.loop-device.board (c.loop-device.invariant b s)
