use Rattle.qo_replies.proofs.events.push_event.Goals as goal

pub returns-in-DeviceDeleted : goal.returns-in-DeviceDeleted
returns-in-DeviceDeleted c =
    rw c.in-DeviceDeleted.is (rw (c.as_ref.ensures.value, c.as_str.ensures) at c.push_device.ensures)

pub returns-in-DeviceUnplugGuestError : goal.returns-in-DeviceUnplugGuestError
returns-in-DeviceUnplugGuestError c =
    rw c.in-DeviceUnplugGuestError.is
    (rw (c.as_ref-in-DeviceUnplugGuestError.ensures.value, c.as_str-in-DeviceUnplugGuestError.ensures) at c.push_device-in-DeviceUnplugGuestError.ensures)
