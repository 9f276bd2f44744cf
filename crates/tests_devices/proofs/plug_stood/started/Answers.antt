-- A device that was made is there to the end, and keeps no path; and what is left of its plan is for it.
use Rattle.qo_values.specs.declared.kinds.TypeId.TheVariants.{SlotBridge}
use Rattle.qo_heap.specs.Objects.{content_of}
use Rattle.qo_plug.specs.Drafts.{own_slots_of}
use Rattle.qo_plug.proofs.ClaimLemmas.{draft-pathless}
use Rattle.qo_plug.proofs.GivenDraftLemmas.{left-fits, left-targets}
use Rattle.tests_devices.proofs.plug_stood.started.Goals as goal

pub stand-requires-clause-targets : goal.stand-requires-clause-targets
stand-requires-clause-targets g c =
    left-targets c.in-Ok.plan c.as_mut_slice.result.now c.make_device.new.plan c.as_mut_slice.ensures.value c.in_ok-device.ensures.left
    c.make_all.new.heap c.make_device.new.heap c.in_ok-device.ensures.grows.names c.in-Ok.ensures.live

pub stand-requires-clause-fits : goal.stand-requires-clause-fits
stand-requires-clause-fits g c =
    left-fits c.in-Ok.plan c.as_mut_slice.result.now c.make_device.new.plan c.as_mut_slice.ensures.value c.in_ok-device.ensures.left SlotBridge
    (own_slots_of c.make_device.new.heap c.in_ok-device.device.birth) c.in_ok-device.ensures.made.own c.in-Ok.ensures.fits

pub start-requires-clause-live : goal.start-requires-clause-live
start-requires-clause-live g c = c.in_ok-kept.ensures.names c.in_ok-device.device c.in_ok-device.ensures.made.live

pub start-requires-clause-pathless : goal.start-requires-clause-pathless
start-requires-clause-pathless g c =
    draft-pathless SlotBridge (content_of c.make_device.new.heap c.in_ok-device.device.birth) (content_of c.stand.new.heap c.in_ok-device.device.birth)
    c.in_ok-device.ensures.made.rest c.in_ok-kept.ensures.paths

pub is_realized-requires : goal.is_realized-requires
is_realized-requires g c =
    c.start.ensures.names c.in_ok-device.device (c.in_ok-kept.ensures.names c.in_ok-device.device c.in_ok-device.ensures.made.live)
