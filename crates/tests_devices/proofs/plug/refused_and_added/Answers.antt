-- Of the objects that a board begins with nothing is kept.
use Rattle.std.proofs.Common.{sym, subst}
use Rattle.qo_properties.specs.KeptClaims.{NoneKept}
use Rattle.qo_properties.proofs.KeptLemmas.{none-empty}
use Rattle.tests_devices.proofs.plug.refused_and_added.Goals as goal

pub bridge-requires-clause-bare : goal.bridge-requires-clause-bare
bridge-requires-clause-bare g c = c.in_ok-make_all.ensures.bare (subst NoneKept (sym c.in_ok-heap.ensures) none-empty)
