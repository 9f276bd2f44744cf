-- Where nothing is held, no holds are counted; what was refused leaves that.
use Rattle.std.proofs.Common.{ℕ, List, sym, subst, Result, Ok, Err, OnErr}
use Rattle.qo_heap.specs.Objects.{Objects}
use Rattle.qo_plug.proofs.KeptLemmas.{opening-counts}
use Rattle.qo_properties.proofs.AddKept.{none-new}
use Rattle.qo_properties.specs.KeptClaims.{KeptOrNew, NoneKept}
use Rattle.qo_reset.specs.Counts.{CountsKept}
use Rattle.tests_devices.proofs.plug.bridge.Goals as goal

refused-bare : {T E : Type 0} (v w : Objects) (r : Result T E) → OnErr r (KeptOrNew v w) → NoneKept v → OnErr r (NoneKept w)
refused-bare v w (Ok x) kept bare = tt
refused-bare v w (Err e) kept bare = none-new v w kept bare

pub add-requires : goal.add-requires
add-requires g c = subst (λ (holds : List ℕ). CountsKept holds c.args.heap.now) (sym c.requires.held) (opening-counts c.args.heap.now c.requires.bare)

pub returns : goal.returns
returns g c = refused-bare c.args.heap.now c.add.new.heap c.add.result c.add.ensures.unkept c.requires.bare
