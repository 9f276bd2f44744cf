-- Where there is no object of birth 1, no path leads to one.
use Rattle.std.proofs.Common.{None, sym}
use Rattle.qo_model.specs.Paths.{components}
use Rattle.qo_paths.proofs.EndLemmas.{end-none, told-absolute}
use Rattle.qo_paths.proofs.resolving.absolute.Goals as goal

pub returns-in_default-clause-place : goal.returns-in_default-clause-place
returns-in_default-clause-place g c = λ b s.
    told-absolute b c.args.path.now c.args.wanted.now c.requires None
    (sym (end-none b c.args.heap.now s 1 (components c.args.path.now) c.args.wanted.now c.in_default.ensures.none))
