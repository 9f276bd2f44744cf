-- What is left to be put among those found gives what there was to be found.
use Rattle.std.proofs.Common.{◌≡◌, [], drop}
use Rattle.qo_text.specs.Options.{options}
use Rattle.qo_text.proofs.options.options.Given as goal

abbrev pub invariant-loop-part : goal.invariant-loop-part
invariant-loop-part l = options (drop l.part-index l.parts) l.found.items ≡ options l.parts []
