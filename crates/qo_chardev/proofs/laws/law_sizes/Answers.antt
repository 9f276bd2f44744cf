use Rattle.qo_chardev.proofs.Sizes.{sizes_are_powers}
use Rattle.qo_chardev.proofs.laws.law_sizes.Goals as goal

pub returns : goal.returns
returns c = sizes_are_powers
