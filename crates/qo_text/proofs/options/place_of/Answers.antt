-- The first place, and that past the last.
use Rattle.qo_text.specs.Options.{is_upto}
use Rattle.qo_text.proofs.OptionLemmas.{place-none}
use Rattle.qo_text.proofs.options.place_of.Goals as goal

pub returns-in-None : goal.returns-in-None
returns-in-None c = place-none (is_upto c.args.key.now) c.args.found.now c.in-None.ensures
