-- Nobody listens.
use Rattle.std.proofs.Common.{sym, subst}
use Rattle.qo_listen.specs.Ears.{AllOpen}
use Rattle.qo_machine.proofs.RunLemmas.{run_met}
use Rattle.qo_machine.proofs.running.run.Goals as goal

pub run_told-ending-requires : goal.run_told-ending-requires
run_told-ending-requires g c = record { listening = subst AllOpen (sym c.new-nobody.ensures) tt }

pub returns-clause-meets : goal.returns-clause-meets
returns-clause-meets g c = run_met c.run_told-ending.result c.args.limit _ _ _ _ _ c.run_told-ending.ensures.meets
