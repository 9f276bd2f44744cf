-- Devices may have gone.
use Rattle.qo_commands.proofs.hearing.reset.Goals as goal

pub returns-clause-touched : goal.returns-clause-touched
returns-clause-touched g c = λ b s. tt
