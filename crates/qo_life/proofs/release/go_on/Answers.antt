use Rattle.std.proofs.Common.{refl}
use Rattle.qo_life.specs.Work.{freed}
use Rattle.qo_life.proofs.ReleaseLemmas.{unheld-none}
use Rattle.qo_life.proofs.release.go_on.Goals as goal

pub returns-clause-goes : goal.returns-clause-goes
returns-clause-goes g c = freed c.in-Some.o c.in-Some.is (unheld-none _ c.is_held.result c.is_held.ensures.held c.if-is_held.false) c.set_work.ensures.now refl
