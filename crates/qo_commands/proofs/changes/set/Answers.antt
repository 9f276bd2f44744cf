-- The property is written, or what refuses that is told.
use Rattle.qo_model.specs.Access.{write_at}
use Rattle.qo_commands.specs.Commands.{altered}
use Rattle.qo_commands.proofs.ChangeLemmas.{set-alters}
use Rattle.qo_requests.specs.declared.calls.Alteration.TheVariants.{QomSet}
use Rattle.qo_commands.specs.declared.touched.Touched.TheVariants.{Registers}
use Rattle.qo_commands.proofs.TouchedLemmas.{if_altered-touches, set-touches}
use Rattle.qo_commands.proofs.changes.set.Goals as goal

pub returns-clause-came : goal.returns-clause-came
unfolding altered
returns-clause-came g c = λ b s.
    set-alters b c.args.board.now c.qom_set-answer.new.self (write_at b c.args.path.now c.args.name.now c.args.val.now) c.qom_set-answer.result c.outcome_of.result s
    (c.qom_set-answer.ensures.written b s) c.qom_set-answer.ensures.err c.outcome_of.ensures.comes

pub returns-clause-touched : goal.returns-clause-touched
returns-clause-touched g c = λ b s.
    if_altered-touches b (QomSet c.args.path.now c.args.name.now c.args.val.now) c.outcome_of.result c.qom_set-answer.new.self Registers (returns-clause-came g c b s)
    c.outcome_of.ensures.touched (set-touches b c.args.path.now c.args.name.now c.args.val.now)
