-- The object is held in reset, or what refuses it is told.
use Rattle.std.proofs.Common.{◌≡◌, subst, unwrap_or}
use Rattle.qo_values.specs.declared.kinds.ResetKind.{ResetKind}
use Rattle.qo_values.specs.declared.kinds.ResetKind.TheVariants.{Cold}
use Rattle.qo_realize.specs.Answers.{Changes}
use Rattle.qo_realize.specs.Resets.{held_at}
use Rattle.qo_commands.specs.Commands.{altered}
use Rattle.qo_commands.proofs.ChangeLemmas.{made-alters}
use Rattle.qo_requests.specs.declared.calls.Alteration.TheVariants.{XResetHold}
use Rattle.qo_commands.specs.declared.touched.Touched.TheVariants.{Registers}
use Rattle.qo_commands.proofs.TouchedLemmas.{held-touches, if_altered-touches}
use Rattle.qo_commands.proofs.changes.hold.Goals as goal

pub returns-clause-came : goal.returns-clause-came
unfolding altered
returns-clause-came g c = λ b s.
    let kind : ResetKind = unwrap_or c.args.kind Cold in
    let same : c.unwrap_or-kind.result ≡ kind = c.unwrap_or-kind.ensures in
    made-alters b c.hold.new.self (held_at b c.args.path.now kind) c.hold.result c.outcome_of.result
    (subst (λ (k : ResetKind). Changes (held_at b c.args.path.now k) b c.hold.result c.hold.new.self) same (c.hold.ensures.held b s)) c.outcome_of.ensures.comes

pub returns-clause-touched : goal.returns-clause-touched
returns-clause-touched g c = λ b s.
    if_altered-touches b (XResetHold c.args.path.now c.args.kind) c.outcome_of.result c.hold.new.self Registers (returns-clause-came g c b s)
    c.outcome_of.ensures.touched (held-touches b c.args.path.now c.args.kind)
