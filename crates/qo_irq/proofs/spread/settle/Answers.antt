use Rattle.std.proofs.Common.{◌≡◌, ◌<◌, [], length, ◌∙◌, arith}
use Rattle.std.proofs.lemmas.List.{get_or_default}
use Rattle.qo_irq.specs.Kept.{gate_at, dependants_at}
use Rattle.qo_irq.specs.declared.gate.Gate.TheVariants.{Input}
use Rattle.qo_irq.proofs.Spreads.{changes}
use Rattle.qo_irq.proofs.spread.settle.Goals as goal

pub returns-clause-spreading : goal.returns-clause-spreading
returns-clause-spreading c =
    let within : c.args.line < length c.args.gates.now = omega (arith, c.requires.spreading.within) in
    let there : c.args.line < length c.args.dependants.now = omega (arith, c.requires.dependants_all) in
    let gate : c.index-gates-line.result ≡ gate_at c.args.gates.now c.args.line =
    c.index-gates-line.is ∙ get_or_default c.args.gates.now c.args.line c.index-gates-line.result Input within in
    let lines : c.index-dependants-line.result ≡ dependants_at c.args.dependants.now c.args.line =
    c.index-dependants-line.is ∙ get_or_default c.args.dependants.now c.args.line c.index-dependants-line.result [] there in
    changes c.args.gates.now c.args.dependants.now c.args.levels.now c.args.pending.now c.mark.new.pending c.args.line c.args.last c.mark.result c.level-level.result
    c.requires.wired c.requires.spreading within (rw gate at c.level-level.ensures)
    (rw (← lines) c.mark.ensures)
