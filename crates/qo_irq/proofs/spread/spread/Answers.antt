use Rattle.std.proofs.Common.{◌≡◌, ◌<◌, [], length, refl, ◌∙◌, arith}
use Rattle.std.proofs.lemmas.List.{get_or_default}
use Rattle.qo_irq.specs.Kept.{dependants_at}
use Rattle.qo_irq.proofs.Spreads.{begins}
use Rattle.qo_irq.proofs.spread.spread.Goals as goal

pub loop-line-init : goal.loop-line-init
loop-line-init c =
    let there : c.args.changed < length c.args.dependants.now = omega (arith, c.requires.dependants_all, c.requires.within) in
    let lines : c.index-dependants-changed.result ≡ dependants_at c.args.dependants.now c.args.changed =
    c.index-dependants-changed.is ∙ get_or_default c.args.dependants.now c.args.changed c.index-dependants-changed.result [] there in
    record {
      spreading = begins c.args.gates.now c.args.dependants.now c.args.levels.now c.args.pending.now c.mark-last.new.pending c.args.changed c.mark-last.result
          c.requires.wired c.requires.levels_all c.requires.pending_all c.requires.calm c.requires.settled
          (rw (← lines) c.mark-last.ensures);
      inputs = λ i set_outside. refl;
    }
