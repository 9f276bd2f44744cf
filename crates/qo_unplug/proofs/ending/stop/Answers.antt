-- The act, and then the clock, if there is one.
use Rattle.std.proofs.Common.{[], Some, None, sym, ◌∙◌}
use Rattle.qo_hotplug.specs.Hotplug.{nothing_asked}
use Rattle.qo_unplug.specs.Unrealizing.{parts}
use Rattle.qo_unplug.proofs.EndingLemmas.{NoneGoes, undoes-disconnected, undoes-stop}
use Rattle.qo_unplug.proofs.StepLemmas.{undoes-less, undoes-none}
use Rattle.qo_properties.proofs.KeptLemmas.{claims-before, counts-before}
use Rattle.qo_unplug.proofs.KeptLemmas.{claims-disconnected}
use Rattle.qo_unplug.proofs.ending.stop.Goals as goal

pub disconnect-requires : goal.disconnect-requires
disconnect-requires g c = (c.act.ensures.undoes [] nothing_asked).live c.in-Some.clock c.in-Some.ensures.live

pub returns-in-Some-clause-undoes : goal.returns-in-Some-clause-undoes
returns-in-Some-clause-undoes g c = λ held asked.
    undoes-stop (parts c.args.heap.now held asked) (parts c.act.new.heap held asked) (parts c.disconnect.new.heap held asked) c.args.dev.birth
    c.device_period-period.result (Some c.in-Some.clock) (λ b s. c.in-Some.ensures.clock b s) c.device_period-period.ensures.period
    (c.act.ensures.undoes held asked)
    (undoes-disconnected c.act.new.heap c.disconnect.new.heap c.in-Some.clock.birth (λ b s. c.disconnect.ensures.shown b s) c.disconnect.ensures.now
    c.disconnect.ensures.kept held asked)

pub returns-in_default-clause-undoes : goal.returns-in_default-clause-undoes
returns-in_default-clause-undoes g c = λ held asked.
    undoes-stop (parts c.args.heap.now held asked) (parts c.act.new.heap held asked) (parts c.act.new.heap held asked) c.args.dev.birth
    c.device_period-period.result None (λ b s. c.in_default.ensures.clock b s) c.device_period-period.ensures.period (c.act.ensures.undoes held asked)
    (undoes-less (NoneGoes None) (λ _ d. d) (parts c.act.new.heap held asked) (parts c.act.new.heap held asked) (undoes-none (parts c.act.new.heap held asked)))

pub returns-in-Some-clause-claims : goal.returns-in-Some-clause-claims
returns-in-Some-clause-claims g c = λ n k e.
    claims-before c.args.heap.now c.act.new.heap c.act.ensures.kept n k
    (sym (claims-disconnected c.act.new.heap c.disconnect.new.heap c.in-Some.clock.birth c.disconnect.ensures.now n) ∙ e)

pub returns-in-Some-clause-counts : goal.returns-in-Some-clause-counts
returns-in-Some-clause-counts g c = λ n k e.
    counts-before c.args.heap.now c.act.new.heap c.act.ensures.kept n k (sym (c.disconnect.ensures.counts n) ∙ e)

pub returns-in_default-clause-claims : goal.returns-in_default-clause-claims
returns-in_default-clause-claims g c = claims-before c.args.heap.now c.act.new.heap c.act.ensures.kept

pub returns-in_default-clause-counts : goal.returns-in_default-clause-counts
returns-in_default-clause-counts g c = counts-before c.args.heap.now c.act.new.heap c.act.ensures.kept
