-- The bus goes through a pulse.
use Rattle.std.proofs.Common.{ap, sym, ◌∙◌}
use Rattle.qo_object.specs.BoardObject.{birth_of}
use Rattle.qo_realize.proofs.HoldLemmas.{acts-keep}
use Rattle.qo_realize.proofs.RegisterLemmas.{pulse-held}
use Rattle.qo_properties.proofs.ActsKept.{acts-kept}
use Rattle.qo_properties.proofs.KeptLemmas.{before-same}
use Rattle.qo_realize.proofs.PeriodLemmas.{acts-periods}
use Rattle.qo_realize.proofs.registers.pulse_bus.Goals as goal

pub returns-in-Some-clause-shown : goal.returns-in-Some-clause-shown
returns-in-Some-clause-shown g c = λ b rings h.
    pulse-held b c.args.dev.birth c.in-Some.bus.birth c.args.resets.now.births c.pulse.new.self.births rings c.args.heap.now c.pulse.new.heap h
    (sym (c.first_bus.ensures.bus b h.held.0) ∙ ap birth_of c.in-Some.is) (c.pulse.ensures.shown b h.held)

pub returns-in-Some-clause-book : goal.returns-in-Some-clause-book
returns-in-Some-clause-book g c = acts-keep c.args.heap.now c.pulse.new.heap c.pulse.ensures.acts

pub returns-in-Some-clause-kept : goal.returns-in-Some-clause-kept
returns-in-Some-clause-kept g c =
    before-same c.args.heap.now c.pulse.new.heap (acts-kept c.args.heap.now c.pulse.new.heap c.pulse.ensures.acts c.pulse.ensures.still c.pulse.ensures.periods)

pub returns-in-Some-clause-periods : goal.returns-in-Some-clause-periods
returns-in-Some-clause-periods g c = acts-periods c.args.heap.now c.pulse.new.heap c.pulse.ensures.acts c.pulse.ensures.periods
