-- The machine is there, and goes through the phases.
use Rattle.std.proofs.Common.{sym, subst, ℕ}
use Rattle.qo_model.specs.Reset.{pulse}
use Rattle.qo_realize.specs.Parts.{Parts, parts_of}
use Rattle.qo_realize.specs.Representation.{Stands}
use Rattle.qo_realize.proofs.HoldLemmas.{acts-keep, pulse-keeps, pulse-stands}
use Rattle.qo_realize.proofs.ResetLemmas.{machine-there, none-said}
use Rattle.qo_properties.proofs.ActsKept.{acts-kept}
use Rattle.qo_properties.proofs.KeptLemmas.{before-same}
use Rattle.qo_realize.proofs.ClaimsLemmas.{pulse-claims}
use Rattle.qo_realize.proofs.PeriodLemmas.{acts-periods}
use Rattle.qo_realize.proofs.board.Board.pulse_machine.Goals as goal

pub invariant_of-self : goal.invariant_of-self
invariant_of-self g c =
    let inside = c.self.inside in
    let (b, s, good) = c.self.invariant.1 in
    let stands =
    pulse-keeps inside.rings inside.anonymous inside.running inside.resets c.pulse.new.self inside.hotplug inside.heap c.pulse.new.heap
    (acts-keep inside.heap c.pulse.new.heap c.pulse.ensures.acts) c.in-Some.machine.birth c.args.kind
    c.self.invariant.1 c.pulse.ensures.shown in (
      stands.0,
      stands.1,
      pulse-claims b c.in-Some.machine.birth c.args.kind inside.heap c.pulse.new.heap good.run.devices s.shows (c.pulse.ensures.shown b (s.shows, s.holds)).0
          (before-same inside.heap c.pulse.new.heap
          (acts-kept inside.heap c.pulse.new.heap c.pulse.ensures.acts c.pulse.ensures.still c.pulse.ensures.periods)) c.self.invariant.2,
      c.pulse.ensures.counts,
      acts-periods inside.heap c.pulse.new.heap c.pulse.ensures.acts c.pulse.ensures.periods c.self.invariant.4,
    )

pub returns-in-Some : goal.returns-in-Some
returns-in-Some g c = λ b s.
    let inside = c.self.inside in
    let seen = subst (λ (p : Parts). Stands b p) (sym c.self.view_is) s in
    subst (λ (n : ℕ). Stands (pulse b n c.args.kind) (parts_of inside.rings inside.anonymous inside.running c.pulse.new.self inside.hotplug c.pulse.new.heap))
    c.in-Some.ensures.born
    (pulse-stands inside.rings inside.anonymous inside.running inside.resets c.pulse.new.self inside.hotplug inside.heap c.pulse.new.heap
    (acts-keep inside.heap c.pulse.new.heap c.pulse.ensures.acts) b c.in-Some.machine.birth c.args.kind seen
    (c.pulse.ensures.shown b (seen.shows, seen.holds)))

pub returns-in_default : goal.returns-in_default
returns-in_default g c = λ b s.
    let inside = c.self.inside in
    absurd
    (machine-there (parts_of inside.rings inside.anonymous inside.running inside.resets inside.hotplug inside.heap) c.self.invariant.1
    (none-said c.by_birth.result _ c.in_default.not-Some c.by_birth.ensures.none))
