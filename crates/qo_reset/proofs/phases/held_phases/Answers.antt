use Rattle.std.proofs.Common.{◌≡◌, refl, sym, false}
use Rattle.qo_values.specs.declared.kinds.ResetKind.{ResetKind}
use Rattle.qo_values.specs.declared.kinds.ResetKind.TheVariants.{Cold, Wakeup}
use Rattle.qo_values.specs.Kinds.{entering}
use Rattle.qo_kinds.specs.Bodies.{reads_moment}
use Rattle.qo_heap.proofs.ActsLemmas.{acts-then}
use Rattle.qo_reset.specs.Phases.{births_of}
use Rattle.qo_reset.proofs.BoardLemmas.{shows-held}
use Rattle.qo_reset.proofs.CountLemmas.{acts-kept, below-kept, kept-below}
use Rattle.qo_reset.proofs.phases.held_phases.Goals as goal

-- whoever enters a reset asks for no moment
entering-asks : (kind : ResetKind) → reads_moment (entering kind) ≡ false
entering-asks Cold = refl
entering-asks Wakeup = refl

pub phase-requires-clause-phase : goal.phase-requires-clause-phase
phase-requires-clause-phase g c = rw c.entering.ensures (entering-asks c.args.kind)

pub returns-clause-shown : goal.returns-clause-shown
returns-clause-shown g c =
    λ b s. rw (c.phase-2.ensures.phase, c.phase.ensures.phase, c.entering.ensures, sym s.1) (shows-held c.args.root.birth c.args.kind b c.args.heap.now s.0)

pub returns-clause-acts : goal.returns-clause-acts
returns-clause-acts g c = acts-then c.args.heap.now c.phase.new.heap c.phase-2.new.heap c.phase.ensures.acts c.phase-2.ensures.acts

pub returns-clause-timely : goal.returns-clause-timely
returns-clause-timely g c = λ all. c.phase-2.ensures.timely (c.phase.ensures.timely all)

pub phase-requires-2-clause-counts : goal.phase-requires-2-clause-counts
phase-requires-2-clause-counts g c =
    below-kept c.args.heap.now c.phase.new.heap (births_of c.args.holds.now) c.args.root.birth c.phase.ensures.acts c.phase.ensures.still
    (kept-below c.args.heap.now (births_of c.args.holds.now) c.args.root.birth c.requires.counts)

pub returns-clause-counts : goal.returns-clause-counts
returns-clause-counts g c =
    acts-kept c.phase.new.heap c.phase-2.new.heap (births_of c.args.holds.now) c.phase-2.ensures.acts c.phase-2.ensures.still
    (acts-kept c.args.heap.now c.phase.new.heap (births_of c.args.holds.now) c.phase.ensures.acts c.phase.ensures.still c.requires.counts)
