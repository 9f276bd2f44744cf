use Rattle.std.proofs.Common.{◌≡◌, ◌∙◌, ℕ, List, sym, subst, rules}
use Rattle.qo_heap.proofs.ActsLemmas.{acts-then}
use Rattle.qo_heap.specs.Acts.{Acts}
use Rattle.qo_reset.specs.Counts.{CountedBelow, KeepsOthers}
use Rattle.qo_reset.specs.Phases.{births_of}
use Rattle.qo_reset.proofs.BoardLemmas.{plugged-holds}
use Rattle.qo_reset.proofs.CountLemmas.{below-kept, plugged-kept}
use Rattle.qo_reset.proofs.resets.Resets.plugged.Goals as goal

pub returns-clause-shown : goal.returns-clause-shown
returns-clause-shown g c = λ b s.
    let eq : c.args.self.now.births ≡ births_of c.deref-2.result.now = search rules in
    (c.plugged_phases.ensures.shown b (c.recount_below.ensures.shown b s.0, s.1 ∙ eq), plugged-holds b c.args.dev.birth ∙ s.1)

counted : (g : _) (c : goal.After-plugged_phases g) → CountedBelow c.args.dev.birth c.args.self.now.births c.plugged_phases.new.heap
counted g c =
    let eq : births_of c.deref.result.now ≡ c.args.self.now.births = search rules in
    subst (λ (l : List ℕ). CountedBelow c.args.dev.birth l c.plugged_phases.new.heap) eq
    (below-kept c.recount_below.new.heap c.plugged_phases.new.heap (births_of c.deref.result.now) c.args.dev.birth c.plugged_phases.ensures.acts
    c.plugged_phases.ensures.still c.recount_below.ensures.counted)

others : (g : _) (c : goal.After-plugged_phases g) → KeepsOthers c.args.dev.birth c.args.heap.now c.plugged_phases.new.heap
others g c = λ m apart. c.plugged_phases.ensures.still m ∙ c.recount_below.ensures.others m apart

pub returns-clause-counted : goal.returns-clause-counted
returns-clause-counted g c = counted g c

pub returns-clause-others : goal.returns-clause-others
returns-clause-others g c = others g c

pub returns-clause-counts : goal.returns-clause-counts
returns-clause-counts g c = λ kept.
    let acts : Acts c.args.heap.now c.plugged_phases.new.heap =
    acts-then c.args.heap.now c.recount_below.new.heap c.plugged_phases.new.heap c.recount_below.ensures.acts c.plugged_phases.ensures.acts in
    plugged-kept c.args.heap.now c.plugged_phases.new.heap c.args.self.now.births c.args.dev.birth acts (counted g c) (others g c) kept
