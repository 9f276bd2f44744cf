use Rattle.std.proofs.Common.{◌≡◌, ◌∙◌, ap, sym, subst, remove, ℕ, List, true, false, refl, Some, None, rules}
use Rattle.qo_model.specs.Depth.{among}
use Rattle.qo_model.specs.Release.{without_first}
use Rattle.qo_reset.specs.Counts.{CountsKept}
use Rattle.qo_reset.specs.Phases.{births_of}
use Rattle.qo_reset.proofs.BoardLemmas.{released-holds}
use Rattle.qo_reset.proofs.HoldLemmas.{less-hold, place-none, place-some, hold_index}
use Rattle.qo_reset.proofs.resets.Resets.release.Goals as goal

pub returns-clause-shown : goal.returns-clause-shown
returns-clause-shown g c = λ b s.
    let eq : c.args.self.now.births ≡ births_of c.deref.result.now = search rules in
    let place : hold_index c.args.root.birth c.deref.result.now ≡ Some c.in-Some.at = sym c.in-Some.ensures in
    let now : c.deref-2.result.now ≡ remove c.deref.result.now c.in-Some.at = search rules in
    let less : births_of (remove c.deref.result.now c.in-Some.at) ≡ without_first c.args.root.birth (births_of c.deref.result.now) =
    less-hold c.args.root.birth c.deref.result.now c.in-Some.at place in
    let left : without_first c.args.root.birth b.holds ≡ births_of c.deref-2.result.now =
    ap (without_first c.args.root.birth) (s.1 ∙ eq) ∙ sym less ∙ ap births_of (sym now) in
    let view : births_of c.deref-2.result.now ≡ births_of c.remove.new.self.items = search rules in
    (c.released_phases.ensures.shown b (c.lower.ensures.shown b s.0) left, released-holds b c.args.root.birth ∙ left ∙ view)

pub returns-clause-holds : goal.returns-clause-holds
returns-clause-holds g c =
    let eq : c.args.self.now.births ≡ births_of c.deref.result.now = search rules in
    let place : hold_index c.args.root.birth c.deref.result.now ≡ Some c.in-Some.at = sym c.in-Some.ensures in
    let now : c.deref-2.result.now ≡ remove c.deref.result.now c.in-Some.at = search rules in
    let view : births_of c.deref-2.result.now ≡ births_of c.remove.new.self.items = search rules in
    sym view
    ∙ ap births_of now
    ∙ less-hold c.args.root.birth c.deref.result.now c.in-Some.at place
    ∙ ap (without_first c.args.root.birth) (sym eq)

pub returns-clause-answer : goal.returns-clause-answer
returns-clause-answer g c =
    let eq : c.args.self.now.births ≡ births_of c.deref.result.now = search rules in
    let place : hold_index c.args.root.birth c.deref.result.now ≡ Some c.in-Some.at = sym c.in-Some.ensures in
    let there : among c.args.self.now.births c.args.root.birth ≡ true =
    ap (λ (l : List ℕ). among l c.args.root.birth) eq ∙ place-some c.args.root.birth c.deref.result.now c.in-Some.at place in
    rw there refl

pub returns-in_default-clause-answer : goal.returns-in_default-clause-answer
returns-in_default-clause-answer g c =
    let eq : c.args.self.now.births ≡ births_of c.deref.result.now = search rules in
    let none : hold_index c.args.root.birth c.deref.result.now ≡ None = sym c.hold_index.ensures ∙ c.in_default.is in
    let there : among c.args.self.now.births c.args.root.birth ≡ false =
    ap (λ (l : List ℕ). among l c.args.root.birth) eq ∙ place-none c.args.root.birth c.deref.result.now none in
    rw there refl

pub released_phases-requires-clause-counts : goal.released_phases-requires-clause-counts
released_phases-requires-clause-counts g c =
    let eq : c.args.self.now.births ≡ births_of c.deref.result.now = search rules in
    let place : hold_index c.args.root.birth c.deref.result.now ≡ Some c.in-Some.at = sym c.in-Some.ensures in
    let there : among c.args.self.now.births c.args.root.birth ≡ true =
    ap (λ (l : List ℕ). among l c.args.root.birth) eq ∙ place-some c.args.root.birth c.deref.result.now c.in-Some.at place in
    let now : c.deref-2.result.now ≡ remove c.deref.result.now c.in-Some.at = search rules in
    let left : without_first c.args.root.birth c.args.self.now.births ≡ births_of c.deref-2.result.now =
    ap (without_first c.args.root.birth) eq ∙ sym (less-hold c.args.root.birth c.deref.result.now c.in-Some.at place) ∙ ap births_of (sym now) in
    subst (λ (l : List ℕ). CountsKept l c.lower.new.heap) left (c.lower.ensures.counts c.args.self.now.births c.requires.counts there)
