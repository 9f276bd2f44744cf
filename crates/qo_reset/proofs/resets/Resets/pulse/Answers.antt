use Rattle.std.proofs.Common.{◌≡◌, ◌∙◌, ℕ, List, [], ◌∷◌, ◌++◌, ap, sym, subst, rules}
use Rattle.qo_model.specs.Board.{Board}
use Rattle.qo_model.specs.Release.{without_first}
use Rattle.qo_model.specs.Reset.{after_hold, released}
use Rattle.qo_heap.specs.Board.{Shows}
use Rattle.qo_reset.specs.Counts.{CountsKept}
use Rattle.qo_reset.specs.Phases.{births_of}
use Rattle.qo_reset.proofs.BoardLemmas.{held-holds, pulse-is, released-holds}
use Rattle.qo_reset.proofs.CountLemmas.{kept-same}
use Rattle.qo_reset.proofs.resets.Resets.pulse.Goals as goal

pub returns-clause-shown : goal.returns-clause-shown
returns-clause-shown g c = λ b s.
    let eq : c.args.self.now.births ≡ births_of c.deref.result.now = search rules in
    let left_eq : c.put_last.new.self.births ≡ births_of c.deref-2.result.now = search rules in
    let mid : Shows (after_hold b c.args.root.birth c.args.kind) c.held_phases.new.heap = c.held_phases.ensures.shown b (s.0, s.1 ∙ eq) in
    let more : (after_hold b c.args.root.birth c.args.kind).holds ≡ c.args.self.now.births ++ c.args.root.birth ∷ [] =
    held-holds b c.args.root.birth c.args.kind ∙ ap (λ (l : List ℕ). l ++ c.args.root.birth ∷ []) s.1 in
    let left : without_first c.args.root.birth (after_hold b c.args.root.birth c.args.kind).holds ≡ c.put_last.new.self.births =
    ap (without_first c.args.root.birth) more ∙ sym c.put_last.ensures.holds in
    let last : Shows (released (after_hold b c.args.root.birth c.args.kind) c.args.root.birth) c.released_phases.new.heap =
    c.released_phases.ensures.shown (after_hold b c.args.root.birth c.args.kind) mid (left ∙ left_eq) in (
      subst (λ (d : Board). Shows d c.released_phases.new.heap) (sym (pulse-is b c.args.root.birth c.args.kind)) last,
      ap (λ (d : Board). d.holds) (pulse-is b c.args.root.birth c.args.kind) ∙ released-holds (after_hold b c.args.root.birth c.args.kind) c.args.root.birth
          ∙ left,
    )

pub returns-clause-timely : goal.returns-clause-timely
returns-clause-timely g c = λ all. c.released_phases.ensures.timely (c.held_phases.ensures.timely all)

pub released_phases-requires-clause-counts : goal.released_phases-requires-clause-counts
released_phases-requires-clause-counts g c =
    let eq : births_of c.deref.result.now ≡ c.args.self.now.births = search rules in
    let left : c.put_last.new.self.births ≡ births_of c.deref-2.result.now = search rules in
    subst (λ (l : List ℕ). CountsKept l c.held_phases.new.heap) (sym c.put_last.ensures.holds ∙ left)
    (kept-same c.held_phases.new.heap c.args.root.birth c.args.self.now.births
    (subst (λ (l : List ℕ). CountsKept l c.held_phases.new.heap) eq c.held_phases.ensures.counts))
