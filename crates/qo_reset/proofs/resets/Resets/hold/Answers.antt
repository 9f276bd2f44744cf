use Rattle.std.proofs.Common.{◌≡◌, ◌∙◌, ℕ, List, [], ◌∷◌, ◌++◌, ap, sym, subst, rules}
use Rattle.qo_model.specs.Reset.{after_hold}
use Rattle.qo_reset.specs.Counts.{CountsKept, HasRoom}
use Rattle.qo_reset.specs.Phases.{births_of}
use Rattle.qo_reset.proofs.BoardLemmas.{held-holds}
use Rattle.qo_reset.proofs.CountLemmas.{room-acts}
use Rattle.qo_reset.proofs.HoldLemmas.{births-more}
use Rattle.qo_reset.proofs.resets.Resets.hold.Goals as goal

pub returns-clause-shown : goal.returns-clause-shown
returns-clause-shown g c = λ b s.
    let eq : c.args.self.now.births ≡ births_of c.deref.result.now = search rules in
    let more : births_of c.push_reserved.new.self.items ≡ births_of (c.deref.result.now ++ c.args.root ∷ []) = search rules in (
      c.raise.ensures.shown (after_hold b c.args.root.birth c.args.kind) (c.held_phases.ensures.shown b (s.0, s.1 ∙ eq)),
      held-holds b c.args.root.birth c.args.kind ∙ ap (λ (l : List ℕ). l ++ c.args.root.birth ∷ []) (s.1 ∙ eq)
          ∙ sym (births-more c.deref.result.now c.args.root) ∙ sym more,
    )

pub returns-clause-counts : goal.returns-clause-counts
returns-clause-counts g c =
    let eq : c.args.self.now.births ≡ births_of c.deref.result.now = search rules in
    let more : births_of c.push_reserved.new.self.items ≡ births_of (c.deref.result.now ++ c.args.root ∷ []) = search rules in
    let room : HasRoom c.args.root.birth c.args.self.now.births c.args.heap.now = c.exceeds_depth.ensures.room c.if-exceeds_depth.false in
    let after : HasRoom c.args.root.birth (births_of c.deref.result.now) c.held_phases.new.heap =
    room-acts c.args.heap.now c.held_phases.new.heap (births_of c.deref.result.now) c.args.root.birth c.held_phases.ensures.acts
    (subst (λ (l : List ℕ). HasRoom c.args.root.birth l c.args.heap.now) eq room) in
    subst (λ (l : List ℕ). CountsKept l c.raise.new.heap) (sym (births-more c.deref.result.now c.args.root) ∙ sym more)
    (c.raise.ensures.counts (births_of c.deref.result.now) c.held_phases.ensures.counts after)
