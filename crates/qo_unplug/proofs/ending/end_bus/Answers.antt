-- The act, and then the holds.
use Rattle.std.proofs.Common.{◌≡◌, refl, ◌∙◌, sym, subst, [], Some}
use Rattle.qo_values.specs.declared.kinds.Act.TheVariants.{Unrealize}
use Rattle.qo_model.specs.Clocks.{acted}
use Rattle.qo_model.specs.Unplug.{unheld, unrealized_bus}
use Rattle.qo_hotplug.specs.Hotplug.{nothing_asked}
use Rattle.qo_heap.specs.Objects.{Objects}
use Rattle.qo_reset.specs.Turns.{counted, sided}
use Rattle.qo_properties.specs.KeptClaims.{kept_by}
use Rattle.qo_properties.proofs.KeptLemmas.{claims-before, counts-before}
use Rattle.qo_unplug.specs.Unrealizing.{Undoes, nothing_needed, parts}
use Rattle.qo_unplug.proofs.StepLemmas.{clears-heap, clears-then, clears-unheld, undoes-then, undoes-unheld}
use Rattle.qo_unplug.proofs.KeptLemmas.{due-stays, kept-edited}
use Rattle.qo_unplug.proofs.RealizedLemmas.{same_lit-acted}
use Rattle.qo_unplug.proofs.ending.end_bus.Goals as goal

pub gone-requires : goal.gone-requires
gone-requires g c = (c.act.ensures.undoes [] nothing_asked).live c.args.bus c.requires.live

pub returns : goal.returns
returns g c = λ asked.
    let n = c.args.bus.birth in
    let held = c.args.resets.now.births in
    let s = parts c.args.heap.now held asked in
    let t = parts c.gone.new.heap c.gone.new.self.births asked in
    let undoes : Undoes nothing_needed (λ _. unrealized_bus n) s t =
    undoes-then nothing_needed nothing_needed (λ _ d. acted Unrealize n 0 d) (λ _. unheld n) s (parts c.act.new.heap held asked) t
    (λ b e same after needed. tt) (c.act.ensures.undoes held asked)
    (undoes-unheld n c.act.new.heap c.gone.new.heap held c.gone.new.self.births asked c.gone.ensures.holds c.gone.ensures.now) in
    record {
      undoes = undoes;
      clears =
          clears-then nothing_needed nothing_needed (λ _ d. acted Unrealize n 0 d) (λ _. unheld n) c.args.heap.now c.act.new.heap c.gone.new.heap
          (λ b e same after needed. tt)
          (clears-heap nothing_needed (λ _ d. acted Unrealize n 0 d) c.args.heap.now c.act.new.heap c.act.ensures.undoes
          (counts-before c.args.heap.now c.act.new.heap c.act.ensures.kept))
          (clears-unheld n c.act.new.heap c.gone.new.heap c.gone.ensures.now);
      claims = λ b e ticks needed way beside due h.
          due-stays due e (unrealized_bus n e) c.args.heap.now c.gone.new.heap (way.tree.ticks ticks).named
          ((undoes.way b e ticks needed way beside).tree.ticks ticks).named (undoes.shown b e ticks needed way beside).shown h (same_lit-acted n 0 e)
          (λ m k at. claims-before c.args.heap.now c.act.new.heap c.act.ensures.kept m k
          (sym (kept-edited c.act.new.heap n (sided (counted 0)) (λ d. refl) m)
          ∙ subst (λ (x : Objects). kept_by x m ≡ Some k) c.gone.ensures.now at));
    }
