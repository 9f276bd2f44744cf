-- The act and the clock, the value, the claims, and what stands beside the tree.
use Rattle.std.proofs.Common.{◌≡◌, refl, ◌∙◌, ap, sym, subst, ℕ, Some, [], codes, false}
use Rattle.qo_values.specs.declared.kinds.Act.TheVariants.{Unrealize}
use Rattle.qo_values.specs.declared.properties.Val.TheVariants as val
use Rattle.qo_kinds.specs.declared.kept_set.KeptSet.{KeptSet}
use Rattle.qo_model.specs.Board.{Board}
use Rattle.qo_model.specs.Clocks.{acted, device_period}
use Rattle.qo_model.specs.Devices.{clock_of}
use Rattle.qo_model.specs.Unplug.{disconnected, set_named, unheld, unnoticed, unrealized_device}
use Rattle.qo_hotplug.specs.Hotplug.{nothing_asked}
use Rattle.qo_heap.specs.Objects.{Objects}
use Rattle.qo_reset.specs.Turns.{counted, sided}
use Rattle.qo_properties.specs.KeptClaims.{kept_by}
use Rattle.qo_unplug.specs.Feeding.{FeedsNone}
use Rattle.qo_unplug.specs.Unrealizing.{Undoes, nothing_needed, parts}
use Rattle.qo_unplug.proofs.StepLemmas.{clears-heap, clears-then, clears-unheld, clears-unnoticed, nothing-met, undoes-then, undoes-unheld, undoes-unnoticed}
use Rattle.qo_properties.proofs.KeptLemmas.{claims-before, counts-before}
use Rattle.qo_unplug.proofs.KeptLemmas.{due-device, kept-edited}
use Rattle.qo_unplug.proofs.ending.end_device.Goals as goal

pub unset-requires : goal.unset-requires
unset-requires g c = (c.stop.ensures.undoes [] nothing_asked).live c.args.dev c.requires.live

pub free_claims-requires : goal.free_claims-requires
free_claims-requires g c =
    (c.unset.ensures.undoes [] nothing_asked).live c.args.dev ((c.stop.ensures.undoes [] nothing_asked).live c.args.dev c.requires.live)

pub gone-requires : goal.gone-requires
gone-requires g c =
    (c.free_claims.ensures.undoes [] nothing_asked).live c.args.dev
    ((c.unset.ensures.undoes [] nothing_asked).live c.args.dev ((c.stop.ensures.undoes [] nothing_asked).live c.args.dev c.requires.live))

pub returns : goal.returns
returns g c =
    let n = c.args.dev.birth in
    let held = c.args.resets.now.births in
    let asked = c.args.hotplug.now in
    let after = c.gone.new.self.births in
    let first : Board → Board → Board = λ _ d. disconnected (clock_of d n) (acted Unrealize n (device_period d n) d) in
    let second : Board → Board → Board = λ b d. set_named n (codes "realized") (val.Bool false) (first b d) in
    let third : Board → Board → Board = λ b d. unheld n (second b d) in
    let s = parts c.args.heap.now held asked in
    let stopped = c.stop.ensures.undoes held asked in
    let heap = c.args.heap.now in
    let cleared = c.gone.new.heap in
    let fed : Board → Board → Type 0 = λ _. FeedsNone n in
    let undoes : Undoes fed (λ _. unrealized_device n) s (parts cleared after c.gone-2.new.self) =
    undoes-then fed nothing_needed third (λ _. unnoticed n) (parts heap held asked) (parts cleared after asked) (parts cleared after c.gone-2.new.self)
    (nothing-met fed third)
    (undoes-then fed nothing_needed second (λ _. unheld n) (parts heap held asked) (parts c.free_claims.new.heap held asked) (parts cleared after asked)
    (nothing-met fed second)
    (undoes-then fed nothing_needed second (λ _ d. d) (parts heap held asked) (parts c.unset.new.heap held asked) (parts c.free_claims.new.heap held asked)
    (nothing-met fed second)
    (undoes-then fed nothing_needed first (λ _. set_named n (codes "realized") (val.Bool false)) (parts heap held asked) (parts c.stop.new.heap held asked)
    (parts c.unset.new.heap held asked) (nothing-met fed first) (c.stop.ensures.undoes held asked) (c.unset.ensures.undoes held asked))
    (c.free_claims.ensures.undoes held asked))
    (undoes-unheld n c.free_claims.new.heap cleared held after asked c.gone.ensures.holds c.gone.ensures.now))
    (undoes-unnoticed n cleared after asked c.gone-2.new.self c.gone-2.ensures) in
    let unkept = kept-edited c.free_claims.new.heap n (sided (counted 0)) (λ d. refl) in
    let before : (m : ℕ) (k : KeptSet) → kept_by cleared m ≡ Some k → kept_by c.free_claims.new.heap m ≡ Some k =
    λ m k at. sym (unkept m) ∙ subst (λ (x : Objects). kept_by x m ≡ Some k) c.gone.ensures.now at in
    record {
      undoes = undoes;
      clears =
          clears-then fed nothing_needed third (λ _. unnoticed n) heap cleared cleared (nothing-met fed third)
          (clears-then fed nothing_needed second (λ _. unheld n) heap c.free_claims.new.heap cleared (nothing-met fed second)
          (clears-then fed nothing_needed second (λ _ d. d) heap c.unset.new.heap c.free_claims.new.heap (nothing-met fed second)
          (clears-then fed nothing_needed first (λ _. set_named n (codes "realized") (val.Bool false)) heap c.stop.new.heap c.unset.new.heap
          (nothing-met fed first)
          (clears-heap fed first heap c.stop.new.heap c.stop.ensures.undoes c.stop.ensures.counts)
          (clears-heap nothing_needed (λ _. set_named n (codes "realized") (val.Bool false)) c.stop.new.heap c.unset.new.heap c.unset.ensures.undoes
          (counts-before c.stop.new.heap c.unset.new.heap c.unset.ensures.kept)))
          (clears-heap nothing_needed (λ _ d. d) c.unset.new.heap c.free_claims.new.heap c.free_claims.ensures.undoes
          (λ m k e. sym (c.free_claims.ensures.counts m) ∙ e)))
          (clears-unheld n c.free_claims.new.heap cleared c.gone.ensures.now))
          (clears-unnoticed n cleared);
      claims = λ b e ticks needed way beside due h.
          due-device n e due heap c.unset.new.heap cleared (way.tree.ticks ticks).named ((stopped.way b e ticks needed way beside).tree.ticks ticks).named
          ((undoes.way b e ticks needed way beside).tree.ticks ticks).named (undoes.shown b e ticks needed way beside).shown
          (λ m k at. c.stop.ensures.claims m k (claims-before c.stop.new.heap c.unset.new.heap c.unset.ensures.kept m k at))
          (ap (λ (x : Objects). kept_by x n) c.gone.ensures.now ∙ unkept n ∙ c.free_claims.ensures.bare)
          (λ m k apart at. c.free_claims.ensures.others m k apart (before m k at)) h;
    }
