use Rattle.std.proofs.Common.{◌≡◌, ◌∙◌, ◌+◌, ℕ, List, ap, sym, suc, length, false, arith}
use Rattle.std.specs.List.{list_any}
use Rattle.qo_reset.specs.Phases.{below_on, exceeds_depth_at, post_by}
use Rattle.qo_reset.proofs.BoardLemmas.{shows-deep}
use Rattle.qo_reset.proofs.LiveLemmas.{full-below, has-room, live-there}
use Rattle.qo_reset.proofs.resets.Resets.exceeds_depth.Goals as goal

-- by what is kept, as by the holds
counted : (g : _) (c : goal.After-exceeds_depth_below g)
    → c.exceeds_depth_below.result
    ≡ list_any (exceeds_depth_at c.args.heap.now c.args.self.now.births) (post_by (below_on c.args.heap.now) (c.live-levels.result + 1) c.args.root.birth)
counted g c =
    c.exceeds_depth_below.ensures
    ∙ full-below c.args.heap.now c.reveal_invariant.ensures c.args.self.now.births c.args.root.birth (c.live-levels.result + 1)
    (live-there c.args.heap.now c.args.root c.requires.live) c.requires.counts

pub returns-clause-exceeds : goal.returns-clause-exceeds
returns-clause-exceeds g c = λ b s.
    counted g c
    ∙ ap (λ (holds : List ℕ).
    list_any (exceeds_depth_at c.args.heap.now holds) (post_by (below_on c.args.heap.now) (c.live-levels.result + 1) c.args.root.birth))
    (sym s.1)
    ∙ shows-deep b c.args.heap.now c.args.root.birth (c.live-levels.result + 1) s.0 (ap (λ (k : ℕ). k + 1) c.live-levels.ensures)

pub returns-clause-room : goal.returns-clause-room
returns-clause-room g c = λ none.
    let levels : suc (length c.args.heap.now.rows) ≡ c.live-levels.result + 1 = let is = c.live-levels.ensures in omega (arith, is) in
    has-room c.args.heap.now c.args.self.now.births c.args.root.birth
    (ap (λ (d : ℕ). list_any (exceeds_depth_at c.args.heap.now c.args.self.now.births) (post_by (below_on c.args.heap.now) d c.args.root.birth)) levels
    ∙ sym (counted g c)
    ∙ none)
