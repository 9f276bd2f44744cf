-- The list grows slot after slot.
use Rattle.std.proofs.Common.{◌≡◌, ◌-◌, ◌++◌, ◌∙◌, ap, suc, sym, ℕ, List, [], ◌∷◌, length, arith}
use Rattle.qo_slots.specs.declared.keys.Key.{Key}
use Rattle.qo_model.proofs.DepthLemmas.{one-less}
use Rattle.qo_heap.specs.Objects.{slots_of}
use Rattle.qo_layout.specs.Numbering.{births_of, post_within}
use Rattle.qo_layout.proofs.NumberingLemmas.{listed-all, listed-first, listed-next}
use Rattle.qo_layout.proofs.LeafLemmas.{none-first}
use Rattle.qo_layout.proofs.numbering.+numbering.Goals as goal

pub list_below-loop-at-init : goal.list_below-loop-at-init
list_below-loop-at-init g t c = (
  c.requires.all_live,
  λ b s shape.
      listed-first b (c.args.levels - 1) c.args.o.birth c.first_below-first.result c.is_of-bus.result (births_of c.args.objects.now.items)
      (c.is_of-bus.ensures.kind b s)
      (none-first b c.args.heap.now s shape c.args.o.birth c.wiring.result c.slot_count-count.result c.first_below-first.result (c.wiring.ensures b s)
      c.slot_count-count.ensures.count c.first_below-first.ensures.first),
)

pub list_below-loop-at-preserved : goal.list_below-loop-at-preserved
list_below-loop-at-preserved g t c = (
  c.in_ok-list_in_slot.ensures.all_live,
  λ b s shape.
      listed-next b c.args.heap.now s (c.args.levels - 1) c.args.o.birth c.loop-at.at c.slot_count-count.result c.is_of-bus.result
      (births_of c.args.objects.now.items) (births_of c.loop-at.objects.items) (births_of c.list_in_slot.new.objects.items) c.slot_count-count.ensures.count
      (omega arith) (c.loop-at.invariant.1 b s shape) (c.in_ok-list_in_slot.ensures.listed b s shape),
)

pub list_below-returns-clause-listed : goal.list_below-returns-clause-listed
list_below-returns-clause-listed g t c = λ b s shape.
    let last : c.loop-at.at ≡ length (slots_of c.args.heap.now c.args.o.birth) = omega (arith, c.slot_count-count.ensures.count, c.first_below-first.ensures.within) in
    let pushed : births_of c.push.new.self.items ≡ births_of (c.loop-at.objects.items ++ c.args.o ∷ []) =
    ap (λ (objects : List Key). births_of objects) c.in_ok-push.ensures.items in
    let all = one-less c.args.levels c.if-levels-eq0.false in
    let whole : births_of c.args.objects.now.items ++ post_within b (suc (c.args.levels - 1)) c.args.o.birth
    ≡ births_of c.args.objects.now.items ++ post_within b c.args.levels c.args.o.birth =
    ap (λ (n : ℕ). births_of c.args.objects.now.items ++ post_within b n c.args.o.birth) (sym all) in
    pushed
    ∙ listed-all b c.args.heap.now s (c.args.levels - 1) c.loop-at.at c.args.o c.is_of-bus.result (births_of c.args.objects.now.items) c.loop-at.objects.items
    (c.is_of-bus.ensures.kind b s) last (c.loop-at.invariant.1 b s shape)
    ∙ whole
