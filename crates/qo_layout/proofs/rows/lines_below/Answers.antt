-- The lines come slot after slot.
use Rattle.std.proofs.Common.{rules, ◌≡◌, ◌≤◌, ◌∙◌, sym, Err, arith}
use Rattle.qo_layout.proofs.BelowLemmas.{all-slot, err-memory, leaf-none, lines-all, lines-first, lines-next, lines-none}
use Rattle.qo_layout.proofs.LeafLemmas.{none-first}
use Rattle.qo_layout.proofs.rows.lines_below.Goals as goal

pub returns-in_err-push_line-clause-err : goal.returns-in_err-push_line-clause-err
returns-in_err-push_line-clause-err g c = λ b s all.
    let is : c.from_residual.result ≡ Err c.in_err-push_line.field-0.0 = search rules in
    err-memory c.from_residual.result c.in_err-push_line.field-0.0 is
    (c.in_err-push_line.ensures.err b s (all-slot b c.args.rows.now c.args.o.birth c.loop-at.at c.is_of-bus.result (c.is_of-bus.ensures.kind b s) all))

pub returns-then-is_leaf-clause-lines : goal.returns-then-is_leaf-clause-lines
returns-then-is_leaf-clause-lines g c = λ b s shape is.
    rw c.new-lines.ensures.items (leaf-none b c.args.heap.now s shape c.args.rows.now c.args.o.birth c.args.driven is
    (sym c.is_leaf.ensures ∙ c.if-is_leaf.true))

pub returns-then-first-count-clause-lines : goal.returns-then-first-count-clause-lines
returns-then-first-count-clause-lines g c = λ b s shape is.
    rw c.new-lines.ensures.items (lines-none b c.args.heap.now s shape c.args.rows.now c.args.o.birth c.args.driven c.slot_count-count.result
    c.first_below-first.result is c.slot_count-count.ensures.count c.first_below-first.ensures.first (omega (arith, c.if-first-count.true)))

pub loop-at-init : goal.loop-at-init
loop-at-init g c = λ b s shape is.
    lines-first b c.args.rows.now c.args.o.birth c.first_below-first.result c.is_of-bus.result _ (c.is_of-bus.ensures.kind b s)
    (none-first b c.args.heap.now s shape c.args.o.birth c.args.driven c.slot_count-count.result c.first_below-first.result is c.slot_count-count.ensures.count
    c.first_below-first.ensures.first)
    c.new-lines.ensures.items

pub loop-at-preserved : goal.loop-at-preserved
loop-at-preserved g c = λ b s shape is.
    lines-next b c.args.heap.now s c.args.rows.now c.args.o.birth c.loop-at.at c.slot_count-count.result c.is_of-bus.result c.loop-at.lines.items
    c.push_line.new.lines.items c.slot_count-count.ensures.count (omega arith) (c.loop-at.invariant b s shape is) (c.in_ok-push_line.ensures.pushed b s)

pub returns-clause-lines : goal.returns-clause-lines
returns-clause-lines g c = λ b s shape is.
    let last : c.slot_count-count.result ≤ c.loop-at.at = omega arith in
    lines-all b c.args.heap.now s c.args.rows.now c.args.o.birth c.loop-at.at c.slot_count-count.result c.is_of-bus.result c.loop-at.lines.items
    c.slot_count-count.ensures.count last (c.is_of-bus.ensures.kind b s) (c.loop-at.invariant b s shape is)
