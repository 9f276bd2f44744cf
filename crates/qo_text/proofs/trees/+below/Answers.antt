-- A child's line, and the lines of what is below it.
use Rattle.std.proofs.Common.{◌≤◌, ◌-◌, ◌∙◌, ◌++◌, ap, length, string_bytes, sym, append-nil, arith}
use Rattle.std.specs.Prelude.{option_and_then, slice_get}
use Rattle.qo_model.specs.Board.{slots_at}
use Rattle.qo_text.specs.Trees.{child_entry}
use Rattle.qo_text.proofs.TreeTextLemmas.{all-slots, below-none, below-text, child-put, child_text, put-none}
use Rattle.qo_text.proofs.WalkLemmas.{walk-all, walk-more}
use Rattle.qo_text.proofs.trees.+below.Goals as goal

pub put_child-returns-in_default : goal.put_child-returns-in_default
put_child-returns-in_default g t c = λ b s.
    put-none (child_text b c.args.levels c.args.depth) (option_and_then child_entry (slice_get (slots_at b c.args.o.birth) c.args.at))
    (string_bytes c.args.text.now) (c.in_default.ensures.child b s)

pub put_child-returns : goal.put_child-returns
put_child-returns g t c = λ b s.
    child-put b c.args.levels c.args.depth (c.in-Some.name.now, c.in-Some.child.birth)
    (option_and_then child_entry (slice_get (slots_at b c.args.o.birth) c.args.at)) (string_bytes c.args.text.now) (string_bytes c.put_row.new.text)
    (string_bytes c.put_below.new.text) (c.in_ok-put_row.ensures b s) (c.in_ok-put_below.ensures b s) (c.in-Some.ensures.child b s)

pub put_below-returns-then-levels-eq0 : goal.put_below-returns-then-levels-eq0
put_below-returns-then-levels-eq0 g t c = λ b s.
    below-none b c.args.levels c.args.o.birth c.args.depth (string_bytes c.args.text.now) c.if-levels-eq0.true

pub put_below-loop-at-init : goal.put_below-loop-at-init
put_below-loop-at-init g t c = λ b s. sym (append-nil (string_bytes c.args.text.now))

pub put_below-loop-at-preserved : goal.put_below-loop-at-preserved
put_below-loop-at-preserved g t c = λ b s.
    walk-more (child_text b (c.args.levels - 1) c.args.depth) child_entry c.loop-at.at (slots_at b c.args.o.birth) (string_bytes c.args.text.now)
    (string_bytes c.loop-at.text) (string_bytes c.put_child.new.text) (c.loop-at.invariant b s) (c.in_ok-put_child.ensures b s)

pub put_below-returns : goal.put_below-returns
put_below-returns g t c = λ b s.
    let many = all-slots b c.args.heap.now s c.args.o.birth c.slot_count-count.result c.slot_count-count.ensures.count in
    let last : length (slots_at b c.args.o.birth) ≤ c.loop-at.at = omega (arith, many, c.loop-at-test.false) in
    walk-all (child_text b (c.args.levels - 1) c.args.depth) child_entry c.loop-at.at (slots_at b c.args.o.birth) (string_bytes c.args.text.now)
    (string_bytes c.loop-at.text) last (c.loop-at.invariant b s)
    ∙ ap (λ l. string_bytes c.args.text.now ++ l) (below-text b c.args.levels c.args.o.birth c.args.depth c.if-levels-eq0.false)
