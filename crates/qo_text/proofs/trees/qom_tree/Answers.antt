-- The root's line, and the lines of what is below it.
use Rattle.std.proofs.Common.{string_bytes, codes, ◌∙◌, ap, ◌++◌}
use Rattle.qo_text.proofs.TreeTextLemmas.{tree-empty, tree-whole}
use Rattle.qo_text.proofs.trees.qom_tree.Goals as goal

pub returns-in_default : goal.returns-in_default
returns-in_default g c = λ b s.
    c.in_ok-push_str.ensures.bytes ∙ ap (λ l. l ++ codes "/ ()\n") c.new-text.ensures.bytes ∙ tree-empty b c.args.heap.now s c.in_default.ensures.none

pub returns : goal.returns
returns g c = λ b s.
    tree-whole b c.args.heap.now s c.live.result c.in-Some.root.birth (string_bytes c.new-text.result) (string_bytes c.put_row.new.text)
    (string_bytes c.put_below.new.text) c.in-Some.ensures.born c.live.ensures c.new-text.ensures.bytes (c.in_ok-put_row.ensures b s)
    (c.in_ok-put_below.ensures b s)
