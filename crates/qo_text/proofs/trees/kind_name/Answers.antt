-- The type is that of the board.
use Rattle.std.proofs.Common.{sym, ap, ◌∙◌}
use Rattle.qo_heap.proofs.BoardReads.{shows-kind}
use Rattle.qo_text.specs.Trees.{kind_text}
use Rattle.qo_text.proofs.trees.kind_name.Goals as goal

pub returns : goal.returns
returns g c = λ b s. c.name.ensures ∙ sym (ap kind_text (shows-kind b c.args.heap.now s c.args.o.birth ∙ c.kind.ensures.kind))
