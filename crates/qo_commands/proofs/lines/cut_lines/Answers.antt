-- One byte more.
use Rattle.std.proofs.Common.{refl, arith}
use Rattle.qo_commands.proofs.LineLemmas.{lines-more}
use Rattle.qo_commands.proofs.lines.cut_lines.Goals as goal

pub loop-byte-preserved : goal.loop-byte-preserved
loop-byte-preserved c =
    lines-more c.args.kept.now.items c.args.piece.now c.loop-byte.kept.items c.add_byte.new.kept.items c.loop-byte.lines.items c.add_byte.new.lines.items
    c.loop-byte.byte-index _ (omega arith) refl
    c.loop-byte.invariant c.in_ok-add_byte.ensures
