-- A strong link is let go, any other slot stays.
use Rattle.std.proofs.Common.{sym, ◌∙◌}
use Rattle.qo_properties.proofs.SeveringLemmas.{goes-severed, goes-unsevered}
use Rattle.qo_properties.proofs.writing.severing.sever_at.Goals as goal

pub returns-then-is_strong_at : goal.returns-then-is_strong_at
returns-then-is_strong_at g c =
    goes-severed c.args.heap.now c.let_go.new.heap c.args.o.birth c.args.at (sym c.is_strong_at.ensures ∙ c.if-is_strong_at.true) c.let_go.ensures.goes

pub returns-else-is_strong_at : goal.returns-else-is_strong_at
returns-else-is_strong_at g c =
    goes-unsevered c.args.heap.now c.args.o.birth c.args.at (sym c.is_strong_at.ensures ∙ c.if-is_strong_at.false)
