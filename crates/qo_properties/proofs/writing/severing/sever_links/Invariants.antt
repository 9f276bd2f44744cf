-- The strong links before the place are let go.
use Rattle.qo_properties.proofs.SeveringLemmas.{Severing}
use Rattle.qo_properties.proofs.writing.severing.sever_links.Given as goal

abbrev pub invariant-loop-at : goal.invariant-loop-at
invariant-loop-at g l = Severing l.fn.heap l.heap l.o l.count l.at
