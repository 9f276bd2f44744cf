use Rattle.std.proofs.Common.{leb, rules}
use Rattle.std.proofs.lemmas.List.Sorted.{IsPartitionPoint-from_clause, IsPartitionedBy-leb}
use Rattle.qo_memmap.specs.declared.span.Span.{Span}
use Rattle.qo_memmap.proofs.FindLemmas.{starts-rise}
use Rattle.qo_memmap.proofs.span.begun_by.Goals as goal

pub returns-clause-point : goal.returns-clause-point
returns-clause-point c =
    IsPartitionPoint-from_clause (λ (s : Span). leb s.at c.args.address) c.args.spans.now c.partition_point.result c.partition_point.ensures.partitioned
    (IsPartitionedBy-leb (λ (s : Span). s.at) c.args.spans.now c.args.address (starts-rise 0 c.args.spans.now c.requires))
    (λ a r q k. search rules)
