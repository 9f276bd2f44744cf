use Rattle.std.proofs.Common.{◌≡◌, take, get_or}
use Rattle.qo_memmap.specs.Regions.{children_rank}
use Rattle.qo_memmap.proofs.region.rank_over.Given as goal

abbrev pub invariant-loop-place : goal.invariant-loop-place
invariant-loop-place l = l.rank ≡ children_rank (λ r. get_or l.ranks r 0) (take l.place-index l.places)
