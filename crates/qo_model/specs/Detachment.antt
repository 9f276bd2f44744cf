-- The objects without a parent, as they are told (the profile's `x-query-detached`).
use Rattle.std.specs.Prelude.{List, map}
use Rattle.qo_model.specs.Board.{Board, Record}
use Rattle.qo_model.specs.Objects.{detached}
use Rattle.qo_model.specs.References.{refs}
use Rattle.qo_model.specs.declared.detached.Detached.{Detached}

-- an object, by its birth, its references and its type
abbrev pub detached_row : Board → Record → Detached
detached_row b r = record { birth = r.birth; refs = refs b r.birth; kind = r.kind }

-- those without a parent, in the order of births
abbrev pub detached_listed : Board → List Detached
detached_listed b = map (detached_row b) (detached b)
