use Rattle.std.proofs.Common.{◌≡◌, ◌++◌, ◌∷◌, [], rules}
use Rattle.qo_values.proofs.NameOrder.{last_pair_decides}
use Rattle.qo_values.proofs.properties.is_above.Goals as goal

pub returns-in-Some : goal.returns-in-Some
returns-in-Some c =
    let split : c.args.pairs.now ≡ c.in-Some.field-0-1.now ++ c.in-Some.last.now ∷ [] = search rules in
    let decides = last_pair_decides c.args.pairs.now c.in-Some.field-0-1.now c.in-Some.last.now c.args.name.now split c.requires in
    rw (c.lt.ensures, c.as_str.ensures) decides
