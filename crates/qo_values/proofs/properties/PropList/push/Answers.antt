use Rattle.std.proofs.Common.{◌≡◌, true, rules}
use Rattle.qo_values.specs.PropertyLists.{names_of, is_above}
use Rattle.qo_values.proofs.NameOrder.{pairs_push}
use Rattle.qo_values.proofs.properties.PropList.push.Goals as goal

pub invariant_of-self-2 : goal.invariant_of-self-2
invariant_of-self-2 c =
    let above : is_above (names_of c.self.inside.pairs.items) c.args.name ≡ true = search rules in
    rw c.in_ok-push.ensures.items (pairs_push c.self.inside.pairs.items (c.args.name, c.args.val) c.self.invariant above)
