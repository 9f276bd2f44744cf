use Rattle.std.proofs.Common.{ap, ◌∙◌, count_by}
use Rattle.qo_heap.proofs.ValueLemmas.{given-counted}
use Rattle.qo_heap.proofs.table.into_rest.Goals as goal

pub returns : goal.returns
returns g c = λ p.
    ap (count_by p) c.into_rest.ensures ∙ given-counted p c.args.table c.args.order.items c.requires.stored c.args.table.born c.requires.rising c.requires.all
