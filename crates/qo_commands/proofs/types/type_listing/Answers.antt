use Rattle.std.proofs.Common.{◌∙◌, ap, List}
use Rattle.serde_json.specs.Data.{Data, array}
use Rattle.serde_json.specs.View.{items_of}
use Rattle.serde_json.proofs.Views.{view-Array}
use Rattle.qo_commands.proofs.ListingLemmas.{types-more, types-all}
use Rattle.qo_commands.proofs.types.type_listing.Goals as goal

pub loop-t-preserved : goal.loop-t-preserved
loop-t-preserved c = types-more c.args.types.now c.loop-t.t-index _ _ _ c.loop-t-test.true c.loop-t.invariant c.in_ok-push_type.ensures

pub returns : goal.returns
returns c = view-Array c.loop-t.values ∙ ap (λ (l : List Data). array (items_of l))
    (c.loop-t.invariant ∙ types-all c.args.types.now c.loop-t.t-index c.loop-t.auto.t-index-end c.loop-t-test.false)
