use Rattle.std.proofs.Common.{◌∙◌, ap, List}
use Rattle.serde_json.specs.Data.{Data, array}
use Rattle.serde_json.specs.View.{items_of}
use Rattle.serde_json.proofs.Views.{view-Array}
use Rattle.qo_model.specs.Types.{slots_of}
use Rattle.qo_commands.proofs.ListingLemmas.{rows-more, rows-all}
use Rattle.qo_commands.proofs.types.row_listing.Goals as goal

pub loop-row-preserved : goal.loop-row-preserved
loop-row-preserved c = rows-more c.props-rows.result.now (slots_of c.args.t) c.props-rows.ensures c.loop-row.row-index _ _ _ c.loop-row-test.true
    c.loop-row.invariant c.in_ok-push_row.ensures

pub returns : goal.returns
returns c = view-Array c.loop-row.values ∙ ap (λ (l : List Data). array (items_of l))
    (c.loop-row.invariant ∙ rows-all c.props-rows.result.now c.args.t c.props-rows.ensures c.loop-row.row-index c.loop-row-test.false)
