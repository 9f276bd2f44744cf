use Rattle.std.proofs.Common.{◌≡◌, drop}
use Rattle.qo_json.specs.View.{items_view}
use Rattle.qo_requests.specs.Arguments.{all_texts}
use Rattle.qo_requests.proofs.arguments.all_texts.Given as goal

-- all are texts where those that are left are
abbrev pub invariant-loop-item : goal.invariant-loop-item
invariant-loop-item l = all_texts (items_view l.items) ≡ all_texts (items_view (drop l.item-index l.items))
