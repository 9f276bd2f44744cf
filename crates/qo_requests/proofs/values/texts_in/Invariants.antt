use Rattle.std.proofs.Common.{◌≡◌, ◌++◌, drop}
use Rattle.qo_json.specs.View.{items_view}
use Rattle.qo_requests.specs.Values.{texts_in}
use Rattle.qo_requests.proofs.values.texts_in.Given as goal

-- all texts are those read so far, and after them what is left
abbrev pub invariant-loop-item : goal.invariant-loop-item
invariant-loop-item l = texts_in (items_view l.items) ≡ l.texts.items ++ texts_in (items_view (drop l.item-index l.items))
