-- The map is of the records, which any two boards that stand at the same parts have in common.
use Rattle.std.proofs.Common.{◌≡◌, sym, ◌∙◌}
use Rattle.qo_layout.specs.Layout.{flat_view}
use Rattle.qo_layout.proofs.RecordsLemmas.{view-same}
use Rattle.qo_commands.proofs.memmap.board_view.Goals as goal

pub returns-in-Ok : goal.returns-in-Ok
returns-in-Ok g c = λ b stands.
    let good = c.reveal_board.ensures.stands in
    let shown : c.in-Ok.spans.items ≡ flat_view good.0 = c.in-Ok.ensures.view good.0 (rw c.heap.ensures good.1.shows) good.2.shape in
    shown ∙ view-same good.0 b (good.1.shows.records ∙ sym stands.shows.records)
