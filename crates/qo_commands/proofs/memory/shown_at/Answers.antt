-- The map is of the records, which any two boards that stand at the same parts have in common.
use Rattle.std.proofs.Common.{◌≡◌, sym, ◌∙◌}
use Rattle.qo_layout.specs.Kept.{IsViewOf}
use Rattle.qo_layout.specs.Layout.{register_at}
use Rattle.qo_layout.proofs.RecordsLemmas.{register-same}
use Rattle.qo_commands.proofs.KeptViewLemmas.{view-made, view-of}
use Rattle.qo_commands.proofs.memory.shown_at.Goals as goal

pub returns-in-Ok-clause-place : goal.returns-in-Ok-clause-place
returns-in-Ok-clause-place g c = λ b stands.
    let good = c.reveal_board.ensures.stands in
    let is : IsViewOf good.0 c.args.view.now = view-of c.args.board.now c.args.view.now c.requires good.0 good.1 in
    let shown : c.in-Ok.place ≡ register_at good.0 c.args.at = c.in-Ok.ensures.place good.0 (rw c.heap.ensures good.1.shows) good.2.shape is in
    shown ∙ register-same good.0 b c.args.at (good.1.shows.records ∙ sym stands.shows.records)

pub returns-in-Ok-clause-view : goal.returns-in-Ok-clause-view
returns-in-Ok-clause-view g c =
    let good = c.reveal_board.ensures.stands in
    let is : IsViewOf good.0 c.args.view.now = view-of c.args.board.now c.args.view.now c.requires good.0 good.1 in
    view-made c.args.board.now c.register_at.new.self good.0 good.1 (c.register_at.ensures.kept good.0 (rw c.heap.ensures good.1.shows) good.2.shape is)

pub returns-in-Err-clause-view : goal.returns-in-Err-clause-view
returns-in-Err-clause-view g c =
    let good = c.reveal_board.ensures.stands in
    let is : IsViewOf good.0 c.args.view.now = view-of c.args.board.now c.args.view.now c.requires good.0 good.1 in
    view-made c.args.board.now c.register_at.new.self good.0 good.1 (c.register_at.ensures.kept good.0 (rw c.heap.ensures good.1.shows) good.2.shape is)
