-- What a command leaves, and what is left of the lines.
use Rattle.std.proofs.Common.{◌≡◌, ap, sym, subst}
use Rattle.std.specs.Prelude.{IfOk, OnErr}
use Rattle.qo_commands.specs.Interrupts.{HasLines}
use Rattle.qo_commands.specs.Touched.{IsLeft}
use Rattle.qo_commands.proofs.InterruptLemmas.{left-changed, same-changed}
use Rattle.qo_layout.specs.Rows.{Wired}
use Rattle.qo_machine.specs.Machine.{Seen}
use Rattle.qo_machine.proofs.MachineLemmas.{seen_board, stands_in}
use Rattle.qo_machine.proofs.machines.Core.apply.Goals as goal

pub returns-clause-came : goal.returns-clause-came
returns-clause-came g c = λ b stands.
    c.change-done.ensures.came b (stands_in b c.self.inside.board c.args.self.now (seen_board c.self.view_is) stands)

pub returns-clause-left : goal.returns-clause-left
returns-clause-left g c =
    let lines : c.self.inside.lines ≡ c.args.self.now.lines = ap (λ (m : Seen). m.lines) c.self.view_is in
    subst (λ (l : Wired). IfOk c.change-done.result (λ d. IsLeft d.touched c.change-done.new.board l)) (sym lines)
    (left-changed c.change-done.result c.args.change.now c.args.self.now.board c.change-done.new.board c.args.self.now.lines c.requires.wired
    c.reveal_board.ensures.stands
    (λ b stands. c.change-done.ensures.came b (stands_in b c.self.inside.board c.args.self.now (seen_board c.self.view_is) stands))
    (λ b stands. c.change-done.ensures.touched b (stands_in b c.self.inside.board c.args.self.now (seen_board c.self.view_is) stands)))

pub returns-clause-same : goal.returns-clause-same
returns-clause-same g c =
    let lines : c.self.inside.lines ≡ c.args.self.now.lines = ap (λ (m : Seen). m.lines) c.self.view_is in
    subst (λ (l : Wired). OnErr c.change-done.result (HasLines c.change-done.new.board l)) (sym lines)
    (same-changed c.change-done.result c.args.change.now c.args.self.now.board c.change-done.new.board c.args.self.now.lines c.requires.wired
    c.reveal_board.ensures.stands
    (λ b stands. c.change-done.ensures.came b (stands_in b c.self.inside.board c.args.self.now (seen_board c.self.view_is) stands)))
