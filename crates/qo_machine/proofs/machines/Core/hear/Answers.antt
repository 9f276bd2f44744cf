-- What a line of the guest comes to, and what is left of the lines after it.
use Rattle.std.proofs.Common.{◌≡◌, ◌∙◌, ap, sym, subst}
use Rattle.std.proofs.lemmas.Result.{IfOk-weaker}
use Rattle.qo_commands.specs.Hearing.{Outcome, heard}
use Rattle.qo_commands.specs.Touched.{IsLeft}
use Rattle.qo_commands.proofs.InterruptLemmas.{left-after}
use Rattle.qo_layout.specs.Rows.{Wired}
use Rattle.qo_machine.specs.Machine.{Seen, answer_line}
use Rattle.qo_machine.proofs.MachineLemmas.{seen_board, stands_in}
use Rattle.qo_machine.proofs.machines.Core.hear.Goals as goal

pub returns-clause-came : goal.returns-clause-came
returns-clause-came g c = λ b stands.
    let came = c.in_ok-heard.ensures.came b (stands_in b c.self.inside.board c.args.self.now (seen_board c.self.view_is) stands) in
    record {
      stands = came.0;
      events = ap (λ (o : Outcome). o.events) came.1;
      ends = ap (λ (o : Outcome). o.ends) came.1;
      replied = IfOk-weaker c.guest_text.result _ _ (λ text is. is ∙ ap (λ (o : Outcome). answer_line o.answer) came.1) c.guest_text.ensures;
    }

pub returns-clause-left : goal.returns-clause-left
returns-clause-left g c =
    let lines : c.self.inside.lines ≡ c.args.self.now.lines = ap (λ (m : Seen). m.lines) c.self.view_is in
    subst (IsLeft c.in_ok-heard.heard.touched c.hear.new.board) (sym lines)
    (left-after c.in_ok-heard.heard.touched c.args.self.now.board c.hear.new.board c.args.self.now.lines c.requires.wired c.reveal_board.ensures.stands
    (λ b sound stands.
    let here = stands_in b c.self.inside.board c.args.self.now (seen_board c.self.view_is) stands in
    record {
      board = (heard b c.args.line.now).board;
      touches = c.in_ok-heard.ensures.touched b here;
      stands = (c.in_ok-heard.ensures.came b here).0;
    }))
