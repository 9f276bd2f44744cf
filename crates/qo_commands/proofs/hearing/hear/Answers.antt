-- What the line is, is what it comes to.
use Rattle.std.proofs.Common.{◌≡◌, ap, sym, subst, ◌∙◌, true, false, cond, Bool, None}
use Rattle.std.specs.Result.{result_ok}
use Rattle.qo_guest.specs.declared.answers.GuestAnswer.TheVariants.{NoLine, NoStopped}
use Rattle.qo_layout.specs.Kept.{Kept}
use Rattle.qo_commands.specs.Hearing.{acted, heard}
use Rattle.qo_commands.proofs.HearingLemmas.{came-answered, heard-acted, heard-none, heard-stopped, if_came, none-of}
use Rattle.qo_commands.proofs.TouchedLemmas.{if_touches, touches-answered}
use Rattle.qo_commands.specs.KeptViews.{HasView}
use Rattle.qo_commands.proofs.KeptViewLemmas.{view-acted}
use Rattle.qo_commands.proofs.hearing.hear.Goals as goal

pub returns-in_default-clause-came : goal.returns-in_default-clause-came
returns-in_default-clause-came g c = λ b s.
    let none = sym c.read_line.ensures ∙ none-of c.read_line.result c.in_default.not-Ok in
    came-answered b (heard b c.args.line.now) NoLine c.answered.result c.args.board.now (heard-none b c.args.line.now none) c.answered.ensures s

pub returns-then-not-running-clause-came : goal.returns-then-not-running-clause-came
returns-then-not-running-clause-came g c = λ b s.
    let stopped : b.running ≡ false = sym (c.running.ensures b s) ∙ c.if-not-running.true in
    came-answered b (heard b c.args.line.now) NoStopped c.answered-then-not-running.result c.args.board.now
    (heard-stopped b c.args.line.now c.in-Ok.read (sym c.read_line.ensures ∙ ap result_ok c.in-Ok.is) stopped) c.answered-then-not-running.ensures s

pub returns-clause-came : goal.returns-clause-came
returns-clause-came g c = λ b s.
    let runs : b.running ≡ true = sym (c.running.ensures b s) ∙ c.if-not-running.false in
    if_came c.act-heard.result (heard b c.args.line.now) (acted b c.in-Ok.read) c.act-heard.new.board
    (heard-acted b c.args.line.now c.in-Ok.read (sym c.read_line.ensures ∙ ap result_ok c.in-Ok.is) runs) (c.act-heard.ensures.came b s)

-- and what it touched

pub returns-in_default-clause-touched : goal.returns-in_default-clause-touched
returns-in_default-clause-touched g c = λ b s.
    let none = sym c.read_line.ensures ∙ none-of c.read_line.result c.in_default.not-Ok in
    touches-answered b (heard b c.args.line.now) NoLine c.answered.result (heard-none b c.args.line.now none) c.answered.ensures

pub returns-then-not-running-clause-touched : goal.returns-then-not-running-clause-touched
returns-then-not-running-clause-touched g c = λ b s.
    let stopped : b.running ≡ false = sym (c.running.ensures b s) ∙ c.if-not-running.true in
    touches-answered b (heard b c.args.line.now) NoStopped c.answered-then-not-running.result
    (heard-stopped b c.args.line.now c.in-Ok.read (sym c.read_line.ensures ∙ ap result_ok c.in-Ok.is) stopped) c.answered-then-not-running.ensures

pub returns-clause-touched : goal.returns-clause-touched
returns-clause-touched g c = λ b s.
    let runs : b.running ≡ true = sym (c.running.ensures b s) ∙ c.if-not-running.false in
    if_touches c.act-heard.result b (heard b c.args.line.now) (acted b c.in-Ok.read)
    (heard-acted b c.args.line.now c.in-Ok.read (sym c.read_line.ensures ∙ ap result_ok c.in-Ok.is) runs) (c.act-heard.ensures.touched b s)

-- and what is kept of the view

pub returns-clause-view : goal.returns-clause-view
returns-clause-view g c =
    subst (λ (kept : Kept). HasView c.act-heard.new.board kept)
    (sym (c.keep_if.ensures ∙ ap (λ (leaves : Bool). cond leaves c.act-heard.new.view None) c.leaves_objects.ensures))
    (view-acted c.args.board.now c.act-heard.new.board c.args.lines.now c.in-Ok.read c.act-heard.result c.act-heard.new.view c.requires.lines c.act-heard.ensures.came c.act-heard.ensures.err
    c.act-heard.ensures.view)
