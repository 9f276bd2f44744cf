-- What a line comes to is what it asks for.
use Rattle.std.proofs.Common.{◌≡◌, ◌∙◌, ap, sym, option_map, List, ℕ, None, Some, inl}
use Rattle.qo_heap.proofs.HeapLemmas.{on-err}
use Rattle.qo_commands.specs.Views.{done_of}
use Rattle.qo_text.specs.Lines.{line_of}
use Rattle.qo_text.specs.declared.lines.Line.TheVariants.{Bus, Do, Tree}
use Rattle.qo_machine.proofs.MachineLemmas.{seen_board, stands_in}
use Rattle.qo_machine.proofs.MonitorLemmas.{came-answered, came-told, left-line}
use Rattle.qo_machine.proofs.WiredLemmas.{left_answered}
use Rattle.qo_machine.proofs.machines.Core.monitor.Goals as goal

pub returns-in_default-clause-came : goal.returns-in_default-clause-came
returns-in_default-clause-came g c = λ b stands.
    came-told b c.args.command_line.now None (done_of b c.in_ok-tell_unreadable.field-0) (option_map (λ id. id.now) c.args.id) c.tell.result
    c.args.self.now.board (sym c.in_default.is ∙ c.in_ok-line.ensures ∙ ap line_of c.as_str.ensures) (c.in_ok-tell_unreadable.ensures b)
    (c.tell.ensures.came b stands)

pub returns-in_default-clause-left : goal.returns-in_default-clause-left
returns-in_default-clause-left g c = left_answered c.tell.result c.args.self.now.board c.args.self.now.lines c.tell.ensures.touched c.requires.wired

pub returns-in_default-clause-same : goal.returns-in_default-clause-same
returns-in_default-clause-same g c = on-err c.tell.result c.requires.wired

pub returns-in_default-clause-kept : goal.returns-in_default-clause-kept
returns-in_default-clause-kept g c = λ b stands. on-err c.tell.result (inl stands)

pub returns-in-Do-clause-came : goal.returns-in-Do-clause-came
returns-in-Do-clause-came g c = λ b stands.
    came-answered b c.args.command_line.now (Some (Do c.in-Do.change)) (option_map (λ id. id.now) c.args.id) c.change_by_line.result
    c.change_by_line.new.self.board
    (ap Some (sym c.in-Do.is) ∙ sym c.in-Some.is ∙ c.in_ok-line.ensures ∙ ap line_of c.as_str.ensures) (c.change_by_line.ensures.came b stands)

pub returns-in-Do-clause-kept : goal.returns-in-Do-clause-kept
returns-in-Do-clause-kept g c = λ b stands.
    left-line b c.args.command_line.now c.in-Do.change c.change_by_line.result c.change_by_line.new.self.board
    (ap Some (sym c.in-Do.is) ∙ sym c.in-Some.is ∙ c.in_ok-line.ensures ∙ ap line_of c.as_str.ensures) (c.change_by_line.ensures.kept b stands)

pub returns-in_ok-tell_tree-in-Tree-clause-came : goal.returns-in_ok-tell_tree-in-Tree-clause-came
returns-in_ok-tell_tree-in-Tree-clause-came g c = λ b stands.
    let here = stands_in b c.self.inside.board c.args.self.now (seen_board c.self.view_is) stands in
    came-told b c.args.command_line.now (Some Tree) (done_of b c.in_ok-tell_tree-in-Tree.field-0) (option_map (λ id. id.now) c.args.id) c.tell-in-Tree.result
    c.args.self.now.board (ap Some (sym c.in-Tree.is) ∙ sym c.in-Some.is ∙ c.in_ok-line.ensures ∙ ap line_of c.as_str.ensures)
    (c.in_ok-tell_tree-in-Tree.ensures b here) (c.tell-in-Tree.ensures.came b stands)

pub returns-in_ok-tell_tree-in-Tree-clause-left : goal.returns-in_ok-tell_tree-in-Tree-clause-left
returns-in_ok-tell_tree-in-Tree-clause-left g c = left_answered c.tell-in-Tree.result c.args.self.now.board c.args.self.now.lines c.tell-in-Tree.ensures.touched c.requires.wired

pub returns-in_ok-tell_tree-in-Tree-clause-same : goal.returns-in_ok-tell_tree-in-Tree-clause-same
returns-in_ok-tell_tree-in-Tree-clause-same g c = on-err c.tell-in-Tree.result c.requires.wired

pub returns-in_ok-tell_tree-in-Tree-clause-kept : goal.returns-in_ok-tell_tree-in-Tree-clause-kept
returns-in_ok-tell_tree-in-Tree-clause-kept g c = λ b stands. on-err c.tell-in-Tree.result (inl stands)

pub returns-in_ok-tell_buses-in-Bus-clause-came : goal.returns-in_ok-tell_buses-in-Bus-clause-came
returns-in_ok-tell_buses-in-Bus-clause-came g c = λ b stands.
    let here = stands_in b c.self-in-Bus.inside.board c.args.self.now (seen_board c.self-in-Bus.view_is) stands in
    came-told b c.args.command_line.now (Some Bus) (done_of b c.in_ok-tell_buses-in-Bus.field-0) (option_map (λ id. id.now) c.args.id) c.tell-in-Bus.result
    c.args.self.now.board (ap Some (sym c.in-Bus.is) ∙ sym c.in-Some.is ∙ c.in_ok-line.ensures ∙ ap line_of c.as_str.ensures)
    (c.in_ok-tell_buses-in-Bus.ensures b here) (c.tell-in-Bus.ensures.came b stands)

pub returns-in_ok-tell_buses-in-Bus-clause-left : goal.returns-in_ok-tell_buses-in-Bus-clause-left
returns-in_ok-tell_buses-in-Bus-clause-left g c = left_answered c.tell-in-Bus.result c.args.self.now.board c.args.self.now.lines c.tell-in-Bus.ensures.touched c.requires.wired

pub returns-in_ok-tell_buses-in-Bus-clause-same : goal.returns-in_ok-tell_buses-in-Bus-clause-same
returns-in_ok-tell_buses-in-Bus-clause-same g c = on-err c.tell-in-Bus.result c.requires.wired

pub returns-in_ok-tell_buses-in-Bus-clause-kept : goal.returns-in_ok-tell_buses-in-Bus-clause-kept
returns-in_ok-tell_buses-in-Bus-clause-kept g c = λ b stands. on-err c.tell-in-Bus.result (inl stands)
