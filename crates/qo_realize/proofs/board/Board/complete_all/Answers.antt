-- One removal more has come to its end, where one was pending.
use Rattle.std.proofs.Common.{sym, subst, ◌+◌, ◌∙◌}
use Rattle.qo_model.specs.Hotplug.{all_completed}
use Rattle.qo_realize.specs.Parts.{Parts}
use Rattle.qo_realize.specs.Representation.{Stands}
use Rattle.qo_realize.proofs.ResetLemmas.{more-none, more-some, none-told}
use Rattle.qo_realize.proofs.board.Board.complete_all.Goals as goal
use Rattle.qo_realize.proofs.board.Board.complete_all.Goals.{in-Some, in_default}

pub loop-turn-preserved : goal.loop-turn-preserved
loop-turn-preserved g c =
    let turn = c.loop-turn in
    elim c.match-first_pending.branch [
      | in-Some w ↦ λ b s.
          subst (λ (p : Parts). Stands (all_completed (turn._turn + 1) b) p) (sym w.self-is)
          (more-some turn._turn w.in-Some.dev.birth b turn.self w.complete.new.self (turn.invariant b s) w.in-Some.ensures.first w.complete.ensures)
      | in_default w ↦ λ b s.
          subst (λ (p : Parts). Stands (all_completed (turn._turn + 1) b) p) (sym w.self-is)
          (more-none turn._turn b turn.self (turn.invariant b s) (none-told c.first_pending.result w.in_default.not-Some ∙ c.first_pending.ensures.first))
    ]
