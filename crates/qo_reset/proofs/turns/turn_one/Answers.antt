use Rattle.std.proofs.Common.{◌∙◌, ℕ, ap, min, sym}
use Rattle.qo_heap.specs.Objects.{with_edit}
use Rattle.qo_reset.specs.declared.turns.TheConstants.{HOLDS_MAX}
use Rattle.qo_reset.specs.declared.turns.Turn.{Turn}
use Rattle.qo_reset.specs.Phases.{births_of}
use Rattle.qo_reset.specs.Turns.{counted, done, sided}
use Rattle.qo_reset.proofs.turns.turn_one.Goals as goal

pub returns-in-Recount : goal.returns-in-Recount
returns-in-Recount g c =
    c.set_count.ensures.now
    ∙ ap (λ (k : ℕ). with_edit c.args.o.birth (sided (counted k)) c.args.heap.now) (c.min-count.ensures ∙ ap (λ (k : ℕ). min k HOLDS_MAX) c.recount.ensures)
    ∙ sym (ap (λ (turn : Turn). done turn (births_of c.args.holds.now) c.args.o.birth c.args.heap.now) c.in-Recount.is)
