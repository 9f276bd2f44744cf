-- The board at first is the opening one, and the lines are its own.
use Rattle.qo_machine.proofs.machines.Core.start_counting.Goals as goal

pub returns-clause-state : goal.returns-clause-state
returns-clause-state g c = c.begun.ensures.state c.in_ok-board.ensures

pub returns-clause-wired : goal.returns-clause-wired
returns-clause-wired g c = c.begun.ensures.wired c.in_ok-lines.ensures
