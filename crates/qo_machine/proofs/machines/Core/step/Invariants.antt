use Rattle.qo_machine.proofs.machines.Core.step.Given as goal

abbrev pub ghosts-step_counting : goal.ghosts-step_counting
ghosts-step_counting g a = record { name = a.blank.name; parts = a.blank.parts }
