use Rattle.qo_machine.proofs.machines.Core.start.Given as goal

abbrev pub ghosts-start_counting : goal.ghosts-start_counting
ghosts-start_counting a = record { name = a.blank.name; parts = a.blank.parts }
