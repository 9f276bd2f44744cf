use Rattle.tests_board.proofs.lines.lines_rise_and_fall.Given as goal

abbrev pub ghosts-rise_and_fall : goal.ghosts-rise_and_fall
ghosts-rise_and_fall g a = record { name = a.blank.name; parts = a.blank.parts }
