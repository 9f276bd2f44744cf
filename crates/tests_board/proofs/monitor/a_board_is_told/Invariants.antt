use Rattle.tests_board.proofs.monitor.a_board_is_told.Given as goal

abbrev pub ghosts-tells : goal.ghosts-tells
ghosts-tells g a = record { name = a.blank.name; parts = a.blank.parts }
