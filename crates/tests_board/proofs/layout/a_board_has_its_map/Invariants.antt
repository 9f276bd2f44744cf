use Rattle.tests_board.proofs.layout.a_board_has_its_map.Given as goal

abbrev pub ghosts-mapped : goal.ghosts-mapped
ghosts-mapped g a = record { name = a.blank.name; parts = a.blank.parts }
