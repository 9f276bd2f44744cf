use Rattle.tests_commands.proofs.commands.the_opening_board_is_read.Given as goal

abbrev pub ghosts-reads : goal.ghosts-reads
ghosts-reads g a = record { name = a.blank.name; parts = a.blank.parts }
