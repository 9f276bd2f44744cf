use Rattle.tests_board.proofs.stages.a_bridge_is_added_in_stages.Given as goal

abbrev pub ghosts-staged : goal.ghosts-staged
ghosts-staged g a = record { name = a.blank.name; parts = a.blank.parts }
