use Rattle.tests_objects.proofs.life.noted_once.Given as goal

abbrev pub ghosts-noted : goal.ghosts-noted
ghosts-noted a = record { name = a.blank.name; parts = a.blank.parts }
