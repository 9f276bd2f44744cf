use Rattle.tests_objects.proofs.properties.attempts.Given as goal

abbrev pub ghosts-attempted : goal.ghosts-attempted
ghosts-attempted g a = record { name = a.blank.name; parts = a.blank.parts }
