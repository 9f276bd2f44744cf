use Rattle.tests_objects.proofs.heap.notes_made.Given as goal

abbrev pub ghosts-made : goal.ghosts-made
ghosts-made a = record { name = a.blank.name; parts = a.blank.parts }
