use Rattle.tests_objects.proofs.slots.table_of_numbers.Given as goal

abbrev pub ghosts-seen_numbers : goal.ghosts-seen_numbers
ghosts-seen_numbers g a = record { name = a.blank.name; parts = a.blank.parts }
