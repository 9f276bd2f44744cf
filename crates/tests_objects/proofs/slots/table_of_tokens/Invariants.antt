use Rattle.tests_objects.proofs.slots.table_of_tokens.Given as goal

abbrev pub ghosts-walk_tokens : goal.ghosts-walk_tokens
ghosts-walk_tokens g a = record { name = a.blank.name; parts = a.blank.parts }
