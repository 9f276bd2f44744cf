use Rattle.tests_objects.proofs.reset.holds_and_notes.Given as goal

abbrev pub ghosts-held_and_released : goal.ghosts-held_and_released
ghosts-held_and_released a = record { name = a.blank.name; parts = a.blank.parts }
