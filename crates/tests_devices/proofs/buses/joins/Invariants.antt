use Rattle.tests_devices.proofs.buses.joins.Given as goal

abbrev pub ghosts-joined : goal.ghosts-joined
ghosts-joined g a = record { name = a.blank.name; parts = a.blank.parts }
