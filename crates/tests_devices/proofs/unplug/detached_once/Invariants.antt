use Rattle.tests_devices.proofs.unplug.detached_once.Given as goal

abbrev pub ghosts-detached : goal.ghosts-detached
ghosts-detached a = record { name = a.blank.name; parts = a.blank.parts }
