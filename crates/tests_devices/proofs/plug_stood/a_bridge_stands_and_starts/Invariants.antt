use Rattle.tests_devices.proofs.plug_stood.a_bridge_stands_and_starts.Given as goal

abbrev pub ghosts-started : goal.ghosts-started
ghosts-started g a = record { name = a.blank.name; parts = a.blank.parts }
