use Rattle.tests_devices.proofs.plug.a_bridge_is_refused_and_added.Given as goal

abbrev pub ghosts-refused_and_added : goal.ghosts-refused_and_added
ghosts-refused_and_added g a = record { name = a.blank.name; parts = a.blank.parts }
