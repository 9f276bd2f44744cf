use Rattle.tests_devices.proofs.plug.a_bridge_is_made_and_given_up.Given as goal

abbrev pub ghosts-drafted : goal.ghosts-drafted
ghosts-drafted g a = record { name = a.blank.name; parts = a.blank.parts }
