use Rattle.tests_commands.proofs.commands.a_tag_comes_and_goes.Given as goal

abbrev pub ghosts-changes : goal.ghosts-changes
ghosts-changes g a = record { name = a.blank.name; parts = a.blank.parts }
