use Rattle.tests_board.proofs.realize.calls_succeed.Given as goal

abbrev pub ghosts-call_all : goal.ghosts-call_all
ghosts-call_all g a = record { name = a.blank.name; parts = a.blank.parts }
