use Rattle.qo_heap.proofs.tests.tokens.Given as goal

abbrev pub ghosts-tokens_in : goal.ghosts-tokens_in
ghosts-tokens_in a = record { name = a.blank.name; parts = a.blank.parts }
