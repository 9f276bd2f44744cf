-- The counter is over the blank that is made here.
use Rattle.compose.proofs.rebuilds.line_of.Given as goal

abbrev pub ghosts-line_counting : goal.ghosts-line_counting
ghosts-line_counting a = record { name = a.blank.name; parts = a.blank.parts }
