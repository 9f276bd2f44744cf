use Rattle.qo_realize.proofs.guests.«+slots_to».Given as goal

abbrev pub decreases-slots_to : goal.decreases-slots_to
decreases-slots_to g l = l.levels
