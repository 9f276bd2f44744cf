-- The object keeps no claim, however many slots it has.
use Rattle.qo_object.specs.Content.{HasNoClaim}
use Rattle.tests_objects.proofs.object.many_slots_are_added_with_ample_memory.Given as goal

abbrev pub invariant-loop-text : goal.invariant-loop-text
invariant-loop-text g l = HasNoClaim l.object
