-- The board at first is the opening one, which is sound, and no event waits on it.
use Rattle.qo_machine.proofs.SoundnessLemmas.{opening_settled, started_sound}
use Rattle.qo_machine.proofs.machines.Machine.start.Goals as goal

pub returns-clause-sound : goal.returns-clause-sound
returns-clause-sound c = started_sound _ c.in_ok-start.ensures.state.0

pub invariant_of-result : goal.invariant_of-result
invariant_of-result c = (opening_settled _ c.in_ok-start.ensures.state.0, λ lasts. c.in_ok-start.ensures.wired)
