-- The board is the opening one.
use Rattle.std.proofs.Common.{refl}
use Rattle.qo_machine.proofs.MachineLemmas.{starts}
use Rattle.qo_machine.proofs.machines.Core.begun.Goals as goal

pub returns : goal.returns
returns c = record {
  state = λ stands. (starts _ stands c.in_ok-closed_sessions.ensures c.new.ensures.items refl, refl);
  wired = λ lines. lines;
}
