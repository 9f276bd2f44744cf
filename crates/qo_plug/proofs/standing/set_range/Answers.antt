-- The body that was written is the one that was there, with other registers.
use Rattle.qo_kinds.specs.Bodies.{registers_of, with_registers}
use Rattle.qo_kinds.specs.declared.bodies.Body.{Body}
use Rattle.qo_model.specs.Plug.{registers_on}
use Rattle.qo_plug.specs.Placement.{range_in}
use Rattle.qo_plug.proofs.ClaimOutLemmas.{body-put}
use Rattle.qo_plug.proofs.standing.set_range.Goals as goal

pub returns : goal.returns
returns g c =
    body-put c.args.heap.now c.reveal_invariant.ensures c.args.device c.requires c.body_mut.result.now c.put_range.new.body
    (λ (b : Body). with_registers (registers_on (range_in c.args.memory) (registers_of b)) b) c.body_mut.ensures.body c.put_range.ensures
