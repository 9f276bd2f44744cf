use Rattle.std.proofs.Common.{ap}
use Rattle.qo_heap.specs.Objects.{Objects}
use Rattle.qo_life.proofs.NewObjectLemmas.{made-live}
use Rattle.qo_life.proofs.birth.create.Goals as goal

pub initialize_whole-requires : goal.initialize_whole-requires
initialize_whole-requires g c =
    made-live c.args.heap.now.rows c.in_ok-o.o c.args.kind c.make.new.self (ap (λ (v : Objects). v.rows) c.in_ok-o.ensures.made.1) c.reveal_invariant.ensures
