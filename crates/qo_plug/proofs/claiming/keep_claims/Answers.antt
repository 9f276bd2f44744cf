-- The body that was written is the one that was there, with these claims.
use Rattle.std.proofs.Common.{ap}
use Rattle.qo_kinds.specs.Bodies.{with_kept}
use Rattle.qo_kinds.specs.declared.bodies.Body.{Body}
use Rattle.qo_plug.proofs.ClaimOutLemmas.{body-put, kept-book}
use Rattle.qo_plug.proofs.claiming.keep_claims.Goals as goal

pub returns-clause-now : goal.returns-clause-now
returns-clause-now g c =
    body-put c.args.heap.now c.reveal_invariant.ensures c.args.o c.requires.live c.body_mut.result.now c.keep_claims.new.self
    (with_kept c.args.kept) c.body_mut.ensures.body c.keep_claims.ensures

pub returns-clause-book : goal.returns-clause-book
returns-clause-book g c =
    kept-book c.args.heap.now c.reveal_invariant.ensures c.args.o c.requires.live c.requires.bare c.args.kept c.keep_claims.new.self
    (ap (λ (b : Body). b.kept) c.keep_claims.ensures)
