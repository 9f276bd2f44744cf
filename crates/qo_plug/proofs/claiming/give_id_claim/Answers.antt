use Rattle.std.proofs.Common.{◌++◌, Option, subst}
use Rattle.qo_heap.specs.Book.{IsBook}
use Rattle.qo_plug.specs.declared.claiming.IdClaim.{IdClaim}
use Rattle.qo_plug.specs.DeviceClaims.{id_claims_out}
use Rattle.qo_plug.proofs.claiming.give_id_claim.Goals as goal

pub returns-in-Some-clause-book : goal.returns-in-Some-clause-book
returns-in-Some-clause-book c =
    λ out h. c.give_one.ensures.book out (subst (λ (l : Option IdClaim). IsBook (id_claims_out l ++ out) c.args.heap.now) c.in-Some.is h)
