-- One after the other.
use Rattle.std.proofs.Common.{◌++◌, List, subst}
use Rattle.qo_claims.specs.declared.claims.Claimed.{Claimed}
use Rattle.qo_heap.specs.Book.{IsBook}
use Rattle.qo_plug.specs.DeviceClaims.{one_out}
use Rattle.qo_plug.proofs.ClaimOutLemmas.{out-parts}
use Rattle.qo_plug.proofs.claiming.free_all.Goals as goal

pub returns-clause-book : goal.returns-clause-book
returns-clause-book c = λ out h.
    let k = c.args.kept in
    c.free_one-4.ensures.book out
    (c.free_one-3.ensures.book (one_out k.slot ++ out)
    (c.free_one-2.ensures.book (one_out k.ring ++ (one_out k.slot ++ out))
    (c.free_one.ensures.book (one_out k.backend ++ (one_out k.ring ++ (one_out k.slot ++ out)))
    (subst (λ (l : List Claimed). IsBook l c.args.heap.now) (out-parts k out) h))))
