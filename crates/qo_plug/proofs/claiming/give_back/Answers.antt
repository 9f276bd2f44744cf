use Rattle.std.proofs.Common.{◌++◌, List, append_assoc, subst}
use Rattle.qo_claims.specs.declared.claims.Claimed.{Claimed}
use Rattle.qo_heap.specs.Book.{IsBook}
use Rattle.qo_plug.specs.DeviceClaims.{id_claims_out, kept_out}
use Rattle.qo_plug.proofs.claiming.give_back.Goals as goal

pub returns-clause-book : goal.returns-clause-book
returns-clause-book c = λ out h.
    c.give_id_claim.ensures.book out
    (c.free_all.ensures.book (id_claims_out c.args.taken.id_claim ++ out)
    (subst (λ (l : List Claimed). IsBook l c.args.heap.now) (append_assoc (kept_out c.args.taken.kept) (id_claims_out c.args.taken.id_claim) out) h))
