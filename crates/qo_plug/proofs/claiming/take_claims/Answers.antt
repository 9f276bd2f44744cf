-- Those that were taken are given back where one is not to be had.
use Rattle.std.proofs.Common.{◌++◌, List, append_assoc, sym, subst}
use Rattle.qo_claims.specs.declared.claims.Claimed.{Claimed}
use Rattle.qo_heap.specs.Book.{IsBook}
use Rattle.qo_plug.specs.DeviceClaims.{id_claims_out, kept_out}
use Rattle.qo_plug.proofs.claiming.take_claims.Goals as goal

pub returns-in-Ok-clause-book : goal.returns-in-Ok-clause-book
returns-in-Ok-clause-book c = λ out h.
    subst (λ (l : List Claimed). IsBook l c.take_into.new.heap)
    (sym (append_assoc (kept_out c.take_into.new.kept) (id_claims_out c.in_ok-id_claim.id_claim) out))
    (c.take_into.ensures.book (id_claims_out c.in_ok-id_claim.id_claim ++ out) (c.in_ok-id_claim.ensures.book out h))

pub returns-in-Err-clause-err : goal.returns-in-Err-clause-err
returns-in-Err-clause-err c = λ out h.
    c.give_back.ensures.book out
    (subst (λ (l : List Claimed). IsBook l c.take_into.new.heap)
    (sym (append_assoc (kept_out c.take_into.new.kept) (id_claims_out c.in_ok-id_claim.id_claim) out))
    (c.take_into.ensures.book (id_claims_out c.in_ok-id_claim.id_claim ++ out) (c.in_ok-id_claim.ensures.book out h)))
