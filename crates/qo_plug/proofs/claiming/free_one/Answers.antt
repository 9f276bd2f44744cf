-- The claim was out, and is held no more.
use Rattle.std.proofs.Common.{◌++◌, Option, sym, ap, subst, ◌∙◌}
use Rattle.qo_claims.specs.Book.{ClaimsTaken, without_claim}
use Rattle.qo_claims.specs.declared.claims.Claimed.{Claimed}
use Rattle.qo_heap.specs.Book.{IsBook}
use Rattle.qo_heap.proofs.BookLemmas.{book-given}
use Rattle.qo_plug.specs.DeviceClaims.{one_out}
use Rattle.qo_plug.proofs.claiming.free_one.Goals as goal

pub returns-in-Some-clause-book : goal.returns-in-Some-clause-book
returns-in-Some-clause-book c = λ out h.
    subst (λ (x : ClaimsTaken). IsBook out (record c.args.heap.now { claims = x }))
    (sym (c.free.ensures ∙ ap (without_claim c.in-Some.kept) c.claims.ensures.claims))
    (book-given c.in-Some.kept out c.args.heap.now (subst (λ (o : Option Claimed). IsBook (one_out o ++ out) c.args.heap.now) c.in-Some.is h))
