-- The claim was out, and is held no more.
use Rattle.std.proofs.Common.{sym, ap, subst, ◌∙◌}
use Rattle.qo_claims.specs.Book.{ClaimsTaken, without_claim}
use Rattle.qo_heap.specs.Book.{IsBook}
use Rattle.qo_heap.proofs.BookLemmas.{book-given}
use Rattle.qo_plug.proofs.claiming.give_one.Goals as goal

pub returns-clause-book : goal.returns-clause-book
returns-clause-book c = λ out h.
    subst (λ (x : ClaimsTaken). IsBook out (record c.args.heap.now { claims = x }))
    (sym (c.give_back.ensures ∙ ap (without_claim c.args.claim) c.claims.ensures.claims))
    (book-given c.args.claim out c.args.heap.now h)
