-- A claim on a range that is free fails for memory alone. Once it is taken, it is held, and is out.
use Rattle.std.proofs.Common.{◌≡◌, ◌∷◌, true, false, IfSome, List, Option, Some, refl, sym, ap, subst, ◌∙◌}
use Rattle.std.specs.Prelude.{IsOk}
use Rattle.std.specs.declared.result.Result.TheVariants.{Err}
use Rattle.qo_values.specs.Placing.{is_in_window, overlaps_any}
use Rattle.qo_values.specs.declared.ranges.Range.{Range}
use Rattle.qo_claims.specs.Answers.{Took, on_whole}
use Rattle.qo_claims.specs.Book.{ClaimsTaken, with_claim}
use Rattle.qo_claims.specs.Lists.{range_answer}
use Rattle.qo_claims.specs.declared.claims.Claimed.{Claimed}
use Rattle.qo_claims.specs.declared.claims.Claimed.TheVariants as on
use Rattle.qo_claims.specs.declared.errors.ClaimError.{ClaimError}
use Rattle.qo_claims.specs.declared.errors.ClaimError.TheVariants as refusal
use Rattle.qo_heap.specs.Book.{IsBook}
use Rattle.qo_heap.proofs.BookLemmas.{book-taken}
use Rattle.qo_plug.specs.declared.resources.Memory.{Memory}
use Rattle.qo_plug.proofs.claiming.take_range.Goals as goal

memory-alone : (r : Range) (ranges : List Range) (grown : Claimed → ClaimsTaken) (old new : ClaimsTaken) (error : ClaimError) → is_in_window r ≡ true
    → overlaps_any r ranges ≡ false → Took (on_whole on.Range (range_answer (Some r.at) r.size ranges)) grown old new (Err error) → error ≡ refusal.Memory
memory-alone r ranges grown old new error window free took = go error (rw (window, free) refl) took
  where
    go : (error : ClaimError) → IsOk (on_whole on.Range (range_answer (Some r.at) r.size ranges))
        → Took (on_whole on.Range (range_answer (Some r.at) r.size ranges)) grown old new (Err error) → error ≡ refusal.Memory
    go refusal.Memory ok took = refl
    go refusal.Range ok took = cc
    go refusal.Taken ok took = cc
    go refusal.Full ok took = cc

pub memory_alone-requires : goal.memory_alone-requires
memory_alone-requires c =
    memory-alone c.in-Some.field-0.range c.claims.result.now.ranges (λ claim. with_claim claim c.claims.result.now) _ _ c.in-Err.error
    (subst (λ (m : Option Memory). IfSome m (λ x. is_in_window x.range ≡ true)) c.in-Some.is c.requires.window)
    (ap (λ (h : ClaimsTaken). overlaps_any c.in-Some.field-0.range h.ranges) c.claims.ensures.claims
    ∙ subst (λ (m : Option Memory). IfSome m (λ x. overlaps_any x.range c.args.heap.now.claims.ranges ≡ false)) c.in-Some.is c.requires.free)
    c.in-Err.ensures

pub returns-in-Ok-clause-book : goal.returns-in-Ok-clause-book
returns-in-Ok-clause-book c = λ out h.
    subst (λ (y : Claimed). IsBook (y ∷ out) (record c.args.heap.now { claims = c.take_range.new.self })) (sym c.keep.ensures)
    (subst (λ (x : ClaimsTaken). IsBook (c.in-Ok.claim ∷ out) (record c.args.heap.now { claims = x }))
    (sym (c.in-Ok.ensures.1 ∙ ap (with_claim c.in-Ok.claim) c.claims.ensures.claims))
    (book-taken c.in-Ok.claim out c.args.heap.now h))
