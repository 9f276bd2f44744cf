-- Why a ring is not removed: there is none, or the book has it.
use Rattle.std.proofs.Common.{◌≡◌, ap, ap₂, sym, subst, ◌∙◌, ℕ, List, Some, None}
use Rattle.qo_claims.specs.Book.{ClaimsTaken, is_taken}
use Rattle.qo_claims.specs.declared.claims.Claimed.TheVariants as on
use Rattle.qo_model.specs.Board.{Ring}
use Rattle.qo_chardev.specs.Rings.{without_ring}
use Rattle.qo_realize.proofs.ChardevLemmas.{kept_id, removal-claimed, removal-free, removal-none}
use Rattle.qo_realize.proofs.chardevs.remove.Goals as goal

pub returns-in_default-clause-change : goal.returns-in_default-clause-change
returns-in_default-clause-change c = λ b told rings.
    removal-none b c.args.id.now (subst (λ (rs : List Ring). None ≡ kept_id c.args.id.now rs) (sym rings) c.in_default.ensures)

pub returns-then-is_ring_taken-clause-change : goal.returns-then-is_ring_taken-clause-change
returns-then-is_ring_taken-clause-change c = λ b told rings.
    removal-claimed b c.args.id.now c.in-Some.kept.now
    (subst (λ (rs : List Ring). Some c.in-Some.kept.now ≡ kept_id c.args.id.now rs) (sym rings) c.in-Some.ensures) c.as_str.ensures.id
    c.args.heap.now.claims told
    (sym c.if-is_ring_taken.true ∙ c.is_ring_taken.ensures
    ∙ ap₂ (λ (id : List ℕ) (h : ClaimsTaken). is_taken (on.Ring id) h) c.as_str.ensures.value c.book.ensures)

pub returns-clause-change : goal.returns-clause-change
returns-clause-change c = λ b told rings.
    removal-free b c.args.id.now c.in-Some.kept.now
    (subst (λ (rs : List Ring). Some c.in-Some.kept.now ≡ kept_id c.args.id.now rs) (sym rings) c.in-Some.ensures) c.as_str.ensures.id
    c.args.heap.now.claims told
    c.remove.new.self (c.remove.ensures ∙ ap (without_ring c.args.id.now) (sym rings))
    (sym c.if-is_ring_taken.false ∙ c.is_ring_taken.ensures
    ∙ ap₂ (λ (id : List ℕ) (h : ClaimsTaken). is_taken (on.Ring id) h) c.as_str.ensures.value c.book.ensures)
