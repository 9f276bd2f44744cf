-- The ring is named: it is asked whether it is there, and whether a UART has it.
use Rattle.std.proofs.Common.{refl, ap, ap₂, sym, subst, ◌∙◌, ◌≡◌, ◌≢◌, ◌==◌, ℕ, true, false, List, [], length}
use Rattle.std.specs.List.{list_any}
use Rattle.qo_claims.specs.Book.{ClaimsTaken, is_taken}
use Rattle.qo_claims.specs.declared.claims.Claimed.TheVariants as on
use Rattle.qo_model.specs.Board.{Ring}
use Rattle.qo_model.specs.Plug.{claims_ring}
use Rattle.qo_chardev.specs.Rings.{is_ring}
use Rattle.qo_plug.proofs.JudgementLemmas.{ring-named, ring_as}
use Rattle.qo_plug.proofs.pre_plug.free_ring.Goals as goal

some-name : (name : List ℕ) → (length name == 0) ≡ false → name ≢ []
some-name name filled none = absurd (let clash : true ≡ false = subst (λ (own : List ℕ). (length own == 0) ≡ false) none filled in cc)

pub returns-then-not-has-clause-refused : goal.returns-then-not-has-clause-refused
returns-then-not-has-clause-refused c = λ b recounted rings.
    let named = ring-named b c.args.name.now (sym c.is_empty.ensures ∙ c.if-is_empty.false) in
    let has = ap (λ (l : List Ring). list_any (is_ring c.args.name.now) l) rings ∙ sym c.has.ensures ∙ c.if-not-has.true in
    (refl, named ∙ ap (λ t. ring_as t (list_any (claims_ring b c.args.name.now) b.records)) has)

pub returns-then-is_ring_taken-clause-refused : goal.returns-then-is_ring_taken-clause-refused
returns-then-is_ring_taken-clause-refused c = λ b recounted rings.
    let named = ring-named b c.args.name.now (sym c.is_empty.ensures ∙ c.if-is_empty.false) in
    let has = ap (λ (l : List Ring). list_any (is_ring c.args.name.now) l) rings ∙ sym c.has.ensures ∙ c.if-not-has.false in
    let told = sym (recounted.rings c.args.name.now (some-name c.args.name.now (sym c.is_empty.ensures ∙ c.if-is_empty.false)))
    ∙ ap (λ (h : ClaimsTaken). is_taken (on.Ring c.args.name.now) h) (sym c.book.ensures)
    ∙ sym c.is_ring_taken.ensures ∙ c.if-is_ring_taken.true in
    (refl, named ∙ ap₂ ring_as has told)

pub returns-in-Ok-clause-open : goal.returns-in-Ok-clause-open
returns-in-Ok-clause-open c = λ b recounted rings.
    let named = ring-named b c.args.name.now (sym c.is_empty.ensures ∙ c.if-is_empty.false) in
    let has = ap (λ (l : List Ring). list_any (is_ring c.args.name.now) l) rings ∙ sym c.has.ensures ∙ c.if-not-has.false in
    let told = sym (recounted.rings c.args.name.now (some-name c.args.name.now (sym c.is_empty.ensures ∙ c.if-is_empty.false)))
    ∙ ap (λ (h : ClaimsTaken). is_taken (on.Ring c.args.name.now) h) (sym c.book.ensures)
    ∙ sym c.is_ring_taken.ensures ∙ c.if-is_ring_taken.false in
    named ∙ ap₂ ring_as has told
