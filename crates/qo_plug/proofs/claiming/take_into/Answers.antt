-- Each claim that was taken stands in the set.
use Rattle.std.proofs.Common.{◌++◌, ◌∷◌, Some, None, sym, subst}
use Rattle.qo_heap.specs.Book.{IsBook}
use Rattle.qo_heap.specs.Objects.{Objects}
use Rattle.qo_plug.specs.DeviceClaims.{one_out}
use Rattle.qo_plug.proofs.ClaimOutLemmas.{parts-book}
use Rattle.qo_plug.proofs.claiming.take_into.Goals as goal

pub returns-in_err-ring-clause-book : goal.returns-in_err-ring-clause-book
returns-in_err-ring-clause-book c = λ out h.
    parts-book _ (record { slot = Some c.in_ok-slot.slot; ring = None; backend = None; range = None }) out c.take_ring.new.heap
    (λ j. record { slot = c.put_one.ensures j; ring = (c.requires.none j).ring; backend = (c.requires.none j).backend; range = (c.requires.none j).range })
    (subst (λ (x : Objects). IsBook (c.in_ok-slot.slot ∷ out) x) (sym c.in_err-ring.ensures.err) (c.in_ok-slot.ensures.book out h))

pub returns-in_err-backend-clause-book : goal.returns-in_err-backend-clause-book
returns-in_err-backend-clause-book c = λ out h.
    parts-book _ (record { slot = Some c.in_ok-slot.slot; ring = c.in_ok-ring.ring; backend = None; range = None }) out c.take_backend.new.heap
    (λ j. record { slot = c.put_one.ensures j; ring = c.put_one-2.ensures j; backend = (c.requires.none j).backend; range = (c.requires.none j).range })
    (subst (λ (x : Objects). IsBook (one_out c.in_ok-ring.ring ++ (c.in_ok-slot.slot ∷ out)) x) (sym c.in_err-backend.ensures.err)
    (c.in_ok-ring.ensures.book (c.in_ok-slot.slot ∷ out) (c.in_ok-slot.ensures.book out h)))

pub returns-in_err-range-clause-book : goal.returns-in_err-range-clause-book
returns-in_err-range-clause-book c = λ out h.
    parts-book _ (record { slot = Some c.in_ok-slot.slot; ring = c.in_ok-ring.ring; backend = c.in_ok-backend.backend; range = None }) out
    c.take_range.new.heap
    (λ j. record { slot = c.put_one.ensures j; ring = c.put_one-2.ensures j; backend = c.put_one-3.ensures j; range = (c.requires.none j).range })
    (subst (λ (x : Objects). IsBook (one_out c.in_ok-backend.backend ++ (one_out c.in_ok-ring.ring ++ (c.in_ok-slot.slot ∷ out))) x)
    (sym c.in_err-range.ensures.err)
    (c.in_ok-backend.ensures.book (one_out c.in_ok-ring.ring ++ (c.in_ok-slot.slot ∷ out))
    (c.in_ok-ring.ensures.book (c.in_ok-slot.slot ∷ out) (c.in_ok-slot.ensures.book out h))))

pub returns-clause-book : goal.returns-clause-book
returns-clause-book c = λ out h.
    parts-book _ (record { slot = Some c.in_ok-slot.slot; ring = c.in_ok-ring.ring; backend = c.in_ok-backend.backend; range = c.in_ok-range.range })
    out c.take_range.new.heap
    (λ j. record { slot = c.put_one.ensures j; ring = c.put_one-2.ensures j; backend = c.put_one-3.ensures j; range = c.put_one-4.ensures j })
    (c.in_ok-range.ensures.book (one_out c.in_ok-backend.backend ++ (one_out c.in_ok-ring.ring ++ (c.in_ok-slot.slot ∷ out)))
    (c.in_ok-backend.ensures.book (one_out c.in_ok-ring.ring ++ (c.in_ok-slot.slot ∷ out))
    (c.in_ok-ring.ensures.book (c.in_ok-slot.slot ∷ out) (c.in_ok-slot.ensures.book out h))))
