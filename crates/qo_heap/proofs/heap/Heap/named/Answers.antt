-- What the slot that is found names.
use Rattle.std.proofs.Common.{◌≡◌, refl, None, ap, sym, ◌∙◌, find, rules}
use Rattle.std.specs.Option.{option_and_then}
use Rattle.std.specs.Str.{bytes_eq}
use Rattle.qo_object.specs.Slots.{Named, target_of}
use Rattle.qo_values.proofs.ListLemmas.{position-find, position-none}
use Rattle.qo_heap.proofs.heap.Heap.named.Goals as goal

pub returns-in_err-at-clause-named : goal.returns-in_err-at-clause-named
returns-in_err-at-clause-named g c =
    let none : c.from_residual.result ≡ None = search rules in
    let absent : find (λ (s : Named). bytes_eq c.args.name.now s.0) c.look-object.result.now.slots ≡ None =
    position-none (λ (s : Named). bytes_eq c.args.name.now s.0) c.look-object.result.now.slots (sym c.in_err-at.ensures) in
    rw (c.look-object.ensures.object, none, absent) refl

pub returns-in_err-slot-clause-named : goal.returns-in_err-slot-clause-named
returns-in_err-slot-clause-named g c =
    let none : c.from_residual-in_err-slot.result ≡ None = search rules in
    rw (c.look-object.ensures.object, none)
    (ap (option_and_then (λ (s : Named). target_of s.1))
    (c.in_err-slot.ensures.slot
    ∙ position-find (λ (s : Named). bytes_eq c.args.name.now s.0) c.look-object.result.now.slots c.in_ok-at.at (sym c.in_ok-at.ensures)))

pub returns-clause-named : goal.returns-clause-named
returns-clause-named g c =
    rw (c.look-object.ensures.object, c.target.ensures)
    (ap (option_and_then (λ (s : Named). target_of s.1))
    (c.in_ok-slot.ensures.slot
    ∙ position-find (λ (s : Named). bytes_eq c.args.name.now s.0) c.look-object.result.now.slots c.in_ok-at.at (sym c.in_ok-at.ensures)))
