use Rattle.std.proofs.Common.{◌≡◌, ◌∙◌, Some, position, sym}
use Rattle.qo_values.specs.Rings.{ring_push}
use Rattle.qo_chardev.specs.Rings.{is_ring}
use Rattle.qo_chardev.proofs.RingsLemmas.{changed-at, changed-none, differ-set}
use Rattle.qo_chardev.proofs.rings.Rings.push.Goals as goal

pub invariant_of-self : goal.invariant_of-self
invariant_of-self c =
    let found : position (is_ring c.args.id.now) c.self.inside.list.items ≡ Some c.in-Some.at = rw c.self.view_is (sym c.place.ensures ∙ c.in-Some.is) in
    rw (c.push.ensures)
    (differ-set (λ m. ring_push m c.args.byte) c.args.id.now c.self.inside.list.items c.in-Some.at c.index_mut.result.now
    c.self.invariant found c.index_mut.ensures.value)

pub returns-in-Some : goal.returns-in-Some
returns-in-Some c =
    let found : position (is_ring c.args.id.now) c.self.inside.list.items ≡ Some c.in-Some.at = rw c.self.view_is (sym c.place.ensures ∙ c.in-Some.is) in
    rw (c.push.ensures, ← c.self.view_is)
    (changed-at (λ m. ring_push m c.args.byte) c.args.id.now c.self.inside.list.items c.in-Some.at c.index_mut.result.now
    c.self.invariant found c.index_mut.ensures.value)

pub returns-in_default : goal.returns-in_default
returns-in_default c = sym (changed-none (λ m. ring_push m c.args.byte) c.args.id.now c.args.self.now (sym c.place.ensures ∙ c.in_default.is))
