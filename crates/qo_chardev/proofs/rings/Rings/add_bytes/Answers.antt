use Rattle.std.proofs.Common.{◌≡◌, ◌∙◌, None, Some, is_some, position, ap, sym}
use Rattle.std.proofs.lemmas.Option.{none-some}
use Rattle.qo_values.proofs.ListLemmas.{position-none}
use Rattle.qo_values.specs.Rings.{ring_add}
use Rattle.qo_chardev.specs.Rings.{is_ring, ring_named}
use Rattle.qo_chardev.proofs.RingsLemmas.{changed-to, differ-answered, named-at}
use Rattle.std.proofs.lemmas.Result.{on_ok_weaker}
use Rattle.qo_chardev.proofs.rings.Rings.add_bytes.Goals as goal

pub returns-in_default-clause-only_not_found : goal.returns-in_default-clause-only_not_found
returns-in_default-clause-only_not_found c same = position-none (is_ring c.args.id.now) c.args.self.now (sym c.place.ensures ∙ c.in_default.is)

pub returns-in_default-clause-bad_text : goal.returns-in_default-clause-bad_text
returns-in_default-clause-bad_text c some bad =
    let none : ring_named c.args.id.now c.args.self.now ≡ None = position-none (is_ring c.args.id.now) c.args.self.now (sym c.place.ensures ∙ c.in_default.is) in
    cc (ap is_some none, some)

module _ (c : goal.After-self-1) where
  found : position (is_ring c.args.id.now) c.self.inside.list.items ≡ Some c.in-Some.at
  found = rw c.self.view_is (sym c.place.ensures ∙ c.in-Some.is)

pub invariant_of-self : goal.invariant_of-self
invariant_of-self c =
    differ-answered c.add_bytes.result c.args.id.now c.self.inside.list.items c.in-Some.at c.index_mut.result.now c.add_bytes.new.self c.self.invariant
    (found c) c.index_mut.ensures.value (on_ok_weaker c.add_bytes.result (λ g. ((λ m. ring_add m g.bytes), g.added)) c.add_bytes.ensures.added)
    c.add_bytes.ensures.err

pub returns-clause-added : goal.returns-clause-added
returns-clause-added c =
    on_ok_weaker c.add_bytes.result
    (λ g. record {
      bytes = g.bytes;
      given = g.given;
      added = rw (← c.self.view_is)
          (changed-to (λ m. ring_add m g.bytes) c.args.id.now c.self.inside.list.items c.in-Some.at c.index_mut.result.now c.add_bytes.new.self
          c.self.invariant (found c) c.index_mut.ensures.value g.added);
    })
    c.add_bytes.ensures.added

pub returns-clause-not_found : goal.returns-clause-not_found
returns-clause-not_found c none =
    let its : ring_named c.args.id.now c.args.self.now ≡ Some c.index_mut.result.now =
    rw (← c.self.view_is) (named-at (is_ring c.args.id.now) c.self.inside.list.items c.in-Some.at c.index_mut.result.now (found c) c.index_mut.ensures.value) in
    absurd (none-some c.index_mut.result.now (sym none ∙ its))
