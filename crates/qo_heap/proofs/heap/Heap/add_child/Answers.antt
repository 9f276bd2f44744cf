use Rattle.std.proofs.Common.{◌≡◌, sym, ◌∙◌, ap, Option, is_some, true, false, rules}
use Rattle.qo_slots.specs.declared.keys.Key.{Key}
use Rattle.qo_heap.specs.Objects.{slots_of}
use Rattle.qo_heap.proofs.HeapLemmas.{found-named}
use Rattle.qo_heap.proofs.heap.Heap.add_child.Goals as goal

pub returns-then-is_some-clause-duplicate : goal.returns-then-is_some-clause-duplicate
returns-then-is_some-clause-duplicate g c _ =
    found-named _ c.slot.result (slots_of c.args.self.now c.args.o.birth) c.args.name true (rw c.as_str.ensures.value at c.slot.ensures.slot)
    (sym c.is_some.ensures ∙ c.if-is_some.true)

pub returns-clause-parent : goal.returns-clause-parent
returns-clause-parent g c _ =
    let named = found-named _ c.slot.result (slots_of c.args.self.now c.args.o.birth) c.args.name false (rw c.as_str.ensures.value at c.slot.ensures.slot)
    (sym c.is_some.ensures ∙ c.if-is_some.false) in
    let there : is_some c.entry.result.now.parent ≡ true = search rules in
    (named, ap (λ (o : Option Key). is_some o) (sym c.entry.ensures.parent) ∙ there)
