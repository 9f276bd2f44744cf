-- An object is told where it is not `/` and has no parent.
use Rattle.std.proofs.Common.{◌≡◌, true, false, is_some, ap, sym, ◌∙◌}
use Rattle.qo_heap.specs.Objects.{parent_of}
use Rattle.qo_heap.proofs.PlacesLemmas.{key-live}
use Rattle.qo_properties.proofs.ReadLemmas.{detached-is, detached-not, parent-test}
use Rattle.qo_properties.proofs.reading.detached.detached_at.Goals as goal

pub summary-summary-requires : goal.summary-summary-requires
summary-summary-requires g c =
    key-live c.args.heap.now.born c.args.heap.now.rows c.args.place c.in_ok-o.o c.reveal_invariant.ensures.rising (sym c.in_ok-o.ensures)

pub returns-then-is_some : goal.returns-then-is_some
returns-then-is_some g c = λ b s.
    let has : is_some (parent_of c.args.heap.now c.in_ok-o.o.birth) ≡ true =
    ap is_some (sym c.summary-summary.ensures.parent) ∙ sym c.is_some.ensures ∙ c.if-is_some.true in
    detached-not b c.args.heap.now s c.args.place c.in_ok-o.o c.in_ok-o.ensures
    (parent-test (parent_of c.args.heap.now c.in_ok-o.o.birth) c.in_ok-o.o.birth true has c.if-o-eq-ROOT_BIRTH.false)

pub returns : goal.returns
returns g c = λ b s.
    let free : is_some (parent_of c.args.heap.now c.in_ok-o.o.birth) ≡ false =
    ap is_some (sym c.summary-summary.ensures.parent) ∙ sym c.is_some.ensures ∙ c.if-is_some.false in
    detached-is b c.args.heap.now s c.reveal_invariant.ensures c.args.place c.in_ok-o.o c.summary-summary.result.refs c.summary-summary.result.kind c.in_ok-o.ensures
    (parent-test (parent_of c.args.heap.now c.in_ok-o.o.birth) c.in_ok-o.o.birth false free c.if-o-eq-ROOT_BIRTH.false) c.summary-summary.ensures.refs
    c.summary-summary.ensures.kind
