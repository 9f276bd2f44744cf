-- The access tells whether the row is one of those.
use Rattle.std.proofs.Common.{◌≡◌, sym, ◌∙◌, None, Some, rules}
use Rattle.qo_properties.proofs.ClockLemmas.{only-none, only-set, row-is}
use Rattle.qo_properties.proofs.writing.clocks.set_row.Goals as goal

pub returns-in_err-row : goal.returns-in_err-row
returns-in_err-row g c = λ b s.
    let none : c.from_residual.result ≡ None = search rules in
    none
    ∙ row-is b c.args.heap.now s c.args.o.birth c.args.name.now c.kind-kind.result None c.kind-kind.ensures.kind c.in_err-row.ensures

pub returns-in-Set : goal.returns-in-Set
returns-in-Set g c = λ b s.
    sym (only-set c.in_ok-row.row c.in-Set.is)
    ∙ row-is b c.args.heap.now s c.args.o.birth c.args.name.now c.kind-kind.result (Some c.in_ok-row.row) c.kind-kind.ensures.kind c.in_ok-row.ensures

pub returns-in_default : goal.returns-in_default
returns-in_default g c = λ b s.
    sym (only-none c.in_ok-row.row c.in_default.not-Set)
    ∙ row-is b c.args.heap.now s c.args.o.birth c.args.name.now c.kind-kind.result (Some c.in_ok-row.row) c.kind-kind.ensures.kind c.in_ok-row.ensures
