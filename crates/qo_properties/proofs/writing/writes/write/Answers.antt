use Rattle.std.proofs.Common.{sym, subst}
use Rattle.std.specs.Prelude.{Result}
use Rattle.qo_values.specs.declared.codes.Code.{Code}
use Rattle.qo_model.specs.Board.{Board}
use Rattle.qo_properties.specs.Writes.{Writes}
use Rattle.qo_properties.proofs.WriteLemmas.{write-none, write-no_row, write-row}
use Rattle.qo_properties.proofs.writing.writes.write.Goals as goal

pub returns-in_default-clause-written : goal.returns-in_default-clause-written
returns-in_default-clause-written g c = λ b s. sym (write-none b c.args.heap.now s c.args.o.birth c.args.name.now c.args.val.now c.in_default.ensures)

pub returns-in_default-property-clause-written : goal.returns-in_default-property-clause-written
returns-in_default-property-clause-written g c = λ b s.
    sym (write-no_row b c.args.heap.now s c.args.o.birth c.args.name.now c.args.val.now c.in-Some.at c.kind-kind.result c.in-Some.ensures
    c.kind-kind.ensures.kind c.in_default-property.ensures)

pub returns-clause-written : goal.returns-clause-written
returns-clause-written g c = λ b s.
    subst (λ (x : Result Board Code). Writes c.write_row.new.heap c.write_row.result x)
    (write-row b c.args.heap.now s c.args.o.birth c.args.name.now c.args.val.now c.in-Some.at c.kind-kind.result c.in-Some-property.row c.in-Some.ensures
    c.kind-kind.ensures.kind c.in-Some-property.ensures)
    (c.write_row.ensures.written b s)
