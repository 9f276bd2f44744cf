-- The slot tells whether it is a link, and to which type.
use Rattle.std.proofs.Common.{◌≡◌, sym, subst, ◌∙◌, rules}
use Rattle.std.specs.Prelude.{Result, Ok}
use Rattle.qo_heap.specs.Board.{Shows}
use Rattle.qo_values.specs.declared.codes.Code.{Code}
use Rattle.qo_model.specs.Board.{Board}
use Rattle.qo_properties.specs.Writes.{Writes}
use Rattle.qo_properties.proofs.WriteLemmas.{a-link, link-there, no-link, no-text}
use Rattle.qo_properties.proofs.writing.writes.write_link.Goals as goal

pub relink-requires-clause-link : goal.relink-requires-clause-link
relink-requires-clause-link g c = link-there c.args.heap.now c.args.o.birth c.args.at c.in-Some.ty c.in-Some.ensures

pub returns-in_default-clause-written : goal.returns-in_default-clause-written
returns-in_default-clause-written g c = λ b s. no-link b c.args.heap.now s c.args.o.birth c.args.at c.args.val.now c.in_default.ensures

pub returns-in_default-val-clause-written : goal.returns-in_default-val-clause-written
returns-in_default-val-clause-written g c = λ b s.
    a-link b c.args.heap.now s c.args.o.birth c.args.at c.args.val.now c.in-Some.ty c.in-Some.ensures
    ∙ no-text b c.args.o.birth c.args.at c.in-Some.ty c.args.val.now c.in_default-val.not-Text

pub returns-in_err-target-clause-written : goal.returns-in_err-target-clause-written
returns-in_err-target-clause-written g c = λ b s.
    subst (λ (x : Result Board Code). Writes c.args.heap.now c.from_residual.result x)
    (sym (a-link b c.args.heap.now s c.args.o.birth c.args.at c.args.val.now c.in-Some.ty c.in-Some.ensures))
    (search rules)

pub returns-clause-written : goal.returns-clause-written
returns-clause-written g c = λ b s.
    let told = a-link b c.args.heap.now s c.args.o.birth c.args.at c.args.val.now c.in-Some.ty c.in-Some.ensures in
    subst (λ (x : Result Board Code). (d : Board) × (x ≡ Ok d) × Shows d c.relink.new.heap) (sym told) (search rules)
