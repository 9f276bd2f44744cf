use Rattle.std.proofs.Common.{arith, sym, ◌∙◌, get_or, ◌-◌}
use Rattle.qo_memmap.specs.declared.span.Span.{Span}
use Rattle.qo_memmap.proofs.FindLemmas.{found-none, found-last}
use Rattle.qo_memmap.proofs.SpansLemmas.{in-yes, in-behind}
use Rattle.qo_memmap.proofs.span.find.Goals as goal

abbrev empty : Span
empty = record { at = 0; size = 0; leaf = 0; offset = 0 }

pub returns-then-begun-eq0 : goal.returns-then-begun-eq0
returns-then-begun-eq0 c =
    sym (found-none c.args.spans.now c.begun_by-begun.result c.args.address empty c.requires c.begun_by-begun.ensures.point c.if-begun-eq0.true)

pub returns-then-address-span : goal.returns-then-address-span
returns-then-address-span c =
    let last = found-last c.args.spans.now c.begun_by-begun.result c.args.address empty c.requires c.begun_by-begun.ensures.point c.if-begun-eq0.false c.begun_by-begun.ensures.within in
    let s : Span = get_or c.args.spans.now (c.begun_by-begun.result - 1) empty in
    sym (last.1 ∙ rw (in-yes s c.args.address last.0 (omega (arith, last.0, c.if-address-span.true))))

pub returns-else-address-span : goal.returns-else-address-span
returns-else-address-span c =
    let last = found-last c.args.spans.now c.begun_by-begun.result c.args.address empty c.requires c.begun_by-begun.ensures.point c.if-begun-eq0.false c.begun_by-begun.ensures.within in
    let s : Span = get_or c.args.spans.now (c.begun_by-begun.result - 1) empty in
    sym (last.1 ∙ rw (in-behind s c.args.address (omega (arith, last.0, c.if-address-span.false))))
