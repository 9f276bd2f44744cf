-- the walk is `Searched` throughout
use Rattle.std.proofs.Common.{sym, arith}
use Rattle.qo_values.specs.declared.ranges.Range.{Range}
use Rattle.qo_claims.proofs.Walks.{searched-next, searched-all, next-end, searched-found, searched-last}
use Rattle.qo_claims.proofs.placing.place.Goals as goal

pub returns-in-Some : goal.returns-in-Some
returns-in-Some c =
    let none : Range = record { at = 0; size = 0 } in
    let next = searched-next c.args.ranges.now c.loop-range.range-index c.args.size c.args.align c.loop-range.from none c.loop-range-test.true
    c.loop-range.invariant in
    sym (searched-found _ _ _ c.args.size c.args.align c.loop-range.from c.in-Some.at c.requires.some next c.in-Some.ensures)

pub overflow_add-from : goal.overflow_add-from
overflow_add-from c =
    let none : Range = record { at = 0; size = 0 } in
    let next = searched-next c.args.ranges.now c.loop-range.range-index c.args.size c.args.align c.loop-range.from none c.loop-range-test.true
    c.loop-range.invariant in
    let end = next-end _ _ _ c.args.size c.args.align c.loop-range.from next in
    omega arith

pub returns : goal.returns
returns c =
    let last =
    searched-all c.args.ranges.now c.loop-range.range-index c.args.size c.args.align c.loop-range.from c.loop-range-test.false c.loop-range.invariant in
    sym (searched-last _ c.args.size c.args.align c.loop-range.from c.fit-2.result c.requires.some last c.fit-2.ensures)
