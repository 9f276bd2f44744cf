-- The session's number is spelled by the bytes before the one that ends it.
use Rattle.std.proofs.Common.{arith, sym}
use Rattle.qo_record.proofs.NameLemmas.{number_is_at, number_parts}
use Rattle.qo_record.proofs.names.number_at.Goals as goal

pub overflow_sub-session : goal.overflow_sub-session
overflow_sub-session c =
    let p = number_parts c.args.stop c.args.bytes.now (c.in_ok-number.number, c.in_ok-number.rest.now) (sym c.in_ok-number.ensures.number) in
    omega (arith, p.size)

pub slice_bounds-session-count : goal.slice_bounds-session-count
slice_bounds-session-count c =
    let p = number_parts c.args.stop c.args.bytes.now (c.in_ok-number.number, c.in_ok-number.rest.now) (sym c.in_ok-number.ensures.number) in
    omega (arith, p.size)

pub returns-clause-number : goal.returns-clause-number
returns-clause-number c =
    number_is_at c.args.stop c.args.bytes.now (c.in_ok-number.number, c.in_ok-number.rest.now) (sym c.in_ok-number.ensures.number)

pub returns-clause-within : goal.returns-clause-within
returns-clause-within c =
    let p = number_parts c.args.stop c.args.bytes.now (c.in_ok-number.number, c.in_ok-number.rest.now) (sym c.in_ok-number.ensures.number) in
    (p.few, p.short)
