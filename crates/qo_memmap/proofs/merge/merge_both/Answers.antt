use Rattle.std.proofs.Common.{◌≤◌, ◌<◌, arith}
use Rattle.qo_memmap.proofs.MergeLemmas.{merging-first, merging-next, merging-all, held-less}
use Rattle.qo_memmap.proofs.merge.merge_both.Goals as goal

pub loop-at-init : goal.loop-at-init
loop-at-init c =
    rw c.new-merged.ensures.items (merging-first c.args.first.now c.args.later.now c.args.order c.args.end c.requires.first c.requires.later)

pub push_part-requires-clause-held : goal.push_part-requires-clause-held
push_part-requires-clause-held c =
    c.choose-shown.ensures.held c.loop-at.at c.min-until.result
    (held-less c.run_at-first_run.result.shown c.loop-at.at c.min-until.result c.run_at-first_run.result.until (omega (arith, c.min-until.ensures)) c.run_at-first_run.ensures.held)
    (held-less c.run_at-later_run.result.shown c.loop-at.at c.min-until.result c.run_at-later_run.result.until (omega (arith, c.min-until.ensures)) c.run_at-later_run.ensures.held)

pub loop-at-preserved : goal.loop-at-preserved
loop-at-preserved c =
    let less : c.loop-at.at < c.min-until.result = omega (arith, c.min-until.ensures, c.run_at-first_run.ensures.some, c.run_at-later_run.ensures.some) in
    let first_least : c.min-until.result ≤ c.run_at-first_run.result.until = omega (arith, c.min-until.ensures) in
    let later_least : c.min-until.result ≤ c.run_at-later_run.result.until = omega (arith, c.min-until.ensures) in
    merging-next c.args.first.now c.args.later.now c.args.order c.args.end c.loop-at.first_left.now c.loop-at.later_left.now c.loop-at.merged.items
    c.pass-first_left.result.now c.pass-later_left.result.now c.push_part.new.merged.items c.loop-at.at c.min-until.result
    c.run_at-first_run.result c.run_at-later_run.result c.choose-shown.result
    c.loop-at.invariant c.loop-at-test.true c.run_at-first_run.ensures c.run_at-later_run.ensures less first_least later_least
    c.choose-shown.ensures.seen c.in_ok-push_part.ensures.are c.in_ok-push_part.ensures.shown c.pass-first_left.ensures c.pass-later_left.ensures

pub returns : goal.returns
returns c =
    merging-all c.args.first.now c.args.later.now c.args.order c.args.end c.loop-at.first_left.now c.loop-at.later_left.now c.loop-at.merged.items c.loop-at.at
    c.requires.first c.requires.later c.loop-at.invariant c.loop-at-test.false
