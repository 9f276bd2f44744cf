-- A line is served, and what was noted is told.
use Rattle.std.proofs.Common.{[], ◌∷◌}
use Rattle.std.proofs.lemmas.Result.{on_ok_weaker}
use Rattle.qo_heap.proofs.HeapLemmas.{on-err}
use Rattle.qo_machine.specs.Machine.{by_line}
use Rattle.qo_machine.proofs.ListeningLemmas.{front-one, front-unheard, front-whole, lines-follow, lines-later, told-one}
use Rattle.qo_machine.proofs.serving.serve_line_told.Goals as goal

pub returns-clause-served : goal.returns-clause-served
returns-clause-served g c =
    let at = c.args.outbox.now.at in
    let one = c.in_ok-serve_line.ensures.served in
    on_ok_weaker c.tell_new.result
    (λ told. (one.0, one.1, one.2, told))
    (told-one (by_line at) c.args.machine.now c.serve_line.new.machine c.notes_total-from.result c.args.line.now one.0 _ _ (lines-follow at)
    c.notes_total-from.ensures.good c.notes_total-from.ensures.total one.3 c.tell_new.result c.tell_new.ensures.told)

pub returns-clause-left : goal.returns-clause-left
returns-clause-left g c =
    let one = c.in_ok-serve_line.ensures.served in
    on-err c.tell_new.result
    (λ s here. front-whole (by_line c.args.outbox.now.at) s c.serve_line.new.machine (c.args.line.now ∷ []) one.0 (one.3 s here))

pub returns-clause-heard : goal.returns-clause-heard
returns-clause-heard g c =
    let at = c.args.outbox.now.at in
    let one = c.in_ok-serve_line.ensures.served in
    front-one (by_line at) c.args.machine.now c.serve_line.new.machine c.notes_total-from.result c.args.line.now one.0 _ _ (lines-follow at)
    c.notes_total-from.ensures.good c.notes_total-from.ensures.total one.3 c.tell_new.result c.tell_new.ensures.left

-- what a line noted that ran out of memory is not told

pub returns-in_err-serve_line-clause-heard : goal.returns-in_err-serve_line-clause-heard
returns-in_err-serve_line-clause-heard g c =
    let at = c.args.outbox.now.at in
    on-err c.from_residual.result (λ s here. front-unheard (by_line at) (lines-later at) (c.args.line.now ∷ []) _ s)
