-- The lines that end in the bytes are served.
use Rattle.std.proofs.Common.{◌∙◌}
use Rattle.qo_causes.specs.declared.inputs.What.TheVariants.{Guest}
use Rattle.qo_machine.proofs.GuestLemmas.{served_lines}
use Rattle.qo_machine.proofs.ListeningLemmas.{guest-unheard, lines_heard}
use Rattle.qo_machine.proofs.MemoryLemmas.{breaks_before, breaks_in_lines, err_more}
use Rattle.qo_heap.proofs.HeapLemmas.{on-err}
use Rattle.qo_machine.proofs.machines.Core.take_guest.Goals as goal

pub returns-clause-answered : goal.returns-clause-answered
returns-clause-answered g c =
    served_lines c.serve_lines.result c.args.at c.args.self.now c.cut.new.self c.serve_lines.new.machine c.args.bytes.now c.deref.result.now _ _
    (c.deref.ensures.value ∙ c.in_ok-lines.ensures.lines) c.in_ok-lines.ensures.state c.cut.ensures.board c.serve_lines.ensures.served

pub returns-in_err-lines-clause-breaks : goal.returns-in_err-lines-clause-breaks
returns-in_err-lines-clause-breaks g c = λ s here.
    on-err c.from_residual.result
    (breaks_before s (record { at = c.args.at; what = Guest c.args.bytes.now }) c.args.self.now c.cut.new.self c.cut.ensures.board here)

pub returns-clause-breaks : goal.returns-clause-breaks
returns-clause-breaks g c = λ s here.
    err_more c.serve_lines.result
    (λ left.
    breaks_in_lines c.args.at c.args.self.now c.cut.new.self c.serve_lines.new.machine c.args.bytes.now c.deref.result.now
    (c.deref.ensures.value ∙ c.in_ok-lines.ensures.lines) c.in_ok-lines.ensures.state c.cut.ensures.board left s here) c.serve_lines.ensures.left

-- what listeners heard

pub returns-in_err-lines-clause-heard : goal.returns-in_err-lines-clause-heard
returns-in_err-lines-clause-heard g c = λ s here. on-err c.from_residual.result (guest-unheard s c.args.at c.args.bytes.now _)

pub returns-clause-heard : goal.returns-clause-heard
returns-clause-heard g c =
    lines_heard c.serve_lines.result c.args.at c.args.self.now c.cut.new.self c.args.bytes.now c.deref.result.now _ _
    (c.deref.ensures.value ∙ c.in_ok-lines.ensures.lines) c.in_ok-lines.ensures.state c.cut.ensures.board c.serve_lines.ensures.heard
