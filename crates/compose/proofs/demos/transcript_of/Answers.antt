-- The run was over the demo record, and nothing of it was refused for want of memory.
use Rattle.std.proofs.Common.{◌∙◌, subst, ap, List, ℕ, arith}
use Rattle.compose.specs.Demo.{Lacks, refused_line, refused_reply}
use Rattle.compose.proofs.DemoLemmas.{demo_done}
use Rattle.compose.proofs.demos.transcript_of.Goals as goal

pub returns : goal.returns
returns c =
    let kept = c.replay-ran.result.0.sink.bytes.items in
    let ran = c.replay-ran.ensures.replayed in
    demo_done c.replay-ran.result.0.status c.new-source.result.bytes c.new-2.result.bytes.items kept ran.0 _ c.args.seed c.args.steps _ c.in-Done.is
    (ap (λ s. s.bytes) c.new-source.ensures ∙ c.in_ok-stream.ensures) c.new-2.ensures (omega arith) ran.1
    (subst (λ (l : List ℕ). Lacks refused_reply l) c.deref.ensures.value (c.has.ensures.lacks c.if-has.false))
    (subst (λ (l : List ℕ). Lacks refused_line l) c.deref-2.ensures.value (c.has-2.ensures.lacks c.if-has-2.false))
