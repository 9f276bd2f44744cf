use Rattle.std.proofs.Common.{arith, ◌∙◌, take}
use Rattle.std.proofs.Math.Seq.{take-add}
use Rattle.std.proofs.lemmas.List.{length-drop, take_rest}
use Rattle.qo_causes.proofs.BytesLemmas.{append_known_twice}
use Rattle.qo_causes.proofs.sinks.put_all.Goals as goal

pub loop-at-preserved : goal.loop-at-preserved
loop-at-preserved g c =
    let bytes = rw take_rest at c.in_ok-count.ensures.bytes in
    let bound = simp (take_rest, length-drop) at c.in_ok-count.ensures.bound in
    let twice = append_known_twice (g.K.Sink.held c.args.sink.now) (take c.loop-at.at c.args.bytes.now) _ in
    record {
      within = omega arith;
      held = rw take-add (bytes ∙ (rw c.loop-at.invariant.held twice));
      kept = c.in_ok-count.ensures.quiet.0 (omega arith) ∙ c.loop-at.invariant.kept;
    }
