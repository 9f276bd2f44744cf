-- The bytes are taken and told, or what refuses that is.
use Rattle.std.proofs.Common.{subst, sym, Err}
use Rattle.qo_properties.specs.declared.refusals.Refusal.{Refusal}
use Rattle.qo_realize.specs.Chardevs.{ReadsRing, ringbuf_read}
use Rattle.qo_realize.specs.Parts.{Parts}
use Rattle.qo_realize.specs.Representation.{Stands}
use Rattle.qo_commands.specs.Commands.{altered}
use Rattle.qo_commands.proofs.ChangeLemmas.{read-err, read-ok}
use Rattle.qo_requests.specs.declared.calls.Alteration.TheVariants.{RingbufRead}
use Rattle.qo_commands.specs.declared.touched.Touched.TheVariants.{Nothing}
use Rattle.qo_commands.proofs.TouchedLemmas.{ring-read-touches, said-touches}
use Rattle.qo_commands.proofs.rings.read_ring.Goals as goal

pub returns-in-Ok-clause-came : goal.returns-in-Ok-clause-came
unfolding altered
returns-in-Ok-clause-came c = λ b s.
    read-ok (ringbuf_read b c.args.id.now c.args.most c.args.form) c.in-Ok.text c.returned.result c.ringbuf_read.new.self
    (c.in-Ok.ensures.read b s) c.returned.ensures.done

pub returns-in-Err-Refused-clause-came : goal.returns-in-Err-Refused-clause-came
unfolding altered
returns-in-Err-Refused-clause-came c = λ b s.
    let told = subst (λ (r : Refusal). ReadsRing (ringbuf_read b c.args.id.now c.args.most c.args.form) (Err r) c.ringbuf_read.new.self)
    c.in-Err-Refused.field-0-is (c.in-Err-Refused.ensures.read b s) in
    read-err (ringbuf_read b c.args.id.now c.args.most c.args.form) c.in-Err-Refused.code c.refused.result c.ringbuf_read.new.self told c.refused.ensures.done

pub returns-in-Err-Memory-clause-came : goal.returns-in-Err-Memory-clause-came
returns-in-Err-Memory-clause-came c = λ b s. subst (λ (p : Parts). Stands b p) (sym c.in-Err-Memory.ensures.err) s

-- nothing of the objects is touched

pub returns-in-Ok-clause-touched : goal.returns-in-Ok-clause-touched
returns-in-Ok-clause-touched c = λ b s.
    said-touches b (RingbufRead c.args.id.now c.args.most c.args.form) Nothing c.returned.result.touched c.returned.ensures.touched
    (ring-read-touches b c.args.id.now c.args.most c.args.form)

pub returns-in-Err-Refused-clause-touched : goal.returns-in-Err-Refused-clause-touched
returns-in-Err-Refused-clause-touched c = λ b s.
    said-touches b (RingbufRead c.args.id.now c.args.most c.args.form) Nothing c.refused.result.touched c.refused.ensures.touched
    (ring-read-touches b c.args.id.now c.args.most c.args.form)
