-- The bytes are added, or what refuses that is told.
use Rattle.qo_realize.specs.Chardevs.{ringbuf_written}
use Rattle.qo_commands.specs.Commands.{altered}
use Rattle.qo_commands.proofs.ChangeLemmas.{answered-came}
use Rattle.qo_requests.specs.declared.calls.Alteration.TheVariants.{RingbufWrite}
use Rattle.qo_requests.specs.declared.calls.Change.TheVariants.{Alter}
use Rattle.qo_commands.specs.declared.touched.Touched.TheVariants.{Nothing}
use Rattle.qo_commands.proofs.TouchedLemmas.{done-touches, ring-written-touches}
use Rattle.qo_commands.proofs.rings.write_ring.Goals as goal

pub returns-clause-came : goal.returns-clause-came
unfolding altered
returns-clause-came c = λ b s.
    answered-came (ringbuf_written b c.args.id.now c.args.text.now c.args.form) c.ringbuf_write.result c.done_by.result c.ringbuf_write.new.self
    (c.ringbuf_write.ensures.change b s) c.done_by.ensures.done

pub returns-clause-touched : goal.returns-clause-touched
returns-clause-touched c = λ b s.
    done-touches b (Alter (RingbufWrite c.args.id.now c.args.text.now c.args.form)) c.done_by.result c.ringbuf_write.new.self Nothing
    (returns-clause-came c b s) c.done_by.ensures.touched (ring-written-touches b c.args.id.now c.args.text.now c.args.form)
