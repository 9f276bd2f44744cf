-- The board with the bytes stands, or the board as it was.
use Rattle.std.proofs.Common.{sym, subst}
use Rattle.qo_values.specs.declared.forms.Form.{Form}
use Rattle.qo_realize.specs.Chardevs.{AnswersRings, ring_written, ringbuf_written}
use Rattle.qo_realize.specs.Parts.{Parts, parts_of}
use Rattle.qo_realize.specs.Representation.{Stands}
use Rattle.qo_realize.proofs.ChardevLemmas.{answer-sound, ring_written-good, rings-answer}
use Rattle.qo_realize.proofs.board.Board.ringbuf_write.Goals as goal

pub invariant_of-self : goal.invariant_of-self
invariant_of-self c =
    let inside = c.self.inside in (
      c.self.invariant.0,
      answer-sound inside.rings c.write.new.rings inside.anonymous inside.running inside.resets inside.hotplug inside.heap
          (λ b. ring_written b c.args.device.now c.args.text.now c.unwrap_or-form.result) c.write.result
          (λ b good. ring_written-good b c.args.device.now c.args.text.now c.unwrap_or-form.result good) (λ b told. c.write.ensures.change b) c.write.ensures.err
          c.self.invariant.1 c.self.invariant.2,
      c.self.invariant.2,
      c.self.invariant.3,
      c.self.invariant.4,
    )

pub returns-clause-change : goal.returns-clause-change
returns-clause-change c = λ b s.
    let inside = c.self.inside in
    let before : Parts = parts_of inside.rings inside.anonymous inside.running inside.resets inside.hotplug inside.heap in
    let seen : Stands b before = subst (λ (p : Parts). Stands b p) (sym c.self.view_is) s in
    rings-answer inside.rings c.write.new.rings inside.anonymous inside.running inside.resets inside.hotplug inside.heap b
    (ringbuf_written b c.args.device.now c.args.text.now c.args.format) c.write.result seen
    (subst (λ (form : Form). AnswersRings b (ring_written b c.args.device.now c.args.text.now form) c.write.result c.write.new.rings) c.unwrap_or-form.ensures
    (c.write.ensures.change b seen.rings))
    c.write.ensures.err
