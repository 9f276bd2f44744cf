-- The board without the bytes stands, or the board as it was.
use Rattle.std.proofs.Common.{sym, subst}
use Rattle.qo_values.specs.declared.forms.Form.{Form}
use Rattle.qo_realize.specs.Chardevs.{TakesRing, ring_read, ringbuf_read}
use Rattle.qo_realize.specs.Parts.{Parts, parts_of}
use Rattle.qo_realize.specs.Representation.{Stands}
use Rattle.qo_realize.proofs.ChardevLemmas.{reading-sound, ring_read-good, rings-read}
use Rattle.qo_realize.proofs.board.Board.ringbuf_read.Goals as goal

pub invariant_of-self : goal.invariant_of-self
invariant_of-self c =
    let inside = c.self.inside in (
      c.self.invariant.0,
      reading-sound inside.rings c.take.new.rings inside.anonymous inside.running inside.resets inside.hotplug inside.heap
          (λ b. ring_read b c.args.device.now c.args.size c.unwrap_or-form.result) c.take.result
          (λ b good. ring_read-good b c.args.device.now c.args.size c.unwrap_or-form.result good) c.take.ensures.read c.take.ensures.err c.self.invariant.1,
      c.self.invariant.2,
      c.self.invariant.3,
      c.self.invariant.4,
    )

pub returns-clause-read : goal.returns-clause-read
returns-clause-read c = λ b s.
    let inside = c.self.inside in
    let before : Parts = parts_of inside.rings inside.anonymous inside.running inside.resets inside.hotplug inside.heap in
    let seen : Stands b before = subst (λ (p : Parts). Stands b p) (sym c.self.view_is) s in
    rings-read inside.rings c.take.new.rings inside.anonymous inside.running inside.resets inside.hotplug inside.heap b
    (ringbuf_read b c.args.device.now c.args.size c.args.format) c.take.result seen
    (subst (λ (form : Form). TakesRing b (ring_read b c.args.device.now c.args.size form) c.take.result c.take.new.rings) c.unwrap_or-form.ensures
    (c.take.ensures.read b seen.rings))
    c.take.ensures.err
