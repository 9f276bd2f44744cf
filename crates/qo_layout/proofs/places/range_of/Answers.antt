-- The body tells the range.
use Rattle.std.proofs.Common.{◌∙◌, ap, sym}
use Rattle.qo_kinds.specs.Bodies.{registers_in}
use Rattle.qo_kinds.specs.declared.bodies.Device.{Device}
use Rattle.qo_layout.specs.Layout.{dimm_in}
use Rattle.qo_layout.proofs.PlaceLemmas.{range-none, range-shown}
use Rattle.qo_layout.proofs.places.range_of.Goals as goal

pub returns-in-Dimm : goal.returns-in-Dimm
returns-in-Dimm g c = λ b s.
    sym
    (range-shown b c.args.heap.now s c.args.dev.birth c.body.result.now c.body.ensures.body
    ∙ ap (λ (x : Device). dimm_in (registers_in x)) c.in-Dimm.is)

pub returns-in_default : goal.returns-in_default
returns-in_default g c = λ b s.
    range-none c.body.result.now.device (λ d e. c.in_default.not-Dimm d e)
    ∙ sym (range-shown b c.args.heap.now s c.args.dev.birth c.body.result.now c.body.ensures.body)
