-- The device of the body is that of the board.
use Rattle.std.proofs.Common.{◌∙◌, ap, subst, sym}
use Rattle.qo_kinds.specs.Bodies.{IsInTime, registers_in}
use Rattle.qo_kinds.specs.declared.bodies.Device.{Device}
use Rattle.qo_layout.proofs.RegisterLemmas.{bridge-shown, input-shown, registers-shown, timely-body, timer-shown, uart-shown}
use Rattle.qo_layout.proofs.registers.input_of.Goals as goal

pub timer_asks-requires-clause-timely : goal.timer_asks-requires-clause-timely
timer_asks-requires-clause-timely g c =
    subst (λ (d : Device). IsInTime c.args.heap.now.time (registers_in d)) c.in-Timer.is
    (timely-body c.args.heap.now c.requires.timely c.args.o.birth c.body.result.now c.body.ensures.body)

pub returns-in-Uart : goal.returns-in-Uart
returns-in-Uart g c = λ b s fit.
    c.uart_asks.ensures
    ∙ uart-shown b c.args.o.birth _
    (registers-shown b c.args.heap.now s c.args.o.birth c.body.result.now c.body.ensures.body ∙ ap registers_in c.in-Uart.is)
    ∙ sym (input-shown b c.args.heap.now s c.args.o.birth c.body.result.now c.body.ensures.body _ c.in-Uart.is)

pub returns-in-Timer : goal.returns-in-Timer
returns-in-Timer g c = λ b s fit.
    c.timer_asks.ensures b s fit
    ∙ timer-shown b c.args.heap.now s c.args.o.birth _
    (registers-shown b c.args.heap.now s c.args.o.birth c.body.result.now c.body.ensures.body ∙ ap registers_in c.in-Timer.is)
    ∙ sym (input-shown b c.args.heap.now s c.args.o.birth c.body.result.now c.body.ensures.body _ c.in-Timer.is)

pub returns-in-Bridge : goal.returns-in-Bridge
returns-in-Bridge g c = λ b s fit.
    c.is_hidden.ensures
    ∙ bridge-shown b c.args.o.birth _
    (registers-shown b c.args.heap.now s c.args.o.birth c.body.result.now c.body.ensures.body ∙ ap registers_in c.in-Bridge.is)
    ∙ sym (input-shown b c.args.heap.now s c.args.o.birth c.body.result.now c.body.ensures.body _ c.in-Bridge.is)

pub returns-in-Dimm : goal.returns-in-Dimm
returns-in-Dimm g c = λ b s fit. sym (input-shown b c.args.heap.now s c.args.o.birth c.body.result.now c.body.ensures.body _ c.in-Dimm.is)

pub returns-in-Bare : goal.returns-in-Bare
returns-in-Bare g c = λ b s fit. sym (input-shown b c.args.heap.now s c.args.o.birth c.body.result.now c.body.ensures.body _ c.in-Bare.is)
