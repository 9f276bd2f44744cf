-- A message more, in the two cases that are left.
use Rattle.std.proofs.Common.{sym}
use Rattle.qo_machine.proofs.SendingLemmas.{err_failed, err_gone}
use Rattle.qo_machine.proofs.running.send_one.Goals as goal

pub returns-in-Err-Gone-clause-ok : goal.returns-in-Err-Gone-clause-ok
returns-in-Err-Gone-clause-ok g c = λ start outs h.
    err_gone (g.H.Hub.names c.args.hub.now) start _ _ _ _ _ _ _ _ outs c.args.lane c.as_slice.result.now c.args.text.now c.in-Err-Gone.field-0 c.in-Err-Gone.session c.from.result
    c.args.lost.now c.in-Err-Gone.field-0-is c.from.ensures c.as_slice.ensures (sym c.if-is_lost.ensures) c.requires c.in-Err-Gone.ensures.inputs
    c.in-Err-Gone.ensures.sent c.in-Err-Gone.ensures.got c.in-Err-Gone.ensures.gone c.in-Err-Gone.ensures.losses h

pub returns-in-Err-Failed-clause-err : goal.returns-in-Err-Failed-clause-err
returns-in-Err-Failed-clause-err g c = λ start outs h.
    err_failed (g.H.Hub.names c.args.hub.now) start _ _ _ _ _ _ _ _ outs c.args.lane c.as_slice.result.now c.args.text.now c.in-Err-Failed.field-0 c.args.lost.now c.in-Err-Failed.field-0-is
    c.as_slice.ensures (sym c.if-is_lost.ensures) c.in-Err-Failed.ensures.inputs c.in-Err-Failed.ensures.sent c.in-Err-Failed.ensures.got
    c.in-Err-Failed.ensures.losses h
