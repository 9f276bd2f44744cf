-- What waited is told, then the own event of what was done, and then its reply is sent.
use Rattle.std.proofs.Common.{ap, map, option_map, option_to_list, rules}
use Rattle.qo_commands.specs.Commands.{event_of}
use Rattle.qo_machine.proofs.LaneLemmas.{reply_sent}
use Rattle.std.proofs.lemmas.Result.{on_ok_weaker}
use Rattle.qo_machine.proofs.serving.send_reply.Goals as goal

pub returns-clause-sent : goal.returns-clause-sent
returns-clause-sent c =
    on_ok_weaker c.push.result
    (λ more.
    reply_sent c.args.outbox.now.at c.args.lane c.args.machine.now c.forget_waiting.new.self c.args.reply c.args.outbox.now.outs
    c.send_device_events-told.new.self.outs
    c.send_command_event.new.self.outs c.push.new.self.outs
    (map event_of c.waiting.result.now) (option_to_list (option_map (λ e. e.now) c.as_ref.result)) c.in_ok-reply.field-0 c.requires
    c.forget_waiting.ensures.rest (λ b stands. ap (map event_of) (c.waiting.ensures b stands))
    c.in_ok-told.ensures.told (rw c.send_device_events-told.ensures.moment at c.in_ok-send_command_event.ensures.told) (ap option_to_list (search rules))
    c.in_ok-reply.was more)
    c.push.ensures.sent
