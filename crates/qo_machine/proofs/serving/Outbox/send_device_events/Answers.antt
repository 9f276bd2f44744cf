-- One event more.
use Rattle.std.proofs.Common.{◌∙◌, arith}
use Rattle.qo_machine.proofs.MachineLemmas.{events_more}
use Rattle.qo_machine.specs.Machine.{beside}
use Rattle.qo_machine.proofs.serving.Outbox.send_device_events.Goals as goal

pub loop-event-preserved : goal.loop-event-preserved
loop-event-preserved c =
    record {
      moment = c.broadcast.ensures.moment ∙ c.loop-event.invariant.moment;
      told =
          events_more c.args.self.now.at (beside c.args.machine.now) c.args.events.now c.loop-event.event-index c.event-item.result c.args.self.now.outs
          c.loop-event.self.outs c.broadcast.new.self.outs (omega arith) c.event-item.is c.loop-event.invariant.told
          (rw c.loop-event.invariant.moment at c.in_ok-broadcast.ensures.told);
    }
