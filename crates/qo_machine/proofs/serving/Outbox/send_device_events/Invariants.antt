-- The events passed over are told.
use Rattle.std.proofs.Common.{◌≡◌, ◌++◌, map, take}
use Rattle.qo_commands.specs.Commands.{event_of}
use Rattle.qo_machine.specs.Machine.{beside, event_outs}
use Rattle.qo_machine.proofs.serving.Outbox.send_device_events.Given as goal

abbrev pub invariant-loop-event : goal.invariant-loop-event
invariant-loop-event l =
    record {
      moment : l.self.at ≡ l.fn.self.at;
      told : l.self.outs ≡ l.fn.self.outs ++ event_outs l.fn.self.at (beside l.machine) (map event_of (take l.event-index l.events));
    }
