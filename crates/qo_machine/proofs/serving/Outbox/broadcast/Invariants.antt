-- The sessions passed over are told.
use Rattle.std.proofs.Common.{◌≡◌, ◌++◌}
use Rattle.qo_machine.specs.Machine.{beside, numbers_below, those_commanding, event_messages}
use Rattle.qo_machine.proofs.serving.Outbox.broadcast.Given as goal

abbrev pub invariant-loop-session : goal.invariant-loop-session
invariant-loop-session g l =
    record {
      moment : l.self.at ≡ l.fn.self.at;
      told : l.self.outs
          ≡ l.fn.self.outs ++ event_messages (g.E.Emitted.event l.event) l.fn.self.at (those_commanding (beside l.machine) (numbers_below l.session));
    }
