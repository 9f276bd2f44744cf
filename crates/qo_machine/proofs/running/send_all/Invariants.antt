-- The messages passed over were sent.
use Rattle.std.proofs.Common.{◌≡◌, take}
use Rattle.qo_machine.specs.Runs.{known}
use Rattle.qo_machine.specs.Sending.{Sent}
use Rattle.qo_machine.proofs.running.send_all.Given as goal

abbrev pub invariant-loop-out : goal.invariant-loop-out
invariant-loop-out g l =
    let hub = g.H.Hub in
    record {
      sent : Sent (hub.names l.fn.hub) (known (hub.inputs l.fn.hub) (hub.sent l.fn.hub) (hub.got l.fn.hub) (hub.losses l.fn.hub))
          (known (hub.inputs l.hub) (hub.sent l.hub) (hub.got l.hub) (hub.losses l.hub)) (take l.out-index l.outs) l.lost;
      names : hub.names l.hub ≡ hub.names l.fn.hub;
      bad : hub.bad l.hub ≡ hub.bad l.fn.hub;
      asked : hub.asked l.hub ≡ hub.asked l.fn.hub;
      send_count : hub.send_faults l.hub ≡ hub.send_faults l.fn.hub;
      next_count : hub.next_faults l.hub ≡ hub.next_faults l.fn.hub;
      later : hub.later l.fn.hub l.hub;
    }
