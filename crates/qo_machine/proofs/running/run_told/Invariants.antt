-- The turns so far lead from the opening to here.
use Rattle.std.proofs.Common.{◌≡◌, List}
use Rattle.qo_listen.specs.Ears.{AllOpen, ears}
use Rattle.qo_listen.specs.contracts.listeners.BoxDynListenerListener.TheImpl.{ghosts}
use Rattle.qo_machine.specs.Runs.{Turn, known}
use Rattle.qo_machine.proofs.RunLemmas.{GoneOn}
use Rattle.qo_machine.proofs.running.run_told.Given as goal

abbrev pub invariant-loop : goal.invariant-loop
invariant-loop g l =
    let hub = g.H.Hub in
    record {
      gone : (turns : List Turn) × GoneOn (known (hub.inputs l.fn.hub) (hub.sent l.fn.hub) (hub.got l.fn.hub) (hub.losses l.fn.hub))
          (known (hub.inputs l.hub) (hub.sent l.hub) (hub.got l.hub) (hub.losses l.hub)) l.machine l.counter
          (ears (ghosts g.dyn-1) l.fn.listeners.all.items) (ears (ghosts g.dyn-1) l.listeners.all.items) turns;
      listening : AllOpen (ears (ghosts g.dyn-1) l.listeners.all.items);
      bad : hub.bad l.hub ≡ hub.bad l.fn.hub;
      asked : hub.asked l.hub ≡ hub.asked l.fn.hub;
      next_count : hub.next_faults l.hub ≡ hub.next_faults l.fn.hub;
      send_count : hub.send_faults l.hub ≡ hub.send_faults l.fn.hub;
      later : hub.later l.fn.hub l.hub;
    }
