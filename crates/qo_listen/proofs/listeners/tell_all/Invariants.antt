use Rattle.std.proofs.Common.{◌∷◌, []}
use Rattle.qo_listen.specs.Ears.{HeardTo, ears}
use Rattle.qo_listen.proofs.listeners.tell_all.Given as goal

abbrev pub invariant-loop-listener : goal.invariant-loop-listener
invariant-loop-listener g l =
    HeardTo l.listener-index (l.note ∷ []) (ears g.L.Listener l.initial.all)
    (ears g.L.Listener l.all)
