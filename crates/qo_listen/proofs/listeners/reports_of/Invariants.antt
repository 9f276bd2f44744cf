use Rattle.std.proofs.Common.{◌≡◌, take}
use Rattle.qo_listen.specs.Ears.{ears, texts_of}
use Rattle.qo_listen.proofs.listeners.reports_of.Given as goal

abbrev pub invariant-loop-listener : goal.invariant-loop-listener
invariant-loop-listener g l =
    l.bytes.items ≡ texts_of (ears g.L.Listener (take l.listener-index l.all))
