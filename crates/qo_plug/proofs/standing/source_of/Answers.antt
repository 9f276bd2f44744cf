-- No clock of a bridge was found.
use Rattle.std.proofs.Common.{sym, ap, ◌∙◌}
use Rattle.std.specs.Option.{option_and_then}
use Rattle.qo_model.specs.Devices.{clock_of}
use Rattle.qo_plug.proofs.PlacementSteps.{source-none}
use Rattle.qo_plug.proofs.standing.source_of.Goals.{in-Some+in_default-clock_of, in_default}
use Rattle.qo_plug.proofs.standing.source_of.Goals as goal

pub returns-clause-none : goal.returns-clause-none
returns-clause-none g c = λ b s.
    source-none b c.args.heap.now s c.args.bus.birth
    (elim c.match-bridge_of.branch [
      | in-Some+in_default-clock_of w ↦ ap (option_and_then (clock_of b)) (sym (w.in-Some.ensures.bridge b s)) ∙ sym (w.in_default-clock_of.ensures.clock b s)
      | in_default w ↦ ap (option_and_then (clock_of b)) (sym (w.in_default.ensures.bridge b s))
    ])
    c.by_birth.result c.by_birth.ensures.none
