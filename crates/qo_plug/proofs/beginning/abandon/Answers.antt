-- The device is given up as at the last of its stages.
use Rattle.std.proofs.Common.{refl}
use Rattle.qo_plug.proofs.beginning.abandon.Goals as goal

pub returns-clause-given_up : goal.returns-clause-given_up
returns-clause-given_up g c = λ b a is.
    c.give_up.ensures.shown b c.args.begun.target.kind a.props c.args.begun.target.bus.birth 4 is.sound is.birth refl is.shown
