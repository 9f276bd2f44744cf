-- The clock has its source, and keeps its periods afresh.
use Rattle.std.proofs.Common.{◌≡◌, ℕ, None, Some, sym, subst, ◌∙◌}
use Rattle.std.proofs.lemmas.Option.{same_Some}
use Rattle.qo_clocks.specs.Links.{fitted_on}
use Rattle.qo_plug.specs.KeptPeriods.{ClockFed}
use Rattle.qo_plug.proofs.FedLemmas.{clock-stays, connected-clock, fed-clock}
use Rattle.qo_plug.proofs.standing.connect_clock.Goals as goal

pub returns-in-Some-clock_of-clause-connected : goal.returns-in-Some-clock_of-clause-connected
returns-in-Some-clock_of-clause-connected g c =
    connected-clock c.args.heap.now c.connect.new.heap c.in-Some-clock_of.clock.birth (fitted_on c.args.heap.now c.in-Some.source) c.connect.ensures.now
    c.connect.ensures.counts

pub returns-in-Some-clock_of-clause-fed : goal.returns-in-Some-clock_of-clause-fed
returns-in-Some-clock_of-clause-fed g c = λ b n t at.
    let old = c.reveal_board.ensures in
    let its : Some c.in-Some-clock_of.clock.birth ≡ Some n =
    c.in-Some-clock_of.ensures.clock old.0 old.1
    ∙ sym (clock-stays c.args.heap.now c.connect.new.heap c.in-Some-clock_of.clock.birth (fitted_on c.args.heap.now c.in-Some.source) c.connect.ensures.now
    old.0 b old.1 t c.args.device.birth) ∙ at in
    rw c.in-Some.is
    (subst (λ (m : ℕ). ClockFed m c.args.heap.now c.connect.new.heap) (same_Some c.in-Some-clock_of.clock.birth n its)
    (fed-clock c.args.heap.now c.connect.new.heap c.in-Some-clock_of.clock.birth (fitted_on c.args.heap.now c.in-Some.source) c.connect.ensures.now))

pub returns-in-Some-clock_of-clause-unfed : goal.returns-in-Some-clock_of-clause-unfed
returns-in-Some-clock_of-clause-unfed g c = λ b t none.
    let old = c.reveal_board.ensures in
    let clash : Some c.in-Some-clock_of.clock.birth ≡ None =
    c.in-Some-clock_of.ensures.clock old.0 old.1
    ∙ sym (clock-stays c.args.heap.now c.connect.new.heap c.in-Some-clock_of.clock.birth (fitted_on c.args.heap.now c.in-Some.source) c.connect.ensures.now
    old.0 b old.1 t c.args.device.birth) ∙ none in
    absurd cc
