use Rattle.std.proofs.Common.{◌∙◌, ap, subst, sym, ℕ, ◌+◌, codes}
use Rattle.qo_values.specs.declared.kinds.TypeId.TheVariants.{Machine}
use Rattle.qo_heap.specs.Board.{Shows}
use Rattle.qo_properties.specs.OpeningSteps.{with_new_child, with_containers, with_clock, with_buses}
use Rattle.qo_properties.proofs.adding.start.make_machine.Goals as goal

pub returns-clause-shown : goal.returns-clause-shown
returns-clause-shown g c =
    λ b s.
    subst (λ (n : ℕ). Shows (with_buses n (with_clock n (with_containers n (with_new_child c.args.root.birth (codes "machine") Machine b))))
    c.make_buses.new.heap) (c.in_ok-machine.ensures.made.birth ∙ ap (λ (k : ℕ). k + 1) (sym s.born))
    (c.in_ok-make_buses.ensures.shown _ (c.in_ok-make_clock.ensures.shown _ (c.in_ok-make_containers.ensures.shown _ (c.in_ok-machine.ensures.shown b s))))

pub returns-clause-book : goal.returns-clause-book
returns-clause-book g c = λ out h. c.in_ok-make_buses.ensures.book out
    (c.in_ok-make_clock.ensures.book out (c.in_ok-make_containers.ensures.book out (c.in_ok-machine.ensures.made.book out h)))

pub returns-clause-bare : goal.returns-clause-bare
returns-clause-bare g c = λ none. c.in_ok-make_buses.ensures.bare
    (c.in_ok-make_clock.ensures.bare (c.in_ok-make_containers.ensures.bare (c.in_ok-machine.ensures.made.bare none)))

pub returns-clause-periods : goal.returns-clause-periods
returns-clause-periods g c = λ own. c.in_ok-make_buses.ensures.periods
    (c.in_ok-make_clock.ensures.periods (c.in_ok-make_containers.ensures.periods (c.in_ok-machine.ensures.made.periods own)))
