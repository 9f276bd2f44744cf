use Rattle.std.proofs.Common.{◌∙◌, ap, subst, sym, ℕ, ◌+◌, codes}
use Rattle.qo_values.specs.declared.kinds.TypeId.TheVariants.{Container}
use Rattle.qo_heap.specs.Board.{Shows}
use Rattle.qo_properties.specs.OpeningSteps.{with_new, with_new_child, with_machine}
use Rattle.qo_properties.proofs.adding.start.make_all.Goals as goal

pub returns-clause-shown : goal.returns-clause-shown
returns-clause-shown g c =
    λ b s.
    subst (λ (n : ℕ). Shows (with_new_child n (codes "objects") Container (with_machine n (with_new Container b))) c.make_child.new.heap)
    (c.in_ok-root.ensures.made.birth ∙ ap (λ (k : ℕ). k + 1) (sym s.born))
    (c.in_ok-make_child.ensures.shown _ (c.in_ok-make_machine.ensures.shown _ (c.in_ok-root.ensures.shown b s)))

pub returns-clause-book : goal.returns-clause-book
returns-clause-book g c = λ out h.
    c.in_ok-make_child.ensures.made.book out (c.in_ok-make_machine.ensures.book out (c.in_ok-root.ensures.made.book out h))

pub returns-clause-bare : goal.returns-clause-bare
returns-clause-bare g c = λ none. c.in_ok-make_child.ensures.made.bare (c.in_ok-make_machine.ensures.bare (c.in_ok-root.ensures.made.bare none))

pub returns-clause-periods : goal.returns-clause-periods
returns-clause-periods g c = λ own. c.in_ok-make_child.ensures.made.periods (c.in_ok-make_machine.ensures.periods (c.in_ok-root.ensures.made.periods own))
