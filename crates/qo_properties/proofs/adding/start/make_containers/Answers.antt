use Rattle.qo_properties.proofs.adding.start.make_containers.Goals as goal

pub returns-clause-shown : goal.returns-clause-shown
returns-clause-shown g c = λ b s. c.in_ok-make_child-2.ensures.shown _ (c.in_ok-make_child.ensures.shown b s)

pub returns-clause-book : goal.returns-clause-book
returns-clause-book g c = λ out h. c.in_ok-make_child-2.ensures.made.book out (c.in_ok-make_child.ensures.made.book out h)

pub returns-clause-bare : goal.returns-clause-bare
returns-clause-bare g c = λ none. c.in_ok-make_child-2.ensures.made.bare (c.in_ok-make_child.ensures.made.bare none)

pub returns-clause-periods : goal.returns-clause-periods
returns-clause-periods g c = λ own. c.in_ok-make_child-2.ensures.made.periods (c.in_ok-make_child.ensures.made.periods own)
