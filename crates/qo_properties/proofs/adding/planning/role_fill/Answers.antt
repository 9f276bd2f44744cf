use Rattle.qo_properties.proofs.adding.planning.role_fill.Goals as goal

pub returns-in-Link-clause-told : goal.returns-in-Link-clause-told
returns-in-Link-clause-told g c = λ b s t. rw c.in-Link.is (c.link_fill.ensures.told b s c.in-Link.strong)
