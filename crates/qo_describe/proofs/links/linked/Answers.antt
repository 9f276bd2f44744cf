-- The target of a link, or none.
use Rattle.qo_describe.proofs.ValueLemmas.{linked-is, linked-not, named-is}
use Rattle.qo_describe.proofs.links.linked.Goals as goal

pub returns-in-Link : goal.returns-in-Link
returns-in-Link c = record { linked = linked-is c.args.what.now _ _ _ c.in-Link.is; named = named-is c.args.what.now _ _ _ c.in-Link.is }

pub returns-in_default : goal.returns-in_default
returns-in_default c = record { linked = linked-not c.args.what.now c.in_default.not-Link; named = tt }
