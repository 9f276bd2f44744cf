use Rattle.std.proofs.Common.{◌∙◌, sym}
use Rattle.qo_object.proofs.SlotLemmas.{child-gone, link-emptied}
use Rattle.qo_object.proofs.slot_map.SlotMap.empty.Goals as goal

pub returns-in-Some-clause-now : goal.returns-in-Some-clause-now
returns-in-Some-clause-now c = c.remove.ensures ∙ child-gone c.args.self.now c.args.at c.in-Some.child (sym c.in-Some.ensures)

pub returns-clause-now : goal.returns-clause-now
returns-clause-now c = c.unlink.ensures.now ∙ link-emptied c.args.self.now c.args.at (sym c.in_default.ensures)
