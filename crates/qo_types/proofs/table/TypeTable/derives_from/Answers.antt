-- A type derives from those in its ancestry.
use Rattle.std.proofs.Common.{◌≡◌, ◌∙◌, ap}
use Rattle.std.specs.List.{list_any}
use Rattle.qo_values.specs.declared.kinds.TypeId.{TypeId}
use Rattle.qo_values.specs.contracts.kinds.TypeIdPartialEq.TheImpl.{ghosts}
use Rattle.qo_types.proofs.TableLemmas.{derived}
use Rattle.qo_types.proofs.table.TypeTable.derives_from.Goals as goal

pub returns-in_default : goal.returns-in_default
returns-in_default c =
    c.contains.ensures.value ∙ ap (list_any (λ (y : TypeId). ghosts.eq y c.args.ancestor)) c.info-in_default.ensures.ancestry ∙ derived c.args.t c.args.ancestor
