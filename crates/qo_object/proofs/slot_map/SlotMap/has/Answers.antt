use Rattle.std.proofs.Common.{◌∙◌, ap, is_some}
use Rattle.std.specs.Str.{bytes_eq}
use Rattle.qo_object.specs.Slots.{Named}
use Rattle.qo_object.proofs.SlotLemmas.{found-any}
use Rattle.qo_object.proofs.slot_map.SlotMap.has.Goals as goal

pub returns : goal.returns
returns c = c.is_some.ensures ∙ ap is_some c.find.ensures ∙ found-any (λ (s : Named). bytes_eq c.args.name.now s.0) c.args.self.now
