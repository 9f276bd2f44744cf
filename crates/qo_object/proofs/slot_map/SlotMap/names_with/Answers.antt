use Rattle.std.proofs.Common.{◌∙◌, ap}
use Rattle.std.specs.List.{list_any}
use Rattle.std.specs.Str.{bytes_eq}
use Rattle.qo_object.proofs.ObjectLemmas.{any-name}
use Rattle.qo_object.proofs.slot_map.SlotMap.names_with.Goals as goal

pub add-requires : goal.add-requires
add-requires c = ap (list_any (bytes_eq c.args.name.now)) c.in_ok-names.ensures.names ∙ any-name c.args.name.now c.args.self.now ∙ c.requires
