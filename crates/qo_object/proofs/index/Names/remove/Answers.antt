use Rattle.std.proofs.Common.{◌∙◌, ap, map, string_bytes}
use Rattle.indexmap.proofs.SetLemmas.{map-remove}
use Rattle.qo_object.proofs.index.Names.remove.Goals as goal

pub returns : goal.returns
returns c =
    rw (← c.self.view_is) (ap (map string_bytes) c.shift_remove_index.ensures.keys ∙ map-remove string_bytes c.self.inside.set.keys c.args.at)
