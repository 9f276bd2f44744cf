use Rattle.std.proofs.Common.{◌∙◌, sym, string_bytes}
use Rattle.std.specs.Str.{bytes_eq}
use Rattle.qo_object.proofs.NameLemmas.{position-map}
use Rattle.qo_object.proofs.index.Names.find.Goals as goal

pub returns : goal.returns
returns c =
    rw (← c.self.view_is) (c.get_index_of.ensures.index ∙ sym (position-map string_bytes (bytes_eq c.args.name.now) c.self.inside.set.keys))
