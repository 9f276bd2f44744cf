use Rattle.std.proofs.Common.{◌∙◌, sym, string_bytes}
use Rattle.std.specs.Str.{bytes_eq}
use Rattle.qo_claims.proofs.SetLemmas.{list_any-map}
use Rattle.qo_claims.proofs.ids.Ids.has.Goals as goal

pub returns : goal.returns
returns c =
    rw (← c.self.view_is) (c.contains.ensures ∙ sym (list_any-map string_bytes (bytes_eq c.args.id.now) c.self.inside.set.keys))
