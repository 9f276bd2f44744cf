use Rattle.std.proofs.Common.{◌∙◌, ap, sym, map, string_bytes}
use Rattle.std.specs.Str.{bytes_eq}
use Rattle.qo_claims.proofs.SetLemmas.{remove_key-map}
use Rattle.qo_claims.proofs.ids.Ids.give_back.Goals as goal

pub returns : goal.returns
returns c =
    rw (← c.self.view_is)
    (ap (map string_bytes) c.shift_remove.ensures.keys ∙ sym (remove_key-map string_bytes (bytes_eq c.args.id.now) c.self.inside.set.keys))
