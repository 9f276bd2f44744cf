use Rattle.std.proofs.Common.{◌≡◌, ◌∙◌, [], ◌∷◌, ap, sym, map, false, string_bytes}
use Rattle.std.proofs.lemmas.List.{map-append}
use Rattle.std.specs.List.{list_any}
use Rattle.std.specs.Str.{bytes_eq}
use Rattle.std.specs.String.{string_eq}
use Rattle.qo_claims.proofs.SetLemmas.{insert_key-new, list_any-map}
use Rattle.qo_claims.proofs.ids.Ids.add.Goals as goal

pub returns-clause-added : goal.returns-clause-added
returns-clause-added c =
    let keys = c.self.inside.set.keys in
    let free : list_any (string_eq c.args.id) keys ≡ false =
    sym (list_any-map string_bytes (bytes_eq (string_bytes c.args.id)) keys) ∙ (rw (← c.self.view_is) at c.requires) in
    rw (← c.self.view_is) (
    ap (map string_bytes) (c.in_ok-insert.ensures.keys ∙ insert_key-new string_eq keys c.args.id free)
    ∙ map-append string_bytes keys (c.args.id ∷ [])
    )
