use Rattle.std.proofs.Common.{◌≡◌, ◌∙◌, [], ◌∷◌, ◌++◌, List, ℕ, ap, sym, map, false, string_bytes}
use Rattle.std.proofs.lemmas.List.{map-append}
use Rattle.std.specs.List.{list_any}
use Rattle.std.specs.Str.{bytes_eq}
use Rattle.std.specs.String.{string_eq}
use Rattle.qo_claims.proofs.SetLemmas.{insert_key-new, list_any-map}
use Rattle.qo_object.proofs.index.Names.add.Goals as goal

pub returns : goal.returns
returns c =
    let keys = c.self.inside.set.keys in
    let key = c.in_ok-from_str.field-0 in
    let text : string_bytes key ≡ c.args.name.now = c.in_ok-from_str.ensures.ok in
    let free : list_any (bytes_eq (string_bytes key)) (map string_bytes keys) ≡ false = rw text (rw (← c.self.view_is) at c.requires) in
    let new : list_any (string_eq key) keys ≡ false = sym (list_any-map string_bytes (bytes_eq (string_bytes key)) keys) ∙ free in
    rw (← c.self.view_is) (
    ap (map string_bytes) (c.in_ok-insert.ensures.keys ∙ insert_key-new string_eq keys key new)
    ∙ map-append string_bytes keys (key ∷ [])
    ∙ ap (λ (name : List ℕ). map string_bytes keys ++ name ∷ []) text
    )
