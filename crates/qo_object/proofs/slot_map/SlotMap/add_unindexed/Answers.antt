-- A slot is added under a name that no other has.
use Rattle.std.proofs.Common.{◌≡◌, ◌∙◌, List, [], ◌∷◌, ◌++◌, false, ap}
use Rattle.std.proofs.lemmas.Cmp.{nat_list_eq_equiv}
use Rattle.std.proofs.lemmas.List.{map-append}
use Rattle.std.proofs.lemmas.Map.Keys.{IsDistinct-push}
use Rattle.std.specs.List.{IsDistinct, list_any}
use Rattle.std.specs.Str.{bytes_eq}
use Rattle.qo_object.specs.Slots.{Named, names_of}
use Rattle.qo_object.proofs.ObjectLemmas.{any-name}
use Rattle.qo_object.proofs.slot_map.SlotMap.add_unindexed.Goals as goal

pub invariant_of-self-2 : goal.invariant_of-self-2
invariant_of-self-2 c =
    let more : names_of c.push.new.self.items ≡ names_of c.args.self.now ++ c.args.name ∷ [] =
    ap names_of c.in_ok-push.ensures.items
    ∙ map-append (λ (s : Named). s.0) c.self.inside.slots.items ((c.args.name, c.args.slot) ∷ [])
    ∙ ap (λ (slots : List Named). names_of slots ++ c.args.name ∷ []) c.self.view_is in
    let absent : list_any (bytes_eq c.args.name) (names_of c.args.self.now) ≡ false = any-name c.args.name c.args.self.now ∙ c.requires in
    let differ : IsDistinct bytes_eq (names_of c.args.self.now) = rw c.self.view_is at c.self.invariant.0 in
    rw more (IsDistinct-push nat_list_eq_equiv (names_of c.args.self.now) c.args.name differ absent, tt)
