-- The parts of a description.
use Rattle.std.proofs.Common.{◌≡◌, ℕ, List, [], ◌∷◌, ◌++◌, map, refl, sym, ap, ◌∙◌}
use Rattle.std.specs.Prelude.{flat_map}
use Rattle.serde_json.specs.Data.{Data, array}
use Rattle.serde_json.specs.View.{items_of}
use Rattle.qo_model.specs.Board.{Board, Ring}
use Rattle.qo_sound_devices.specs.SoundPlaces.{child_entries}
use Rattle.qo_values.specs.declared.births.TheConstants.{OBJECTS_BIRTH, PERIPHERAL_BIRTH}
use Rattle.qo_save.specs.Described.{clock_numbers, description, ring_item}
use Rattle.qo_save.specs.Description.{clock_data, description_data, description_names, named, ring_data, whole}
use Rattle.qo_describe.specs.Beside.{pair_data}
use Rattle.qo_describe.specs.Told.{entry_told}
use Rattle.qo_describe.specs.declared.parts.Part.TheVariants.{Clocks, Devices, Links, Objects}
use Rattle.qo_describe.proofs.WalkLemmas.{same-six}
use Rattle.qo_describe.proofs.ItemLemmas.{clocks-all, devices-all, links-all, objects-all}

abbrev Entry : Type 0
Entry = List ℕ × ℕ

-- the objects and the devices of a board
abbrev objects_of : Board → List Entry
objects_of b = child_entries b OBJECTS_BIRTH

abbrev devices_of : Board → List Entry
devices_of b = child_entries b PERIPHERAL_BIRTH

-- a list in JSON
abbrev list : List Data → Data
list ds = array (items_of ds)

-- rings as pairs
pairs-said : (rings : List Ring) → map pair_data (map (λ (r : Ring). (r.id, r.size)) rings) ≡ map ring_data (map ring_item rings)
pairs-said [] = refl
pairs-said (r ∷ rings) = ap (λ l. ring_data (ring_item r) ∷ l) (pairs-said rings)

-- all of it
pub whole-said : (b : Board) (pairs : List (List ℕ × ℕ)) (clock clocks devices links objects rings : Data) → clock ≡ clock_data (clock_numbers b)
    → clocks ≡ list (flat_map (entry_told Clocks b) (devices_of b)) → devices ≡ list (flat_map (entry_told Devices b) (devices_of b))
    → links ≡ list (flat_map (entry_told Links b) (objects_of b ++ devices_of b)) → objects ≡ list (flat_map (entry_told Objects b) (objects_of b))
    → rings ≡ list (map pair_data pairs) → map (λ (r : Ring). (r.id, r.size)) b.rings ≡ pairs
    → named description_names (clock ∷ clocks ∷ devices ∷ links ∷ objects ∷ rings ∷ whole 1 ∷ []) ≡ description_data (description b)
whole-said b pairs clock clocks devices links objects rings is-clock are-clocks are-devices are-links are-objects are-rings same =
    same-six (λ (c cs ds ls os rs : Data). named description_names (c ∷ cs ∷ ds ∷ ls ∷ os ∷ rs ∷ whole 1 ∷ [])) _ _ _ _ _ _ _ _ _ _ _ _ is-clock
    (are-clocks ∙ ap list (clocks-all b (devices_of b))) (are-devices ∙ ap list (devices-all b (devices_of b)))
    (are-links ∙ ap list (links-all b (objects_of b ++ devices_of b))) (are-objects ∙ ap list (objects-all b (objects_of b)))
    (are-rings ∙ ap (λ (l : List (List ℕ × ℕ)). list (map pair_data l)) (sym same) ∙ ap list (pairs-said b.rings))
