-- For proofs alone. What a description tells of the objects in a container, one after another.
use Rattle.std.specs.Prelude.{ℕ, ◌&&◌, if◌then◌else◌, List, [], ◌∷◌, filter_map, map, Option, None, option_map}
use Rattle.serde_json.specs.Data.{Data}
use Rattle.qo_model.specs.Board.{Board, Slot, target_of}
use Rattle.qo_save.specs.Described.{clock_item, clock_item_of, device_item, is_link, is_set, link_items, object_item}
use Rattle.qo_save.specs.Description.{LinkItem, clock_item_data, device_data, link_data, object_data}
use Rattle.qo_describe.specs.declared.parts.Part.{Part}
use Rattle.qo_describe.specs.declared.parts.Part.TheVariants.{Clocks, Devices, Links, Objects}

-- what a part of the description tells of an object under a name
abbrev pub entry_told : Part → Board → List ℕ × ℕ → List Data
entry_told Clocks b e = map clock_item_data (filter_map (clock_item_of b) (e ∷ []))
entry_told Devices b e = map device_data (filter_map (device_item b) (e ∷ []))
entry_told Links b e = map link_data (link_items b e)
entry_told Objects b e = map object_data (filter_map (object_item b) (e ∷ []))

-- what is told of a clock, and of a link
abbrev pub clock_told : Board → ℕ → List Data
clock_told b c = map clock_item_data (filter_map (clock_item b) (c ∷ []))

abbrev pub link_told : LinkItem → List Data
link_told l = link_data l ∷ []

-- the link in a slot that `qom-set` writes: its name and its target
abbrev pub link_entry : Board → ℕ → List ℕ × Slot → Option (List ℕ × ℕ)
link_entry b n s = if is_link s.1 && is_set b n s.0 then option_map (λ (m : ℕ). (s.0, m)) (target_of s.1) else None
