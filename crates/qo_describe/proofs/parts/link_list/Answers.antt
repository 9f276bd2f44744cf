-- The links of users' objects, and behind them those of devices.
use Rattle.std.proofs.Common.{◌≡◌, ◌++◌, ◌∙◌, List, ap, map, sym}
use Rattle.std.specs.Prelude.{flat_map}
use Rattle.std.proofs.lemmas.List.Concat.{flat_map-append}
use Rattle.serde_json.specs.Data.{Data, array}
use Rattle.serde_json.specs.View.{items_of, view}
use Rattle.serde_json.proofs.Views.{view-Array}
use Rattle.qo_sound_devices.specs.SoundPlaces.{child_entries}
use Rattle.qo_values.specs.declared.births.TheConstants.{OBJECTS_BIRTH, PERIPHERAL_BIRTH}
use Rattle.qo_describe.specs.Told.{entry_told}
use Rattle.qo_describe.specs.declared.parts.Part.TheVariants.{Links}
use Rattle.qo_describe.proofs.parts.link_list.Goals as goal

pub returns : goal.returns
returns g c = λ b s.
    let objects = child_entries b OBJECTS_BIRTH in
    let devices = child_entries b PERIPHERAL_BIRTH in
    let first : map view c.push_all.new.values.items ≡ flat_map (entry_told Links b) objects =
    rw c.new-values.ensures.items at (c.in_ok-push_all.ensures b s) in
    view-Array c.push_all-2.new.values
    ∙ ap (λ (l : List Data). array (items_of l))
    (c.in_ok-push_all-2.ensures b s ∙ ap (λ (l : List Data). l ++ flat_map (entry_told Links b) devices) first
    ∙ sym (flat_map-append (entry_told Links b) objects devices))
