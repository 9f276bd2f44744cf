-- The list has what is told of all.
use Rattle.std.proofs.Common.{◌≡◌, ◌∙◌, List, ap, map}
use Rattle.std.specs.Prelude.{flat_map}
use Rattle.serde_json.specs.Data.{Data, array}
use Rattle.serde_json.specs.View.{items_of, view}
use Rattle.serde_json.proofs.Views.{view-Array}
use Rattle.qo_sound_devices.specs.SoundPlaces.{child_entries}
use Rattle.qo_describe.specs.Told.{entry_told}
use Rattle.qo_describe.proofs.parts.part_list.Goals as goal

pub returns : goal.returns
returns g c = λ b s.
    let all : map view c.push_all.new.values.items ≡ flat_map (entry_told c.args.part b) (child_entries b c.args.birth) =
    rw c.new-values.ensures.items at (c.in_ok-push_all.ensures b s) in
    view-Array c.push_all.new.values ∙ ap (λ (l : List Data). array (items_of l)) all
