-- The container, or none.
use Rattle.std.proofs.Common.{◌≡◌, ◌++◌, ◌∙◌, List, ℕ, [], ap, map, sym, append-nil}
use Rattle.std.specs.Prelude.{flat_map}
use Rattle.serde_json.specs.View.{view}
use Rattle.qo_sound_devices.specs.SoundPlaces.{child_entries}
use Rattle.qo_describe.specs.Told.{entry_told}
use Rattle.qo_describe.proofs.ItemLemmas.{entries-gone}
use Rattle.qo_describe.proofs.WalkLemmas.{then-ok}
use Rattle.qo_describe.proofs.parts.push_all.Goals as goal

pub returns-in-Some : goal.returns-in-Some
returns-in-Some g c =
    then-ok c.push_slots.result c.push_slots.ensures (λ told. λ b s.
    told b s ∙ ap (λ (n : ℕ). map view c.args.values.now.items ++ flat_map (entry_told c.args.part b) (child_entries b n)) c.in-Some.ensures.born)

pub returns-in-None : goal.returns-in-None
returns-in-None g c = λ b s.
    sym (append-nil (map view c.args.values.now.items))
    ∙ ap (λ (es : List (List ℕ × ℕ)). map view c.args.values.now.items ++ flat_map (entry_told c.args.part b) es)
    (sym (entries-gone b c.args.heap.now s c.args.birth c.in-None.ensures.none))
