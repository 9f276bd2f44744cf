-- The slot that is found is let go, or there is none.
use Rattle.std.proofs.Common.{ℕ, Option, [], ap, sym, subst, ◌∙◌}
use Rattle.std.specs.Option.{option_map_or}
use Rattle.qo_object.specs.Content.{Content}
use Rattle.qo_object.specs.BoardObject.{shown_slots}
use Rattle.qo_heap.specs.Objects.{slots_of}
use Rattle.qo_model.specs.Objects.{index_from}
use Rattle.qo_model.specs.Release.{let_go}
use Rattle.qo_model.specs.Unplug.{is_named}
use Rattle.qo_life.specs.Life.{Goes}
use Rattle.qo_model.specs.RowNames.{property_name}
use Rattle.qo_buses.proofs.LeavingLemmas.{goes-go_none, goes-go_where}
use Rattle.qo_heap.proofs.SlotPlaces.{named-place}
use Rattle.qo_buses.proofs.leaving.let_go_named.Goals as goal

pub returns-in_default : goal.returns-in_default
returns-in_default g c =
    goes-go_none (is_named (property_name c.args.name)) c.args.heap.now c.args.birth
    (ap (λ (x : Option Content). index_from (is_named (property_name c.args.name)) 0 (shown_slots (option_map_or (λ (d : Content). d.slots) x [])))
    c.in_default.ensures.none)

pub returns-in_default-property : goal.returns-in_default-property
returns-in_default-property g c =
    goes-go_none (is_named (property_name c.args.name)) c.args.heap.now c.args.birth
    (ap (λ (n : ℕ). index_from (is_named (property_name c.args.name)) 0 (shown_slots (slots_of c.args.heap.now n))) (sym c.in-Some.ensures.born)
    ∙ named-place (property_name c.args.name) (slots_of c.args.heap.now c.in-Some.o.birth)
    ∙ sym c.in_default-property.ensures.at)

pub returns : goal.returns
returns g c =
    goes-go_where (is_named (property_name c.args.name)) c.args.heap.now c.let_go.new.heap c.args.birth c.in-Some-property.view.at
    (ap (λ (n : ℕ). index_from (is_named (property_name c.args.name)) 0 (shown_slots (slots_of c.args.heap.now n))) (sym c.in-Some.ensures.born)
    ∙ named-place (property_name c.args.name) (slots_of c.args.heap.now c.in-Some.o.birth)
    ∙ sym c.in-Some-property.ensures.at)
    (subst (λ (n : ℕ). Goes (λ b. let_go b n c.in-Some-property.view.at) c.args.heap.now c.let_go.new.heap) c.in-Some.ensures.born c.let_go.ensures.goes)
