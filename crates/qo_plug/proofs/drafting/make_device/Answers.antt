-- The device is made, or what was made of it ends.
use Rattle.std.proofs.Common.{◌≡◌, refl, ◌+◌, subst, ℕ, List, [], arith}
use Rattle.std.specs.List.{AllZip}
use Rattle.qo_object.specs.Content.{fresh}
use Rattle.qo_model.specs.Release.{unpin}
use Rattle.qo_heap.specs.Board.{Shows}
use Rattle.qo_heap.specs.Objects.{pins_of}
use Rattle.qo_model.specs.Objects.{Given}
use Rattle.qo_object.specs.Slots.{Named}
use Rattle.qo_properties.specs.Filling.{Fits}
use Rattle.qo_properties.specs.NewSlots.{new_slots}
use Rattle.qo_properties.proofs.AddLemmas.{newest-live}
use Rattle.qo_properties.proofs.PlanningLemmas.{zip-length}
use Rattle.qo_properties.proofs.SlotsLemmas.{slots-differ}
use Rattle.qo_plug.specs.Drafts.{Fell, HasPlanned}
use Rattle.qo_plug.proofs.CutLemmas.{draft-pinned, fell-short}
use Rattle.qo_plug.proofs.DraftLemmas.{at-birth, created-shown, draft-live, draft-rest, drafted-is, drafted-shown, drafting-grows}
use Rattle.qo_plug.proofs.PlannedSlots.{given_by, plan-planned, planned-by}
use Rattle.qo_properties.proofs.KeptLemmas.{goes-kept}
use Rattle.qo_plug.proofs.GrowthLemmas.{grows-kept}
use Rattle.qo_plug.proofs.KeptLemmas.{new-then}
use Rattle.qo_plug.proofs.drafting.make_device.Goals as goal

pub make_properties-requires : goal.make_properties-requires
make_properties-requires g c =
    record {
      live = newest-live c.args.heap.now c.create.new.heap c.in_ok-device.device (fresh c.args.kind) c.reveal_invariant.ensures c.in_ok-device.ensures.made.0
          c.in_ok-device.ensures.made.1;
      fits = c.requires;
    }

pub drop_pin-requires-clause-live : goal.drop_pin-requires-clause-live
drop_pin-requires-clause-live g c =
    draft-live c.args.heap.now c.create.new.heap c.make_properties.new.heap c.in_ok-device.device c.args.kind c.reveal_invariant.ensures
    c.in_ok-device.ensures.made.0
    c.in_ok-device.ensures.made.1
    c.make_properties.ensures.grows

pub drop_pin-requires-clause-pinned : goal.drop_pin-requires-clause-pinned
drop_pin-requires-clause-pinned g c =
    let one : pins_of c.make_properties.new.heap c.in_ok-device.device.birth ≡ 1 =
    draft-pinned c.make_properties.new.heap c.in_ok-device.device.birth c.args.kind
    (draft-rest c.args.heap.now c.create.new.heap c.make_properties.new.heap c.in_ok-device.device c.args.kind c.reveal_invariant.ensures
    c.in_ok-device.ensures.made.0
    c.in_ok-device.ensures.made.1
    c.make_properties.ensures.grows) in
    omega (arith, one)

pub returns-in-Ok-clause-pinned : goal.returns-in-Ok-clause-pinned
returns-in-Ok-clause-pinned g c =
    let one : pins_of c.make_properties.new.heap c.in_ok-device.device.birth ≡ 1 =
    draft-pinned c.make_properties.new.heap c.in_ok-device.device.birth c.args.kind
    (draft-rest c.args.heap.now c.create.new.heap c.make_properties.new.heap c.in_ok-device.device c.args.kind c.reveal_invariant.ensures
    c.in_ok-device.ensures.made.0
    c.in_ok-device.ensures.made.1
    c.in-Ok.ensures.grows) in
    omega (arith, one)

pub returns-in-Ok-clause-made : goal.returns-in-Ok-clause-made
returns-in-Ok-clause-made g c =
    drafted-is c.args.heap.now c.create.new.heap c.make_properties.new.heap c.in_ok-device.device c.args.kind c.reveal_invariant.ensures
    c.in_ok-device.ensures.made.0
    c.in_ok-device.ensures.made.1
    c.in-Ok.ensures.grows c.args.plan.now c.in-Ok.ensures.own

pub returns-in-Ok-clause-shown : goal.returns-in-Ok-clause-shown
returns-in-Ok-clause-shown g c = λ b props has.
    drafted-shown c.args.heap.now c.create.new.heap c.make_properties.new.heap c.in_ok-device.device c.args.kind c.reveal_invariant.ensures
    c.in_ok-device.ensures.made.0
    c.in_ok-device.ensures.made.1
    c.in-Ok.ensures.grows b props (c.in-Ok.ensures.ok b props (plan-planned b props c.args.plan.now (new_slots c.args.kind) has))

pub returns-in-Ok-clause-grows : goal.returns-in-Ok-clause-grows
returns-in-Ok-clause-grows g c =
    drafting-grows c.args.heap.now c.create.new.heap c.make_properties.new.heap c.in_ok-device.device c.args.kind c.reveal_invariant.ensures
    c.in_ok-device.ensures.made.0
    c.in_ok-device.ensures.made.1
    c.in-Ok.ensures.grows

pub returns-in-Ok-clause-book : goal.returns-in-Ok-clause-book
returns-in-Ok-clause-book g c =
    (drafting-grows c.args.heap.now c.create.new.heap c.make_properties.new.heap c.in_ok-device.device c.args.kind c.reveal_invariant.ensures
    c.in_ok-device.ensures.made.0
    c.in_ok-device.ensures.made.1
    c.in-Ok.ensures.grows).book

-- any plan for slots of different names is what some properties give, as far as it is values
pub returns-in-Err-clause-err : goal.returns-in-Err-clause-err
returns-in-Err-clause-err g c = λ b s sound.
    let slots : List Named = new_slots c.args.kind in
    let props : List Given = given_by c.args.plan.now slots in
    let planned : AllZip (HasPlanned b props) c.args.plan.now slots =
    planned-by b c.args.plan.now slots (slots-differ c.args.kind [] slots refl) (zip-length Fits c.args.plan.now slots c.requires) in
    let place : c.in_ok-device.device.birth ≡ b.born + 1 =
    at-birth c.args.heap.now c.create.new.heap c.make_properties.new.heap c.in_ok-device.device c.args.kind c.reveal_invariant.ensures
    c.in_ok-device.ensures.made.0
    c.in_ok-device.ensures.made.1
    c.in-Err.ensures.grows b s in
    fell-short b c.args.kind sound props c.create.new.heap c.make_properties.new.heap c.drop_pin.new.heap
    (subst (λ (n : ℕ). Fell b props n c.args.kind c.create.new.heap c.make_properties.new.heap) place (c.in-Err.ensures.err b props planned))
    (created-shown c.args.heap.now c.create.new.heap c.make_properties.new.heap c.in_ok-device.device c.args.kind c.reveal_invariant.ensures
    c.in_ok-device.ensures.made.0
    c.in_ok-device.ensures.made.1
    c.in-Err.ensures.grows b props s)
    (λ d shown. subst (λ (n : ℕ). Shows (unpin d n) c.drop_pin.new.heap) place (c.drop_pin.ensures.release d shown))

pub returns-in-Err-clause-book : goal.returns-in-Err-clause-book
returns-in-Err-clause-book g c = λ out h.
    c.drop_pin.ensures.goes.book out
    ((drafting-grows c.args.heap.now c.create.new.heap c.make_properties.new.heap c.in_ok-device.device c.args.kind c.reveal_invariant.ensures
    c.in_ok-device.ensures.made.0 c.in_ok-device.ensures.made.1
    c.in-Err.ensures.grows).book out h)

pub returns-in-Ok-clause-kept : goal.returns-in-Ok-clause-kept
returns-in-Ok-clause-kept g c =
    grows-kept c.args.heap.now c.make_properties.new.heap c.reveal_invariant.ensures
    (drafting-grows c.args.heap.now c.create.new.heap c.make_properties.new.heap c.in_ok-device.device c.args.kind c.reveal_invariant.ensures
    c.in_ok-device.ensures.made.0
    c.in_ok-device.ensures.made.1
    c.in-Ok.ensures.grows)

pub returns-in-Err-clause-kept : goal.returns-in-Err-clause-kept
returns-in-Err-clause-kept g c =
    new-then c.args.heap.now c.make_properties.new.heap c.drop_pin.new.heap
    (grows-kept c.args.heap.now c.make_properties.new.heap c.reveal_invariant.ensures
    (drafting-grows c.args.heap.now c.create.new.heap c.make_properties.new.heap c.in_ok-device.device c.args.kind c.reveal_invariant.ensures
    c.in_ok-device.ensures.made.0
    c.in_ok-device.ensures.made.1
    c.in-Err.ensures.grows))
    (goes-kept c.make_properties.new.heap c.drop_pin.new.heap c.drop_pin.ensures.goes)
