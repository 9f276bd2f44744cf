-- The object that was made is a child and gets its slots, or holds nothing and ends.
use Rattle.std.proofs.Common.{refl, inr, ◌∙◌, filter_map}
use Rattle.qo_kinds.proofs.BodyLemmas.{fresh-bare}
use Rattle.qo_heap.specs.Rows.{IsLive}
use Rattle.qo_object.specs.Content.{fresh, with_slot}
use Rattle.qo_object.specs.Slots.{Named, target_of}
use Rattle.qo_object.specs.declared.slots.Slot.TheVariants.{Child}
use Rattle.qo_heap.proofs.HeapLemmas.{live-edit}
use Rattle.qo_properties.proofs.AddLemmas.{beside-bare, beside-live, furnished-child, newest-alone, newest-bare, newest-ends, newest-keeps, newest-live, newest-pinned}
use Rattle.qo_values.proofs.ListLemmas.{all-imply}
use Rattle.qo_properties.proofs.adding.objects.make_with.Goals as goal

pub add_child-requires-clause-live : goal.add_child-requires-clause-live
add_child-requires-clause-live g c =
    newest-keeps c.args.heap.now c.create.new.heap c.in_ok-o.o (fresh c.args.kind) c.in_ok-o.ensures.made.1 c.args.parent c.requires.parent

pub add_child-requires-clause-target : goal.add_child-requires-clause-target
add_child-requires-clause-target g c =
    newest-live c.args.heap.now c.create.new.heap c.in_ok-o.o (fresh c.args.kind) c.reveal_invariant.ensures c.in_ok-o.ensures.made.0 c.in_ok-o.ensures.made.1

pub set_slots-requires-clause-live : goal.set_slots-requires-clause-live
set_slots-requires-clause-live g c =
    rw c.in-Ok.ensures.added
    (live-edit c.args.parent.birth (with_slot c.args.name (Child c.in_ok-o.o)) c.create.new.heap.rows c.in_ok-o.o
    (newest-live c.args.heap.now c.create.new.heap c.in_ok-o.o (fresh c.args.kind) c.reveal_invariant.ensures c.in_ok-o.ensures.made.0
    c.in_ok-o.ensures.made.1))

pub set_slots-requires-clause-targets : goal.set_slots-requires-clause-targets
set_slots-requires-clause-targets g c =
    all-imply (IsLive c.args.heap.now.rows) (IsLive c.add_child.new.self.rows)
    (beside-live c.args.heap.now c.create.new.heap c.add_child.new.self c.in_ok-o.o (fresh c.args.kind) c.args.parent.birth
    (with_slot c.args.name (Child c.in_ok-o.o)) c.in_ok-o.ensures.made.1 c.in-Ok.ensures.added)
    (filter_map (λ (s : Named). target_of s.1) c.args.slots) c.requires.targets

pub set_slots-requires-clause-bare : goal.set_slots-requires-clause-bare
set_slots-requires-clause-bare g c =
    beside-bare c.args.heap.now c.create.new.heap c.add_child.new.self c.in_ok-o.o c.args.parent c.args.kind (with_slot c.args.name (Child c.in_ok-o.o))
    c.reveal_invariant.ensures c.in_ok-o.ensures.made.0 c.requires.parent c.in_ok-o.ensures.made.1 c.in-Ok.ensures.added

pub give_up-requires-clause-live : goal.give_up-requires-clause-live
give_up-requires-clause-live g c =
    newest-live c.args.heap.now c.add_child.new.self c.in_ok-o.o (fresh c.args.kind) c.reveal_invariant.ensures c.in_ok-o.ensures.made.0
    (c.in-Err.ensures.err ∙ c.in_ok-o.ensures.made.1)

pub give_up-requires-clause-pinned : goal.give_up-requires-clause-pinned
give_up-requires-clause-pinned g c =
    newest-pinned c.args.heap.now c.add_child.new.self c.in_ok-o.o (fresh c.args.kind) c.reveal_invariant.ensures c.in_ok-o.ensures.made.0
    (c.in-Err.ensures.err ∙ c.in_ok-o.ensures.made.1) refl

pub give_up-requires-clause-alone : goal.give_up-requires-clause-alone
give_up-requires-clause-alone g c =
    newest-alone c.args.heap.now c.add_child.new.self c.in_ok-o.o (fresh c.args.kind) c.reveal_invariant.ensures c.in_ok-o.ensures.made.0
    (c.in-Err.ensures.err ∙ c.in_ok-o.ensures.made.1) refl refl

pub give_up-requires-clause-bare : goal.give_up-requires-clause-bare
give_up-requires-clause-bare g c =
    newest-bare c.args.heap.now c.add_child.new.self c.in_ok-o.o (fresh c.args.kind) c.reveal_invariant.ensures c.in_ok-o.ensures.made.0
    (c.in-Err.ensures.err ∙ c.in_ok-o.ensures.made.1) refl

pub returns-in-Err-clause-err : goal.returns-in-Err-clause-err
returns-in-Err-clause-err g c =
    inr (newest-ends c.args.heap.now c.add_child.new.self c.in_ok-o.o (fresh c.args.kind) c.reveal_invariant.ensures c.in_ok-o.ensures.made.0
    (c.in-Err.ensures.err ∙ c.in_ok-o.ensures.made.1) (fresh-bare c.args.kind) refl refl c.give_up.new.heap c.give_up.ensures)

pub returns-in-Ok-clause-made : goal.returns-in-Ok-clause-made
returns-in-Ok-clause-made g c =
    record {
      birth = c.in_ok-o.ensures.made.0;
      is =
          furnished-child c.args.heap.now c.create.new.heap c.add_child.new.self c.set_slots.new.self c.in_ok-o.o c.args.parent c.args.name c.args.kind
          c.args.slots c.reveal_invariant.ensures c.in_ok-o.ensures.made.0 c.requires.parent c.in_ok-o.ensures.made.1 c.in-Ok.ensures.added
          c.set_slots.ensures;
    }
