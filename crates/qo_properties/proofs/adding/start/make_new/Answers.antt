-- The object that was made is given its slots.
use Rattle.std.proofs.Common.{subst, sym}
use Rattle.qo_heap.specs.Board.{Shows}
use Rattle.qo_heap.specs.Objects.{Objects}
use Rattle.qo_model.specs.Changes.{make, with_fresh_slots}
use Rattle.qo_properties.specs.OpeningSteps.{IsMade}
use Rattle.qo_properties.proofs.NewSlotLemmas.{shows-fresh}
use Rattle.qo_properties.proofs.OpeningLemmas.{bare-made, begun-in, is-made, live-made, made_in, shows-new}
use Rattle.qo_properties.proofs.adding.start.make_new.Goals as goal

pub set_default_slots-requires-clause-live : goal.set_default_slots-requires-clause-live
set_default_slots-requires-clause-live g c =
    rw c.in_ok-o.ensures.made.1 (live-made c.args.heap.now c.reveal_invariant.ensures c.in_ok-o.o c.args.kind c.in_ok-o.ensures.made.0)

pub set_default_slots-requires-clause-bare : goal.set_default_slots-requires-clause-bare
set_default_slots-requires-clause-bare g c =
    rw c.in_ok-o.ensures.made.1 (bare-made c.args.heap.now c.reveal_invariant.ensures c.in_ok-o.o c.args.kind c.in_ok-o.ensures.made.0)

pub returns-clause-made : goal.returns-clause-made
returns-clause-made g c =
    let is = begun-in c.args.heap.now c.reveal_invariant.ensures c.in_ok-o.o c.args.kind c.in_ok-o.ensures.made.0 c.make.new.self c.set_default_slots.new.heap
    c.in_ok-o.ensures.made.1 c.in_ok-set_default_slots.ensures.ok in
    subst (λ (x : Objects). IsMade c.args.heap.now x c.args.kind 1 c.in_ok-o.o) (sym is)
    (is-made c.args.heap.now c.reveal_invariant.ensures c.in_ok-o.o c.args.kind c.in_ok-o.ensures.made.0)

pub returns-clause-shown : goal.returns-clause-shown
returns-clause-shown g c = λ b s.
    let is = begun-in c.args.heap.now c.reveal_invariant.ensures c.in_ok-o.o c.args.kind c.in_ok-o.ensures.made.0 c.make.new.self c.set_default_slots.new.heap
    c.in_ok-o.ensures.made.1 c.in_ok-set_default_slots.ensures.ok in
    shows-new c.args.heap.now c.reveal_invariant.ensures c.in_ok-o.o c.args.kind c.in_ok-o.ensures.made.0 b s c.set_default_slots.new.heap
    (λ t. subst (λ (x : Objects). Shows (with_fresh_slots c.in_ok-o.o.birth c.args.kind (make c.args.kind b)) x) (sym is)
    (shows-fresh (make c.args.kind b) (made_in c.args.heap.now c.in_ok-o.o c.args.kind) t c.in_ok-o.o.birth c.args.kind))
