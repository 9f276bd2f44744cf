-- The further object that was made is the child of the device, and its pin goes.
use Rattle.std.proofs.Common.{◌≡◌, subst, List, ℕ, arith}
use Rattle.qo_heap.specs.Objects.{pins_of}
use Rattle.qo_model.specs.Plug.{with_kid}
use Rattle.qo_properties.proofs.AddLemmas.{child-live, child-pinned}
use Rattle.qo_plug.specs.Drafts.{Makes}
use Rattle.qo_plug.proofs.DraftLemmas.{kid-grows, kid-own, kid-shown}
use Rattle.qo_plug.proofs.drafting.make_kid.Goals as goal

pub unpin-requires-clause-live : goal.unpin-requires-clause-live
unpin-requires-clause-live g c = child-live c.reveal_invariant.ensures c.in_ok-kid.ensures.made

pub unpin-requires-clause-pinned : goal.unpin-requires-clause-pinned
unpin-requires-clause-pinned g c =
    let one : pins_of c.make_child.new.heap c.in_ok-kid.kid.birth ≡ 1 = child-pinned c.reveal_invariant.ensures c.in_ok-kid.ensures.made in
    omega (arith, one)

pub returns-clause-ok : goal.returns-clause-ok
returns-clause-ok g c =
    subst (λ (name : List ℕ). Makes (with_kid c.args.device.birth name c.args.kind) c.args.heap.now c.unpin.new.self) c.row.ensures
    (kid-shown c.reveal_invariant.ensures c.requires.live c.in_ok-kid.ensures.made c.unpin.new.self c.unpin.ensures.now)

pub returns-clause-own : goal.returns-clause-own
returns-clause-own g c = kid-own c.reveal_invariant.ensures c.requires.live c.in_ok-kid.ensures.made c.unpin.new.self c.unpin.ensures.now

pub returns-clause-grows : goal.returns-clause-grows
returns-clause-grows g c = kid-grows c.reveal_invariant.ensures c.requires.live c.in_ok-kid.ensures.made c.unpin.new.self c.unpin.ensures.now
