use Rattle.std.proofs.Common.{subst, Some}
use Rattle.qo_object.specs.Content.{without_pin}
use Rattle.qo_model.specs.Release.{after, finalize, unpin}
use Rattle.qo_heap.specs.Objects.{Objects}
use Rattle.qo_heap.proofs.HeapLemmas.{live-edit}
use Rattle.qo_life.specs.Life.{Goes}
use Rattle.qo_life.proofs.PaidLemmas.{pin-within}
use Rattle.qo_life.proofs.ReleaseLemmas.{goes-drop_pin}
use Rattle.qo_life.proofs.TreeLemmas.{goes-names, goes-shows}
use Rattle.qo_life.proofs.release.drop_pin.Goals as goal

pub end_unheld-requires : goal.end_unheld-requires
end_unheld-requires g c =
    rw c.unpin.ensures.now (live-edit c.args.o.birth without_pin c.args.heap.now.rows c.args.o c.requires.live)

pub returns-clause-release : goal.returns-clause-release
returns-clause-release g c =
    let later = subst (λ (x : Objects). Goes (λ b. after finalize b (Some c.args.o.birth)) x c.end_unheld.new.heap) c.unpin.ensures.now c.end_unheld.ensures.goes in
    goes-shows (λ b. unpin b c.args.o.birth) c.args.heap.now c.end_unheld.new.heap
    (goes-drop_pin c.args.heap.now c.end_unheld.new.heap c.reveal_invariant.ensures c.args.o.birth c.requires.pinned later)

pub returns-clause-names : goal.returns-clause-names
returns-clause-names g c =
    let later = subst (λ (x : Objects). Goes (λ b. after finalize b (Some c.args.o.birth)) x c.end_unheld.new.heap) c.unpin.ensures.now c.end_unheld.ensures.goes in
    goes-names (λ b. unpin b c.args.o.birth) c.args.heap.now c.end_unheld.new.heap
    (goes-drop_pin c.args.heap.now c.end_unheld.new.heap c.reveal_invariant.ensures c.args.o.birth c.requires.pinned later)

pub returns-clause-goes : goal.returns-clause-goes
returns-clause-goes g c =
    let later = subst (λ (x : Objects). Goes (λ b. after finalize b (Some c.args.o.birth)) x c.end_unheld.new.heap) c.unpin.ensures.now c.end_unheld.ensures.goes in
    goes-drop_pin c.args.heap.now c.end_unheld.new.heap c.reveal_invariant.ensures c.args.o.birth c.requires.pinned later

pub returns-clause-work : goal.returns-clause-work
returns-clause-work g c =
    pin-within c.args.heap.now c.unpin.new.self c.end_unheld.new.heap c.args.o.birth c.args.steps.now c.unpin.new.steps c.end_unheld.new.steps
    c.reveal_invariant.ensures c.requires.pinned c.unpin.ensures.now c.unpin.ensures.cost c.end_unheld.ensures.work
