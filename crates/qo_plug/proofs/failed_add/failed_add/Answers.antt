-- What was made ends when the pin goes.
use Rattle.std.proofs.Common.{◌≡◌, ◌+◌, ap, sym, subst, ◌∙◌, ℕ, length, arith}
use Rattle.std.proofs.lemmas.Result.{on_err_weaker, on_ok_weaker}
use Rattle.qo_model.specs.Board.{Board}
use Rattle.qo_model.specs.Release.{unpin}
use Rattle.qo_model.specs.Types.{slots_of}
use Rattle.qo_object.specs.Content.{fresh}
use Rattle.qo_heap.specs.Board.{Shows}
use Rattle.qo_heap.specs.Objects.{pins_of}
use Rattle.qo_properties.proofs.AddLemmas.{newest-live}
use Rattle.qo_plug.specs.Drafts.{created}
use Rattle.qo_plug.specs.FurtherDrafts.{FurtherFell, further_made}
use Rattle.qo_plug.proofs.CutLemmas.{draft-pinned}
use Rattle.qo_plug.proofs.DraftLemmas.{at-birth, draft-live, draft-rest, drafting-grows, shows-created}
use Rattle.qo_plug.proofs.FurtherLemmas.{further-given-up, further-short}
use Rattle.qo_properties.proofs.KeptLemmas.{goes-kept}
use Rattle.qo_plug.proofs.GrowthLemmas.{grows-kept}
use Rattle.qo_plug.proofs.KeptLemmas.{new-then}
use Rattle.qo_plug.proofs.failed_add.failed_add.Goals as goal

pub make_further-made-requires : goal.make_further-made-requires
make_further-made-requires g c =
    newest-live c.args.heap.now c.create.new.heap c.in_ok-device.device (fresh c.args.kind) c.reveal_invariant.ensures c.in_ok-device.ensures.made.0
    c.in_ok-device.ensures.made.1

pub drop_pin-requires-clause-live : goal.drop_pin-requires-clause-live
drop_pin-requires-clause-live g c =
    draft-live c.args.heap.now c.create.new.heap c.make_further-made.new.heap c.in_ok-device.device c.args.kind c.reveal_invariant.ensures
    c.in_ok-device.ensures.made.0
    c.in_ok-device.ensures.made.1
    c.make_further-made.ensures.grows

pub drop_pin-requires-clause-pinned : goal.drop_pin-requires-clause-pinned
drop_pin-requires-clause-pinned g c =
    let one : pins_of c.make_further-made.new.heap c.in_ok-device.device.birth ≡ 1 =
    draft-pinned c.make_further-made.new.heap c.in_ok-device.device.birth c.args.kind
    (draft-rest c.args.heap.now c.create.new.heap c.make_further-made.new.heap c.in_ok-device.device c.args.kind c.reveal_invariant.ensures
    c.in_ok-device.ensures.made.0
    c.in_ok-device.ensures.made.1
    c.make_further-made.ensures.grows) in
    omega (arith, one)

module _ (g : _) (c : goal.After-drop_pin g) (b : Board) (s : Shows b c.args.heap.now) where
  born : c.in_ok-device.device.birth ≡ b.born + 1
  born =
      at-birth c.args.heap.now c.create.new.heap c.make_further-made.new.heap c.in_ok-device.device c.args.kind c.reveal_invariant.ensures
      c.in_ok-device.ensures.made.0
      c.in_ok-device.ensures.made.1
      c.make_further-made.ensures.grows b s

  begun : Shows (created b c.args.kind) c.create.new.heap
  begun =
      subst (Shows (created b c.args.kind)) (sym c.in_ok-device.ensures.made.1)
      (shows-created b c.args.heap.now s c.reveal_invariant.ensures c.args.kind c.in_ok-device.device c.in_ok-device.ensures.made.0)

pub returns-clause-ok : goal.returns-clause-ok
returns-clause-ok g c =
    on_ok_weaker c.make_further-made.result
    (λ makes b bus stage s sound early.
    subst (λ (d : Board). Shows d c.drop_pin.new.heap)
    (ap (λ (n : ℕ). unpin (further_made n c.args.kind (length (slots_of c.args.kind)) (created b c.args.kind)) n) (born g c b s)
    ∙ further-given-up b c.args.kind sound bus stage early)
    (c.drop_pin.ensures.release
    (further_made c.in_ok-device.device.birth c.args.kind (length (slots_of c.args.kind)) (created b c.args.kind))
    (makes (created b c.args.kind) (begun g c b s))))
    c.make_further-made.ensures.ok

pub returns-clause-err : goal.returns-clause-err
returns-clause-err g c =
    on_err_weaker c.make_further-made.result
    (λ fell b s sound.
    further-short b c.args.kind sound c.create.new.heap c.make_further-made.new.heap c.drop_pin.new.heap
    (subst (λ (n : ℕ). FurtherFell n c.args.kind c.create.new.heap c.make_further-made.new.heap) (born g c b s) fell) (begun g c b s)
    (λ d shown. subst (λ (n : ℕ). Shows (unpin d n) c.drop_pin.new.heap) (born g c b s) (c.drop_pin.ensures.release d shown)))
    c.make_further-made.ensures.err

pub returns-clause-book : goal.returns-clause-book
returns-clause-book g c = λ out h.
    c.drop_pin.ensures.goes.book out
    ((drafting-grows c.args.heap.now c.create.new.heap c.make_further-made.new.heap c.in_ok-device.device c.args.kind c.reveal_invariant.ensures
    c.in_ok-device.ensures.made.0 c.in_ok-device.ensures.made.1
    c.make_further-made.ensures.grows).book out h)

pub returns-clause-kept : goal.returns-clause-kept
returns-clause-kept g c =
    new-then c.args.heap.now c.make_further-made.new.heap c.drop_pin.new.heap
    (grows-kept c.args.heap.now c.make_further-made.new.heap c.reveal_invariant.ensures
    (drafting-grows c.args.heap.now c.create.new.heap c.make_further-made.new.heap c.in_ok-device.device c.args.kind c.reveal_invariant.ensures
    c.in_ok-device.ensures.made.0 c.in_ok-device.ensures.made.1
    c.make_further-made.ensures.grows))
    (goes-kept c.make_further-made.new.heap c.drop_pin.new.heap c.drop_pin.ensures.goes)
