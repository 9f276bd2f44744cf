-- The device is new, and what was learnt before it was made stays so.
use Rattle.std.proofs.Common.{◌≡◌, ◌≤◌, ◌+◌, ◌==◌, ap, sym, subst, ◌∙◌, ℕ, IfOk, arith}
use Rattle.qo_claims.specs.Book.{ClaimsTaken}
use Rattle.qo_heap.proofs.HeapLemmas.{on-err}
use Rattle.qo_plug.specs.FreeResources.{AreFreeResources, IsFreeId}
use Rattle.qo_plug.specs.Drafts.{own_slots_of}
use Rattle.qo_plug.proofs.AddLemmas.{planned-judged}
use Rattle.qo_plug.proofs.GivenDraftLemmas.{left-fits, left-given, left-targets}
use Rattle.qo_plug.proofs.GrowthLemmas.{live-low, unborn-quiet}
use Rattle.qo_plug.proofs.beginning.make.Goals as goal

pub returns-clause-held : goal.returns-clause-held
returns-clause-held g c =
    let made = c.in_ok-device.ensures.made in
    let grows = c.in_ok-device.ensures.grows in
    let born : c.in_ok-device.device.birth ≡ c.args.heap.now.born + 1 = made.birth in
    let low : c.args.planned.target.bus.birth ≤ c.args.heap.now.born =
    live-low c.args.heap.now c.reveal_invariant.ensures c.args.planned.target.bus c.requires.fit.bus in
    let plan = c.args.planned.plan in
    let value = c.as_mut_slice.ensures.value in
    let left = c.in_ok-device.ensures.left in
    record {
      device_is = c.requires.fit.device;
      live = made.live;
      container = grows.names c.args.planned.target.place.container c.requires.fit.container;
      bus = grows.names c.args.planned.target.bus c.requires.fit.bus;
      older = omega (arith, born, low);
      within = c.requires.resources.within;
      dimm = c.requires.resources.dimm;
      stages = c.requires.resources.stages;
      free_id = subst (IsFreeId c.args.planned.target.place.id) (sym grows.claims) c.requires.fit.free_id;
      free = subst (λ (h : ClaimsTaken). IfOk c.args.resources (λ at. AreFreeResources c.args.planned.target.bus.birth at h)) (sym grows.claims)
          c.requires.resources.free;
      pinned = c.in_ok-device.ensures.pinned;
      rest = made.rest;
      quiet = λ n le. grows.quiet n (unborn-quiet c.args.heap.now c.reveal_invariant.ensures n (omega (arith, born, le)));
      targets =
          left-targets plan c.as_mut_slice.result.now c.make_device.new.plan value left c.args.heap.now c.make_device.new.heap grows.names
          c.requires.fit.targets;
      fits =
          left-fits plan c.as_mut_slice.result.now c.make_device.new.plan value left c.args.planned.target.kind
          (own_slots_of c.make_device.new.heap c.in_ok-device.device.birth) made.own c.requires.fit.fits;
    }

pub returns-clause-begun : goal.returns-clause-begun
returns-clause-begun g c = λ b a anonymous asked is planned.
    let made = c.in_ok-device.ensures.made in
    let value = c.as_mut_slice.ensures.value in
    let judged = planned-judged is planned in
    record {
      shown = c.in_ok-device.ensures.shown b a.props (rw value planned.has) is.shown;
      sound = is.sound;
      admitted = planned.admitted;
      given = planned.given;
      birth = made.birth ∙ sym (ap (λ (k : ℕ). k + 1) is.shown.born);
      barred = c.requires.resources.refused b a.props judged;
      resources = c.requires.resources.resources b a.props judged;
      out = ap (λ (k : ℕ). k == 0) (c.count-out.ensures.count b (is.shown, is.holds_are));
      plan =
          left-given c.args.planned.plan c.as_mut_slice.result.now c.make_device.new.plan value c.in_ok-device.ensures.left c.args.planned.target.kind
          (own_slots_of c.make_device.new.heap c.in_ok-device.device.birth) made.own b a.props planned.has;
    }

pub returns-in_err-device-clause-err : goal.returns-in_err-device-clause-err
returns-in_err-device-clause-err g c = on-err c.from_residual.result c.in_err-device.ensures.err

pub count-out-requires-clause-live : goal.count-out-requires-clause-live
count-out-requires-clause-live g c = c.requires.fit.bus
