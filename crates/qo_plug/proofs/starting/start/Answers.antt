-- It acts, goes through the phases, and its path is kept.
use Rattle.std.proofs.Common.{◌≡◌, ap, ◌∙◌, true}
use Rattle.qo_heap.proofs.ActsLemmas.{acts-book, acts-then}
use Rattle.qo_heap.proofs.ActsReads.{acts-pins, acts-pins_of}
use Rattle.qo_hotplug.specs.Hotplug.{Asked, notified}
use Rattle.qo_properties.proofs.ActsKept.{acts-claims}
use Rattle.qo_properties.proofs.KeptLemmas.{claims-same, periods-same}
use Rattle.qo_plug.proofs.StartLemmas.{ok-gives, path-all_pins, path-book, path-claims, path-counted, path-kept, path-live, path-others, path-pins, started-told, starts, still-live, still-pathless}
use Rattle.qo_plug.proofs.starting.start.Goals as goal

pub plugged-requires : goal.plugged-requires
plugged-requires g c = still-live c.args.heap.now c.realize.new.heap c.realize.ensures.acts c.args.device c.requires.live

pub keep_path-requires-clause-live : goal.keep_path-requires-clause-live
keep_path-requires-clause-live g c =
    still-live c.args.heap.now c.plugged.new.heap
    (acts-then c.args.heap.now c.realize.new.heap c.plugged.new.heap c.realize.ensures.acts c.plugged.ensures.acts) c.args.device c.requires.live

pub keep_path-requires-clause-pathless : goal.keep_path-requires-clause-pathless
keep_path-requires-clause-pathless g c =
    still-pathless c.args.heap.now c.plugged.new.heap
    (acts-then c.args.heap.now c.realize.new.heap c.plugged.new.heap c.realize.ensures.acts c.plugged.ensures.acts) c.args.device.birth c.requires.pathless

pub returns-clause-shown : goal.returns-clause-shown
returns-clause-shown g c = λ b t held buses path.
    starts c.args.device.birth t b c.args.resets.now.births c.args.path c.realize.new.heap c.plugged.new.heap c.keep_path.new.self
    (c.realize.ensures.shown b held.0) held.1 c.plugged.ensures.shown c.keep_path.ensures.now buses path

pub returns-clause-told : goal.returns-clause-told
returns-clause-told g c = λ b t same.
    let is : c.plug.new.self ≡ notified true c.args.device.birth c.args.hotplug.now =
    ok-gives (c.plug.new.self ≡ notified true c.args.device.birth c.args.hotplug.now) c.plug.result c.unwrap.result c.unwrap.ensures c.plug.ensures.ok in
    started-told c.args.device.birth t b c.args.hotplug.now c.plug.new.self is same

pub returns-clause-pending : goal.returns-clause-pending
returns-clause-pending g c =
    let is : c.plug.new.self ≡ notified true c.args.device.birth c.args.hotplug.now =
    ok-gives (c.plug.new.self ≡ notified true c.args.device.birth c.args.hotplug.now) c.plug.result c.unwrap.result c.unwrap.ensures c.plug.ensures.ok in
    ap (λ (x : Asked). x.pending) is

pub returns-clause-book : goal.returns-clause-book
returns-clause-book g c = λ out h.
    path-book out c.plugged.new.heap c.keep_path.new.self c.args.device.birth c.args.path c.keep_path.ensures.now
    (acts-book out c.args.heap.now c.plugged.new.heap
    (acts-then c.args.heap.now c.realize.new.heap c.plugged.new.heap c.realize.ensures.acts c.plugged.ensures.acts) h)

pub returns-clause-names : goal.returns-clause-names
returns-clause-names g c = λ key live.
    path-live c.plugged.new.heap c.keep_path.new.self c.args.device.birth c.args.path c.keep_path.ensures.now key
    (still-live c.args.heap.now c.plugged.new.heap
    (acts-then c.args.heap.now c.realize.new.heap c.plugged.new.heap c.realize.ensures.acts c.plugged.ensures.acts) key live)

pub returns-clause-pins : goal.returns-clause-pins
returns-clause-pins g c =
    path-all_pins c.plugged.new.heap c.keep_path.new.self c.args.device.birth c.args.path c.keep_path.ensures.now
    ∙ acts-pins c.args.heap.now c.plugged.new.heap
    (acts-then c.args.heap.now c.realize.new.heap c.plugged.new.heap c.realize.ensures.acts c.plugged.ensures.acts)

pub returns-clause-pinned : goal.returns-clause-pinned
returns-clause-pinned g c =
    path-pins c.plugged.new.heap c.keep_path.new.self c.args.device.birth c.args.path c.keep_path.ensures.now
    ∙ acts-pins_of c.args.heap.now c.plugged.new.heap
    (acts-then c.args.heap.now c.realize.new.heap c.plugged.new.heap c.realize.ensures.acts c.plugged.ensures.acts) c.args.device.birth

pub returns-clause-path : goal.returns-clause-path
returns-clause-path g c =
    path-kept c.plugged.new.heap c.keep_path.new.self c.args.device c.args.path c.keep_path.ensures.now
    (still-live c.args.heap.now c.plugged.new.heap
    (acts-then c.args.heap.now c.realize.new.heap c.plugged.new.heap c.realize.ensures.acts c.plugged.ensures.acts) c.args.device c.requires.live)

pub returns-clause-claims : goal.returns-clause-claims
returns-clause-claims g c = λ n.
    claims-same c.plugged.new.heap c.keep_path.new.self
    (path-claims c.plugged.new.heap c.keep_path.new.self c.args.device.birth c.args.path c.keep_path.ensures.now) n
    ∙ acts-claims c.realize.new.heap c.plugged.new.heap c.plugged.ensures.acts n
    ∙ acts-claims c.args.heap.now c.realize.new.heap c.realize.ensures.acts n

pub returns-clause-counted : goal.returns-clause-counted
returns-clause-counted g c =
    path-counted c.plugged.new.heap c.keep_path.new.self c.args.device.birth c.args.path c.keep_path.ensures.now c.args.resets.now.births
    c.plugged.ensures.counted

pub returns-clause-others : goal.returns-clause-others
returns-clause-others g c = λ n apart.
    path-others c.realize.new.heap c.plugged.new.heap c.keep_path.new.self c.args.device.birth c.args.path c.keep_path.ensures.now c.plugged.ensures.acts
    c.plugged.ensures.others n apart
    ∙ c.realize.ensures.counts n

pub returns-clause-periods : goal.returns-clause-periods
returns-clause-periods g c = λ n.
    periods-same c.plugged.new.heap c.keep_path.new.self
    (path-claims c.plugged.new.heap c.keep_path.new.self c.args.device.birth c.args.path c.keep_path.ensures.now) n
    ∙ c.plugged.ensures.periods n
    ∙ c.realize.ensures.periods n
