-- The fill goes to the place of the row's slot.
use Rattle.std.proofs.Common.{◌≡◌, ◌<◌, length, arith}
use Rattle.qo_properties.specs.Filling.{Fits}
use Rattle.qo_properties.proofs.PlanningLemmas.{put-fits, put-told, put-within}
use Rattle.qo_properties.proofs.adding.planning.plan_one.Goals as goal

pub index_mut-requires : goal.index_mut-requires
index_mut-requires g c =
    let within : c.in-Some.placed.place < length c.args.fills.now.items = put-within c.args.kind c.args.fills.now.items c.in-Some.placed
    c.in-Some.ensures.place (c.in_ok-fill.ensures.own c.args.kind) Fits c.requires in
    let many : c.args.fills.now.len ≡ length c.args.fills.now.items = c.args.fills.now.ok.0 in
    omega arith

pub returns-clause-told : goal.returns-clause-told
returns-clause-told g c = λ b given s none all.
    put-told c.args.kind c.args.fills.now.items c.in-Some.placed c.in-Some.ensures.place (c.in_ok-fill.ensures.own c.args.kind) b given
    (c.args.name.now, c.args.val.now) none c.in-Some.ensures.row c.in_ok-fill.fill (c.in_ok-fill.ensures.told b s c.args.kind) all

pub returns-clause-fits : goal.returns-clause-fits
returns-clause-fits g c =
    put-fits c.args.kind c.args.fills.now.items c.in-Some.placed c.in-Some.ensures.place (c.in_ok-fill.ensures.own c.args.kind) c.in_ok-fill.fill
    (c.in_ok-fill.ensures.fits c.args.kind) c.requires
