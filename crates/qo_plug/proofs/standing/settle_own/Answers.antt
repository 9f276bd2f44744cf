-- The slots are looked at from the last on.
use Rattle.std.proofs.Common.{◌≡◌, ◌-◌, ◌∙◌, suc, sym, subst, true, List, arith}
use Rattle.std.specs.List.{list_all}
use Rattle.qo_properties.specs.declared.adding.filling.InitialValue.{InitialValue}
use Rattle.qo_plug.specs.Placement.{is_default}
use Rattle.qo_plug.proofs.PlacementFills.{none-left, settled-blank, settled-end, settled-fill, settled-fits, settled-live, settled-none, settled-skip, settled-some, settled-target}
use Rattle.qo_plug.proofs.standing.settle_own.Goals as goal

pub returns-then-is_blank : goal.returns-then-is_blank
returns-then-is_blank g c =
    settled-blank c.args.plan.items c.args.o c.args.heap.now
    (subst (λ (fs : List InitialValue). list_all is_default fs ≡ true) c.deref.ensures.value (sym c.is_blank.ensures ∙ c.if-is_blank.true))

pub loop-at-init : goal.loop-at-init
loop-at-init g c = settled-none c.args.plan.items c.args.o c.slot_count-at.result c.args.heap.now c.slot_count-at.ensures.count c.requires.fits

pub is_own_at-requires : goal.is_own_at-requires
is_own_at-requires g c =
    settled-live c.args.plan.items c.args.o c.loop-at.at c.loop-at.plan.items c.args.heap.now c.loop-at.heap c.loop-at.invariant c.args.o c.requires.live

pub loop-at-preserved-then-not-is_own_at : goal.loop-at-preserved-then-not-is_own_at
loop-at-preserved-then-not-is_own_at g c =
    let less : c.loop-at.at ≡ suc (c.loop-at.at - 1) = omega arith in
    settled-skip c.args.plan.items c.args.o c.loop-at.at c.loop-at.plan.items c.args.heap.now c.loop-at.heap c.loop-at.invariant c.reveal_invariant.ensures
    c.requires.live
    (c.loop-at.at - 1) less
    c.is_own_at.result c.is_own_at.ensures c.if-not-is_own_at.true

pub fill_at-requires-clause-live : goal.fill_at-requires-clause-live
fill_at-requires-clause-live g c =
    settled-live c.args.plan.items c.args.o c.loop-at.at c.loop-at.plan.items c.args.heap.now c.loop-at.heap c.loop-at.invariant c.args.o c.requires.live

pub fill_at-requires-clause-target : goal.fill_at-requires-clause-target
fill_at-requires-clause-target g c =
    let less : c.loop-at.at ≡ suc (c.loop-at.at - 1) = omega arith in
    settled-target c.args.plan.items c.args.o c.loop-at.at c.loop-at.plan.items c.args.heap.now c.loop-at.heap c.loop-at.invariant c.reveal_invariant.ensures
    c.requires.live (c.loop-at.at - 1) less
    c.is_own_at.result c.is_own_at.ensures c.if-not-is_own_at.false c.pop.new.self.items c.in-Some.fill c.in-Some.ensures.items c.requires.targets

pub fill_at-requires-clause-fits : goal.fill_at-requires-clause-fits
fill_at-requires-clause-fits g c =
    let less : c.loop-at.at ≡ suc (c.loop-at.at - 1) = omega arith in
    settled-fits c.args.plan.items c.args.o c.loop-at.at c.loop-at.plan.items c.args.heap.now c.loop-at.heap c.loop-at.invariant c.reveal_invariant.ensures
    c.requires.live
    (c.loop-at.at - 1) less
    c.is_own_at.result c.is_own_at.ensures c.if-not-is_own_at.false c.pop.new.self.items c.in-Some.fill c.in-Some.ensures.items

pub loop-at-preserved-in-Some : goal.loop-at-preserved-in-Some
loop-at-preserved-in-Some g c =
    let less : c.loop-at.at ≡ suc (c.loop-at.at - 1) = omega arith in
    settled-fill c.args.plan.items c.args.o c.loop-at.at c.loop-at.plan.items c.args.heap.now c.loop-at.heap c.loop-at.invariant c.reveal_invariant.ensures
    c.requires.live
    (c.loop-at.at - 1) less
    c.is_own_at.result c.is_own_at.ensures c.if-not-is_own_at.false c.pop.new.self.items c.in-Some.fill c.in-Some.ensures.items c.fill_at.new.heap
    c.fill_at.ensures

pub loop-at-preserved : goal.loop-at-preserved
loop-at-preserved g c =
    let less : c.loop-at.at ≡ suc (c.loop-at.at - 1) = omega arith in
    absurd
    (settled-some c.args.plan.items c.args.o c.loop-at.at c.loop-at.plan.items c.args.heap.now c.loop-at.heap c.loop-at.invariant c.reveal_invariant.ensures
    c.requires.live (c.loop-at.at - 1) less
    c.is_own_at.result c.is_own_at.ensures c.if-not-is_own_at.false
    (none-left c.loop-at.plan.items (sym c.in_default.ensures.cases.0 ∙ c.loop-at.plan.ok.0)))

pub returns : goal.returns
returns g c =
    let end : c.loop-at.at ≡ 0 = omega arith in
    settled-end c.args.plan.items c.args.o c.loop-at.at c.loop-at.plan.items c.args.heap.now c.loop-at.heap end c.loop-at.invariant
