use Rattle.std.proofs.Common.{◌≡◌, ◌<◌, true, false, length, sym, ap, ◌∙◌, arith, length-set, get_or-set_same}
use Rattle.std.proofs.Math.ListN.{set}
use Rattle.std.proofs.lemmas.List.{get_or_default}
use Rattle.qo_irq.specs.Kept.{gate_at, InputsStay}
use Rattle.qo_irq.specs.Wires.{wire_of, is_input, level_at}
use Rattle.qo_irq.proofs.Nets.{settable, set-same, set-settled, settled-kept, refilled, beq-same}
use Rattle.qo_irq.proofs.WiresLemmas.{wires-length, wires-set}
use Rattle.qo_irq.proofs.net.Net.set.Goals as goal

pub index-requires : goal.index-requires
index-requires c =
    let there : c.args.line < length c.self.inside.gates.items =
    rw (← wires-length c.self.inside.gates.items c.self.inside.levels.items, c.self.view_is) c.requires.within in
    omega (arith, c.self.invariant.levels_all)

pub returns-then-index-high : goal.returns-then-index-high
returns-then-index-high c =
    let there : c.args.line < length c.self.inside.gates.items =
    rw (← wires-length c.self.inside.gates.items c.self.inside.levels.items, c.self.view_is) c.requires.within in
    let is : is_input (wire_of (gate_at c.self.inside.gates.items c.args.line) false) ≡ true =
    settable c.self.inside.gates.items c.self.inside.levels.items c.args.line there (rw c.self.view_is c.requires.settable) in
    let in_levels : c.args.line < length c.self.inside.levels.items = omega (arith, c.self.invariant.levels_all) in
    let now : level_at c.self.inside.levels.items c.args.line ≡ c.args.high =
    get_or_default c.self.inside.levels.items c.args.line false c.index.result.now in_levels ∙ sym c.index.ensures
    ∙ beq-same c.index.result.now c.args.high c.if-index-high.true in
    rw (← c.self.view_is) (set-same c.self.inside.gates.items c.self.inside.levels.items c.args.line c.args.high c.self.invariant.levels_all there is now)

pub index_mut-requires : goal.index_mut-requires
index_mut-requires c =
    let there : c.args.line < length c.self.inside.gates.items =
    rw (← wires-length c.self.inside.gates.items c.self.inside.levels.items, c.self.view_is) c.requires.within in
    omega (arith, c.self.invariant.levels_all)

pub spread-requires-clause-within : goal.spread-requires-clause-within
spread-requires-clause-within c =
    rw (c.deref.ensures.value, ← wires-length c.self.inside.gates.items c.self.inside.levels.items, c.self.view_is) c.requires.within

pub spread-requires-clause-settled : goal.spread-requires-clause-settled
spread-requires-clause-settled c =
    let there : c.args.line < length c.self.inside.gates.items =
    rw (← wires-length c.self.inside.gates.items c.self.inside.levels.items, c.self.view_is) c.requires.within in
    let is : is_input (wire_of (gate_at c.self.inside.gates.items c.args.line) false) ≡ true =
    settable c.self.inside.gates.items c.self.inside.levels.items c.args.line there (rw c.self.view_is c.requires.settable) in
    rw (c.deref.ensures.value, c.deref-2.ensures.value, c.deref_mut.ensures.value)
    (λ i within apart. set-settled c.self.inside.gates.items c.self.inside.dependants.items c.self.inside.levels.items c.self.inside.pending.items c.self.inside.inputs
    c.args.line i c.args.high c.self.invariant there is within apart)

pub invariant_of-self : goal.invariant_of-self
invariant_of-self c =
    let levels_all : length c.spread.new.levels ≡ length c.self.inside.levels.items =
    c.spread.auto.levels ∙ ap length c.deref_mut.ensures.value ∙ length-set c.self.inside.levels.items c.args.line c.args.high in
    let pending_all : length c.spread.new.pending ≡ length c.self.inside.pending.items = c.spread.auto.pending ∙ ap length c.deref_mut-2.ensures.value in
    rw (
      refilled c.self.inside.levels.len c.spread.new.levels (set c.self.inside.levels.items c.args.line c.args.high) (omega (arith, levels_all, c.self.inside.levels.ok.0)),
      refilled c.self.inside.pending.len c.spread.new.pending c.self.inside.pending.items (omega (arith, pending_all, c.self.inside.pending.ok.0)),
    )
    (settled-kept c.self.inside.gates.items c.self.inside.dependants.items c.self.inside.levels.items c.self.inside.pending.items c.spread.new.levels
    c.spread.new.pending c.self.inside.inputs c.self.invariant (levels_all ∙ c.self.invariant.levels_all) (pending_all ∙ c.self.invariant.pending_all)
    (rw c.deref.ensures.value at c.spread.ensures.settled) c.spread.ensures.calm)

pub returns : goal.returns
returns c =
    let there : c.args.line < length c.self.inside.gates.items =
    rw (← wires-length c.self.inside.gates.items c.self.inside.levels.items, c.self.view_is) c.requires.within in
    let is : is_input (wire_of (gate_at c.self.inside.gates.items c.args.line) false) ≡ true =
    settable c.self.inside.gates.items c.self.inside.levels.items c.args.line there (rw c.self.view_is c.requires.settable) in
    let levels_all : length c.spread.new.levels ≡ length c.self.inside.levels.items =
    c.spread.auto.levels ∙ ap length c.deref_mut.ensures.value ∙ length-set c.self.inside.levels.items c.args.line c.args.high in
    let stay : InputsStay c.self.inside.gates.items (set c.self.inside.levels.items c.args.line c.args.high) c.spread.new.levels =
    rw (← c.deref.ensures.value, ← c.deref_mut.ensures.value) c.spread.ensures.inputs in
    let in_levels : c.args.line < length c.self.inside.levels.items = omega (arith, c.self.invariant.levels_all) in
    let now : level_at c.spread.new.levels c.args.line ≡ c.args.high =
    stay c.args.line is ∙ get_or-set_same c.self.inside.levels.items c.args.line c.args.high false in_levels in
    rw (
      refilled c.self.inside.levels.len c.spread.new.levels (set c.self.inside.levels.items c.args.line c.args.high) (omega (arith, levels_all, c.self.inside.levels.ok.0)),
      ← c.self.view_is,
    )
    (wires-set c.self.inside.gates.items c.self.inside.levels.items c.spread.new.levels c.args.line c.args.high c.self.invariant.levels_all
    (levels_all ∙ c.self.invariant.levels_all) there is now stay)
