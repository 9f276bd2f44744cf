use Rattle.std.proofs.Common.{◌<◌, length, false, ◌∙◌, arith}
use Rattle.std.proofs.lemmas.List.{get_or_default}
use Rattle.qo_irq.proofs.Nets.{kept-level}
use Rattle.qo_irq.proofs.WiresLemmas.{wires-length}
use Rattle.qo_irq.proofs.net.Net.level.Goals as goal

pub index-requires : goal.index-requires
index-requires c =
    let within : c.args.line < length c.self.inside.gates.items =
    rw (← wires-length c.self.inside.gates.items c.self.inside.levels.items, c.self.view_is) c.requires in
    omega (arith, c.self.invariant.levels_all)

pub returns : goal.returns
returns c =
    let within : c.args.line < length c.self.inside.gates.items =
    rw (← wires-length c.self.inside.gates.items c.self.inside.levels.items, c.self.view_is) c.requires in
    let there : c.args.line < length c.self.inside.levels.items = omega (arith, c.self.invariant.levels_all) in
    rw (← c.self.view_is) (c.index.ensures ∙ get_or_default c.self.inside.levels.items c.args.line c.index.result.now false there
    ∙ kept-level c.self.inside.gates.items c.self.inside.dependants.items c.self.inside.levels.items c.self.inside.pending.items c.self.inside.inputs c.args.line c.self.invariant within)
