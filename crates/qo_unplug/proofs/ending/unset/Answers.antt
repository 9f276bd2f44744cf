-- The value is set.
use Rattle.std.proofs.Common.{codes, false}
use Rattle.qo_values.specs.declared.properties.Val.TheVariants as val
use Rattle.qo_sound_clocks.proofs.DecreaseLemmas.{other-realized}
use Rattle.qo_unplug.proofs.EndingLemmas.{undoes-set}
use Rattle.qo_properties.proofs.KeptLemmas.{goes-kept}
use Rattle.qo_unplug.proofs.ending.unset.Goals as goal

pub returns-clause-undoes : goal.returns-clause-undoes
returns-clause-undoes g c = λ held asked.
    undoes-set c.args.heap.now c.set_named.new.heap c.args.dev.birth (codes "realized") (val.Bool false) other-realized c.set_named.ensures.goes
    (λ key here. c.set_named.ensures.names key here) held asked

pub returns-clause-kept : goal.returns-clause-kept
returns-clause-kept g c =
    goes-kept c.args.heap.now c.set_named.new.heap c.set_named.ensures.goes
