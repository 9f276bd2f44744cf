-- A DIMM has a slot for it.
use Rattle.std.proofs.Common.{sym, subst, ◌∙◌, List, option_map}
use Rattle.qo_properties.specs.declared.adding.filling.InitialValue.{InitialValue}
use Rattle.qo_properties.specs.Plans.{IsPlan}
use Rattle.qo_plug.proofs.PlanLemmas.{addr-told}
use Rattle.qo_plug.proofs.planning.address_asked.Goals as goal

pub returns : goal.returns
returns c = λ b props has.
    let plan = subst (λ (plan : List InitialValue). IsPlan b c.args.planned.now.target.kind props plan) (sym c.as_slice.ensures.value) has in
    c.number_in.ensures
    ∙ addr-told b props c.args.planned.now.target.kind (option_map (λ f. f.now) c.planned_for.result) c.requires (c.planned_for.ensures.given b props plan)
