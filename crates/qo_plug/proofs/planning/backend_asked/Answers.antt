-- A DIMM has a slot for it.
use Rattle.std.proofs.Common.{ap, sym, subst, ◌∙◌, List, option_map}
use Rattle.std.specs.Prelude.{IfSome}
use Rattle.std.specs.List.{AllByRecursion}
use Rattle.qo_object.specs.BoardObject.{birth_of}
use Rattle.qo_heap.specs.Rows.{IsLive}
use Rattle.qo_properties.specs.declared.adding.filling.InitialValue.{InitialValue}
use Rattle.qo_properties.specs.Filling.{target_in}
use Rattle.qo_properties.specs.Plans.{IsPlan}
use Rattle.qo_plug.proofs.PlanLemmas.{memdev-told, target-lives}
use Rattle.qo_plug.proofs.planning.backend_asked.Goals as goal

pub returns-clause-backend : goal.returns-clause-backend
returns-clause-backend c = λ b props has.
    let plan = subst (λ (plan : List InitialValue). IsPlan b c.args.planned.now.target.kind props plan) (sym c.as_slice.ensures.value) has in
    ap birth_of c.target_in.ensures
    ∙ memdev-told b props c.args.planned.now.target.kind (option_map (λ f. f.now) c.planned_for.result) c.requires (c.planned_for.ensures.given b props plan)

pub returns-clause-live : goal.returns-clause-live
returns-clause-live c = λ v live.
    let named = subst (λ (plan : List InitialValue). AllByRecursion (λ (f : InitialValue). IfSome (target_in f) (IsLive v.rows)) plan)
    (sym c.as_slice.ensures.value) live in
    rw c.target_in.ensures (target-lives (IsLive v.rows) c.planned_for.result (c.planned_for.ensures.live v named))
