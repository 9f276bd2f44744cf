-- What bars a DIMM is its memory, and a bridge its depth.
use Rattle.std.proofs.Common.{◌≡◌, ℕ, ap, sym, subst, ◌∙◌, Some, None, OnOk}
use Rattle.qo_values.specs.declared.kinds.TypeId.{TypeId}
use Rattle.qo_values.specs.declared.kinds.TypeId.TheVariants.{MemDimm}
use Rattle.qo_model.specs.Plug.{kind_barred, range_of}
use Rattle.qo_plug.specs.Admission.{IfRefused}
use Rattle.qo_plug.proofs.JudgementLemmas.{refused-map}
use Rattle.qo_plug.proofs.pre_plug.check_kind.Goals as goal

pub returns-in-Ok-clause-open : goal.returns-in-Ok-clause-open
returns-in-Ok-clause-open g c = λ b props rings judged.
    ap (λ (t : TypeId). kind_barred b t c.args.planned.now.target.bus.birth props) c.in-MemDimm.is
    ∙ c.in-Ok.ensures.open b c.args.planned.now.target.bus.birth props rings judged

pub returns-in-Err-clause-refused : goal.returns-in-Err-clause-refused
returns-in-Err-clause-refused g c = λ b props rings judged.
    let kind = ap (λ (t : TypeId). kind_barred b t c.args.planned.now.target.bus.birth props) c.in-MemDimm.is in
    refused-map ℕ ℕ (λ stage code. (stage ≡ 5) × (kind_barred b MemDimm c.args.planned.now.target.bus.birth props ≡ Some code))
    (λ stage code. (stage ≡ 5) × (kind_barred b c.args.planned.now.target.kind c.args.planned.now.target.bus.birth props ≡ Some code)) c.in-Err.refusal
    (λ stage code h. (h.0, kind ∙ h.1)) (c.in-Err.ensures.refused b c.args.planned.now.target.bus.birth props rings judged)

pub returns-in-SlotBridge-clause-open : goal.returns-in-SlotBridge-clause-open
returns-in-SlotBridge-clause-open g c = λ b props rings judged.
    subst (λ (t : TypeId). OnOk c.check_depth.result (kind_barred b t c.args.planned.now.target.bus.birth props ≡ None)) (sym c.in-SlotBridge.is)
    (c.check_depth.ensures.open b props judged.shown)

pub returns-in-SlotBridge-clause-refused : goal.returns-in-SlotBridge-clause-refused
returns-in-SlotBridge-clause-refused g c = λ b props rings judged.
    subst (λ (t : TypeId). IfRefused c.check_depth.result (λ stage code. (stage ≡ 5) × (kind_barred b t c.args.planned.now.target.bus.birth props ≡ Some code)))
    (sym c.in-SlotBridge.is) (c.check_depth.ensures.refused b props judged.shown)

pub returns-in-Ok-clause-range : goal.returns-in-Ok-clause-range
returns-in-Ok-clause-range g c = λ b props rings judged.
    sym (c.in-Ok.ensures.range b props rings judged) ∙ ap (λ (t : TypeId). range_of b t props) (sym c.in-MemDimm.is)
