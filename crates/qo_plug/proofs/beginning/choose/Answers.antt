-- The device is admitted, and what is given for its properties is planned.
use Rattle.std.proofs.Common.{refl, ℕ}
use Rattle.qo_model.specs.Plug.{Wanted}
use Rattle.qo_plug.specs.Admission.{IsAdmitted, as_wanted}
use Rattle.qo_model.specs.Objects.{refusal_of}
use Rattle.qo_plug.proofs.AddLemmas.{cut-late, refused-early, turned-refused}
use Rattle.qo_plug.proofs.PlanLemmas.{plan-refused}
use Rattle.qo_plug.proofs.beginning.choose.Goals as goal

pub returns-in-Err-clause-refused : goal.returns-in-Err-clause-refused
returns-in-Err-clause-refused g c = λ b holds rings is.
    let a : Wanted = as_wanted c.args.options.now in
    refused-early b a ℕ ℕ c.in-Err.refusal c.args.heap.now is.shown
    (c.in-Err.ensures.refused b c.args.options.now.props.now is.shown is.recounted is.pending is.anonymous_is)

pub returns-in-Ok-plan-clause-fit : goal.returns-in-Ok-plan-clause-fit
returns-in-Ok-plan-clause-fit g c =
    record {
      device = c.in-Ok.ensures.device;
      container = c.in-Ok.ensures.live.0;
      bus = c.in-Ok.ensures.live.1;
      free_id = c.in-Ok.ensures.free;
      targets = c.in-Ok-plan.ensures.live;
      fits = c.in-Ok-plan.ensures.fits;
    }

pub returns-in-Ok-plan-clause-planned : goal.returns-in-Ok-plan-clause-planned
returns-in-Ok-plan-clause-planned g c = λ b holds rings is.
    record {
      admitted = c.in-Ok.ensures.admitted b c.args.options.now.props.now is.shown is.recounted is.pending is.anonymous_is;
      given = c.in-Ok-plan.ensures.refused b is.shown;
      has = c.in-Ok-plan.ensures.told b is.shown;
    }

pub returns-in-Err-Refused-clause-refused : goal.returns-in-Err-Refused-clause-refused
returns-in-Err-Refused-clause-refused g c = λ b holds rings is.
    let a : Wanted = as_wanted c.args.options.now in
    let admitted : IsAdmitted b a c.in-Ok.target =
    c.in-Ok.ensures.admitted b c.args.options.now.props.now is.shown is.recounted is.pending is.anonymous_is in
    let refused =
    plan-refused ℕ (refusal_of b c.in-Ok.target.kind c.args.options.now.props.now) c.in-Err-Refused.field-0 c.in-Err-Refused.code c.in-Err-Refused.field-0-is
    (c.in-Err-Refused.ensures.refused b is.shown) in
    turned-refused b a c.in-Ok.target admitted c.note_failed_add.new.heap c.in-Err-Refused.code refused ℕ c.note_failed_add.result
    (c.note_failed_add.ensures.down b c.in-Ok.target.bus.birth is.shown is.sound refl)

pub returns-in-Err-Refused-clause-memory : goal.returns-in-Err-Refused-clause-memory
returns-in-Err-Refused-clause-memory g c = λ b holds rings is e.
    let a : Wanted = as_wanted c.args.options.now in
    let admitted : IsAdmitted b a c.in-Ok.target =
    c.in-Ok.ensures.admitted b c.args.options.now.props.now is.shown is.recounted is.pending is.anonymous_is in
    cut-late b a c.in-Ok.target admitted c.note_failed_add.new.heap (c.note_failed_add.ensures.memory b is.shown is.sound (cc e))
