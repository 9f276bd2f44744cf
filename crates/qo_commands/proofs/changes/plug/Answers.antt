-- The device is added, or what refuses it is told.
use Rattle.std.proofs.Common.{Ok, Err, subst}
use Rattle.std.specs.Prelude.{option_map}
use Rattle.qo_plug.specs.Admission.{wanted}
use Rattle.qo_plug.specs.declared.refusals.AddRefusal.{AddRefusal}
use Rattle.qo_realize.specs.Answers.{Plugs}
use Rattle.qo_commands.proofs.ChangeLemmas.{plug-err, plug-ok, plugs-as, refused-as}
use Rattle.qo_requests.specs.declared.calls.Addition.TheVariants.{DeviceAdd}
use Rattle.qo_requests.specs.declared.calls.Change.TheVariants.{Add}
use Rattle.qo_commands.specs.declared.touched.Touched.TheVariants.{Devices}
use Rattle.qo_commands.proofs.TouchedLemmas.{done-touches, refused-said}
use Rattle.qo_commands.proofs.changes.plug.Goals as goal
use Rattle.qo_commands.proofs.changes.plug.Goals.{in-Ok, in-Err-Refused, in-Err-Memory}

pub returns-clause-came : goal.returns-clause-came
returns-clause-came g c = λ b s.
    let id = option_map (λ t. t.now) c.args.id in
    let bus = option_map (λ t. t.now) c.args.bus in
    elim c.match-add.branch [
      | in-Ok w ↦
          rw w.result-is
          (plug-ok b c.add.new.self c.args.driver.now id bus c.args.props.now w.in-Ok.field-0 w.having_touched.result
          (plugs-as b c.args.driver.now id bus _ _ c.args.props.now (Ok w.in-Ok.field-0) c.add.new.self c.words_of.ensures c.words_of-2.ensures
          (w.in-Ok.ensures.change b s)) w.having_touched.ensures.done)
      | in-Err-Refused w ↦
          rw w.result-is
          (plug-err b c.add.new.self c.args.driver.now id bus c.args.props.now w.in-Err-Refused.field-0-0 w.in-Err-Refused.code w.refused.result
          (refused-as b (wanted c.args.driver.now id bus c.args.props.now) w.in-Err-Refused.field-0 w.in-Err-Refused.field-0-0 w.in-Err-Refused.code
          c.add.new.self w.in-Err-Refused.field-0-is
          (plugs-as b c.args.driver.now id bus _ _ c.args.props.now (Err w.in-Err-Refused.field-0) c.add.new.self c.words_of.ensures
          c.words_of-2.ensures (w.in-Err-Refused.ensures.change b s))) w.refused.ensures.done)
      | in-Err-Memory w ↦
          rw w.result-is
          (subst (λ (e : AddRefusal). Plugs b (wanted c.args.driver.now id bus c.args.props.now) (Err e) c.add.new.self) w.in-Err-Memory.field-0-is
          (plugs-as b c.args.driver.now id bus _ _ c.args.props.now (Err w.in-Err-Memory.field-0) c.add.new.self c.words_of.ensures
          c.words_of-2.ensures (w.in-Err-Memory.ensures.change b s)))
    ]

pub returns-clause-touched : goal.returns-clause-touched
returns-clause-touched g c = λ b s.
    let id = option_map (λ t. t.now) c.args.id in
    let bus = option_map (λ t. t.now) c.args.bus in
    let change = Add (DeviceAdd c.args.driver.now id bus c.args.props.now) in
    elim c.match-add.branch [
      | in-Ok w ↦
          rw w.result-is
          (done-touches b change w.having_touched.result c.add.new.self Devices (rw w.result-is at (returns-clause-came g c b s))
          w.having_touched.ensures.touched tt)
      | in-Err-Refused w ↦
          rw w.result-is
          (done-touches b change w.refused.result c.add.new.self Devices (rw w.result-is at (returns-clause-came g c b s))
          (refused-said Devices w.refused.result w.in-Err-Refused.code w.refused.ensures.refused w.refused.ensures.touched) tt)
      | in-Err-Memory w ↦ rw w.result-is tt
    ]
