-- One session more.
use Rattle.std.proofs.Common.{length, ◌<◌, arith, ap, ◌∙◌}
use Rattle.qo_machine.proofs.RunLemmas.{closed_else, closed_none, closed_one, closed_then, still_sixteen}
use Rattle.qo_machine.proofs.machines.close_where.Goals as goal
use Rattle.qo_machine.proofs.machines.close_where.Goals.{then-lost-session, else-lost-session}

pub loop-session-init : goal.loop-session-init
loop-session-init c = (closed_none c.args.sessions.now.items, c.requires)

pub loop-session-preserved : goal.loop-session-preserved
loop-session-preserved c =
    let below : c.loop-session.session < length c.args.lost.now = omega arith in
    let within : c.loop-session.session < length c.args.sessions.now.items = omega arith in
    elim c.if-lost-session.branch [
      | then-lost-session w ↦
          let set = ap (λ v. v.items) w.sessions-is in (
            closed_then c.loop-session.session c.args.lost.now c.args.sessions.now.items c.loop-session.sessions.items c.if-lost-session.sessions.items below
                within w.if-lost-session.true c.loop-session.invariant.0
                (closed_one c.loop-session.sessions.items c.if-lost-session.sessions.items c.loop-session.session w.close.new.self set w.close.ensures),
            still_sixteen c.loop-session.sessions.items c.if-lost-session.sessions.items c.loop-session.session w.close.new.self set c.loop-session.invariant.1,
          )
      | else-lost-session w ↦ (
        closed_else c.loop-session.session c.args.lost.now c.args.sessions.now.items c.loop-session.sessions.items c.if-lost-session.sessions.items below within
            w.if-lost-session.false c.loop-session.invariant.0 (ap (λ v. v.items) w.sessions-is),
        ap (λ v. length v.items) w.sessions-is ∙ c.loop-session.invariant.1,
      )
    ]
