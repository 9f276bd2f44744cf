-- Turn by turn.
use Rattle.std.proofs.Common.{refl, sym, ◌∙◌, arith}
use Rattle.qo_machine.proofs.RunLemmas.{cut_none, done, going_on, gone_none, limited, stopped_by}
use Rattle.qo_machine.proofs.running.run_told.Goals as goal

pub returns-in_default-clause-meets : goal.returns-in_default-clause-meets
returns-in_default-clause-meets g c = cut_none c.args.limit _ _ _ _ _

pub loop-init : goal.loop-init
loop-init g c =
    record {
      gone = gone_none _ _ _ _ _ _ c.in-Ok.ensures.state.0;
      listening = c.requires.listening;
      bad = refl;
      asked = refl;
      next_count = refl;
      send_count = refl;
      later = g.met.H.Hub.now c.args.hub.now;
    }

pub returns-then-ended-clause-meets : goal.returns-then-ended-clause-meets
returns-then-ended-clause-meets g c =
    done _ _ _ c.loop.machine c.turn.new.machine c.loop.counter c.args.limit (g.H.Hub.bad c.loop.hub) (g.H.Hub.bad c.args.hub.now) _ _ _ c.loop.invariant.bad
    (omega arith) c.loop.invariant.gone c.in_default-turn.ensures.meets (sym c.if-ended.ensures)

pub returns-in-Err-clause-meets : goal.returns-in-Err-clause-meets
returns-in-Err-clause-meets g c =
    rw (← c.loop.invariant.bad) (stopped_by _ _ _ c.loop.machine c.turn.new.machine c.loop.counter c.args.limit (g.H.Hub.bad c.loop.hub) _ _ _ c.in-Err.ending
    (omega arith) c.loop.invariant.gone c.in-Err.ensures.meets)

pub returns-in-Err-clause-later : goal.returns-in-Err-clause-later
returns-in-Err-clause-later g c = g.met.H.Hub.after _ _ _ c.loop.invariant.later c.turn.ensures.later

pub loop-preserved : goal.loop-preserved
loop-preserved g c =
    record {
      gone =
          going_on _ _ _ c.loop.machine c.turn.new.machine c.loop.counter (g.H.Hub.bad c.loop.hub) _ _ _ c.loop.invariant.gone c.in_default-turn.ensures.meets
          (sym c.if-ended.ensures);
      listening = c.turn.ensures.listening;
      bad = c.turn.ensures.bad ∙ c.loop.invariant.bad;
      asked = c.turn.ensures.asked ∙ c.loop.invariant.asked;
      next_count = c.in_default-turn.ensures.next_quiet (λ e. cc) ∙ c.loop.invariant.next_count;
      send_count = c.in_default-turn.ensures.send_quiet (λ e. cc) ∙ c.loop.invariant.send_count;
      later = g.met.H.Hub.after _ _ _ c.loop.invariant.later c.turn.ensures.later;
    }

pub returns-clause-meets : goal.returns-clause-meets
returns-clause-meets g c =
    limited _ _ c.loop.machine c.loop.counter c.args.limit (g.H.Hub.bad c.args.hub.now) _ _ (omega arith) c.loop.invariant.gone

pub returns-then-ended-clause-later : goal.returns-then-ended-clause-later
returns-then-ended-clause-later g c = g.met.H.Hub.after _ _ _ c.loop.invariant.later c.turn.ensures.later
