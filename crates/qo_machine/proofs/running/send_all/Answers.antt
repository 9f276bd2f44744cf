-- One message after another.
use Rattle.std.proofs.Common.{refl, sym, subst, ◌∙◌, arith}
use Rattle.qo_machine.proofs.SendingLemmas.{front_as, front_at, lane_of_item, one_further, sent_as, sent_none}
use Rattle.qo_machine.specs.Runs.{known}
use Rattle.qo_machine.specs.Sending.{Sent}
use Rattle.qo_machine.proofs.running.send_all.Goals as goal

pub loop-out-init : goal.loop-out-init
loop-out-init g c =
    record {
      sent = sent_none _ _ _ _ _;
      names = refl;
      bad = refl;
      asked = refl;
      send_count = refl;
      next_count = refl;
      later = g.met.H.Hub.now c.args.hub.now;
    }

pub send_one-requires : goal.send_one-requires
send_one-requires g c = lane_of_item c.args.outs.now c.loop-out.out-index c.out-item.result c.requires (omega arith) c.out-item.is

pub returns-in-Err-clause-sends : goal.returns-in-Err-clause-sends
returns-in-Err-clause-sends g c =
    let hub = g.H.Hub in
    front_at (hub.names c.args.hub.now) _ _ c.args.outs.now c.loop-out.out-index c.out-item.result (omega arith) c.out-item.is
    (front_as _ _ _ c.loop-out.invariant.names
    (c.in-Err.ensures.err _ _ (sent_as _ _ _ _ (sym c.loop-out.invariant.names) c.loop-out.invariant.sent)))

pub loop-out-preserved : goal.loop-out-preserved
loop-out-preserved g c =
    let hub = g.H.Hub in
    record {
      sent =
          subst
          (λ (outs : _). Sent (hub.names c.args.hub.now) (known (hub.inputs c.args.hub.now) (hub.sent c.args.hub.now) (hub.got c.args.hub.now) (hub.losses c.args.hub.now))
          (known (hub.inputs c.send_one.new.hub) (hub.sent c.send_one.new.hub) (hub.got c.send_one.new.hub) (hub.losses c.send_one.new.hub)) outs
          c.send_one.new.lost)
          (sym (one_further c.args.outs.now c.loop-out.out-index c.out-item.result (omega arith) c.out-item.is))
          (sent_as _ _ _ _ c.loop-out.invariant.names
          (c.in_default.ensures.ok _ _ (sent_as _ _ _ _ (sym c.loop-out.invariant.names) c.loop-out.invariant.sent)));
      names = c.send_one.ensures.names ∙ c.loop-out.invariant.names;
      bad = c.send_one.ensures.bad ∙ c.loop-out.invariant.bad;
      asked = c.send_one.ensures.asked ∙ c.loop-out.invariant.asked;
      send_count = c.in_default.ensures.quiet ∙ c.loop-out.invariant.send_count;
      next_count = c.send_one.ensures.next_count ∙ c.loop-out.invariant.next_count;
      later = g.met.H.Hub.after _ _ _ c.loop-out.invariant.later c.send_one.ensures.later;
    }
