-- What a turn did, by its answer.
use Rattle.std.proofs.Common.{rules, None, Some, refl, sym, subst}
use Rattle.qo_listen.specs.Ears.{ears}
use Rattle.qo_listen.specs.contracts.listeners.BoxDynListenerListener.TheImpl.{ghosts}
use Rattle.qo_machine.proofs.HeardLemmas.{hears-none, unheard}
use Rattle.qo_machine.proofs.HistoryLemmas.{later_same}
use Rattle.qo_machine.proofs.RunLemmas.{cut_sent, cut_taken, one_turn, taken_turn}
use Rattle.qo_machine.specs.Sending.{AreToLanes}
use Rattle.qo_machine.proofs.running.turn.Goals as goal

pub returns-in_default-clause-meets : goal.returns-in_default-clause-meets
returns-in_default-clause-meets g c = λ s here.
    let heard = c.in_default.ensures.heard s here in (
      Some (taken_turn c.in-Ok.input (g.H.Hub.names c.next.new.self) heard.0),
      cut_taken s _ _ _ _ _ _ _ _ _ c.in-Ok.input (g.H.Hub.names c.next.new.self) heard.0 c.in-Ok.ensures.given c.in-Ok.ensures.sent c.in-Ok.ensures.got
          c.in-Ok.ensures.losses,
      heard.1,
    )

-- no input came

pub returns-in-Err-Failed-clause-meets : goal.returns-in-Err-Failed-clause-meets
returns-in-Err-Failed-clause-meets g c = λ s here.
    (search rules, hears-none s.board s.board refl (ears (ghosts g.dyn-1) c.args.listeners.now.all.items))

pub returns-in-Err-Bad-clause-meets : goal.returns-in-Err-Bad-clause-meets
returns-in-Err-Bad-clause-meets g c = λ s here.
    (search rules, search rules, hears-none s.board s.board refl (ears (ghosts g.dyn-1) c.args.listeners.now.all.items))

pub returns-in-Err-Memory-clause-meets : goal.returns-in-Err-Memory-clause-meets
returns-in-Err-Memory-clause-meets g c = λ s here.
    (None, search rules, unheard s.board s.board (later_same s.board) (ears (ghosts g.dyn-1) c.args.listeners.now.all.items))

pub send_all-requires : goal.send_all-requires
send_all-requires g c = subst AreToLanes (sym c.as_slice.ensures) c.in-Ok-step_told.ensures.lanes

pub returns-in-Ok-send_all-clause-meets : goal.returns-in-Ok-send_all-clause-meets
returns-in-Ok-send_all-clause-meets g c = λ s here.
    let did = c.in-Ok-step_told.ensures.answered s here in
    one_turn s _ c.in-Ok.input (g.H.Hub.names c.next.new.self) did.0 _ c.in-Ok-step_told.outs c.in-Ok-send_all.lost _ _ _ _ _ _ _ _ _ _ _ _ _ _ _ did.1
    c.as_slice.ensures c.in-Ok.ensures.given
    c.in-Ok.ensures.sent c.in-Ok.ensures.got c.in-Ok.ensures.losses c.in-Ok-send_all.ensures.sends (c.close_lost.ensures.state _ (rw c.keep_outs.ensures did.2))
    did.3

pub returns-clause-meets : goal.returns-clause-meets
returns-clause-meets g c = λ s here.
    let did = c.in-Ok-step_told.ensures.answered s here in (
      _,
      cut_sent s c.in-Ok.input (g.H.Hub.names c.next.new.self) did.0 _ c.in-Ok-step_told.outs _ _ _ _ _ _ _ _ _ _ (g.H.Hub.losses c.next.new.self) _ _ did.1
          c.as_slice.ensures c.in-Ok.ensures.given
          c.in-Ok.ensures.sent c.in-Ok.ensures.got c.in-Ok.ensures.losses c.in-Err.ensures.sends,
      did.3,
    )
