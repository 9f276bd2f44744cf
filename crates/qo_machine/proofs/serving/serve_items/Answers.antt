-- One item more.
use Rattle.std.proofs.Common.{refl, ap, sym, ◌∙◌, subst, List, [], ◌∷◌, ◌++◌, ◌+◌, take, arith}
use Rattle.qo_framing.specs.declared.items.Item.{Item}
use Rattle.qo_causes.specs.declared.inputs.Moment.{Moment}
use Rattle.qo_listen.specs.Ears.{ears}
use Rattle.qo_listen.specs.contracts.listeners.BoxDynListenerListener.TheImpl.{ghosts}
use Rattle.qo_machine.proofs.LaneLemmas.{more_lanes}
use Rattle.qo_machine.proofs.MemoryLemmas.{front_of_all_by, front_on_by}
use Rattle.qo_machine.proofs.ListeningLemmas.{front-unheard, heard-upto, items-later, told-none, told-on, told-serves}
use Rattle.qo_machine.proofs.MachineLemmas.{take_one}
use Rattle.qo_heap.proofs.HeapLemmas.{on-err}
use Rattle.qo_machine.specs.Between.{IsWired}
use Rattle.qo_machine.specs.Listening.{ServesHeardFront, ServesTold}
use Rattle.qo_machine.specs.Machine.{IsIn, Message, Seen, State, by_item}
use Rattle.qo_machine.specs.Sending.{AreToLanes}
use Rattle.qo_machine.specs.Serving.{ServesFront}
use Rattle.qo_machine.proofs.serving.serve_items.Goals as goal

pub loop-item-init : goal.loop-item-init
loop-item-init g c =
    let first = ears (ghosts g.dyn-1) c.args.listeners.now.all.items in
    let same = c.with_room.ensures.same in
    record {
      moment = c.in_ok-outbox.ensures.moment;
      served = λ s here.
          subst (λ (outs : List Message). ServesTold (by_item c.args.at c.args.session) s [] outs c.with_room.new.machine first first)
          (sym c.in_ok-outbox.ensures.none)
          (told-none (by_item c.args.at c.args.session) s c.with_room.new.machine first (subst (IsIn s) (sym same) here));
      listening = c.requires.listening;
      lanes = subst AreToLanes (sym c.in_ok-outbox.ensures.none) tt;
      lasts = ap (λ (m : Seen). m.out_of_memory) same;
      wired = subst IsWired (sym same) c.requires.wired;
    }

pub loop-item-preserved : goal.loop-item-preserved
loop-item-preserved g c =
    let one = c.in_ok-serve_item_told.ensures.served in
    let first = ears (ghosts g.dyn-1) c.args.listeners.now.all.items in
    let before = ears (ghosts g.dyn-1) c.loop-item.listeners.all.items in
    let now = ears (ghosts g.dyn-1) c.serve_item_told.new.listeners.all.items in
    record {
      moment = c.serve_item_told.ensures.moment ∙ c.loop-item.invariant.moment;
      served = λ s here.
          subst
          (λ (outs : List Message). ServesTold (by_item c.args.at c.args.session) s (take (c.loop-item.item-index + 1) c.args.items.now) outs
          c.serve_item_told.new.machine first now) (sym one.1)
          (subst (λ (items : List Item).
          ServesTold (by_item c.args.at c.args.session) s items (c.loop-item.outbox.outs ++ one.0) c.serve_item_told.new.machine first now)
          (sym (take_one c.args.items.now c.loop-item.item-index c.item-item.result (omega arith) c.item-item.is))
          (told-on (by_item c.args.at c.args.session) s c.loop-item.machine c.serve_item_told.new.machine (take c.loop-item.item-index c.args.items.now)
          (c.item-item.result ∷ []) c.loop-item.outbox.outs one.0 first before now (c.loop-item.invariant.served s here)
          (subst (λ (at : Moment). (t : State) → IsIn t c.loop-item.machine
          → ServesTold (by_item at c.args.session) t (c.item-item.result ∷ []) one.0 c.serve_item_told.new.machine before now) c.loop-item.invariant.moment
          one.3)));
      listening = c.serve_item_told.ensures.listening;
      lanes = more_lanes c.loop-item.outbox.outs one.0 _ one.1 c.loop-item.invariant.lanes one.2;
      lasts = c.in_ok-serve_item_told.ensures.lasts ∙ c.loop-item.invariant.lasts;
      wired = c.in_ok-serve_item_told.ensures.wired;
    }

pub returns-clause-lanes : goal.returns-clause-lanes
returns-clause-lanes g c = subst AreToLanes (sym c.into_outs.ensures) c.loop-item.invariant.lanes

pub returns-in_err-serve_item_told-clause-left : goal.returns-in_err-serve_item_told-clause-left
returns-in_err-serve_item_told-clause-left g c =
    on-err c.from_residual-in_err-serve_item_told.result
    (λ s here.
    front_of_all_by (by_item c.args.at c.args.session) s c.serve_item_told.new.machine c.args.items.now (c.loop-item.item-index + 1)
    (subst (λ (items : List Item). ServesFront c.args.at c.args.session s items c.serve_item_told.new.machine)
    (sym (take_one c.args.items.now c.loop-item.item-index c.item-item.result (omega arith) c.item-item.is))
    (front_on_by (by_item c.args.at c.args.session) s c.loop-item.machine c.serve_item_told.new.machine (take c.loop-item.item-index c.args.items.now)
    (c.item-item.result ∷ []) c.loop-item.outbox.outs (told-serves (by_item c.args.at c.args.session) s c.loop-item.machine
    (take c.loop-item.item-index c.args.items.now) c.loop-item.outbox.outs (ears (ghosts g.dyn-1) c.args.listeners.now.all.items)
    (ears (ghosts g.dyn-1) c.loop-item.listeners.all.items) (c.loop-item.invariant.served s here))
    (subst (λ (at : Moment). (t : State) → IsIn t c.loop-item.machine
    → ServesFront at c.args.session t (c.item-item.result ∷ []) c.serve_item_told.new.machine) c.loop-item.invariant.moment
    c.in_err-serve_item_told.ensures.left))))

pub returns-in_err-serve_item_told-clause-heard : goal.returns-in_err-serve_item_told-clause-heard
returns-in_err-serve_item_told-clause-heard g c =
    on-err c.from_residual-in_err-serve_item_told.result
    (λ s here.
    heard-upto (by_item c.args.at c.args.session) (items-later c.args.at c.args.session) s c.loop-item.machine c.args.items.now c.loop-item.item-index
    c.item-item.result c.loop-item.outbox.outs (ears (ghosts g.dyn-1) c.args.listeners.now.all.items) (ears (ghosts g.dyn-1) c.loop-item.listeners.all.items)
    (ears (ghosts g.dyn-1) c.serve_item_told.new.listeners.all.items) (omega arith) c.item-item.is (c.loop-item.invariant.served s here)
    (subst (λ (at : Moment). (t : State) → IsIn t c.loop-item.machine → ServesHeardFront (by_item at c.args.session) t (c.item-item.result ∷ [])
    (ears (ghosts g.dyn-1) c.loop-item.listeners.all.items) (ears (ghosts g.dyn-1) c.serve_item_told.new.listeners.all.items))
    c.loop-item.invariant.moment c.in_err-serve_item_told.ensures.heard))

-- where there is no room for the messages nothing is served

pub returns-in_err-outbox-clause-left : goal.returns-in_err-outbox-clause-left
returns-in_err-outbox-clause-left g c =
    on-err c.from_residual.result (λ s here. ([], c.args.items.now, [], refl, rw c.with_room.ensures.same here))

pub returns-in_err-outbox-clause-heard : goal.returns-in_err-outbox-clause-heard
returns-in_err-outbox-clause-heard g c =
    on-err c.from_residual.result
    (λ s here. front-unheard (by_item c.args.at c.args.session) (items-later c.args.at c.args.session) c.args.items.now _ s)
