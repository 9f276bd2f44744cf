-- One line more.
use Rattle.std.proofs.Common.{refl, sym, ◌∙◌, subst, ℕ, List, [], ◌∷◌, ◌++◌, ◌+◌, take, arith}
use Rattle.qo_causes.specs.declared.inputs.Moment.{Moment}
use Rattle.qo_listen.specs.Ears.{ears}
use Rattle.qo_listen.specs.contracts.listeners.BoxDynListenerListener.TheImpl.{ghosts}
use Rattle.qo_machine.proofs.LaneLemmas.{more_lanes}
use Rattle.qo_machine.proofs.MemoryLemmas.{front_of_all_by, front_on_by}
use Rattle.qo_machine.proofs.ListeningLemmas.{heard-upto, lines-later, told-none, told-on, told-serves}
use Rattle.qo_machine.proofs.MachineLemmas.{take_one}
use Rattle.qo_heap.proofs.HeapLemmas.{on-err}
use Rattle.qo_machine.specs.Listening.{ServesHeardFront, ServesTold}
use Rattle.qo_machine.specs.Machine.{IsIn, Message, State, by_line}
use Rattle.qo_machine.specs.Sending.{AreToLanes}
use Rattle.qo_machine.specs.Serving.{LinesFront}
use Rattle.qo_machine.proofs.serving.serve_lines.Goals as goal

pub loop-line-init : goal.loop-line-init
loop-line-init g c =
    let first = ears (ghosts g.dyn-1) c.args.listeners.now.all.items in
    record {
      moment = c.new-outbox.ensures.moment;
      served = λ s here.
          subst (λ (outs : List Message). ServesTold (by_line c.args.at) s [] outs c.args.machine.now first first) (sym c.new-outbox.ensures.none)
          (told-none (by_line c.args.at) s c.args.machine.now first here);
      listening = c.requires.listening;
      lanes = subst AreToLanes (sym c.new-outbox.ensures.none) tt;
      lasts = refl;
      wired = c.requires.wired;
    }

pub loop-line-preserved : goal.loop-line-preserved
loop-line-preserved g c =
    let one = c.in_ok-serve_line_told.ensures.served in
    let first = ears (ghosts g.dyn-1) c.args.listeners.now.all.items in
    let before = ears (ghosts g.dyn-1) c.loop-line.listeners.all.items in
    let now = ears (ghosts g.dyn-1) c.serve_line_told.new.listeners.all.items in
    record {
      moment = c.serve_line_told.ensures.moment ∙ c.loop-line.invariant.moment;
      served = λ s here.
          subst
          (λ (outs : List Message).
          ServesTold (by_line c.args.at) s (take (c.loop-line.line-index + 1) c.args.lines.now) outs c.serve_line_told.new.machine first now)
          (sym one.1)
          (subst (λ (lines : List (List ℕ)). ServesTold (by_line c.args.at) s lines (c.loop-line.outbox.outs ++ one.0) c.serve_line_told.new.machine first now)
          (sym (take_one c.args.lines.now c.loop-line.line-index c.line-item.result (omega arith) c.line-item.is))
          (told-on (by_line c.args.at) s c.loop-line.machine c.serve_line_told.new.machine (take c.loop-line.line-index c.args.lines.now)
          (c.line-item.result ∷ []) c.loop-line.outbox.outs one.0 first before now (c.loop-line.invariant.served s here)
          (subst (λ (at : Moment). (t : State) → IsIn t c.loop-line.machine
          → ServesTold (by_line at) t (c.line-item.result ∷ []) one.0 c.serve_line_told.new.machine before now) c.loop-line.invariant.moment one.3)));
      listening = c.serve_line_told.ensures.listening;
      lanes = more_lanes c.loop-line.outbox.outs one.0 _ one.1 c.loop-line.invariant.lanes one.2;
      lasts = c.in_ok-serve_line_told.ensures.lasts ∙ c.loop-line.invariant.lasts;
      wired = c.in_ok-serve_line_told.ensures.wired;
    }

pub returns-clause-lanes : goal.returns-clause-lanes
returns-clause-lanes g c = subst AreToLanes (sym c.into_outs.ensures) c.loop-line.invariant.lanes

pub returns-in_err-serve_line_told-clause-left : goal.returns-in_err-serve_line_told-clause-left
returns-in_err-serve_line_told-clause-left g c =
    on-err c.from_residual.result
    (λ s here.
    front_of_all_by (by_line c.args.at) s c.serve_line_told.new.machine c.args.lines.now (c.loop-line.line-index + 1)
    (subst (λ (lines : List (List ℕ)). LinesFront c.args.at s lines c.serve_line_told.new.machine)
    (sym (take_one c.args.lines.now c.loop-line.line-index c.line-item.result (omega arith) c.line-item.is))
    (front_on_by (by_line c.args.at) s c.loop-line.machine c.serve_line_told.new.machine (take c.loop-line.line-index c.args.lines.now)
    (c.line-item.result ∷ []) c.loop-line.outbox.outs (told-serves (by_line c.args.at) s c.loop-line.machine
    (take c.loop-line.line-index c.args.lines.now) c.loop-line.outbox.outs (ears (ghosts g.dyn-1) c.args.listeners.now.all.items)
    (ears (ghosts g.dyn-1) c.loop-line.listeners.all.items) (c.loop-line.invariant.served s here))
    (subst (λ (at : Moment). (t : State) → IsIn t c.loop-line.machine → LinesFront at t (c.line-item.result ∷ []) c.serve_line_told.new.machine)
    c.loop-line.invariant.moment c.in_err-serve_line_told.ensures.left))))

pub returns-in_err-serve_line_told-clause-heard : goal.returns-in_err-serve_line_told-clause-heard
returns-in_err-serve_line_told-clause-heard g c =
    on-err c.from_residual.result
    (λ s here.
    heard-upto (by_line c.args.at) (lines-later c.args.at) s c.loop-line.machine c.args.lines.now c.loop-line.line-index
    c.line-item.result c.loop-line.outbox.outs (ears (ghosts g.dyn-1) c.args.listeners.now.all.items) (ears (ghosts g.dyn-1) c.loop-line.listeners.all.items)
    (ears (ghosts g.dyn-1) c.serve_line_told.new.listeners.all.items) (omega arith) c.line-item.is (c.loop-line.invariant.served s here)
    (subst (λ (at : Moment). (t : State) → IsIn t c.loop-line.machine → ServesHeardFront (by_line at) t (c.line-item.result ∷ [])
    (ears (ghosts g.dyn-1) c.loop-line.listeners.all.items) (ears (ghosts g.dyn-1) c.serve_line_told.new.listeners.all.items))
    c.loop-line.invariant.moment c.in_err-serve_line_told.ensures.heard))
