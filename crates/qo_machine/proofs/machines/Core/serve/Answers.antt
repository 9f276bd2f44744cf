-- An input does what it does by itself, while the run goes on.
use Rattle.std.proofs.Common.{[], ◌∙◌, ap, sym, subst, List, OnErr}
use Rattle.qo_causes.specs.declared.inputs.What.TheVariants.{Bytes, Guest}
use Rattle.qo_causes.specs.declared.inputs.What.{What}
use Rattle.qo_machine.specs.Machine.{BreaksOff, Message, State, state_with, unchanged}
use Rattle.qo_machine.proofs.ListeningLemmas.{answers-unheard, heard_bytes, quiet-ended, quiet-step, step-unheard, unheard-ok}
use Rattle.qo_machine.proofs.MemoryLemmas.{breaks_before}
use Rattle.qo_machine.proofs.MachineLemmas.{answers_ended, answers_moved, answers_timed, leaves, seen_ended, served_beside, served_bytes}
use Rattle.qo_heap.proofs.HeapLemmas.{on-err}
use Rattle.qo_machine.proofs.machines.Core.serve.Goals as goal

pub returns-then-self-clause-answered : goal.returns-then-self-clause-answered
returns-then-self-clause-answered g c = λ s here.
    let over = ap (λ (x : State). x.ended) here.rest ∙ sym (seen_ended c.self.view_is) ∙ c.if-self.true in
    answers-unheard s c.args.input.now _ _ _ (quiet-ended s c.args.input.now over) (answers_ended s c.args.input.now _ _ over c.none.ensures here)

pub returns-in-Open-clause-answered : goal.returns-in-Open-clause-answered
returns-in-Open-clause-answered g c = λ s here.
    unheard-ok c.open.result s c.args.input.now _ c.open.new.self _ c.in-Open.is tt
    (served_beside c.open.result c.args.input.now _ c.args.self.now c.open.new.self (sym (seen_ended c.self.view_is) ∙ c.if-self.false) c.in-Open.is
    c.open.ensures.answered c.open.ensures.board s here)

pub returns-in-Bytes-clause-answered : goal.returns-in-Bytes-clause-answered
returns-in-Bytes-clause-answered g c =
    served_bytes c.take.result c.args.input.now _ c.args.self.now c.take.new.self _ _ (sym (seen_ended c.self.view_is) ∙ c.if-self.false)
    (c.in-Bytes.is ∙ ap (Bytes c.in-Bytes.session) (sym c.as_slice.ensures.value)) c.take.ensures.answered

pub returns-in-Shut-clause-answered : goal.returns-in-Shut-clause-answered
returns-in-Shut-clause-answered g c = λ s here.
    answers-unheard s c.args.input.now _ _ _ (quiet-step s c.args.input.now _ c.in-Shut.is tt)
    (answers_moved c.args.input.now _ _ c.args.self.now c.shut.new.self (sym (seen_ended c.self.view_is) ∙ c.if-self.false) c.in-Shut.is
    (λ b. c.shut.ensures.answered b c.args.input.now.at ∙ ap (λ (outs : List Message). record { outs = outs; state = state_with b c.shut.new.self; rest = [] })
    (sym c.none-in-Shut.ensures)) c.shut.ensures.board s here)

pub returns-in-End-clause-answered : goal.returns-in-End-clause-answered
returns-in-End-clause-answered g c = λ s here.
    answers-unheard s c.args.input.now _ _ _ (quiet-step s c.args.input.now _ c.in-End.is tt)
    (answers_moved c.args.input.now _ _ c.args.self.now c.finish.new.self (sym (seen_ended c.self.view_is) ∙ c.if-self.false) c.in-End.is
    (λ b. ap (λ (x : State). unchanged x []) (sym (c.finish.ensures.done b)) ∙ leaves (state_with b c.finish.new.self) _ c.none-in-End.ensures)
    c.finish.ensures.board s here)

pub returns-in-Guest-clause-answered : goal.returns-in-Guest-clause-answered
returns-in-Guest-clause-answered g c =
    served_bytes c.take_guest.result c.args.input.now _ c.args.self.now c.take_guest.new.self _ _ (sym (seen_ended c.self.view_is) ∙ c.if-self.false)
    (c.in-Guest.is ∙ ap Guest (sym c.as_slice-in-Guest.ensures.value)) c.take_guest.ensures.answered

pub returns-in-Step-clause-answered : goal.returns-in-Step-clause-answered
returns-in-Step-clause-answered g c = λ s here.
    answers-unheard s c.args.input.now _ _ _ (quiet-step s c.args.input.now _ c.in-Step.is tt)
    (answers_timed c.args.input.now _ c.in-Step.ns c.args.self.now c.go_on.new.self (sym (seen_ended c.self.view_is) ∙ c.if-self.false) c.in-Step.is
    c.none-in-Step.ensures
    c.go_on.ensures.board c.go_on.ensures.rest s here)

-- what listeners heard where memory ran out

pub returns-in-Open-clause-heard : goal.returns-in-Open-clause-heard
returns-in-Open-clause-heard g c = λ s here. on-err c.open.result (step-unheard s c.args.input.now _)

pub returns-in-Bytes-clause-heard : goal.returns-in-Bytes-clause-heard
returns-in-Bytes-clause-heard g c =
    heard_bytes c.take.result c.args.input.now _ c.args.self.now _ _ (sym (seen_ended c.self.view_is) ∙ c.if-self.false)
    (c.in-Bytes.is ∙ ap (Bytes c.in-Bytes.session) (sym c.as_slice.ensures.value)) c.take.ensures.heard

pub returns-in-Guest-clause-heard : goal.returns-in-Guest-clause-heard
returns-in-Guest-clause-heard g c =
    heard_bytes c.take_guest.result c.args.input.now _ c.args.self.now _ _ (sym (seen_ended c.self.view_is) ∙ c.if-self.false)
    (c.in-Guest.is ∙ ap Guest (sym c.as_slice-in-Guest.ensures.value)) c.take_guest.ensures.heard

pub returns-in-Open-clause-breaks : goal.returns-in-Open-clause-breaks
returns-in-Open-clause-breaks g c = λ s here.
    on-err c.open.result (breaks_before s c.args.input.now c.args.self.now c.open.new.self c.open.ensures.board here)

pub returns-in-Bytes-clause-breaks : goal.returns-in-Bytes-clause-breaks
returns-in-Bytes-clause-breaks g c = λ s here.
    subst (λ (w : What). OnErr c.take.result (BreaksOff s (record { at = c.args.input.now.at; what = w }) c.take.new.self))
    (sym (c.in-Bytes.is ∙ ap (Bytes c.in-Bytes.session) (sym c.as_slice.ensures.value))) (c.take.ensures.breaks s here)

pub returns-in-Guest-clause-breaks : goal.returns-in-Guest-clause-breaks
returns-in-Guest-clause-breaks g c = λ s here.
    subst (λ (w : What). OnErr c.take_guest.result (BreaksOff s (record { at = c.args.input.now.at; what = w }) c.take_guest.new.self))
    (sym (c.in-Guest.is ∙ ap Guest (sym c.as_slice-in-Guest.ensures.value))) (c.take_guest.ensures.breaks s here)
