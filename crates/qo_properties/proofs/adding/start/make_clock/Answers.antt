use Rattle.std.proofs.Common.{refl, ◌∙◌, ap, subst, sym, ℕ, ◌+◌, codes}
use Rattle.qo_values.specs.declared.properties.Val.TheVariants.{Uint}
use Rattle.qo_values.specs.declared.kinds.TypeId.TheVariants.{Clock}
use Rattle.qo_model.specs.Board.{Board}
use Rattle.qo_model.specs.Changes.{set}
use Rattle.qo_values.specs.declared.limits.TheConstants.{SYSTEM_PERIOD}
use Rattle.qo_heap.specs.Board.{Shows}
use Rattle.qo_heap.proofs.HeapLemmas.{live-edit}
use Rattle.qo_heap.specs.Objects.{Objects}
use Rattle.qo_properties.specs.KeptClaims.{NoneKept}
use Rattle.qo_properties.proofs.ClaimLemmas.{edit-keeps}
use Rattle.qo_properties.proofs.KeptLemmas.{none-edited}
use Rattle.qo_properties.specs.KeptPeriods.{OwnKept}
use Rattle.qo_properties.specs.OpeningSteps.{ticking, with_new_child}
use Rattle.qo_properties.proofs.OpeningLemmas.{new_clock, shows-ticking}
use Rattle.qo_properties.proofs.OwnLemmas.{own-edited, own-ticking}
use Rattle.std.proofs.lemmas.Option.{same_Some}
use Rattle.qo_properties.proofs.adding.start.make_clock.Goals as goal

pub returns-clause-names : goal.returns-clause-names
returns-clause-names g c = λ key live. rw c.set_period.ensures
    (live-edit c.in_ok-clock.clock.birth ticking c.make_child.new.heap.rows key (c.in_ok-clock.ensures.made.names key live))

pub returns-clause-shown : goal.returns-clause-shown
returns-clause-shown g c =
    λ b s.
    let child : Board = with_new_child c.args.machine.birth (codes "sysclk") Clock b in
    let shown : Shows (set c.in_ok-clock.clock.birth 1 (Uint SYSTEM_PERIOD) child) c.set_period.new.heap =
    rw c.set_period.ensures
    (shows-ticking child c.make_child.new.heap (c.in_ok-clock.ensures.shown b s) c.in_ok-clock.clock.birth) in
    subst (λ (n : ℕ). Shows (set n 1 (Uint SYSTEM_PERIOD) child) c.set_period.new.heap) (c.in_ok-clock.ensures.made.birth ∙ ap (λ (k : ℕ). k + 1) (sym s.born))
    shown

pub returns-clause-book : goal.returns-clause-book
returns-clause-book g c = λ out h.
    edit-keeps c.make_child.new.heap c.set_period.new.heap c.in_ok-clock.clock.birth ticking (λ d. refl) c.set_period.ensures out
    (c.in_ok-clock.ensures.made.book out h)

pub returns-clause-bare : goal.returns-clause-bare
returns-clause-bare g c = λ none.
    subst (λ (x : Objects). NoneKept x) (sym c.set_period.ensures)
    (none-edited c.make_child.new.heap c.in_ok-clock.clock.birth ticking (λ d. refl) (c.in_ok-clock.ensures.made.bare none))

pub returns-clause-periods : goal.returns-clause-periods
returns-clause-periods g c = λ own.
    subst (λ (x : Objects). OwnKept x) (sym c.set_period.ensures)
    (own-edited c.make_child.new.heap c.in_ok-clock.clock.birth ticking
    (λ d there now. own-ticking d (same_Some d new_clock (sym there ∙ c.in_ok-clock.ensures.made.content))) (c.in_ok-clock.ensures.made.periods own))
