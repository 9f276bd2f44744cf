-- It is chosen where the device goes, its slot is judged, and it is made.
use Rattle.std.proofs.Common.{◌≤◌, ℕ, ap, sym, subst, ◌∙◌, Err}
use Rattle.qo_model.specs.Plug.{Wanted}
use Rattle.qo_heap.specs.Board.{Shows}
use Rattle.qo_reset.specs.Counts.{CountsKept}
use Rattle.qo_plug.specs.Admission.{as_wanted}
use Rattle.qo_plug.specs.Answers.{IsRefused}
use Rattle.qo_plug.proofs.AddLemmas.{cut-late, shown-same}
use Rattle.qo_plug.proofs.JudgementLemmas.{refused-map}
use Rattle.qo_plug.proofs.KeptLemmas.{new-from}
use Rattle.qo_plug.proofs.beginning.begin.Goals as goal

pub make-requires-clause-resources : goal.make-requires-clause-resources
make-requires-clause-resources g c = c.in_ok-resources.ensures

pub make-requires-clause-counts : goal.make-requires-clause-counts
make-requires-clause-counts g c = subst (CountsKept c.args.resets.now.births) (sym c.in-Ok.ensures.same) c.requires

pub returns-in-Err-clause-refused : goal.returns-in-Err-clause-refused
returns-in-Err-clause-refused g c = λ b is.
    let a : Wanted = as_wanted c.args.options.now in
    refused-map ℕ ℕ (λ stage code. (1 ≤ stage) × (stage ≤ 4) × IsRefused b a stage code c.choose.new.heap)
    (λ stage code. (1 ≤ stage) × (stage ≤ 4) × IsRefused b a stage code c.choose.new.heap) c.in-Err.refusal (λ stage code h. h)
    (c.in-Err.ensures.refused b c.args.resets.now.births c.args.rings.now is)

pub returns-in-Err-clause-memory : goal.returns-in-Err-clause-memory
returns-in-Err-clause-memory g c = λ b is e. c.choose.ensures.memory b c.args.resets.now.births c.args.rings.now is (c.in-Err.is ∙ ap (λ r. Err r) (cc e))

pub returns-in-Ok-make-clause-begun : goal.returns-in-Ok-make-clause-begun
returns-in-Ok-make-clause-begun g c = λ b is.
    let a : Wanted = as_wanted c.args.options.now in
    let planned = c.in-Ok.ensures.planned b c.args.resets.now.births c.args.rings.now is in
    c.in-Ok-make.ensures.begun b a c.args.anonymous c.args.hotplug.now (shown-same c.in-Ok.ensures.same is) planned

pub returns-in-Ok-make-clause-book : goal.returns-in-Ok-make-clause-book
returns-in-Ok-make-clause-book g c = λ out h. c.make.ensures.book out (c.choose.ensures.book out h)

pub returns-in-Err-make-clause-memory : goal.returns-in-Err-make-clause-memory
returns-in-Err-make-clause-memory g c = λ b is e.
    let a : Wanted = as_wanted c.args.options.now in
    let planned = c.in-Ok.ensures.planned b c.args.resets.now.births c.args.rings.now is in
    cut-late b a c.in-Ok.planned.target planned.admitted c.make.new.heap
    (c.in-Err-make.ensures.err b (subst (Shows b) (sym c.in-Ok.ensures.same) is.shown) is.sound)

pub returns-in-Err-make-clause-book : goal.returns-in-Err-make-clause-book
returns-in-Err-make-clause-book g c = λ out h. c.make.ensures.book out (c.choose.ensures.book out h)

pub returns-in-Ok-make-clause-kept : goal.returns-in-Ok-make-clause-kept
returns-in-Ok-make-clause-kept g c = new-from c.args.heap.now c.choose.new.heap c.make.new.heap c.in-Ok.ensures.same c.make.ensures.kept

pub returns-in-Err-make-clause-kept : goal.returns-in-Err-make-clause-kept
returns-in-Err-make-clause-kept g c = new-from c.args.heap.now c.choose.new.heap c.make.new.heap c.in-Ok.ensures.same c.make.ensures.kept
