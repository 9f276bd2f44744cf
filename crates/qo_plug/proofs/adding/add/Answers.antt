-- It is chosen where the device goes, its slot is judged, and it is made, placed and finished.
use Rattle.std.proofs.Common.{◌≡◌, ◌≤◌, ◌==◌, ap, sym, subst, ◌∙◌, ℕ, false, Some, Err, arith}
use Rattle.std.proofs.lemmas.Bool.Decides.{nat_tests}
use Rattle.qo_model.specs.Plug.{Wanted, plug}
use Rattle.qo_heap.specs.Board.{Shows}
use Rattle.qo_plug.specs.Admission.{as_wanted}
use Rattle.qo_reset.specs.Counts.{CountsKept}
use Rattle.qo_plug.specs.declared.placing.Plugging.{Plugging}
use Rattle.qo_plug.specs.KeptClaims.{ClaimsOrNewBut, KeptSoFar}
use Rattle.qo_plug.specs.KeptPeriods.{FedOrNew, FedSoFar, FedStays}
use Rattle.qo_plug.proofs.AddLemmas.{stood-shown}
use Rattle.qo_plug.proofs.FedLemmas.{fed-so-far, fed-then}
use Rattle.qo_plug.specs.Stages.{resources_barred}
use Rattle.qo_plug.proofs.JudgementLemmas.{refused-told}
use Rattle.qo_plug.proofs.AddLemmas.{cut-late, planned-judged, refused-last, refused-only, refused-within, resources-refused, shown-same}
use Rattle.qo_plug.proofs.KeptLemmas.{far-but, far-new, far-others, new-from, new-then, so-far}
use Rattle.qo_plug.proofs.adding.add.Goals as goal

pub returns-in-Err-clause-refused : goal.returns-in-Err-clause-refused
returns-in-Err-clause-refused g c = λ b is.
    refused-only b (as_wanted c.args.options.now) ℕ ℕ c.in-Err.refusal c.choose.new.heap
    (c.in-Err.ensures.refused b c.args.resets.now.births c.args.rings.now is)

pub returns-in-Err-clause-memory : goal.returns-in-Err-clause-memory
returns-in-Err-clause-memory g c = λ b is e. c.choose.ensures.memory b c.args.resets.now.births c.args.rings.now is (c.in-Err.is ∙ ap (λ r. Err r) (cc e))

pub returns-in-Err-Refused-clause-refused : goal.returns-in-Err-Refused-clause-refused
returns-in-Err-Refused-clause-refused g c = λ b is.
    let a : Wanted = as_wanted c.args.options.now in
    let planned = c.in-Ok.ensures.planned b c.args.resets.now.births c.args.rings.now is in
    let seen = shown-same c.in-Ok.ensures.same is in
    let stage = c.in-Err-Refused.stage in
    let code = c.in-Err-Refused.code in
    let is_refused = c.in-Err-Refused.field-0-is in
    let stages : (5 ≤ stage) × (stage ≤ 6) =
    refused-told ℕ (λ at told. (5 ≤ at) × (at ≤ 6)) c.in-Err-Refused.field-0 stage code is_refused c.in-Err-Refused.ensures.stages in
    let early : (stage == 8) ≡ false = grind (arith, nat_tests, stages.1) in
    let down =
    rw (c.in-Err-Refused.stage-is, c.in-Err-Refused.code-is) at (c.note_failed_add.ensures.down b c.in-Ok.planned.target.bus.birth seen.shown is.sound
    (subst (λ (k : ℕ). (k == 8) ≡ false) (sym c.in-Err-Refused.stage-is) early)) in
    resources-refused b a c.in-Ok.planned.target planned.admitted c.note_failed_add.new.heap (record { stage = stage; code = code }) (sym planned.given)
    (sym (refused-told ℕ
    (λ at told. resources_barred b c.in-Ok.planned.target.kind c.in-Ok.planned.target.bus.birth c.args.options.now.props.now ≡ Some (at, told))
    c.in-Err-Refused.field-0
    stage code is_refused (c.in-Err-Refused.ensures.refused b c.args.options.now.props.now (planned-judged seen planned)))) ℕ c.note_failed_add.result down

pub returns-in-Err-Refused-clause-memory : goal.returns-in-Err-Refused-clause-memory
returns-in-Err-Refused-clause-memory g c = λ b is e.
    let a : Wanted = as_wanted c.args.options.now in
    let planned = c.in-Ok.ensures.planned b c.args.resets.now.births c.args.rings.now is in
    cut-late b a c.in-Ok.planned.target planned.admitted c.note_failed_add.new.heap
    (c.note_failed_add.ensures.memory b (subst (Shows b) (sym c.in-Ok.ensures.same) is.shown) is.sound (cc e))

pub returns-in-Err-Refused-clause-book : goal.returns-in-Err-Refused-clause-book
returns-in-Err-Refused-clause-book g c = λ out h. c.note_failed_add.ensures.book out (c.choose.ensures.book out h)

pub returns-in-Err-make-clause-memory : goal.returns-in-Err-make-clause-memory
returns-in-Err-make-clause-memory g c = λ b is e.
    let a : Wanted = as_wanted c.args.options.now in
    let planned = c.in-Ok.ensures.planned b c.args.resets.now.births c.args.rings.now is in
    cut-late b a c.in-Ok.planned.target planned.admitted c.make.new.heap
    (c.in-Err-make.ensures.err b (subst (Shows b) (sym c.in-Ok.ensures.same) is.shown) is.sound)

pub returns-in-Err-make-clause-book : goal.returns-in-Err-make-clause-book
returns-in-Err-make-clause-book g c = λ out h. c.make.ensures.book out (c.choose.ensures.book out h)

pub returns-in-Err-place-clause-refused : goal.returns-in-Err-place-clause-refused
returns-in-Err-place-clause-refused g c = λ b is.
    let a : Wanted = as_wanted c.args.options.now in
    let planned = c.in-Ok.ensures.planned b c.args.resets.now.births c.args.rings.now is in
    let begun = c.in-Ok-make.ensures.begun b a c.args.anonymous c.args.hotplug.now (shown-same c.in-Ok.ensures.same is) planned in
    refused-within b a 5 6 ℕ ℕ c.in-Err-place.refusal c.place.new.heap (c.in-Err-place.ensures.refused b a begun)

pub returns-in-Err-place-clause-memory : goal.returns-in-Err-place-clause-memory
returns-in-Err-place-clause-memory g c = λ b is e.
    let a : Wanted = as_wanted c.args.options.now in
    let planned = c.in-Ok.ensures.planned b c.args.resets.now.births c.args.rings.now is in
    let begun = c.in-Ok-make.ensures.begun b a c.args.anonymous c.args.hotplug.now (shown-same c.in-Ok.ensures.same is) planned in
    c.in-Err-place.ensures.memory b a begun (ap (λ r. Err r) (cc e))

pub returns-in-Err-place-clause-book : goal.returns-in-Err-place-clause-book
returns-in-Err-place-clause-book g c = λ out h. c.place.ensures.book out (c.make.ensures.book out (c.choose.ensures.book out h))

pub returns-in-Ok-finish-clause-ok : goal.returns-in-Ok-finish-clause-ok
returns-in-Ok-finish-clause-ok g c = λ b is.
    let a : Wanted = as_wanted c.args.options.now in
    let planned = c.in-Ok.ensures.planned b c.args.resets.now.births c.args.rings.now is in
    let begun = c.in-Ok-make.ensures.begun b a c.args.anonymous c.args.hotplug.now (shown-same c.in-Ok.ensures.same is) planned in
    c.in-Ok-finish.ensures.ok b a (c.in-Ok-place.ensures.settled b a begun is.notices)
    (record { holds_are = is.holds_are; pending = is.pending; notices = is.notices })

pub returns-in-Ok-finish-clause-book : goal.returns-in-Ok-finish-clause-book
returns-in-Ok-finish-clause-book g c = λ out h. c.finish.ensures.book out (c.place.ensures.book out (c.make.ensures.book out (c.choose.ensures.book out h)))

pub returns-in-Err-finish-clause-refused : goal.returns-in-Err-finish-clause-refused
returns-in-Err-finish-clause-refused g c = λ b is.
    let a : Wanted = as_wanted c.args.options.now in
    let planned = c.in-Ok.ensures.planned b c.args.resets.now.births c.args.rings.now is in
    let begun = c.in-Ok-make.ensures.begun b a c.args.anonymous c.args.hotplug.now (shown-same c.in-Ok.ensures.same is) planned in
    refused-last b a ℕ ℕ c.in-Err-finish.field-0 c.finish.new.heap c.in-Err-finish.ensures.code
    (c.in-Err-finish.ensures.refused b a (c.in-Ok-place.ensures.settled b a begun is.notices))

pub returns-in-Err-finish-clause-book : goal.returns-in-Err-finish-clause-book
returns-in-Err-finish-clause-book g c = λ out h. c.finish.ensures.book out (c.place.ensures.book out (c.make.ensures.book out (c.choose.ensures.book out h)))

pub returns-in-Err-Refused-clause-unkept : goal.returns-in-Err-Refused-clause-unkept
returns-in-Err-Refused-clause-unkept g c =
    new-from c.args.heap.now c.choose.new.heap c.note_failed_add.new.heap c.in-Ok.ensures.same c.note_failed_add.ensures.kept

pub returns-in-Err-make-clause-unkept : goal.returns-in-Err-make-clause-unkept
returns-in-Err-make-clause-unkept g c = new-from c.args.heap.now c.choose.new.heap c.make.new.heap c.in-Ok.ensures.same c.make.ensures.kept

pub returns-in-Err-place-clause-unkept : goal.returns-in-Err-place-clause-unkept
returns-in-Err-place-clause-unkept g c =
    new-then c.args.heap.now c.make.new.heap c.place.new.heap
    (new-from c.args.heap.now c.choose.new.heap c.make.new.heap c.in-Ok.ensures.same c.make.ensures.kept) c.in-Err-place.ensures.unkept

pub make-requires-clause-counts : goal.make-requires-clause-counts
make-requires-clause-counts g c = subst (CountsKept c.args.resets.now.births) (sym c.in-Ok.ensures.same) c.requires

pub returns-in-Ok-finish-clause-claims : goal.returns-in-Ok-finish-clause-claims
returns-in-Ok-finish-clause-claims g c =
    let placed = c.in-Ok-place.placed in
    let before = new-from c.args.heap.now c.choose.new.heap c.make.new.heap c.in-Ok.ensures.same c.make.ensures.kept in
    subst (λ (n : ℕ). ClaimsOrNewBut n c.args.heap.now c.finish.new.heap) (sym c.in-Ok-finish.ensures.device)
    (far-but c.args.heap.now c.place.new.heap c.finish.new.heap placed.device.birth placed.plugging
    (so-far c.args.heap.now c.make.new.heap c.place.new.heap placed.device.birth placed.plugging before c.in-Ok-place.ensures.kept) c.finish.ensures.claims)

pub returns-in-Ok-finish-clause-counts : goal.returns-in-Ok-finish-clause-counts
returns-in-Ok-finish-clause-counts g c = λ b is.
    let a : Wanted = as_wanted c.args.options.now in
    let planned = c.in-Ok.ensures.planned b c.args.resets.now.births c.args.rings.now is in
    let begun = c.in-Ok-make.ensures.begun b a c.args.anonymous c.args.hotplug.now (shown-same c.in-Ok.ensures.same is) planned in
    let counts =
    c.in-Ok-finish.ensures.counts b a (c.in-Ok-place.ensures.settled b a begun is.notices)
    (record { holds_are = is.holds_are; pending = is.pending; notices = is.notices }) in
    let placed = c.in-Ok-place.placed in
    let before = new-from c.args.heap.now c.choose.new.heap c.make.new.heap c.in-Ok.ensures.same c.make.ensures.kept in
    let so_far =
    subst (λ (n : ℕ). KeptSoFar n placed.plugging c.args.heap.now c.place.new.heap) (sym c.in-Ok-finish.ensures.device)
    (so-far c.args.heap.now c.make.new.heap c.place.new.heap placed.device.birth placed.plugging before c.in-Ok-place.ensures.kept) in
    (counts.0, far-others (plug b a).board c.args.heap.now c.place.new.heap c.finish.new.heap _ placed.plugging so_far counts.1)

pub returns-in-Ok-finish-clause-fed : goal.returns-in-Ok-finish-clause-fed
returns-in-Ok-finish-clause-fed g c = λ b is there.
    let a : Wanted = as_wanted c.args.options.now in
    let planned = c.in-Ok.ensures.planned b c.args.resets.now.births c.args.rings.now is in
    let begun = c.in-Ok-make.ensures.begun b a c.args.anonymous c.args.hotplug.now (shown-same c.in-Ok.ensures.same is) planned in
    let settled = c.in-Ok-place.ensures.settled b a begun is.notices in
    let stays =
    c.in-Ok-finish.ensures.fed b a settled (record { holds_are = is.holds_are; pending = is.pending; notices = is.notices }) in
    let placed = c.in-Ok-place.placed in
    let before = new-from c.args.heap.now c.choose.new.heap c.make.new.heap c.in-Ok.ensures.same c.make.ensures.kept in
    let path = c.in-Ok-finish.ensures.stood.0 in
    let attached = c.in-Ok-finish.ensures.stood.1 in
    let fed =
    subst (λ (x : Plugging). FedSoFar placed.device.birth x c.args.heap.now c.place.new.heap) attached
    (fed-so-far placed.device.birth placed.plugging c.args.heap.now c.make.new.heap c.place.new.heap before (c.in-Ok-place.ensures.fed b a begun there)) in
    let shown = stood-shown b a placed c.place.new.heap path attached settled in
    subst (λ (n : ℕ). FedOrNew (plug b a).board n c.args.heap.now c.finish.new.heap) (sym c.in-Ok-finish.ensures.device)
    (fed-then shown.0 (plug b a).board placed.device.birth c.args.heap.now c.place.new.heap c.finish.new.heap shown.1 (fed shown.0 shown.1)
    c.finish.ensures.periods
    (subst (λ (n : ℕ). FedStays (plug b a).board n c.place.new.heap c.finish.new.heap) c.in-Ok-finish.ensures.device stays))

pub returns-in-Err-finish-clause-unkept : goal.returns-in-Err-finish-clause-unkept
returns-in-Err-finish-clause-unkept g c =
    let placed = c.in-Ok-place.placed in
    let before = new-from c.args.heap.now c.choose.new.heap c.make.new.heap c.in-Ok.ensures.same c.make.ensures.kept in
    far-new c.args.heap.now c.place.new.heap c.finish.new.heap placed.device.birth placed.plugging
    (so-far c.args.heap.now c.make.new.heap c.place.new.heap placed.device.birth placed.plugging before c.in-Ok-place.ensures.kept) c.in-Err-finish.ensures.full
    c.in-Err-finish.ensures.unkept
