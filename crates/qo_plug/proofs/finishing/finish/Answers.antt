-- The device starts and is let go, or is refused after its acts.
use Rattle.std.proofs.Common.{ap, sym, ◌∙◌, Some}
use Rattle.qo_plug.proofs.AddLemmas.{added-counts, added-fed, counts-in, fed-in, is-added, is-refused, kinds-in, open-place, path-in, plugged-in}
use Rattle.qo_plug.proofs.BodyLemmas.{kept-own, there-own}
use Rattle.qo_properties.proofs.KeptLemmas.{claims-before, claims-same, counts-before, goes-kept, periods-before}
use Rattle.qo_plug.proofs.finishing.finish.Goals as goal

pub returns-in-Attached-clause-ok : goal.returns-in-Attached-clause-ok
returns-in-Attached-clause-ok g c = λ b a is beside.
    let s = is.target.0 in
    let device = is.target.1 in
    let (told, at, slot, open_is, stood, kept) = rw c.in-Attached.is at is.target.2 in
    let p = c.args.placed in
    let n = p.device.birth in
    let place = open-place b a s at open_is device in
    let plugged =
    plugged-in b s.kind is.sound device a s.bus.birth at n is.birth c.in-Attached.field-0.kept c.args.resets.now.births c.args.hotplug.now c.start.new.hotplug
    c.args.heap.now c.start.new.heap c.drop_pin.new.heap beside.holds_are beside.pending beside.notices place stood
    c.start.ensures.shown c.start.ensures.told c.start.ensures.pending c.drop_pin.ensures.release in
    let kinds =
    kinds-in b s.kind is.sound device a s.bus.birth at n is.birth c.in-Attached.field-0.kept c.args.resets.now.births c.args.hotplug.now c.start.new.hotplug
    c.args.heap.now c.start.new.heap c.drop_pin.new.heap beside.holds_are beside.pending beside.notices place stood
    c.start.ensures.shown c.start.ensures.told c.start.ensures.pending c.drop_pin.ensures.release in
    let own = there-own c.start.new.heap c.drop_pin.new.heap c.drop_pin.ensures.goes.bodies c.drop_pin.ensures.goes.sides kinds in
    let left = claims-same c.start.new.heap c.drop_pin.new.heap (kept-own c.start.new.heap c.drop_pin.new.heap own) n in
    let path =
    path-in b s.kind is.sound device a s.bus.birth at n is.birth c.in-Attached.field-0.kept c.args.resets.now.births c.args.hotplug.now c.start.new.hotplug
    c.args.heap.now c.start.new.heap c.drop_pin.new.heap beside.holds_are beside.pending beside.notices place stood
    c.start.ensures.shown c.start.ensures.told c.start.ensures.pending c.drop_pin.ensures.release n in
    is-added b a s at open_is (record { birth = n; slot = p.slot; path = c.in-Attached.field-0.told }) c.start.new.hotplug c.drop_pin.new.heap plugged
    is.birth (sym slot) (path ∙ c.start.ensures.path ∙ ap Some (sym told)) (left ∙ c.start.ensures.claims n ∙ kept)

pub returns-in-NoticesFull-clause-refused : goal.returns-in-NoticesFull-clause-refused
returns-in-NoticesFull-clause-refused g c = λ b a is.
    let s = is.target.0 in
    let full = rw c.in-NoticesFull.is at is.target.2 in
    is-refused b a s full.0 c.refuse.new.heap 8 _ (sym full.1) (c.refuse.ensures.shown b s.kind a.props s.bus.birth is.sound is.birth full.2 full.3)

pub returns-in-Attached-clause-book : goal.returns-in-Attached-clause-book
returns-in-Attached-clause-book g c = λ out h. c.drop_pin.ensures.goes.book out (c.start.ensures.book out h)

pub returns-in-Attached-clause-claims : goal.returns-in-Attached-clause-claims
returns-in-Attached-clause-claims g c = λ n k e.
    sym (c.start.ensures.claims n)
    ∙ claims-before c.start.new.heap c.drop_pin.new.heap (goes-kept c.start.new.heap c.drop_pin.new.heap c.drop_pin.ensures.goes) n k e

pub returns-in-Attached-clause-periods : goal.returns-in-Attached-clause-periods
returns-in-Attached-clause-periods g c = λ n k e.
    sym (c.start.ensures.periods n)
    ∙ periods-before c.start.new.heap c.drop_pin.new.heap (goes-kept c.start.new.heap c.drop_pin.new.heap c.drop_pin.ensures.goes) n k e

pub returns-in-NoticesFull-clause-periods : goal.returns-in-NoticesFull-clause-periods
returns-in-NoticesFull-clause-periods g c = periods-before c.args.heap.now c.refuse.new.heap c.refuse.ensures.kept

pub returns-in-NoticesFull-clause-claims : goal.returns-in-NoticesFull-clause-claims
returns-in-NoticesFull-clause-claims g c = claims-before c.args.heap.now c.refuse.new.heap c.refuse.ensures.kept

pub returns-in-NoticesFull-clause-unkept : goal.returns-in-NoticesFull-clause-unkept
returns-in-NoticesFull-clause-unkept g c = c.refuse.ensures.kept

pub returns-in-Attached-clause-counts : goal.returns-in-Attached-clause-counts
returns-in-Attached-clause-counts g c = λ b a is beside.
    let s = is.target.0 in
    let device = is.target.1 in
    let (told, at, slot, open_is, stood, kept) = rw c.in-Attached.is at is.target.2 in
    let p = c.args.placed in
    let n = p.device.birth in
    let place = open-place b a s at open_is device in
    let left = goes-kept c.start.new.heap c.drop_pin.new.heap c.drop_pin.ensures.goes in
    added-counts b a s at open_is n c.args.heap.now c.drop_pin.new.heap
    (counts-in b s.kind is.sound device a s.bus.birth at n is.birth c.in-Attached.field-0.kept c.args.resets.now.births c.args.hotplug.now c.start.new.hotplug
    c.args.heap.now c.start.new.heap c.drop_pin.new.heap beside.holds_are beside.pending beside.notices place stood
    c.start.ensures.shown c.start.ensures.told c.start.ensures.pending c.drop_pin.ensures.release c.start.ensures.counted c.start.ensures.others
    (counts-before c.start.new.heap c.drop_pin.new.heap left))

pub returns-in-Attached-clause-stood : goal.returns-in-Attached-clause-stood
returns-in-Attached-clause-stood g c = (c.in-Attached.field-0, c.in-Attached.is)

pub returns-in-Attached-clause-fed : goal.returns-in-Attached-clause-fed
returns-in-Attached-clause-fed g c = λ b a is beside.
    let s = is.target.0 in
    let device = is.target.1 in
    let (told, at, slot, open_is, stood, kept) = rw c.in-Attached.is at is.target.2 in
    let p = c.args.placed in
    let n = p.device.birth in
    let place = open-place b a s at open_is device in
    let left = goes-kept c.start.new.heap c.drop_pin.new.heap c.drop_pin.ensures.goes in
    added-fed b a s at open_is n c.args.heap.now c.drop_pin.new.heap
    (fed-in b s.kind is.sound device a s.bus.birth at n is.birth c.in-Attached.field-0.kept c.args.resets.now.births c.args.hotplug.now c.start.new.hotplug
    c.args.heap.now c.start.new.heap c.drop_pin.new.heap beside.holds_are beside.pending beside.notices place stood
    c.start.ensures.shown c.start.ensures.told c.start.ensures.pending c.drop_pin.ensures.release
    (λ i k e. sym (c.start.ensures.periods i) ∙ periods-before c.start.new.heap c.drop_pin.new.heap left i k e) c.reveal_invariant.ensures)

pub returns-in-NoticesFull-clause-full : goal.returns-in-NoticesFull-clause-full
returns-in-NoticesFull-clause-full g c = (c.in-NoticesFull.out, c.in-NoticesFull.is)
