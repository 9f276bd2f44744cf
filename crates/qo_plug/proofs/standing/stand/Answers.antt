-- Each step keeps what the ones before it made.
use Rattle.std.proofs.Common.{◌≡◌, refl, ◌++◌, ℕ, List, Option, ap, sym, subst, ◌∙◌}
use Rattle.std.specs.List.{AllZip}
use Rattle.std.proofs.lemmas.Option.{IfSome_then}
use Rattle.qo_kinds.specs.Bodies.{registers_of}
use Rattle.qo_kinds.specs.declared.kept_set.KeptSet.{KeptSet}
use Rattle.qo_heap.specs.Rows.{IsLive}
use Rattle.qo_model.specs.Board.{Board}
use Rattle.qo_values.specs.declared.ranges.Range.{Range}
use Rattle.qo_model.specs.Plug.{Resources, addressed_at, joined, source_for, stood, valued, with_body_of}
use Rattle.qo_model.specs.Release.{edit}
use Rattle.qo_object.specs.Slots.{Named}
use Rattle.qo_heap.specs.Board.{Shows}
use Rattle.qo_heap.specs.Book.{IsBook}
use Rattle.qo_heap.specs.Objects.{Objects, with_edit}
use Rattle.qo_heap.proofs.HeapLemmas.{on-err}
use Rattle.qo_properties.specs.Filling.{Fits, IsGiven}
use Rattle.qo_properties.proofs.FillingLemmas.{all-live}
use Rattle.qo_plug.specs.OwnSlots.{own_slots_of}
use Rattle.qo_plug.specs.Placement.{kept_in, range_in, resources_in, with_book}
use Rattle.qo_heap.specs.Acts.{KeepsPeriods, counts_of, periods_of}
use Rattle.qo_life.proofs.TreeLemmas.{read-content}
use Rattle.qo_properties.specs.KeptClaims.{SameClaims, SameKept, all_kept}
use Rattle.qo_properties.proofs.KeptLemmas.{claims-same, counts-same, periods-same}
use Rattle.qo_plug.specs.KeptPeriods.{ClockFed}
use Rattle.qo_plug.proofs.FedLemmas.{fed-from, found-source}
use Rattle.qo_plug.specs.DeviceClaims.{id_claims_out, kept_out, taken_out}
use Rattle.qo_plug.proofs.BodyLemmas.{kept-own, of-bodies}
use Rattle.qo_plug.proofs.RangeLemmas.{still-dimm}
use Rattle.qo_plug.proofs.PlacementSteps.{alike-then, pinned-same}
use Rattle.qo_plug.proofs.PlacementLemmas.{joined-alike, joined-bare, placed-alike, placed-book, placed-claims, placed-ids, placed-kept, placed-own, placed-registers, placed-shown, reserved-book, reserved-live, reserved-shows, returned-kept, rows-joined, stands, still-unnamed}
use Rattle.qo_plug.proofs.standing.stand.Goals as goal

pub returns-in_err-taken-clause-book : goal.returns-in_err-taken-clause-book
returns-in_err-taken-clause-book g c = λ out h.
    c.in_err-taken.ensures.err out (reserved-book out c.args.heap.now c.reserve_event.new.self c.reserve_event.new.self.events.spare
    c.reserve_event.ensures.kept h)

pub keep_claims-requires-clause-live : goal.keep_claims-requires-clause-live
keep_claims-requires-clause-live g c =
    (joined-alike c.args.heap.now c.join.new.heap c.args.attachment.container c.args.attachment.bus c.args.device c.args.attachment.name
    c.args.attachment.resources.slot (rows-joined
    c.args.heap.now c.reserve_event.new.self c.take_claims.new.heap c.join.new.heap c.reserve_event.new.self.events.spare c.args.attachment.container
    c.args.attachment.bus c.args.device c.args.attachment.name c.args.attachment.resources.slot c.reserve_event.ensures.kept c.in_ok-taken.ensures.rest
    c.in-Ok.ensures.now)).names c.args.device c.requires.live

pub keep_claims-requires-clause-bare : goal.keep_claims-requires-clause-bare
keep_claims-requires-clause-bare g c =
    joined-bare c.args.heap.now c.join.new.heap c.args.attachment.container c.args.attachment.bus c.args.device c.args.attachment.name
    c.args.attachment.resources.slot (rows-joined
    c.args.heap.now c.reserve_event.new.self c.take_claims.new.heap c.join.new.heap c.reserve_event.new.self.events.spare c.args.attachment.container
    c.args.attachment.bus c.args.device c.args.attachment.name c.args.attachment.resources.slot c.reserve_event.ensures.kept c.in_ok-taken.ensures.rest
    c.in-Ok.ensures.now)
    c.args.device.birth c.requires.new

pub put_values-requires-clause-live : goal.put_values-requires-clause-live
put_values-requires-clause-live g c =
    (placed-alike c.args.heap.now c.reserve_event.new.self c.take_claims.new.heap c.join.new.heap c.keep_claims.new.heap
    c.reserve_event.new.self.events.spare c.args.device c.args.attachment.container c.args.attachment.bus c.args.attachment.name
    c.args.attachment.resources.slot
    c.in_ok-taken.taken.kept c.reserve_event.ensures.kept c.in_ok-taken.ensures.rest c.in-Ok.ensures.now c.keep_claims.ensures.now).names
    c.args.device c.requires.live

pub put_values-requires-clause-bus : goal.put_values-requires-clause-bus
put_values-requires-clause-bus g c =
    (placed-alike c.args.heap.now c.reserve_event.new.self c.take_claims.new.heap c.join.new.heap c.keep_claims.new.heap
    c.reserve_event.new.self.events.spare c.args.device c.args.attachment.container c.args.attachment.bus c.args.attachment.name
    c.args.attachment.resources.slot
    c.in_ok-taken.taken.kept c.reserve_event.ensures.kept c.in_ok-taken.ensures.rest c.in-Ok.ensures.now c.keep_claims.ensures.now).names
    c.args.attachment.bus c.requires.bus

pub put_values-requires-clause-targets : goal.put_values-requires-clause-targets
put_values-requires-clause-targets g c =
    all-live (IsLive c.args.heap.now.rows) (IsLive c.keep_claims.new.heap.rows) (placed-alike c.args.heap.now c.reserve_event.new.self
    c.take_claims.new.heap c.join.new.heap c.keep_claims.new.heap c.reserve_event.new.self.events.spare c.args.device c.args.attachment.container
    c.args.attachment.bus c.args.attachment.name c.args.attachment.resources.slot c.in_ok-taken.taken.kept c.reserve_event.ensures.kept
    c.in_ok-taken.ensures.rest
    c.in-Ok.ensures.now c.keep_claims.ensures.now).names c.args.plan.items c.requires.targets

pub put_values-requires-clause-fits : goal.put_values-requires-clause-fits
put_values-requires-clause-fits g c =
    subst (λ (l : List Named). AllZip Fits c.args.plan.items l) (sym (placed-own c.args.heap.now c.reserve_event.new.self c.take_claims.new.heap
    c.join.new.heap c.keep_claims.new.heap c.reserve_event.new.self.events.spare c.args.device c.args.attachment.container c.args.attachment.bus
    c.args.attachment.name
    c.args.attachment.resources.slot c.in_ok-taken.taken.kept c.reserve_event.ensures.kept c.in_ok-taken.ensures.rest c.in-Ok.ensures.now
    c.keep_claims.ensures.now c.requires.apart)) c.requires.fits

pub put_body-requires-clause-live : goal.put_body-requires-clause-live
put_body-requires-clause-live g c =
    (alike-then c.args.heap.now c.keep_claims.new.heap c.put_values.new.heap (placed-alike c.args.heap.now c.reserve_event.new.self
    c.take_claims.new.heap c.join.new.heap c.keep_claims.new.heap c.reserve_event.new.self.events.spare c.args.device c.args.attachment.container
    c.args.attachment.bus c.args.attachment.name c.args.attachment.resources.slot c.in_ok-taken.taken.kept c.reserve_event.ensures.kept
    c.in_ok-taken.ensures.rest
    c.in-Ok.ensures.now c.keep_claims.ensures.now) c.put_values.ensures.stays.alike).names c.args.device c.requires.live

pub put_body-requires-clause-dimm : goal.put_body-requires-clause-dimm
put_body-requires-clause-dimm g c =
    still-dimm c.args.attachment.resources.memory _ _ (of-bodies registers_of _ _ (c.put_values.ensures.stays.own c.args.device.birth)
    ∙ placed-registers c.args.heap.now c.reserve_event.new.self c.take_claims.new.heap
    c.join.new.heap c.keep_claims.new.heap c.reserve_event.new.self.events.spare c.args.device c.args.attachment.container
    c.args.attachment.bus c.args.attachment.name c.args.attachment.resources.slot c.in_ok-taken.taken.kept c.reserve_event.ensures.kept
    c.in_ok-taken.ensures.rest c.in-Ok.ensures.now c.keep_claims.ensures.now
    c.args.device.birth) c.requires.dimm

pub put_body-requires-clause-unnamed : goal.put_body-requires-clause-unnamed
put_body-requires-clause-unnamed g c =
    still-unnamed _ _ (c.put_values.ensures.stays.ids c.args.device.birth ∙ placed-ids c.args.heap.now c.reserve_event.new.self
    c.take_claims.new.heap c.join.new.heap c.keep_claims.new.heap c.reserve_event.new.self.events.spare c.args.device c.args.attachment.container
    c.args.attachment.bus c.args.attachment.name c.args.attachment.resources.slot c.in_ok-taken.taken.kept c.reserve_event.ensures.kept
    c.in_ok-taken.ensures.rest
    c.in-Ok.ensures.now c.keep_claims.ensures.now c.args.device.birth) c.requires.new

pub connect_clock-requires-clause-live : goal.connect_clock-requires-clause-live
connect_clock-requires-clause-live g c =
    (alike-then c.args.heap.now c.put_values.new.heap c.put_body.new.heap (alike-then c.args.heap.now c.keep_claims.new.heap c.put_values.new.heap
    (placed-alike c.args.heap.now c.reserve_event.new.self c.take_claims.new.heap c.join.new.heap c.keep_claims.new.heap
    c.reserve_event.new.self.events.spare c.args.device c.args.attachment.container c.args.attachment.bus c.args.attachment.name
    c.args.attachment.resources.slot
    c.in_ok-taken.taken.kept c.reserve_event.ensures.kept c.in_ok-taken.ensures.rest c.in-Ok.ensures.now c.keep_claims.ensures.now)
    c.put_values.ensures.stays.alike) c.put_body.ensures.alike).names c.args.device c.requires.live

pub connect_clock-requires-clause-source : goal.connect_clock-requires-clause-source
connect_clock-requires-clause-source g c =
    IfSome_then c.source_of-source.result {P = IsLive c.reserve_event.new.self.rows} {Q = IsLive c.put_body.new.heap.rows} c.source_of-source.ensures.live
    (λ key live. (alike-then c.args.heap.now
    c.put_values.new.heap c.put_body.new.heap (alike-then c.args.heap.now c.keep_claims.new.heap c.put_values.new.heap (placed-alike c.args.heap.now
    c.reserve_event.new.self c.take_claims.new.heap c.join.new.heap c.keep_claims.new.heap c.reserve_event.new.self.events.spare c.args.device
    c.args.attachment.container c.args.attachment.bus c.args.attachment.name c.args.attachment.resources.slot c.in_ok-taken.taken.kept
    c.reserve_event.ensures.kept
    c.in_ok-taken.ensures.rest c.in-Ok.ensures.now c.keep_claims.ensures.now) c.put_values.ensures.stays.alike) c.put_body.ensures.alike).names key
    (reserved-live c.args.heap.now c.reserve_event.new.self c.take_claims.new.heap c.join.new.heap c.keep_claims.new.heap
    c.reserve_event.new.self.events.spare c.args.device c.args.attachment.container c.args.attachment.bus c.args.attachment.name
    c.args.attachment.resources.slot
    c.in_ok-taken.taken.kept c.reserve_event.ensures.kept c.in_ok-taken.ensures.rest c.in-Ok.ensures.now c.keep_claims.ensures.now key live))

pub returns-in-Ok-clause-stood : goal.returns-in-Ok-clause-stood
returns-in-Ok-clause-stood g c = λ b d a s attachment same told.
    let range : Option Range = range_in c.args.attachment.resources.memory in
    let resources : Resources = resources_in c.args.attachment.bus.birth c.args.attachment.resources in
    let here : Board = joined b c.args.device.birth a resources d in
    let there : Board = addressed_at c.args.device.birth range (valued b c.args.device.birth a.props resources here) in
    let first : Shows d c.reserve_event.new.self =
    reserved-shows d c.args.heap.now c.reserve_event.new.self c.reserve_event.new.self.events.spare c.reserve_event.ensures.kept s in
    let given : AllZip (IsGiven b a.props) c.args.plan.items (own_slots_of c.keep_claims.new.heap c.args.device.birth) =
    subst (λ (l : List Named). AllZip (IsGiven b a.props) c.args.plan.items l) (sym (placed-own c.args.heap.now c.reserve_event.new.self
    c.take_claims.new.heap
    c.join.new.heap c.keep_claims.new.heap c.reserve_event.new.self.events.spare c.args.device c.args.attachment.container
    c.args.attachment.bus c.args.attachment.name c.args.attachment.resources.slot c.in_ok-taken.taken.kept c.reserve_event.ensures.kept
    c.in_ok-taken.ensures.rest c.in-Ok.ensures.now c.keep_claims.ensures.now c.requires.apart)) told in
    let valued_is : Shows there c.put_values.new.heap =
    c.put_values.ensures.shown b here a.props (placed-kept c.args.heap.now c.reserve_event.new.self c.take_claims.new.heap
    c.join.new.heap c.keep_claims.new.heap c.reserve_event.new.self.events.spare c.args.device c.args.attachment.container
    c.args.attachment.bus c.args.attachment.name c.args.attachment.resources.slot c.in_ok-taken.taken.kept c.reserve_event.ensures.kept
    c.in_ok-taken.ensures.rest c.in-Ok.ensures.now c.keep_claims.ensures.now b d a c.args.id range s attachment) given in
    let body_is : Shows (stood b c.args.device.birth a resources d) c.put_body.new.heap =
    subst (λ (id : Option (List ℕ)). Shows (edit c.args.device.birth (with_body_of id range) there) c.put_body.new.heap)
    (sym (attachment.id_is ∙ sym c.in_ok-taken.ensures.id)) (c.put_body.ensures.shown there valued_is) in
    stands b d a c.args.device resources c.in-Ok.path.kept c.put_body.new.heap c.connect_clock.new.heap c.source_of-source.result
    (c.in-Ok.ensures.path here (placed-shown c.args.heap.now c.reserve_event.new.self c.take_claims.new.heap
    c.join.new.heap c.keep_claims.new.heap c.reserve_event.new.self.events.spare c.args.device c.args.attachment.container
    c.args.attachment.bus c.args.attachment.name c.args.attachment.resources.slot c.in_ok-taken.taken.kept c.reserve_event.ensures.kept
    c.in_ok-taken.ensures.rest c.in-Ok.ensures.now c.keep_claims.ensures.now b d a c.args.id range s attachment)) body_is
    (c.source_of-source.ensures.source d first) (c.source_of-source.ensures.none d first)
    c.connect_clock.ensures.shown c.connect_clock.ensures.none same

pub returns-in-Ok-clause-names : goal.returns-in-Ok-clause-names
returns-in-Ok-clause-names g c =
    (alike-then c.args.heap.now c.put_body.new.heap c.connect_clock.new.heap (alike-then c.args.heap.now c.put_values.new.heap
    c.put_body.new.heap (alike-then c.args.heap.now c.keep_claims.new.heap c.put_values.new.heap (placed-alike c.args.heap.now
    c.reserve_event.new.self c.take_claims.new.heap c.join.new.heap c.keep_claims.new.heap c.reserve_event.new.self.events.spare c.args.device
    c.args.attachment.container c.args.attachment.bus c.args.attachment.name c.args.attachment.resources.slot c.in_ok-taken.taken.kept
    c.reserve_event.ensures.kept
    c.in_ok-taken.ensures.rest c.in-Ok.ensures.now c.keep_claims.ensures.now) c.put_values.ensures.stays.alike) c.put_body.ensures.alike)
    c.connect_clock.ensures.connected.alike).names

pub returns-in-Ok-clause-paths : goal.returns-in-Ok-clause-paths
returns-in-Ok-clause-paths g c =
    (alike-then c.args.heap.now c.put_body.new.heap c.connect_clock.new.heap (alike-then c.args.heap.now c.put_values.new.heap
    c.put_body.new.heap (alike-then c.args.heap.now c.keep_claims.new.heap c.put_values.new.heap (placed-alike c.args.heap.now
    c.reserve_event.new.self c.take_claims.new.heap c.join.new.heap c.keep_claims.new.heap c.reserve_event.new.self.events.spare c.args.device
    c.args.attachment.container c.args.attachment.bus c.args.attachment.name c.args.attachment.resources.slot c.in_ok-taken.taken.kept
    c.reserve_event.ensures.kept
    c.in_ok-taken.ensures.rest c.in-Ok.ensures.now c.keep_claims.ensures.now) c.put_values.ensures.stays.alike) c.put_body.ensures.alike)
    c.connect_clock.ensures.connected.alike).paths c.args.device.birth

pub returns-in-Ok-clause-pinned : goal.returns-in-Ok-clause-pinned
returns-in-Ok-clause-pinned g c =
    pinned-same c.args.heap.now c.connect_clock.new.heap c.reveal_invariant.ensures c.reveal_invariant-in-Ok.ensures
    (alike-then c.args.heap.now c.put_body.new.heap
    c.connect_clock.new.heap (alike-then c.args.heap.now c.put_values.new.heap c.put_body.new.heap (alike-then c.args.heap.now c.keep_claims.new.heap
    c.put_values.new.heap (placed-alike c.args.heap.now c.reserve_event.new.self c.take_claims.new.heap c.join.new.heap c.keep_claims.new.heap
    c.reserve_event.new.self.events.spare c.args.device c.args.attachment.container c.args.attachment.bus c.args.attachment.name
    c.args.attachment.resources.slot
    c.in_ok-taken.taken.kept c.reserve_event.ensures.kept c.in_ok-taken.ensures.rest c.in-Ok.ensures.now c.keep_claims.ensures.now)
    c.put_values.ensures.stays.alike) c.put_body.ensures.alike) c.connect_clock.ensures.connected.alike).pins c.args.device.birth

pub returns-in-Ok-clause-claims : goal.returns-in-Ok-clause-claims
returns-in-Ok-clause-claims g c =
    let given = placed-claims c.args.heap.now c.reserve_event.new.self c.take_claims.new.heap c.join.new.heap c.keep_claims.new.heap
    c.reserve_event.new.self.events.spare c.args.device c.args.attachment.container c.args.attachment.bus c.args.attachment.name
    c.args.attachment.resources.slot
    c.in_ok-taken.taken.kept c.reserve_event.ensures.kept c.in_ok-taken.ensures.rest c.in-Ok.ensures.now c.keep_claims.ensures.now in
    let before : SameKept (with_edit c.args.device.birth (kept_in c.in_ok-taken.taken.kept) c.args.heap.now) c.put_body.new.heap = λ n.
    c.put_body.ensures.kept n
    ∙ kept-own c.keep_claims.new.heap c.put_values.new.heap c.put_values.ensures.stays.own n
    ∙ given n in
    subst (λ (k : KeptSet). SameClaims (with_edit c.args.device.birth (kept_in k) c.args.heap.now) c.connect_clock.new.heap) c.in_ok-taken.ensures.kept
    (λ n.
    c.connect_clock.ensures.connected.claims n
    ∙ claims-same (with_edit c.args.device.birth (kept_in c.in_ok-taken.taken.kept) c.args.heap.now) c.put_body.new.heap before n)

pub returns-in-Ok-clause-counts : goal.returns-in-Ok-clause-counts
returns-in-Ok-clause-counts g c =
    let given = placed-claims c.args.heap.now c.reserve_event.new.self c.take_claims.new.heap c.join.new.heap c.keep_claims.new.heap
    c.reserve_event.new.self.events.spare c.args.device c.args.attachment.container c.args.attachment.bus c.args.attachment.name
    c.args.attachment.resources.slot
    c.in_ok-taken.taken.kept c.reserve_event.ensures.kept c.in_ok-taken.ensures.rest c.in-Ok.ensures.now c.keep_claims.ensures.now in
    let before : SameKept (with_edit c.args.device.birth (kept_in c.in_ok-taken.taken.kept) c.args.heap.now) c.put_body.new.heap = λ n.
    c.put_body.ensures.kept n
    ∙ kept-own c.keep_claims.new.heap c.put_values.new.heap c.put_values.ensures.stays.own n
    ∙ given n in
    λ n.
    c.connect_clock.ensures.connected.counts n
    ∙ counts-same (with_edit c.args.device.birth (kept_in c.in_ok-taken.taken.kept) c.args.heap.now) c.put_body.new.heap before n
    ∙ read-content counts_of c.args.device.birth (kept_in c.in_ok-taken.taken.kept) (λ d. refl) c.args.heap.now n

pub returns-in-Ok-clause-fed : goal.returns-in-Ok-clause-fed
returns-in-Ok-clause-fed g c = λ b x n s there t at.
    let given = placed-claims c.args.heap.now c.reserve_event.new.self c.take_claims.new.heap c.join.new.heap c.keep_claims.new.heap
    c.reserve_event.new.self.events.spare c.args.device c.args.attachment.container c.args.attachment.bus c.args.attachment.name
    c.args.attachment.resources.slot
    c.in_ok-taken.taken.kept c.reserve_event.ensures.kept c.in_ok-taken.ensures.rest c.in-Ok.ensures.now c.keep_claims.ensures.now in
    let before : SameKept (with_edit c.args.device.birth (kept_in c.in_ok-taken.taken.kept) c.args.heap.now) c.put_body.new.heap = λ n.
    c.put_body.ensures.kept n
    ∙ kept-own c.keep_claims.new.heap c.put_values.new.heap c.put_values.ensures.stays.own n
    ∙ given n in
    let periods : KeepsPeriods c.args.heap.now c.put_body.new.heap = λ n.
    periods-same (with_edit c.args.device.birth (kept_in c.in_ok-taken.taken.kept) c.args.heap.now) c.put_body.new.heap before n
    ∙ read-content periods_of c.args.device.birth (kept_in c.in_ok-taken.taken.kept) (λ d. refl) c.args.heap.now n in
    let first : Shows b c.reserve_event.new.self =
    reserved-shows b c.args.heap.now c.reserve_event.new.self c.reserve_event.new.self.events.spare c.reserve_event.ensures.kept s in
    fed-from c.args.heap.now c.put_body.new.heap c.connect_clock.new.heap n periods
    (found-source (ClockFed n c.put_body.new.heap c.connect_clock.new.heap) b (source_for b c.args.attachment.bus.birth) c.source_of-source.result
    (c.source_of-source.ensures.none b first) there (c.connect_clock.ensures.fed x n t at))

pub returns-in-Ok-clause-unfed : goal.returns-in-Ok-clause-unfed
returns-in-Ok-clause-unfed g c = λ x t none.
    let given = placed-claims c.args.heap.now c.reserve_event.new.self c.take_claims.new.heap c.join.new.heap c.keep_claims.new.heap
    c.reserve_event.new.self.events.spare c.args.device c.args.attachment.container c.args.attachment.bus c.args.attachment.name
    c.args.attachment.resources.slot
    c.in_ok-taken.taken.kept c.reserve_event.ensures.kept c.in_ok-taken.ensures.rest c.in-Ok.ensures.now c.keep_claims.ensures.now in
    let before : SameKept (with_edit c.args.device.birth (kept_in c.in_ok-taken.taken.kept) c.args.heap.now) c.put_body.new.heap = λ n.
    c.put_body.ensures.kept n
    ∙ kept-own c.keep_claims.new.heap c.put_values.new.heap c.put_values.ensures.stays.own n
    ∙ given n in
    let periods : KeepsPeriods c.args.heap.now c.put_body.new.heap = λ n.
    periods-same (with_edit c.args.device.birth (kept_in c.in_ok-taken.taken.kept) c.args.heap.now) c.put_body.new.heap before n
    ∙ read-content periods_of c.args.device.birth (kept_in c.in_ok-taken.taken.kept) (λ d. refl) c.args.heap.now n in
    (λ n. c.connect_clock.ensures.unfed x t none n ∙ periods n)

pub returns-in-Ok-clause-book : goal.returns-in-Ok-clause-book
returns-in-Ok-clause-book g c = λ out h.
    c.connect_clock.ensures.connected.book out (c.put_body.ensures.book out (c.put_values.ensures.stays.book (id_claims_out c.in_ok-taken.taken.id_claim ++
    out) (placed-book c.args.heap.now c.reserve_event.new.self c.take_claims.new.heap
    c.join.new.heap c.keep_claims.new.heap c.reserve_event.new.self.events.spare c.args.device c.args.attachment.container
    c.args.attachment.bus c.args.attachment.name c.args.attachment.resources.slot c.in_ok-taken.taken.kept c.reserve_event.ensures.kept
    c.in_ok-taken.ensures.rest c.in-Ok.ensures.now c.keep_claims.ensures.now (kept_out c.in_ok-taken.taken.kept) (id_claims_out c.in_ok-taken.taken.id_claim)
    out
    c.keep_claims.ensures.book (c.in_ok-taken.ensures.book out (reserved-book out
    c.args.heap.now c.reserve_event.new.self c.reserve_event.new.self.events.spare c.reserve_event.ensures.kept h)))))

pub returns-in_err-taken-clause-unkept : goal.returns-in_err-taken-clause-unkept
returns-in_err-taken-clause-unkept g c =
    on-err c.from_residual-in_err-taken.result
    (λ n. ap (λ (x : Objects). all_kept x n) c.in_err-taken.ensures.rest ∙ ap (λ (x : Objects). all_kept x n) c.reserve_event.ensures.kept)

pub returns-in-Err-clause-unkept : goal.returns-in-Err-clause-unkept
returns-in-Err-clause-unkept g c =
    returned-kept c.args.heap.now c.reserve_event.new.self c.take_claims.new.heap c.give_back.new.heap c.reserve_event.new.self.events.spare
    c.reserve_event.ensures.kept c.in_ok-taken.ensures.rest
    (subst (λ (x : Objects). c.give_back.new.heap ≡ with_book c.give_back.new.heap.claims x) c.in-Err.ensures.err c.give_back.ensures.rest)

pub returns-in-Err-clause-book : goal.returns-in-Err-clause-book
returns-in-Err-clause-book g c = λ out h.
    c.give_back.ensures.book out (subst (λ (x : Objects). IsBook (taken_out c.in_ok-taken.taken ++ out) x) (sym c.in-Err.ensures.err)
    (c.in_ok-taken.ensures.book out (reserved-book out c.args.heap.now c.reserve_event.new.self c.reserve_event.new.self.events.spare
    c.reserve_event.ensures.kept h)))
