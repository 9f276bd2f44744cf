-- The device is judged already: it takes its place, or is given up.
use Rattle.std.proofs.Common.{◌≡◌, ℕ, Option, ◌≤◌, ◌==◌, refl, ap, sym, subst, ◌∙◌, List, true, false, length, nat_le, arith}
use Rattle.std.proofs.lemmas.Bool.Decides.{nat_tests}
use Rattle.qo_values.specs.declared.limits.TheConstants.{NOTICES_MAX}
use Rattle.qo_model.specs.Board.{Board, Notice, is_live}
use Rattle.qo_model.specs.Plug.{source_for}
use Rattle.qo_slots.specs.declared.keys.Key.{Key}
use Rattle.qo_kinds.specs.declared.kept_set.KeptSet.{KeptSet}
use Rattle.qo_heap.specs.Objects.{with_edit}
use Rattle.qo_plug.specs.Resources.{claims_given}
use Rattle.qo_plug.specs.Drafts.{given_draft}
use Rattle.qo_plug.specs.DeviceClaims.{kept_on}
use Rattle.qo_plug.specs.FreeResources.{IsFreeId}
use Rattle.qo_plug.specs.Placement.{IsAttachment, kept_in, resources_in}
use Rattle.qo_properties.specs.KeptClaims.{SameClaims}
use Rattle.qo_plug.proofs.ClaimLemmas.{chosen-claims, draft-keeps}
use Rattle.qo_plug.proofs.GivenDraftLemmas.{stood-planned}
use Rattle.qo_plug.proofs.SourceLemmas.{draft-live, source-same}
use Rattle.qo_plug.proofs.StageLemmas.{attachment-of, bus-low, full-barred, given_up-cut, opened, resources-refused}
use Rattle.qo_properties.proofs.KeptLemmas.{before-same, before-then}
use Rattle.qo_plug.proofs.KeptLemmas.{given-but, same-before}
use Rattle.qo_plug.proofs.placing.place.Goals as goal

pub returns-in-Err-clause-refused : goal.returns-in-Err-clause-refused
returns-in-Err-clause-refused g c = λ b a is.
    let bar = c.in-Err.field-0 in
    let stages : (5 ≤ bar.stage) × (bar.stage ≤ 6) = rw c.in-Err.is at c.requires.stages in
    let early : (bar.stage == 8) ≡ false = grind (arith, nat_tests, stages.1) in (
      stages.0,
      stages.1,
      resources-refused b a c.args.begun c.args.heap.now is bar c.in-Err.is c.give_up.new.heap
          (c.give_up.ensures.shown b c.args.begun.target.kind a.props c.args.begun.target.bus.birth bar.stage is.sound is.birth early is.shown),
    )

pub returns-then-are_full-clause-settled : goal.returns-then-are_full-clause-settled
returns-then-are_full-clause-settled g c = λ b a is notices.
    let d = c.args.begun in
    let full = ap (λ (l : List Notice). nat_le NOTICES_MAX (length l)) notices ∙ sym c.are_full.ensures ∙ c.if-are_full.true in
    record {
      sound = is.sound;
      birth = is.birth;
      target = (d.target, c.requires.device_is, (is.admitted, full-barred b a d c.args.heap.now is c.in-Ok.resources c.in-Ok.is full, is.out, is.shown));
    }

pub stand-requires-clause-free_id : goal.stand-requires-clause-free_id
stand-requires-clause-free_id g c =
    subst (λ (id : Option (List ℕ)). IsFreeId id c.args.heap.now.claims) (sym c.attachment_at-attachment.ensures.id) c.requires.free_id

pub stand-requires-clause-free : goal.stand-requires-clause-free
stand-requires-clause-free g c = rw (c.attachment_at-attachment.ensures.bus, c.attachment_at-attachment.ensures.resources) (rw c.in-Ok.is at c.requires.free)

pub returns-in-Ok-stand-clause-settled : goal.returns-in-Ok-stand-clause-settled
returns-in-Ok-stand-clause-settled g c = λ b a is notices.
    let d = c.args.begun in
    let ens = c.attachment_at-attachment.ensures in
    let of = attachment-of b a d c.args.heap.now is in
    let room = ap (λ (l : List Notice). nat_le NOTICES_MAX (length l)) notices ∙ sym c.are_full.ensures ∙ c.if-are_full.false in
    let attachment :
    IsAttachment b a c.attachment_at-attachment.result.0.container.birth c.attachment_at-attachment.result.0.name c.attachment_at-attachment.result.1 =
    record { id_is = of.id_is ∙ sym ens.id; name_is = of.name_is ∙ sym ens.name; parent_is = of.parent_is ∙ ap (λ (k : Key). k.birth) (sym ens.container) } in
    let source : source_for b c.attachment_at-attachment.result.0.bus.birth
    ≡ source_for (given_draft b d.target.kind a.props) c.attachment_at-attachment.result.0.bus.birth =
    rw ens.bus (source-same b d.target.kind is.sound a.props d.target.bus.birth (bus-low b a d c.args.heap.now is c.requires)) in
    let opening = opened b a d c.args.heap.now is c.in-Ok.resources c.in-Ok.is room in
    let chosen = chosen-claims b d.target.kind d.target.bus.birth a.props c.in-Ok.resources (rw c.in-Ok.is at is.resources) in
    let keeps = rw (ens.bus, ens.resources) at c.in-Ok-stand.ensures.claims in
    let kept =
    draft-keeps c.args.heap.now c.stand.new.heap d.device.birth d.target.kind (claims_given b d.target.kind d.target.bus.birth a.props) c.requires.rest
    (subst (λ (k : KeptSet). SameClaims (with_edit d.device.birth (kept_in k) c.args.heap.now) c.stand.new.heap) chosen keeps) in
    let stood = c.in-Ok-stand.ensures.stood b (given_draft b d.target.kind a.props) a is.shown attachment source is.plan in
    record {
      sound = is.sound;
      birth = is.birth;
      target = (
        d.target,
        c.requires.device_is,
        (
          c.in-Ok-stand.ensures.told,
          c.in-Ok.resources,
          refl,
          opening,
          stood-planned b d.target.kind d.device.birth a (resources_in d.target.bus.birth c.in-Ok.resources) is.birth c.in-Ok-stand.path.kept c.stand.new.heap
              (rw (ens.bus, ens.resources) at stood),
          kept,
        ),
      );
    }

pub returns-in-Err-stand-clause-memory : goal.returns-in-Err-stand-clause-memory
returns-in-Err-stand-clause-memory g c = λ b a is e.
    let d = c.args.begun in
    let left = c.in-Err-stand.ensures.err (given_draft b d.target.kind a.props) is.shown in
    given_up-cut b a d c.args.heap.now is c.give_up-in-Err-stand.new.heap
    (c.give_up-in-Err-stand.ensures.shown b d.target.kind a.props d.target.bus.birth 0 is.sound is.birth refl left)

pub returns-in-Err-stand-clause-book : goal.returns-in-Err-stand-clause-book
returns-in-Err-stand-clause-book g c = λ out h. c.give_up-in-Err-stand.ensures.book out (c.stand.ensures.book out h)

pub returns-in-Ok-stand-clause-kept : goal.returns-in-Ok-stand-clause-kept
returns-in-Ok-stand-clause-kept g c = (
  given-but c.args.heap.now c.stand.new.heap c.args.begun.device.birth
      (kept_in (kept_on c.attachment_at-attachment.result.0.bus.birth c.attachment_at-attachment.result.0.resources))
      c.in-Ok-stand.ensures.claims,
  same-before c.args.heap.now c.stand.new.heap c.in-Ok-stand.ensures.counts,
)

pub returns-in-Err-stand-clause-unkept : goal.returns-in-Err-stand-clause-unkept
returns-in-Err-stand-clause-unkept g c =
    before-then c.args.heap.now c.stand.new.heap c.give_up-in-Err-stand.new.heap
    (before-same c.args.heap.now c.stand.new.heap c.in-Err-stand.ensures.unkept) c.give_up-in-Err-stand.ensures.kept

pub returns-then-are_full-clause-kept : goal.returns-then-are_full-clause-kept
returns-then-are_full-clause-kept g c = λ n k e. e

pub returns-in-Err-clause-unkept : goal.returns-in-Err-clause-unkept
returns-in-Err-clause-unkept g c = c.give_up.ensures.kept

pub returns-then-are_full-clause-fed : goal.returns-then-are_full-clause-fed
returns-then-are_full-clause-fed g c = λ b a is there. (λ n k e. e)

pub returns-in-Ok-stand-clause-fed : goal.returns-in-Ok-stand-clause-fed
returns-in-Ok-stand-clause-fed g c = λ b a is there.
    let d = c.args.begun in
    let ens = c.attachment_at-attachment.ensures in
    let draft : Board = given_draft b d.target.kind a.props in
    let source : source_for b c.attachment_at-attachment.result.0.bus.birth ≡ source_for draft c.attachment_at-attachment.result.0.bus.birth =
    rw ens.bus (source-same b d.target.kind is.sound a.props d.target.bus.birth (bus-low b a d c.args.heap.now is c.requires)) in
    let live : is_live draft (source_for draft c.attachment_at-attachment.result.0.bus.birth) ≡ true =
    subst (λ (n : ℕ). is_live draft n ≡ true) source
    (draft-live b d.target.kind is.sound a.props (source_for b c.attachment_at-attachment.result.0.bus.birth) (there c.attachment_at-attachment.result.0.bus.birth)) in
    λ x t. (
      λ n at. c.in-Ok-stand.ensures.fed draft x n is.shown live t at,
      λ none. c.in-Ok-stand.ensures.unfed x t none,
    )
