-- The stages are those of the place and of the ring.
use Rattle.std.proofs.Common.{◌≡◌, ◌≤◌, ℕ, ap, sym, ◌∙◌, arith}
use Rattle.qo_model.specs.Plug.{bus_slot_for}
use Rattle.qo_plug.proofs.JudgementLemmas.{kind-refused, refused-map, resources-are}
use Rattle.qo_plug.proofs.pre_plug.pre_plug.Goals as goal

pub returns-in-Err-check_kind-clause-stages : goal.returns-in-Err-check_kind-clause-stages
returns-in-Err-check_kind-clause-stages g c =
    refused-map ℕ ℕ (λ stage code. stage ≡ 5) (λ stage code. (5 ≤ stage) × (stage ≤ 6)) c.in-Err-check_kind.refusal
    (λ stage code h. (omega (arith, h), omega (arith, h))) c.in-Err-check_kind.ensures.stage

pub returns-in-Err-ring_for-clause-stages : goal.returns-in-Err-ring_for-clause-stages
returns-in-Err-ring_for-clause-stages g c =
    refused-map ℕ ℕ (λ stage code. stage ≡ 6) (λ stage code. (5 ≤ stage) × (stage ≤ 6)) c.in-Err-ring_for.refusal
    (λ stage code h. (omega (arith, h), omega (arith, h))) c.in-Err-ring_for.ensures.stage

pub returns-in-Err-check_kind-clause-refused : goal.returns-in-Err-check_kind-clause-refused
returns-in-Err-check_kind-clause-refused g c = λ b props judged.
    let target = c.args.planned.now.target in
    let asked = sym (c.slot_asked.ensures b props judged.given) in
    let has = ap (bus_slot_for b target.bus.birth) asked ∙ c.in-Ok.ensures.slot b target.kind judged.recounted judged.bus in
    kind-refused b target.bus.birth target.kind props c.in-Ok.slot has ℕ ℕ c.in-Err-check_kind.refusal
    (c.in-Err-check_kind.ensures.refused b props c.args.rings.now judged)

pub returns-in-Ok-ring_for-clause-resources : goal.returns-in-Ok-ring_for-clause-resources
returns-in-Ok-ring_for-clause-resources g c = λ b props judged.
    let target = c.args.planned.now.target in
    let asked = sym (c.slot_asked.ensures b props judged.given) in
    let has = ap (bus_slot_for b target.bus.birth) asked ∙ c.in-Ok.ensures.slot b target.kind judged.recounted judged.bus in
    record {
      resources = resources-are b target.bus.birth target.kind props c.in-Ok.slot c.in-Ok-ring_for.ring c.in-Ok-check_kind.memory has
          (c.in-Ok-check_kind.ensures.range b props c.args.rings.now judged);
      ring = c.in-Ok-ring_for.ensures.ring b props judged.given;
      backend = c.in-Ok-check_kind.ensures.backend b props judged.given;
    }
