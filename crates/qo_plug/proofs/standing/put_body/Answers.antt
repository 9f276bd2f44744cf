-- The body is written first, and then the id.
use Rattle.std.proofs.Common.{◌++◌, option_map}
use Rattle.qo_plug.specs.declared.claiming.IdClaim.{IdClaim}
use Rattle.qo_plug.specs.Placement.{range_in}
use Rattle.qo_plug.specs.DeviceClaims.{id_claims_out}
use Rattle.qo_plug.proofs.RangeLemmas.{body-kept, body-shown, ranged-alike, ranged-book, ranged-unnamed}
use Rattle.qo_plug.proofs.PlacementSteps.{alike-then}
use Rattle.qo_plug.proofs.PlacementLemmas.{named-alike}
use Rattle.qo_plug.proofs.standing.put_body.Goals as goal

pub keep_id_claim-requires-clause-live : goal.keep_id_claim-requires-clause-live
keep_id_claim-requires-clause-live g c =
    (ranged-alike c.args.heap.now c.set_range.new.heap c.args.device.birth (range_in c.args.memory) c.set_range.ensures).names c.args.device c.requires.live

pub keep_id_claim-requires-clause-unnamed : goal.keep_id_claim-requires-clause-unnamed
keep_id_claim-requires-clause-unnamed g c =
    ranged-unnamed c.args.heap.now c.set_range.new.heap c.args.device.birth (range_in c.args.memory) c.set_range.ensures c.requires.unnamed

pub returns-clause-shown : goal.returns-clause-shown
returns-clause-shown g c = λ b s.
    body-shown b c.args.heap.now c.set_range.new.heap c.keep_id_claim.new.heap c.args.device
    (option_map (λ (l : IdClaim). l.id) c.args.id_claim) c.args.memory c.reveal_invariant.ensures c.requires.live c.requires.dimm
    c.set_range.ensures c.keep_id_claim.ensures.now s

pub returns-clause-alike : goal.returns-clause-alike
returns-clause-alike g c =
    alike-then c.args.heap.now c.set_range.new.heap c.keep_id_claim.new.heap
    (ranged-alike c.args.heap.now c.set_range.new.heap c.args.device.birth (range_in c.args.memory) c.set_range.ensures)
    (named-alike c.set_range.new.heap c.keep_id_claim.new.heap c.args.device.birth (option_map (λ (l : IdClaim). l.id) c.args.id_claim)
    c.keep_id_claim.ensures.now)

pub returns-clause-kept : goal.returns-clause-kept
returns-clause-kept g c =
    body-kept c.args.heap.now c.set_range.new.heap c.keep_id_claim.new.heap c.args.device.birth (option_map (λ (l : IdClaim). l.id) c.args.id_claim)
    (range_in c.args.memory) c.set_range.ensures c.keep_id_claim.ensures.now

pub returns-clause-book : goal.returns-clause-book
returns-clause-book g c = λ out h.
    c.keep_id_claim.ensures.book out (ranged-book (id_claims_out c.args.id_claim ++ out) c.args.heap.now c.set_range.new.heap c.args.device.birth
    (range_in c.args.memory) c.set_range.ensures h)
