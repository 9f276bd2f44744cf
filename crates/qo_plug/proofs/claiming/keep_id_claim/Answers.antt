-- The id that is there has the claim on it.
use Rattle.std.proofs.Common.{◌≡◌, ◌++◌, Option, IfSome, option_map, sym, subst}
use Rattle.qo_claims.specs.declared.claims.Claimed.TheVariants as on
use Rattle.qo_heap.specs.Book.{IsBook}
use Rattle.qo_heap.specs.Objects.{with_edit}
use Rattle.qo_plug.specs.declared.claiming.IdClaim.{IdClaim}
use Rattle.qo_plug.specs.Placement.{named}
use Rattle.qo_plug.specs.DeviceClaims.{id_claims_out}
use Rattle.qo_plug.proofs.ClaimOutLemmas.{named-book, named-none}
use Rattle.qo_plug.proofs.claiming.keep_id_claim.Goals as goal

pub returns-in-Some-clause-book : goal.returns-in-Some-clause-book
returns-in-Some-clause-book g c = λ out h.
    named-book c.args.heap.now c.reveal_invariant.ensures c.args.device c.requires.live c.requires.unnamed c.in-Some.field-0.id c.in-Some.field-0.claim
    (subst (λ (l : Option IdClaim). IfSome l (λ x. x.claim ≡ on.Device x.id)) c.in-Some.is c.requires.on)
    c.name_device.new.self c.name_device.ensures.now out
    (subst (λ (l : Option IdClaim). IsBook (id_claims_out l ++ out) c.args.heap.now) c.in-Some.is h)

pub returns-in-None-clause-now : goal.returns-in-None-clause-now
returns-in-None-clause-now g c =
    subst (λ (l : Option IdClaim). c.args.heap.now ≡ with_edit c.args.device.birth (named (option_map (λ (x : IdClaim). x.id) l)) c.args.heap.now)
    (sym c.in-None.is)
    (named-none c.args.heap.now c.reveal_invariant.ensures c.args.device c.requires.live c.requires.unnamed)
