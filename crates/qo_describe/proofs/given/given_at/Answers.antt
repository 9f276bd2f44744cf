-- What the property has, or nothing.
use Rattle.std.proofs.Common.{refl}
use Rattle.qo_model.specs.RowNames.{property_name}
use Rattle.qo_describe.proofs.GivenLemmas.{given-none, given-some}
use Rattle.qo_describe.proofs.WalkLemmas.{ok-as}
use Rattle.qo_describe.proofs.given.given_at.Goals as goal

pub returns-in-Some : goal.returns-in-Some
returns-in-Some g c = λ b s.
    ok-as (λ given. given) c.given_in.result _ _
    (given-some b c.args.heap.now s c.args.o.birth (property_name c.args.name) (c.in-Some.slot.name.now, c.in-Some.slot.what.now) _ c.in-Some.ensures.slot refl)
    (c.given_in.ensures b s)

pub returns-in-None : goal.returns-in-None
returns-in-None g c = λ b s. given-none b c.args.heap.now s c.args.o.birth (property_name c.args.name) c.in-None.ensures.slot
