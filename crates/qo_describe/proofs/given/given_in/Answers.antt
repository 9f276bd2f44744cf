-- A value, or what a link has.
use Rattle.qo_describe.proofs.ValueLemmas.{given-link}
use Rattle.qo_describe.proofs.WalkLemmas.{ok-as}
use Rattle.qo_describe.proofs.given.given_in.Goals as goal

pub returns-in-Plain : goal.returns-in-Plain
returns-in-Plain g c = λ b s. rw c.in-Plain.is c.copy_of.ensures

pub returns-in-Link : goal.returns-in-Link
returns-in-Link g c = λ b s.
    ok-as (λ given. given) c.target_given.result _ _ (given-link b c.args.what.now _ _ _ c.in-Link.is) (c.target_given.ensures b s)
