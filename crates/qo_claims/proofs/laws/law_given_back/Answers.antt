-- The law is the lemma.
use Rattle.qo_claims.proofs.ReturnedClaims.{given-back}
use Rattle.qo_claims.proofs.laws.law_given_back.Goals as goal

pub returns : goal.returns
returns c = given-back
