use Rattle.qo_model.proofs.ChangeScopeLemmas.{stays_lem}
use Rattle.qo_sound.proofs.law_stays.Goals as goal

pub returns : goal.returns
returns c = stays_lem
