use Rattle.qo_model.proofs.ReleaseInductionLemmas.{release_keeps}
use Rattle.qo_model.proofs.laws.law_release_keeps.Goals as goal

pub returns : goal.returns
returns g c = release_keeps g.K.Kept.kept c.requires
