-- Nothing was read.
use Rattle.qo_record.specs.Replays.{went_nowhere}
use Rattle.qo_record.proofs.replay_hub.ReplayHubHub.begin.Goals as goal

pub returns-clause-later : goal.returns-clause-later
returns-clause-later g c = went_nowhere c.args.self.now.read (g.S.Source.left c.args.self.now.source)
