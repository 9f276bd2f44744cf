-- Nothing was read.
use Rattle.qo_record.proofs.ReplayLemmas.{still_went}
use Rattle.qo_record.proofs.replay_hub.ReplayHubHub.send.Goals as goal

pub returns-clause-later : goal.returns-clause-later
returns-clause-later g c =
    let s = c.self.inside in
    still_went g.S.Source.left (record { source = s.source; sink = s.sink; read = s.reader }) c.args.self.now c.self.view_is
