-- More bytes are held, and the header is passed.
use Rattle.qo_record.proofs.ReplayLemmas.{filled_at, filled_then}
use Rattle.qo_record.specs.Replays.{Progress, went_nowhere}
use Rattle.qo_record.proofs.readers.Reader.head.Goals as goal

pub returns-in-Some-clause-went : goal.returns-in-Some-clause-went
returns-in-Some-clause-went g c = went_nowhere c.args.self.now (g.S.Source.left c.args.source.now)

pub returns-in_err-version-clause-went : goal.returns-in_err-version-clause-went
returns-in_err-version-clause-went g c =
    let s = c.self.inside in
    let q : Progress = record { buffered = s.window; version = s.version; place = s.place; names = s.names } in
    filled_at q c.args.self.now _ _ _ c.self.view_is c.find_header.ensures.ahead

pub returns-in_default-2-clause-went : goal.returns-in_default-2-clause-went
returns-in_default-2-clause-went g c =
    let s = c.self.inside in
    let q : Progress = record { buffered = s.window; version = s.version; place = s.place; names = s.names } in
    filled_at q c.args.self.now _ _ _ c.self.view_is c.find_header.ensures.ahead

pub returns-clause-went : goal.returns-clause-went
returns-clause-went g c =
    let s = c.self.inside in
    let q : Progress = record { buffered = s.window; version = s.version; place = s.place; names = s.names } in
    filled_then q c.args.self.now _ c.find_header.new.window _ _ c.self.view_is c.find_header.ensures.ahead (c.pass_header.ensures.went
    (g.S.Source.left c.find_header.new.source))
