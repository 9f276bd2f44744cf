-- The first entry is passed, or none stands there.
use Rattle.std.proofs.Common.{◌∙◌, sym, arith}
use Rattle.qo_record.proofs.ReplayLemmas.{bad_at, end_at, filled_at, filled_then}
use Rattle.qo_record.specs.Replays.{Progress}
use Rattle.qo_record.proofs.readers.Reader.next_entry.Goals as goal

pub returns-then-buffered_count-eq0-clause-given : goal.returns-then-buffered_count-eq0-clause-given
returns-then-buffered_count-eq0-clause-given g c =
    let s = c.self.inside in
    let q : Progress = record { buffered = s.window; version = s.version; place = s.place; names = s.names } in
    let found = (rw c.in-Ok-None.field-0-is at c.in-Ok-None.ensures).found in
    let none = sym c.buffered_count.ensures.count ∙ c.if-buffered_count-eq0.true in
    rw c.the_end.ensures (end_at c.args.version q c.args.self.now _ _ _ c.self.view_is c.requires c.find_entry.ensures.ahead none found)

pub returns-else-buffered_count-eq0-clause-given : goal.returns-else-buffered_count-eq0-clause-given
returns-else-buffered_count-eq0-clause-given g c =
    let s = c.self.inside in
    let q : Progress = record { buffered = s.window; version = s.version; place = s.place; names = s.names } in
    let found = (rw c.in-Ok-None.field-0-is at c.in-Ok-None.ensures).found in
    bad_at c.args.version q c.args.self.now _ _ _ c.self.view_is c.requires c.find_entry.ensures.ahead (omega (
      arith,
      c.buffered_count.ensures.count,
      c.if-buffered_count-eq0.false,
    )) c.self.invariant found

pub returns-in-Ok-Some-clause-went : goal.returns-in-Ok-Some-clause-went
returns-in-Ok-Some-clause-went g c =
    let s = c.self.inside in
    let q : Progress = record { buffered = s.window; version = s.version; place = s.place; names = s.names } in
    filled_then q c.args.self.now _ c.find_entry.new.window _ _ c.self.view_is c.find_entry.ensures.ahead (c.pass_entry.ensures.went
    (g.S.Source.left c.find_entry.new.source))

pub returns-else-buffered_count-eq0-clause-went : goal.returns-else-buffered_count-eq0-clause-went
returns-else-buffered_count-eq0-clause-went g c =
    let s = c.self.inside in
    let q : Progress = record { buffered = s.window; version = s.version; place = s.place; names = s.names } in
    filled_at q c.args.self.now _ _ _ c.self.view_is c.find_entry.ensures.ahead

pub returns-in-Err-clause-went : goal.returns-in-Err-clause-went
returns-in-Err-clause-went g c =
    let s = c.self.inside in
    let q : Progress = record { buffered = s.window; version = s.version; place = s.place; names = s.names } in
    filled_at q c.args.self.now _ _ _ c.self.view_is c.find_entry.ensures.ahead
