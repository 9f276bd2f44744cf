-- The header, and then an entry.
use Rattle.qo_record.specs.Replays.{went_then}
use Rattle.qo_record.proofs.readers.Reader.next.Goals as goal

pub returns-in-Ok-Some-clause-went : goal.returns-in-Ok-Some-clause-went
returns-in-Ok-Some-clause-went g c =
    went_then c.args.self.now c.head.new.self c.next_entry.new.self _ _ _ c.head.ensures.went c.next_entry.ensures.went
