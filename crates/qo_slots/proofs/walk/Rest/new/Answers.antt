use Rattle.qo_slots.proofs.TableLemmas.{map-entries_from}
use Rattle.qo_slots.proofs.walk.Rest.new.Goals as goal

pub returns : goal.returns
returns g c = rw c.into_iter.ensures.into_iter_gives (map-entries_from 0 c.args.table.slots)
