-- What stands at a place is there.
use Rattle.std.proofs.Common.{sym}
use Rattle.qo_heap.proofs.PlacesLemmas.{key-live}
use Rattle.qo_paths.proofs.resolving.end_at.Goals as goal

pub walk_parts-requires : goal.walk_parts-requires
walk_parts-requires g c =
    record {
      live = key-live c.args.heap.now.born c.args.heap.now.rows c.args.place c.in_ok-from.from c.reveal_invariant.ensures.rising
          (sym c.in_ok-from.ensures);
    }
