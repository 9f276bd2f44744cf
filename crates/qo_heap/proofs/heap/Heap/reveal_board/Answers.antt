use Rattle.std.proofs.Common.{refl, map, [], false, arith}
use Rattle.qo_heap.specs.Board.{pins_in, record_of}
use Rattle.qo_heap.specs.Keeping.{plain}
use Rattle.qo_heap.specs.Order.{rows_in}
use Rattle.qo_heap.proofs.Logs.{some_lem}
use Rattle.qo_heap.proofs.heap.Heap.reveal_board.Goals as goal

pub returns : goal.returns
returns c =
    let notes = some_lem c.self.inside.total c.self.inside.notes.items c.self.invariant.1.1.1.1.1 (omega arith) in
    rw (← c.self.view_is) (
      record {
        records = map record_of (plain (rows_in c.self.inside.table c.self.inside.order.items));
        born = c.self.inside.table.born;
        anonymous = 0;
        now = c.self.inside.time;
        running = false;
        holds = [];
        pending = [];
        notices = [];
        rings = [];
        pins = pins_in (plain (rows_in c.self.inside.table c.self.inside.order.items));
        notes = notes.0;
        events = c.self.inside.events.list;
      },
      record { records = refl; born = refl; pins = refl; notes = notes.1; events = refl; now = refl },
    )
